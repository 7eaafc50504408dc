use Rattle.std.proofs.Common.{ap, ◌∙◌, map}
use Rattle.cov_view.specs.Tree.{with_tree_row}
use Rattle.cov_view.specs.SeenTree.{found_row}
use Rattle.cov_view.proofs.Feeding.{put_more}
use Rattle.cov_view.proofs.tree.Found.put.Goals as goal

pub returns : goal.returns
returns c =
    ap (map found_row) c.in_ok-insert.ensures.entries
    ∙ put_more c.self.inside.rows.entries c.args.path (record { kind = c.args.kind; bytes = c.args.bytes })
    ∙ ap (with_tree_row (record { path = c.args.path.items; kind = c.args.kind; bytes = c.args.bytes })) c.self.view_is
