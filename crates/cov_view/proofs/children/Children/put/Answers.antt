use Rattle.std.proofs.Common.{sym, ◌∙◌}
use Rattle.std.specs.Map.{lookup}
use Rattle.indexmap.proofs.CallerLemmas.{insert_entry-new}
use Rattle.cov_base.proofs.CallerLemmas.{none-is}
use Rattle.cov_view.proofs.Directories.{same_child, asked_node}
use Rattle.cov_view.proofs.children.Children.put.Goals as goal

pub returns : goal.returns
returns c = λ kept.
    let map = c.args.self.now.nodes in
    let none = none-is (lookup (same_child c.args.key) map.entries) (sym c.contains_key.ensures ∙ c.if-contains_key.false) in (
      kept,
      sym (asked_node map.entries c.args.key.dir c.args.key.name.items) ∙ none,
      c.in-Ok.ensures.entries ∙ insert_entry-new same_child map c.args.key c.args.node.now none,
    )
