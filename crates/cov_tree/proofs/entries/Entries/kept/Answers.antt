use Rattle.std.proofs.Common.{◌≤◌, ◌∙◌, [], map, sym, ap, arith}
use Rattle.std.proofs.lemmas.Bool.Decides.{nat_tests}
use Rattle.std.proofs.lemmas.Option.{IfSome_then}
use Rattle.cov_tree.specs.Dated.{newest_entry, rows_at}
use Rattle.cov_tree.specs.Entries.{rows_in}
use Rattle.cov_tree.specs.Shown.{rows_by}
use Rattle.cov_tree.proofs.Carried.{now_at}
use Rattle.cov_tree.proofs.Shown.{on_values}
use Rattle.cov_tree.proofs.entries.Entries.kept.Goals as goal

pub returns : goal.returns
returns c =
    let later : c.self.inside.from ≤ c.args.at = grind (arith, nat_tests, c.lt.ensures, c.if-lt.false) in
    let newest = map newest_entry c.self.inside.entries.items in
    IfSome_then c.find.result c.find.ensures
    (λ tree is.
    sym (is (λ f. rows_by f newest) c.self.invariant.4) ∙ sym (on_values c.args.table.now c.args.choice newest)
    ∙ ap (rows_in c.args.table.now c.args.choice) (sym (now_at (record { from = c.self.inside.from; entries = c.self.inside.entries.items; room = 0; noted = [] }) c.args.at later))
    ∙ ap (rows_at c.args.table.now c.args.choice c.args.at) c.self.view_is)
