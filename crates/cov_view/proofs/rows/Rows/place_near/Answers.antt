use Rattle.std.proofs.Common.{sym, ap, ◌∙◌}
use Rattle.std.specs.Option.{option_copied}
use Rattle.cov_view.proofs.Keys.{first_place}
use Rattle.cov_view.proofs.rows.Rows.place_near.Goals as goal

pub returns-in-Some : goal.returns-in-Some
returns-in-Some c =
    sym (first_place c.args.node.now c.args.self.now c.args.index c.in-Some.row.now c.row.ensures.once (sym c.row.ensures.row ∙ ap option_copied c.in-Some.is)
    (sym c.same_node.ensures ∙ c.if-same_node.true))
