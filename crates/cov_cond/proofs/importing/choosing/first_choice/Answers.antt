use Rattle.std.proofs.Common.{sym, ap, ◌∙◌}
use Rattle.cov_engine.specs.Meeting.{least_valid}
use Rattle.cov_cond.proofs.RunFacts.{some_choice}
use Rattle.cov_cond.proofs.importing.choosing.first_choice.Goals as goal

pub unreachable-requires : goal.unreachable-requires
unreachable-requires c =
    let history = c.args.engine.now.history in
    some_choice history (c.legal_leaves_variant.ensures history c.history_is_legal.ensures) (ap (least_valid history) (sym c.everywhere.ensures) ∙ sym c.in_ok-choice.ensures.first ∙ c.in-None.is)
