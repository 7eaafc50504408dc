use Rattle.std.proofs.Common.{ap, sym, ◌∙◌, arith}
use Rattle.cov_base.specs.declared.limits.TheConstants.{LIMITS}
use Rattle.cov_history.specs.Verdict.{as_outside}
use Rattle.cov_engine.proofs.Siding.{runs-below, sides-outside, sides-reach}
use Rattle.cov_engine.proofs.refusing.side_refusal.Goals as goal

pub first_run_outside-requires-clause-reach : goal.first_run_outside-requires-clause-reach
first_run_outside-requires-clause-reach c =
    let same = sides-reach c.runs.result.now c.args.edits.now c.runs.ensures.sides c.runs.ensures.rise c.runs.ensures.below in
    let low = c.requires.reach in
    omega (arith, same, low)

pub first_run_outside-requires-clause-few : goal.first_run_outside-requires-clause-few
first_run_outside-requires-clause-few c = runs-below c.runs.result.now c.args.edits.now c.runs.ensures.sides c.runs.ensures.rise c.runs.ensures.below LIMITS.edits c.requires.few

pub returns-in-Some : goal.returns-in-Some
returns-in-Some c =
    ap as_outside (sym c.in-Some.is ∙ c.first_run_outside.ensures ∙ sides-outside c.runs.result.now c.args.edits.now c.runs.ensures.sides c.runs.ensures.rise c.runs.ensures.below c.args.choice)

pub returns-in-None : goal.returns-in-None
returns-in-None c =
    ap as_outside (sym c.in-None.is ∙ c.first_run_outside.ensures ∙ sides-outside c.runs.result.now c.args.edits.now c.runs.ensures.sides c.runs.ensures.rise c.runs.ensures.below c.args.choice)
