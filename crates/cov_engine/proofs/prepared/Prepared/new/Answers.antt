use Rattle.std.proofs.Common.{◌≡◌, true, nat_le, ◌∙◌, arith}
use Rattle.std.proofs.lemmas.Bool.Decides.{nat_tests}
use Rattle.cov_base.specs.declared.limits.TheConstants.{CHOICE_WIDTH}
use Rattle.cov_edit.specs.Fits.{reach_of}
use Rattle.cov_engine.specs.States.{history_of}
use Rattle.cov_engine.proofs.Refused.{accepted-low}
use Rattle.cov_engine.proofs.prepared.Prepared.new.Goals as goal

pub invariant_of-result : goal.invariant_of-result
invariant_of-result c =
    let low = accepted-low (history_of c.args.state) c.args.command c.requires.accepted in
    let few = c.requires.ready.0.0.rules.below.few in
    let within : nat_le (reach_of c.args.command) CHOICE_WIDTH ≡ true = grind (arith, nat_tests, low, few) in
    (record { fits = c.bounds_are_kept.ensures ∙ within; accepted = c.requires.accepted; room = c.requires.room }, c.requires.ready)
