use Rattle.std.proofs.Common.{ℕ, List, sym, subst}
use Rattle.cov_base.specs.declared.number.Kind.TheVariants as kinds
use Rattle.cov_edit.specs.declared.edit.Edit.TheVariants as edits
use Rattle.cov_view.specs.Refusals.{refusal}
use Rattle.cov_cond.specs.Committing.{IsMakingFault}
use Rattle.cov_cond.proofs.Placing.{making_faults}
use Rattle.cov_cond.proofs.importing.making.made_below.Goals as goal

pub returns-in-Err-apply-clause-fault : goal.returns-in-Err-apply-clause-fault
returns-in-Err-apply-clause-fault c ns table v shows =
    subst (λ (name : List ℕ). IsMakingFault (refusal ns v (edits.New kinds.File c.args.parent name)) c.fault_of.result) c.in-Ok.ensures
    (subst (IsMakingFault (refusal ns v (edits.New kinds.File c.args.parent c.in-Ok.name))) (sym c.fault_of.ensures)
    (making_faults (refusal ns v (edits.New kinds.File c.args.parent c.in-Ok.name)) c.in-Err-apply.fault (c.in-Err-apply.ensures.refused ns table v shows)))
