use Rattle.std.proofs.Common.{sym, ap, subst, ◌∙◌}
use Rattle.std.proofs.lemmas.Result.{IfErr-weaker, IfOk-weaker}
use Rattle.cov_cond.specs.Fitting.{imported_in, IsImportFaultOf}
use Rattle.cov_cond.proofs.importing.import_on.Goals as goal

pub returns-in-Ok-clause-commits : goal.returns-in-Ok-clause-commits
returns-in-Ok-clause-commits c =
    IfOk-weaker c.import_from.result _ _ (λ commits is. ap (λ h. imported_in h c.args.path.now c.args.text.now) (sym c.first_choice.ensures.history) ∙ is) c.import_from.ensures.commits

pub returns-in-Ok-clause-fault : goal.returns-in-Ok-clause-fault
returns-in-Ok-clause-fault c =
    IfErr-weaker c.import_from.result _ _
    (λ fault is. subst (λ h. IsImportFaultOf (imported_in h c.args.path.now c.args.text.now) fault) c.first_choice.ensures.history is)
    c.import_from.ensures.fault
