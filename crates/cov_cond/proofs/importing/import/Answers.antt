use Rattle.std.proofs.Common.{sym, ap, subst, ◌∙◌}
use Rattle.std.proofs.lemmas.Result.{IfErr-weaker, IfOk-weaker}
use Rattle.cov_dd.proofs.CallerLemmas.{extends_trans}
use Rattle.cov_cond.specs.Fitting.{imported_in, IsImportFaultOf}
use Rattle.cov_cond.proofs.Fitted.{imported_where}
use Rattle.cov_cond.proofs.importing.import.Goals as goal

pub returns-in-Ok-clause-extends : goal.returns-in-Ok-clause-extends
returns-in-Ok-clause-extends c =
    extends_trans c.args.engine.now.table c.choices_with_room.new.engine.table c.import_on.new.engine.table c.choices_with_room.ensures.extends c.import_on.ensures.extends

pub returns-in-Ok-clause-commits : goal.returns-in-Ok-clause-commits
returns-in-Ok-clause-commits c =
    let path = c.args.path.now in
    let text = c.args.text.now in
    IfOk-weaker c.import_on.result _ _
    (λ commits is. imported_where c.args.engine.now.history path text c.in-Ok.ensures.room ∙ ap (λ h. imported_in h path text) (sym c.choices_with_room.ensures.history) ∙ is)
    c.import_on.ensures.commits

pub returns-in-Ok-clause-fault : goal.returns-in-Ok-clause-fault
returns-in-Ok-clause-fault c =
    let path = c.args.path.now in
    let text = c.args.text.now in
    IfErr-weaker c.import_on.result _ _
    (λ fault is.
    subst (λ r. IsImportFaultOf r fault) (ap (λ h. imported_in h path text) c.choices_with_room.ensures.history ∙ sym (imported_where c.args.engine.now.history path text c.in-Ok.ensures.room)) is)
    c.import_on.ensures.fault
