use Rattle.std.proofs.Common.{◌+◌, ◌<◌, ◌≤◌, ◌^◌, Bool, List, sym, subst, arith}
use Rattle.std.specs.List.{AllByRecursion}
use Rattle.cov_base.specs.declared.limits.TheConstants.{CHOICE_WIDTH, LIMITS}
use Rattle.cov_base.proofs.CallerLemmas.{all-map}
use Rattle.cov_edit.specs.History.{option_count}
use Rattle.cov_edit.specs.Numbering.{line_count, numbers_of}
use Rattle.cov_edit.specs.Replay.{replay}
use Rattle.cov_edit.proofs.CallerLemmas.{limits-most}
use Rattle.cov_expr.specs.Formula.{reach}
use Rattle.cov_cond_text.specs.Conditional.{conjunction}
use Rattle.cov_cond_text.specs.declared.run.Run.{Run}
use Rattle.cov_cond.specs.Committing.{made_at, text_count}
use Rattle.cov_cond.specs.Fitting.{IsImportFaultOf}
use Rattle.cov_cond.proofs.Fitted.{room_fits}
use Rattle.cov_cond.proofs.Placing.{import_refused}
use Rattle.cov_cond.proofs.RunFacts.{runs_below}
use Rattle.cov_cond.proofs.Spelt.{legal-names}
use Rattle.cov_cond.proofs.importing.import_from.Goals as goal

pub all_commits-requires-clause-few : goal.all_commits-requires-clause-few
all_commits-requires-clause-few c =
    subst (λ (rs : List Run). text_count rs < LIMITS.edits) (sym c.runs.ensures.runs) (room_fits c.args.engine.now.history c.args.text.now c.requires.room).few

pub all_commits-requires-clause-lines : goal.all_commits-requires-clause-lines
all_commits-requires-clause-lines c =
    let history = c.args.engine.now.history in
    let few = (room_fits history c.args.text.now c.requires.room).lines in
    let most = (limits-most history).lines in
    subst (λ (rs : List Run). line_count history + text_count rs < 2 ^ 32) (sym c.runs.ensures.runs) (omega (arith, few, most))

pub all_commits-requires-clause-declared : goal.all_commits-requires-clause-declared
all_commits-requires-clause-declared c =
    let history = c.args.engine.now.history in
    let most = (legal-names history c.history_is_legal.ensures).most in
    subst (AllByRecursion (λ (r : Run). reach (conjunction r.conditions) ≤ CHOICE_WIDTH)) (sym c.runs.ensures.runs)
    (all-map (λ (r : Run). reach (conjunction r.conditions) ≤ option_count history) (λ r. reach (conjunction r.conditions) ≤ CHOICE_WIDTH) (λ r low. omega (arith, low, most)) _
    (runs_below (option_count history) c.args.text.now c.requires.declared))

pub returns-in-Err-clause-fault : goal.returns-in-Err-clause-fault
returns-in-Err-clause-fault c =
    let history = c.args.engine.now.history in
    import_refused history c.args.path.now c.args.text.now c.in-Err.fault
    (subst (λ (choice : List Bool). IsImportFaultOf (made_at (numbers_of history) (replay choice history) c.args.path.now) c.in-Err.fault) c.requires.choice c.in-Err.ensures.fault)
