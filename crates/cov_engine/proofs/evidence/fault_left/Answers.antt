use Rattle.std.proofs.Common.{option_map, sym, ap, ◌∙◌}
use Rattle.std.proofs.lemmas.Result.{IfOk-weaker}
use Rattle.cov_base.specs.Faults.{fault_of}
use Rattle.cov_history.specs.BadChoices.{as_unsound, fault_refusal}
use Rattle.cov_tree.proofs.CallerLemmas.{once_stays, rows_stay}
use Rattle.cov_tree.specs.Dated.{rows_with}
use Rattle.cov_engine.proofs.evidence.fault_left.Goals as goal

pub refusal_on-requires : goal.refusal_on-requires
refusal_on-requires c = record {
  once = once_stays.planned c.args.table.now c.first_faulty.new.table c.args.plan.now c.args.entries.now c.first_faulty.ensures.extends c.requires.rows_within c.requires.once;
}

pub returns-in-Some-clause-found : goal.returns-in-Some-clause-found
returns-in-Some-clause-found c =
    let plan = c.args.plan.now in
    let entries = c.args.entries.now in
    IfOk-weaker c.refusal_on.result _ _
    (λ found h.
    h
    ∙ ap (λ rows. option_map (fault_refusal c.in-Some.choice) (fault_of rows)) (rows_stay.planned c.args.table.now c.first_faulty.new.table plan entries c.first_faulty.ensures.extends c.requires.rows_within c.in-Some.choice)
    ∙ sym (ap (as_unsound (λ d. fault_of (rows_with c.args.table.now d plan entries))) (sym c.in_ok-choice.ensures.first ∙ c.in-Some.is)))
    c.refusal_on.ensures
