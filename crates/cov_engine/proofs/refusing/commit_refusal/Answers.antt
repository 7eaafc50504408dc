use Rattle.std.proofs.Common.{◌≤◌, ◌++◌, length, take, sym, ap, subst, ◌∙◌, arith}
use Rattle.cov_base.specs.declared.limits.Limits.{Limits}
use Rattle.cov_base.specs.declared.limits.TheConstants.{LIMITS}
use Rattle.cov_edit.specs.Sides.{unsided}
use Rattle.cov_history.specs.Verdict.{size_refusals}
use Rattle.cov_engine.specs.Refusing.{base_refusals, choice_refusals, edit_refusals}
use Rattle.cov_engine.specs.Sizes.{sizes_of, sizes_refusal}
use Rattle.cov_engine.proofs.Refused.{first-others, first-some, sized-as}
use Rattle.cov_engine.proofs.refusing.commit_refusal.Goals as goal

pub refusal-requires-clause-sizes : goal.refusal-requires-clause-sizes
refusal-requires-clause-sizes c = λ few.
    ap (λ s. s.sizes)
    (c.requires.summary (subst (λ es. length es ≤ LIMITS.edits) c.as_slice.ensures.items (subst (λ (l : Limits). length c.as_slice.result.now ≤ l.edits) c.limits_now.ensures few)))
    ∙ ap sizes_of (sym c.as_slice.ensures.items)

pub refusal-requires-clause-within : goal.refusal-requires-clause-within
refusal-requires-clause-within c = subst (λ (l : Limits). l.commit_bytes ≤ l.bytes) (sym c.limits_now.ensures) (omega arith)

pub returns-in-Some-choice_refusal : goal.returns-in-Some-choice_refusal
returns-in-Some-choice_refusal c =
    let history = c.args.state.now.commands.commands in
    let base = base_refusals history c.args.base c.args.choice c.args.ambition.now c.args.edits.now in
    let sizes = size_refusals history (unsided c.args.edits.now) in
    let choice = choice_refusals (take c.args.base history) c.args.choice c.args.ambition.now c.args.edits.now in
    let edits = edit_refusals (take c.args.base history) c.args.choice c.args.edits.now in
    sym
    (first-others base (sizes ++ (choice ++ edits)) (sym c.base_refusal.ensures ∙ c.in-None.is)
    ∙ first-others sizes (choice ++ edits)
    (sym (sized-as history c.limits_now.result c.args.state.now.counts (unsided c.args.edits.now) c.limits_now.ensures c.requires.kept.0.0.counted)
    ∙ ap (sizes_refusal c.limits_now.result c.args.state.now.counts) (sym c.as_slice.ensures.items)
    ∙ sym c.refusal.ensures
    ∙ c.in-None-refusal.is)
    ∙ first-some choice edits c.in-Some-choice_refusal.refusal (sym c.choice_refusal.ensures ∙ c.in-Some-choice_refusal.is))
