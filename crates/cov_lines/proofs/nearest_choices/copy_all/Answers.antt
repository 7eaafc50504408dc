use Rattle.std.proofs.Common.{◌≡◌, ◌∙◌, suc, ◌+◌, ◌-◌, ◌++◌, [], ◌∷◌, ap, sym, take, arith}
use Rattle.std.specs.Prelude.{slice_get}
use Rattle.cov_rules.specs.Installing.{expressions}
use Rattle.cov_lines.proofs.Taking.{take-next}
use Rattle.cov_lines.proofs.nearest_choices.copy_all.Goals as goal

pub loop-rule-preserved : goal.loop-rule-preserved
loop-rule-preserved c =
    let es = expressions c.args.rules.now.standing.constraints in
    let i = c.loop-rule.rule in
    let before : i + 1 - 1 ≡ i = omega arith in
    let next : i + 1 ≡ suc i = omega arith in
    let less = c.loop-rule-test.true in
    record {
      within = omega (arith, less);
      first = c.in_ok-push.ensures.ok
          ∙ ap (λ xs. xs ++ c.in_ok-copy.field-0 ∷ []) c.loop-rule.invariant.first
          ∙ ap (λ x. take i es ++ x ∷ []) c.in_ok-copy.ensures
          ∙ sym (take-next es i c.constraint.result.now (ap (slice_get es) (sym before) ∙ c.constraint.ensures))
          ∙ sym (ap (λ n. take n es) next);
    }
