use Rattle.std.proofs.Common.{◌≡◌, ◌∙◌, ◌<◌, suc, ◌+◌, ◌-◌, ◌++◌, [], ◌∷◌, ap, refl, sym, take, length, get_or, arith}
use Rattle.std.specs.Prelude.{slice_get}
use Rattle.std.proofs.Math.Seq.{take-suc}
use Rattle.cov_rules.specs.Installing.{expressions}
use Rattle.cov_lines.proofs.Taking.{take-next}
use Rattle.cov_lines.proofs.nearest_choices.are_constraints.Goals as goal

pub loop-rule-preserved : goal.loop-rule-preserved
loop-rule-preserved c =
    let es = expressions c.args.rules.now.standing.constraints in
    let exprs = c.args.exprs.now in
    let i = c.loop-rule.rule in
    let own = c.index-exprs-rule.result in
    let before : i + 1 - 1 ≡ i = omega arith in
    let next : i + 1 ≡ suc i = omega arith in
    let less = c.loop-rule-test.true in
    let many = c.if-exprs-count.false in
    let there : i < length exprs = omega (arith, less, many) in
    record {
      within = omega (arith, less);
      first = ap (λ n. take n exprs) next
          ∙ take-suc exprs i own there
          ∙ ap (λ x. take i exprs ++ x ∷ []) (sym (c.index-exprs-rule.is ∙ ap (λ n. get_or exprs n own) before))
          ∙ ap (λ xs. xs ++ own ∷ []) c.loop-rule.invariant.first
          ∙ ap (λ x. take i es ++ x ∷ []) (c.if-not-is_same.ensures.same refl)
          ∙ sym (take-next es i c.constraint.result.now (ap (slice_get es) (sym before) ∙ c.constraint.ensures))
          ∙ sym (ap (λ n. take n es) next);
    }
