use Rattle.std.proofs.Common.{◌≡◌, ℕ, ◌≤◌, ◌++◌, Bool, false, nat_eq, length, append-nil, sym, ap, subst, ◌∙◌, arith}
use Rattle.std.specs.List.{AllByRecursion}
use Rattle.std.proofs.lemmas.Bool.Decides.{nat_tests}
use Rattle.cov_expr.specs.Formula.{Formula, reach}
use Rattle.cov_expr.specs.Validity.{is_valid}
use Rattle.cov_cond_text.proofs.Projecting.{run_conditions, run_hidden}
use Rattle.cov_cond_text.proofs.cond_text.append_run.Goals as goal

some : (b : Bool) (n : ℕ) → b ≡ nat_eq n 0 → b ≡ false → n ≡ 0 → ⊥
some b n e f g = grind (arith, nat_tests, e, f, g)

pub all_hold-requires : goal.all_hold-requires
all_hold-requires c =
    subst (AllByRecursion (λ (e : Formula ℕ). reach e ≤ length c.args.choice)) (sym c.as_slice.ensures)
    (run_conditions (length c.args.choice) c.args.run.now c.requires (some c.is_empty.result (length c.args.run.now.texts) c.is_empty.ensures c.if-is_empty.false))

pub returns : goal.returns
returns c =
    let none : is_valid c.args.run.now.conditions c.args.choice ≡ false = ap (λ es. is_valid es c.args.choice) (sym c.as_slice.ensures) ∙ sym c.all_hold.ensures ∙ c.if-all_hold.false in
    sym (ap (λ ts. c.args.texts.now ++ ts) (run_hidden c.args.run.now c.args.choice none) ∙ append-nil c.args.texts.now)
