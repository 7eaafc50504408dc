use Rattle.std.proofs.Common.{◌≡◌, ◌<◌, ◌+◌, false, [], ◌∷◌, ◌++◌, ◌||◌, ℕ, List, nat_eq, refl, ap, ◌∙◌, arith}
use Rattle.std.proofs.lemmas.Bool.{or_from, or_parts}
use Rattle.std.proofs.lemmas.Bool.Decides.{nat_tests}
use Rattle.std.proofs.lemmas.List.Folds.{list_any-append}
use Rattle.cov_base.specs.Rows.{has_node}
use Rattle.cov_tree_bench.proofs.renaming.make_all.Goals as goal

fresh_first : (q : ℕ) (ns : List ℕ) → ns ≡ [] → 0 < q → has_node q (0 ∷ ns) ≡ false
fresh_first q ns none some = ap (λ ms. has_node q (0 ∷ ms)) none ∙ or_from (nat_eq 0 q) false (grind (arith, nat_tests, some)) refl

fresh_more : (q n : ℕ) (old new : List ℕ) → new ≡ old ++ n ∷ [] → n < q → has_node q (0 ∷ old) ≡ false → has_node q (0 ∷ new) ≡ false
fresh_more q n old new made less before =
    let apart = or_parts (nat_eq 0 q) (has_node q old) before in
    or_from (nat_eq 0 q) (has_node q new) apart.0
    (ap (has_node q) made ∙ list_any-append (λ m. nat_eq m q) old (n ∷ [])
    ∙ or_from (has_node q old) (nat_eq n q || false) apart.1 (or_from (nat_eq n q) false (grind (arith, nat_tests, less)) refl))

pub files-init : goal.files-init
files-init c = record {
  fresh = λ q some. fresh_first q _ c.requires.none some;
  within = c.requires.within;
  once = c.requires.once;
  inner = c.requires.inner;
}

pub make-requires-clause-fresh : goal.make-requires-clause-fresh
make-requires-clause-fresh c = c.files.invariant.fresh (c.from.result + 1) (omega (arith, c.from.ensures))

pub files-preserved : goal.files-preserved
files-preserved c = record {
  fresh = λ q more. fresh_more q (c.from.result + 1) _ _ c.in_ok-make.ensures.nodes (omega (arith, c.from.ensures, more)) (c.files.invariant.fresh q (omega (arith, more)));
  within = c.make.ensures.within;
  once = c.make.ensures.once;
  inner = c.make.ensures.inner;
}
