-- Names in place of numbers, and numbers in their place again.
use Rattle.std.proofs.Common.{◌≡◌, ℕ, zero, suc, ◌<◌, ◌≤◌, Bool, true, false, List, [], ◌∷◌, ◌||◌, length, get_or, refl, ap, sym, ◌∙◌, arith, cond, nat_lt}
use Rattle.std.specs.Prelude.{Some, None, Ok, unwrap_or}
use Rattle.std.specs.List.{list_all, IsDistinct}
use Rattle.std.specs.Str.{bytes_eq}
use Rattle.std.proofs.Math.Nat.{le-max_left, le-max_right}
use Rattle.std.proofs.lemmas.Bool.{lt-ltb}
use Rattle.std.proofs.lemmas.List.Sums.{position_or_len_is}
use Rattle.std.proofs.lemmas.Map.Keys.{apart_from_distinct}
use Rattle.std.proofs.lemmas.Slice.Eq.{bytes_eq-Decides}
use Rattle.cov_base.specs.Spelling.{is_option_name}
use Rattle.cov_expr.specs.Formula.{Formula, False, True, On, Not, And, Or, reach}
use Rattle.cov_expr.specs.Naming.{bound_expression, first_unknown, known_or, with_names, with_numbers}
use Rattle.cov_expr.specs.Options.{option_name, option_number, is_declared}
use Rattle.cov_expr.proofs.NameLemmas.{both_known}
use Rattle.cov_expr.proofs.Texts.{HasNameWords}
use Rattle.cov_expr.proofs.Words.{name_word, name_of}

module _ (names : List (List ℕ)) where
  left_within : (a b : Formula ℕ) → reach (And a b) ≤ length names → reach a ≤ length names
  left_within a b h = omega (arith, h, le-max_left (reach a) (reach b))

  right_within : (a b : Formula ℕ) → reach (And a b) ≤ length names → reach b ≤ length names
  right_within a b h = omega (arith, h, le-max_right (reach a) (reach b))

  -- the names of options are words
  pub option_words : list_all is_option_name names ≡ true → (e : Formula ℕ) → reach e ≤ length names → HasNameWords (option_name names) e
  option_words spelt False within = tt
  option_words spelt True within = tt
  option_words spelt (On o) within = name_word (option_name names o) (name_of names o spelt (omega (arith, within)))
  option_words spelt (Not e) within = option_words spelt e within
  option_words spelt (And a b) within = (option_words spelt a (left_within a b within), option_words spelt b (right_within a b within))
  option_words spelt (Or a b) within = (option_words spelt a (left_within a b within), option_words spelt b (right_within a b within))

is_itself : (name : List ℕ) → bytes_eq name name ≡ true
is_itself name = (bytes_eq-Decides name name).1 refl

declared_name : (names : List (List ℕ)) (o : ℕ) → o < length names → is_declared names (option_name names o) ≡ true
declared_name [] o below = absurd (omega (arith, below))
declared_name (name ∷ names) zero below = rw (is_itself name) refl
declared_name (name ∷ names) (suc o) below = ap (λ b. bytes_eq (option_name names o) name || b) (declared_name names o (omega (arith, below))) ∙ either-true (bytes_eq (option_name names o) name)
  where
    either-true : (b : Bool) → (b || true) ≡ true
    either-true false = refl
    either-true true = refl

named_at : (names : List (List ℕ)) (o : ℕ) → option_name names o ≡ get_or names o []
named_at [] o = refl
named_at (name ∷ names) zero = refl
named_at (name ∷ names) (suc o) = named_at names o

differ-flipped : (x y : List ℕ) → bytes_eq x y ≡ false → bytes_eq y x ≡ false
differ-flipped x y h = by (bytes_eq y x) refl
  where
    by : (b : Bool) → bytes_eq y x ≡ b → bytes_eq y x ≡ false
    by false e = e
    by true e =
        let same = (bytes_eq-Decides x y).1 (sym ((bytes_eq-Decides y x).0 e)) in
        cc

-- the number of an option's name is the option's
numbered_again : (names : List (List ℕ)) (o : ℕ) → IsDistinct bytes_eq names → o < length names → option_number names (option_name names o) ≡ o
numbered_again names o distinct below =
    let name = get_or names o [] in
    let first = position_or_len_is (bytes_eq name) names o [] (omega (arith, below))
    (λ k before. differ-flipped (get_or names k []) name (apart_from_distinct bytes_eq names k o [] distinct before below))
    (λ h. is_itself name) in
    ap (option_number names) (named_at names o)
    ∙ ap (λ i. unwrap_or (cond (nat_lt i (length names)) (Some i) None) (length names)) first
    ∙ ap (λ b. unwrap_or (cond b (Some o) None) (length names)) (lt-ltb o (length names) below)

module _ (names : List (List ℕ)) where
  all_known : (e : Formula ℕ) → reach e ≤ length names → first_unknown names (with_names names e) ≡ None
  all_known False within = refl
  all_known True within = refl
  all_known (On o) within = rw (declared_name names o (omega (arith, within))) refl
  all_known (Not e) within = all_known e within
  all_known (And a b) within = both_known names (with_names names a) (with_names names b) (all_known a (left_within names a b within)) (all_known b (right_within names a b within))
  all_known (Or a b) within = both_known names (with_names names a) (with_names names b) (all_known a (left_within names a b within)) (all_known b (right_within names a b within))

  same_again : IsDistinct bytes_eq names → (e : Formula ℕ) → reach e ≤ length names → with_numbers names (with_names names e) ≡ e
  same_again distinct False within = refl
  same_again distinct True within = refl
  same_again distinct (On o) within = ap On (numbered_again names o distinct (omega (arith, within)))
  same_again distinct (Not e) within = ap Not (same_again distinct e within)
  same_again distinct (And a b) within = rw (same_again distinct a (left_within names a b within), same_again distinct b (right_within names a b within)) refl
  same_again distinct (Or a b) within = rw (same_again distinct a (left_within names a b within), same_again distinct b (right_within names a b within)) refl

  -- names in place of numbers are bound to the numbers again
  pub bound_again : (e : Formula ℕ) → IsDistinct bytes_eq names → reach e ≤ length names → bound_expression names (with_names names e) ≡ Ok e
  bound_again e distinct within =
      ap (λ o. known_or o (with_numbers names (with_names names e))) (all_known e within) ∙ ap Ok (same_again distinct e within)
