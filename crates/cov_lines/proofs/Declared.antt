-- What a line names is among what the history declares.
use Rattle.std.proofs.Common.{◌≡◌, ◌∙◌, refl, ap, ℕ, suc, ◌+◌, ◌<◌, Bool, true, false, cond, ◌||◌, ◌&&◌, not, nat_eq, nat_lt, List, [], ◌∷◌, ◌++◌, length, map, Option, Some, None, unwrap_or, Err, arith}
use Rattle.std.specs.List.{list_all, list_any, position_or_len}
use Rattle.std.specs.Str.{bytes_eq}
use Rattle.std.proofs.lemmas.Bool.{and_parts}
use Rattle.std.proofs.lemmas.Bool.Decides.{nat_tests}
use Rattle.cov_expr.specs.Binding.{bound, first_again, first_repeated, first_undeclared, numbered, partial_unless}
use Rattle.cov_expr.specs.Options.{is_declared, option_number}
use Rattle.cov_expr.specs.Partials.{partial_of}
use Rattle.cov_expr.specs.declared.binding.BindFault.TheVariants as faults

position-below : {X : Type 0} (p : X → Bool) (xs : List X) → list_any p xs ≡ true → position_or_len p xs < length xs
position-below p [] h = absurd (cc)
position-below p (x ∷ xs) h = at (p x) h (λ k. position-below p xs k)
  where
    at : (b : Bool) → (b || list_any p xs) ≡ true → (list_any p xs ≡ true → position_or_len p xs < length xs) → cond (not b) (1 + position_or_len p xs) 0 < suc (length xs)
    at true k rest = omega arith
    at false k rest = omega (arith, rest k)

-- the number of a declared option is among them
number-below : (names : List (List ℕ)) (name : List ℕ) → is_declared names name ≡ true → option_number names name < length names
number-below names name h =
    at (nat_lt (position_or_len (bytes_eq name) names) (length names)) refl (position-below (bytes_eq name) names h)
  where
    at : (b : Bool) → nat_lt (position_or_len (bytes_eq name) names) (length names) ≡ b → position_or_len (bytes_eq name) names < length names
        → unwrap_or (cond b (Some (position_or_len (bytes_eq name) names)) None) (length names) < length names
    at true e k = k
    at false e k = absurd (grind (arith, nat_tests, e, k))

-- the numbers of declared options are among them
numbers-below : (names : List (List ℕ)) (bindings : List (List ℕ × Bool)) → first_undeclared names bindings ≡ None
    → list_all (λ o. nat_lt o (length names)) (map (λ b. b.0) (numbered names bindings)) ≡ true
numbers-below names [] h = refl
numbers-below names (b ∷ bs) h = at (is_declared names b.0) refl h (λ k. numbers-below names bs k)
  where
    at : (d : Bool) → is_declared names b.0 ≡ d → cond (not d) (Some b.0) (first_undeclared names bs) ≡ None
        → (first_undeclared names bs ≡ None → list_all (λ o. nat_lt o (length names)) (map (λ c. c.0) (numbered names bs)) ≡ true)
        → (nat_lt (option_number names b.0) (length names) && list_all (λ o. nat_lt o (length names)) (map (λ c. c.0) (numbered names bs))) ≡ true
    at true e k rest =
        let below : nat_lt (option_number names b.0) (length names) ≡ true = grind (arith, nat_tests, number-below names b.0 e) in
        ap (λ t. t && list_all (λ o. nat_lt o (length names)) (map (λ c. c.0) (numbered names bs))) below ∙ rest k
    at false e k rest = absurd (cc)

-- an option that stands a second time is one of them
again-below : (n : ℕ) (before os : List ℕ) (o : ℕ) → list_all (λ x. nat_lt x n) os ≡ true → first_again before os ≡ Some o → o < n
again-below n before [] o all h = absurd (cc)
again-below n before (x ∷ os) o all h = at (list_any (nat_eq x) before) h (λ k. again-below n (before ++ x ∷ []) os o parts.1 k)
  where
    parts : (nat_lt x n ≡ true) × (list_all (λ y. nat_lt y n) os ≡ true)
    parts = and_parts (nat_lt x n) (list_all (λ y. nat_lt y n) os) all

    at : (b : Bool) → cond b (Some x) (first_again (before ++ x ∷ []) os) ≡ Some o → (first_again (before ++ x ∷ []) os ≡ Some o → o < n) → o < n
    at true k rest = let same : x ≡ o = cc in grind (arith, nat_tests, parts.0, same)
    at false k rest = rest k

-- an option that is bound twice is declared
pub repeated_below : (names : List (List ℕ)) (bindings : List (List ℕ × Bool)) (option : ℕ) → bound names bindings ≡ Err (faults.Repeated option) → option < length names
repeated_below names bindings option h = at (first_undeclared names bindings) refl (first_repeated (numbered names bindings)) refl h
  where
    at : (u : Option (List ℕ)) → first_undeclared names bindings ≡ u → (r : Option ℕ) → first_repeated (numbered names bindings) ≡ r
        → partial_unless u r (partial_of (length names) (numbered names bindings)) ≡ Err (faults.Repeated option) → option < length names
    at (Some name) e r f k = absurd (cc)
    at None e (Some o) f k =
        let same : o ≡ option = cc in
        again-below (length names) [] (map (λ b. b.0) (numbered names bindings)) option (numbers-below names bindings e) (f ∙ ap Some same)
    at None e None f k = absurd (cc)
