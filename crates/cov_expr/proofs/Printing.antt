-- Bindings that are printed one after another.
use Rattle.std.proofs.Common.{◌≡◌, ℕ, zero, suc, ◌+◌, ◌<◌, ◌≤◌, Bool, List, [], ◌∷◌, ◌++◌, length, drop, codes, refl, sym, ap, ◌∙◌, arith, append_assoc, add-one}
use Rattle.std.specs.List.{flat_map, join_with_byte}
use Rattle.std.proofs.lemmas.List.{append-nil}
use Rattle.cov_base.specs.Choices.{is_on}
use Rattle.cov_expr.specs.Options.{option_name}
use Rattle.cov_expr.specs.ChoiceText.{binding_text, binding_texts, choice_text}

-- the pieces behind the first, each after its comma
abbrev pub after_commas : List (List ℕ) → List ℕ
after_commas pieces = flat_map (λ piece. 44 ∷ piece) pieces

join_with_byte-cons : (x : List ℕ) (xs : List (List ℕ)) → join_with_byte 44 (x ∷ xs) ≡ x ++ after_commas xs
join_with_byte-cons x [] = sym (append-nil x)
join_with_byte-cons x (y ∷ xs) = ap (λ r. x ++ 44 ∷ r) (join_with_byte-cons y xs)

drop-binding_texts : (names : List (List ℕ)) (choice : List Bool) (k : ℕ) → k < length choice → length choice ≤ length names → drop k (binding_texts names choice) ≡ binding_text (option_name names k) (is_on choice k) ∷ drop (suc k) (binding_texts names choice)
drop-binding_texts names [] k below fits = absurd (omega (arith, below))
drop-binding_texts [] (on ∷ choice) k below fits = absurd (omega (arith, fits))
drop-binding_texts (name ∷ names) (on ∷ choice) zero below fits = refl
drop-binding_texts (name ∷ names) (on ∷ choice) (suc k) below fits = drop-binding_texts names choice k (omega (arith, below)) (omega (arith, fits))

drop_all_texts : (names : List (List ℕ)) (choice : List Bool) (k : ℕ) → length choice ≤ k → drop k (binding_texts names choice) ≡ []
drop_all_texts [] choice zero above = refl
drop_all_texts [] choice (suc k) above = refl
drop_all_texts (name ∷ names) [] zero above = refl
drop_all_texts (name ∷ names) [] (suc k) above = refl
drop_all_texts (name ∷ names) (on ∷ choice) zero above = absurd (omega (arith, above))
drop_all_texts (name ∷ names) (on ∷ choice) (suc k) above = drop_all_texts names choice k (omega (arith, above))

module _ (names : List (List ℕ)) (choice : List Bool) where
  pub choice_text-none : length choice ≡ 0 → codes "-" ≡ choice_text names choice
  choice_text-none e = by choice e
    where
      by : (c : List Bool) → length c ≡ 0 → codes "-" ≡ choice_text names c
      by [] h = refl
      by (on ∷ c) h = absurd (omega (arith, h))

  choice_text-some : 0 < length choice → choice_text names choice ≡ join_with_byte 44 (binding_texts names choice)
  choice_text-some h = by choice h
    where
      by : (c : List Bool) → 0 < length c → choice_text names c ≡ join_with_byte 44 (binding_texts names c)
      by [] g = absurd (omega (arith, g))
      by (on ∷ c) g = refl

  module _ (fits : length choice ≤ length names) where
    -- the first binding is printed
    pub printed_first : 0 < length choice → ([] ++ binding_text (option_name names 0) (is_on choice 0)) ++ after_commas (drop 1 (binding_texts names choice)) ≡ choice_text names choice
    printed_first some =
        sym (choice_text-some some ∙ ap (join_with_byte 44) (drop-binding_texts names choice 0 some fits) ∙ join_with_byte-cons (binding_text (option_name names 0) (is_on choice 0)) (drop 1 (binding_texts names choice)))

    -- one more is printed, behind a comma
    pub printed_more : (text : List ℕ) (k : ℕ) → k < length choice → text ++ after_commas (drop k (binding_texts names choice)) ≡ choice_text names choice → ((text ++ 44 ∷ []) ++ binding_text (option_name names k) (is_on choice k)) ++ after_commas (drop (k + 1) (binding_texts names choice)) ≡ choice_text names choice
    printed_more text k below e =
        let piece = binding_text (option_name names k) (is_on choice k) in
        let rest = after_commas (drop (k + 1) (binding_texts names choice)) in
        append_assoc (text ++ 44 ∷ []) piece rest
        ∙ append_assoc text (44 ∷ []) (piece ++ rest)
        ∙ ap (λ r. text ++ r) (sym (ap after_commas (drop-binding_texts names choice k below fits) ∙ ap (λ n. 44 ∷ piece ++ after_commas (drop n (binding_texts names choice))) (sym (add-one k))))
        ∙ e

  -- all are printed
  pub printed_all : (text : List ℕ) (k : ℕ) → length choice ≤ k → text ++ after_commas (drop k (binding_texts names choice)) ≡ choice_text names choice → text ≡ choice_text names choice
  printed_all text k above e = sym (append-nil text) ∙ ap (λ ps. text ++ after_commas ps) (sym (drop_all_texts names choice k above)) ∙ e
