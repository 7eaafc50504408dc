-- Bindings that are gathered one after another.
use Rattle.std.proofs.Common.{◌≡◌, ℕ, ◌+◌, ◌<◌, Bool, true, false, cond, ◌||◌, nat_eq, List, [], ◌∷◌, ◌++◌, length, take, drop, map, get_or, Option, Some, None, is_some, if◌then◌else◌, ◌⊎◌, inl, inr, refl, sym, ap, ◌∙◌, arith, add-one}
use Rattle.std.specs.Option.{option_map}
use Rattle.std.specs.List.{find, list_any}
use Rattle.std.proofs.Math.ListN.{set}
use Rattle.std.proofs.Math.Seq.{drop-cons}
use Rattle.std.proofs.lemmas.List.{take_more, map-append, get_or-set_other}
use Rattle.std.proofs.lemmas.Grind.{get_or-set_at}
use Rattle.std.proofs.lemmas.Bool.Decides.{eqb_tells}
use Rattle.cov_base.proofs.CallerLemmas.{none-is}
use Rattle.cov_expr.specs.Partials.{bound_value}
use Rattle.cov_expr.specs.Binding.{first_again}

-- the first value, and the rest's where there is none
abbrev or_value : Option Bool → Option Bool → Option Bool
or_value None v = v
or_value (Some u) v = Some u

-- a last binding counts where there is none before it
bound_value-append : (bs : List (ℕ × Bool)) (b : ℕ × Bool) (k : ℕ) → bound_value (bs ++ b ∷ []) k ≡ or_value (bound_value bs k) (bound_value (b ∷ []) k)
bound_value-append [] b k = refl
bound_value-append (c ∷ bs) b k = by (nat_eq k c.0) (bound_value-append bs b k)
  where
    by : (t : Bool) → bound_value (bs ++ b ∷ []) k ≡ or_value (bound_value bs k) (bound_value (b ∷ []) k) → option_map (λ (d : ℕ × Bool). d.1) (cond t (Some c) (find (λ d. nat_eq k d.0) (bs ++ b ∷ []))) ≡ or_value (option_map (λ (d : ℕ × Bool). d.1) (cond t (Some c) (find (λ d. nat_eq k d.0) bs))) (bound_value (b ∷ []) k)
    by true h = refl
    by false h = h

-- an option has a value exactly where it stands among the options bound
is_some-bound_value : (bs : List (ℕ × Bool)) (k : ℕ) → is_some (bound_value bs k) ≡ list_any (nat_eq k) (map (λ b. b.0) bs)
is_some-bound_value [] k = refl
is_some-bound_value (c ∷ bs) k = by (nat_eq k c.0) (is_some-bound_value bs k)
  where
    by : (t : Bool) → is_some (bound_value bs k) ≡ list_any (nat_eq k) (map (λ (b : ℕ × Bool). b.0) bs) → is_some (option_map (λ (d : ℕ × Bool). d.1) (cond t (Some c) (find (λ d. nat_eq k d.0) bs))) ≡ (t || list_any (nat_eq k) (map (λ (b : ℕ × Bool). b.0) bs))
    by true h = refl
    by false h = h

module _ (bs : List (ℕ × Bool)) (i : ℕ) (b : ℕ × Bool) (here : i < length bs) (at : b ≡ get_or bs i b) where
  taken : take (i + 1) bs ≡ take i bs ++ b ∷ []
  taken = take_more bs i b here ∙ ap (λ c. take i bs ++ c ∷ []) (sym at)

  ahead : drop i bs ≡ b ∷ drop (i + 1) bs
  ahead = drop-cons bs i b here ∙ (λ j. sym at j ∷ drop (sym (add-one i) j) bs)

  abbrev first_from : ℕ → Option ℕ
  first_from k = first_again (map (λ c. c.0) (take k bs)) (map (λ c. c.0) (drop k bs))

  look : first_from i ≡ first_again (map (λ c. c.0) (take i bs)) (map (λ c. c.0) (b ∷ drop (i + 1) bs))
  look = ap (λ cs. first_again (map (λ (c : ℕ × Bool). c.0) (take i bs)) (map (λ (c : ℕ × Bool). c.0) cs)) ahead

  -- an option that has a value already is the first that is repeated
  pub first_again_here : (whole : Option ℕ) → whole ≡ first_from i → is_some (bound_value (take i bs) b.0) ≡ true → Some b.0 ≡ whole
  first_again_here whole so_far had =
      sym (so_far ∙ look ∙ ap (λ t. if t then Some b.0 else first_again (map (λ (c : ℕ × Bool). c.0) (take i bs) ++ b.0 ∷ []) (map (λ (c : ℕ × Bool). c.0) (drop (i + 1) bs))) (sym (is_some-bound_value (take i bs) b.0) ∙ had))

  module _ (new : is_some (bound_value (take i bs) b.0) ≡ false) where
    -- one that has none isn't
    pub first_again_later : (whole : Option ℕ) → whole ≡ first_from i → whole ≡ first_from (i + 1)
    first_again_later whole so_far =
        so_far ∙ look
        ∙ ap (λ t. if t then Some b.0 else first_again (map (λ (c : ℕ × Bool). c.0) (take i bs) ++ b.0 ∷ []) (map (λ (c : ℕ × Bool). c.0) (drop (i + 1) bs))) (sym (is_some-bound_value (take i bs) b.0) ∙ new)
        ∙ ap (λ cs. first_again cs (map (λ (c : ℕ × Bool). c.0) (drop (i + 1) bs))) (sym (ap (map (λ (c : ℕ × Bool). c.0)) taken ∙ map-append (λ (c : ℕ × Bool). c.0) (take i bs) (b ∷ [])))

    value_after : (k : ℕ) → bound_value (take (i + 1) bs) k ≡ or_value (bound_value (take i bs) k) (bound_value (b ∷ []) k)
    value_after k = ap (λ cs. bound_value cs k) taken ∙ bound_value-append (take i bs) b k

    last_value : (k : ℕ) (t : Bool) → nat_eq k b.0 ≡ t → bound_value (b ∷ []) k ≡ cond t (Some b.1) None
    last_value k t e = ap (λ u. option_map (λ (d : ℕ × Bool). d.1) (cond u (Some b) None)) e ∙ by t
      where
        by : (u : Bool) → option_map (λ (d : ℕ × Bool). d.1) (cond u (Some b) None) ≡ cond u (Some b.1) None
        by true = refl
        by false = refl

    none_more : (o : Option Bool) → or_value o None ≡ o
    none_more None = refl
    none_more (Some v) = refl

    -- the values with its value at its place are those of one binding more
    pub value_set : (values : List (Option Bool)) (n : ℕ) → n ≡ b.0 → ((k : ℕ) → k < length values → get_or values k None ≡ bound_value (take i bs) k) → (k : ℕ) → k < length (set values n (Some b.1)) → k < length values → get_or (set values n (Some b.1)) k None ≡ bound_value (take (i + 1) bs) k
    value_set values n same before k _ below = by (eqb_tells k b.0)
      where
        by : ((nat_eq k b.0 ≡ true) × (k ≡ b.0)) ⊎ ((nat_eq k b.0 ≡ false) × (k ≡ b.0 → ⊥)) → get_or (set values n (Some b.1)) k None ≡ bound_value (take (i + 1) bs) k
        by (inl e) =
            get_or-set_at values n k (Some b.1) None (e.1 ∙ sym same) (omega (arith, e.1, same, below))
            ∙ sym (value_after k ∙ (λ j. or_value ((ap (bound_value (take i bs)) e.1 ∙ none-is (bound_value (take i bs) b.0) new) j) (last_value k true e.0 j)))
        by (inr e) =
            get_or-set_other values n k (Some b.1) None (λ q. e.1 (q ∙ same))
            ∙ before k below
            ∙ sym (value_after k ∙ ap (or_value (bound_value (take i bs) k)) (last_value k false e.0) ∙ none_more (bound_value (take i bs) k))
