-- A node with one of its options set.
use Rattle.std.proofs.Common.{◌≡◌, ◌≢◌, ℕ, zero, suc, ◌+◌, ◌*◌, ◌<◌, ◌≤◌, ◌==◌, Bool, true, false, cond, List, [], ◌∷◌, ◌++◌, length, Result, Ok, Err, IfOk, OnErr, refl, sym, ap, ◌∙◌, inl, inr, subst, arith, append_assoc, length-append}
use Rattle.std.proofs.lemmas.List.{append-nil}
use Rattle.cov_base.specs.Choices.{is_on}
use Rattle.cov_dd.specs.declared.triple.Triple.{Triple}
use Rattle.cov_dd.specs.declared.memo.Pair.{Pair}
use Rattle.cov_dd.specs.Cofactors.{set_option, cofactor, AreCofactors, Restricts}
use Rattle.cov_dd.specs.Combinations.{IsSides, Joins, Rests}
use Rattle.cov_dd.specs.Diagrams.{diagram_size, top, span, value_in, IsDiagram, Extends, Stands}
use Rattle.cov_dd.specs.Memos.{IsKey, IsMade, IsDistinct}
use Rattle.cov_dd.specs.Reached.{reaches, size}
use Rattle.cov_dd.proofs.Nodes.{extends_trans}
use Rattle.cov_dd.proofs.Reaching.{reaches-append, reaches-itself}
use Rattle.cov_dd.proofs.Pairs.{IsKey-split}
use Rattle.cov_dd.proofs.Grid.{fits_product}

pub is_on-set : (c : List Bool) (o : ℕ) (on : Bool) → is_on (set_option c o on) o ≡ on
is_on-set [] zero on = refl
is_on-set [] (suc o) on = is_on-set [] o on
is_on-set (b ∷ c) zero on = refl
is_on-set (b ∷ c) (suc o) on = is_on-set c o on

pub is_on-set_other : (c : List Bool) (o p : ℕ) (on : Bool) → p ≢ o → is_on (set_option c o on) p ≡ is_on c p
is_on-set_other [] zero zero on h = absurd (h refl)
is_on-set_other [] zero (suc p) on h = refl
is_on-set_other [] (suc o) zero on h = refl
is_on-set_other [] (suc o) (suc p) on h = is_on-set_other [] o p on (λ e. h (ap suc e))
is_on-set_other (b ∷ c) zero zero on h = absurd (h refl)
is_on-set_other (b ∷ c) zero (suc p) on h = refl
is_on-set_other (b ∷ c) (suc o) zero on h = refl
is_on-set_other (b ∷ c) (suc o) (suc p) on h = is_on-set_other c o p on (λ e. h (ap suc e))

-- the value doesn't depend on an option before the node's own
pub set_before : (ts : List Triple) → IsDiagram ts → (a o : ℕ) (on : Bool) (c : List Bool) → o < top ts a → value_in ts a (set_option c o on) ≡ value_in ts a c
set_before [] d a o on c h = refl
set_before (t ∷ ts) d a o on c h = by (a == diagram_size ts) h (set_before ts d.0 a o on c) (set_before ts d.0 t.on o on c) (set_before ts d.0 t.off o on c)
  where
    by : (b : Bool) → o < cond b t.option (top ts a)
        → (o < top ts a → value_in ts a (set_option c o on) ≡ value_in ts a c)
        → (o < top ts t.on → value_in ts t.on (set_option c o on) ≡ value_in ts t.on c)
        → (o < top ts t.off → value_in ts t.off (set_option c o on) ≡ value_in ts t.off c)
        → cond b (cond (is_on (set_option c o on) t.option) (value_in ts t.on (set_option c o on)) (value_in ts t.off (set_option c o on))) (value_in ts a (set_option c o on))
        ≡ cond b (cond (is_on c t.option) (value_in ts t.on c) (value_in ts t.off c)) (value_in ts a c)
    by true h here left right =
        let other : t.option ≢ o = omega (arith, h) in
        λ j. cond (is_on-set_other c o t.option on other j) (left (omega (arith, h, d.1.on_above)) j) (right (omega (arith, h, d.1.off_above)) j)
    by false h here left right = here h

-- a node whose options come later is its own cofactor
pub later_stands : (ts : List Triple) → IsDiagram ts → (a o : ℕ) (on : Bool) → a < diagram_size ts → o < top ts a → Stands ts a (top ts a) (span ts a) (cofactor ts a o on)
later_stands ts d a o on within h = record {
  within = within;
  above = omega arith;
  below = omega arith;
  value = λ c. sym (set_before ts d a o on c h);
}

-- a node with the option has its child as cofactor
module _ (ts : List Triple) (d : IsDiagram ts) (a o off on : ℕ) (s : IsSides ts a o off on) (own : top ts a ≡ o) where
  pub on_stands : Stands ts on (top ts a) (span ts a) (cofactor ts a o true)
  on_stands = record {
    within = s.on_within;
    above = omega (arith, own, s.on_above);
    below = s.on_below;
    value = λ c. sym (s.value (set_option c o true) ∙ ap (λ b. cond b (value_in ts on (set_option c o true)) (value_in ts off (set_option c o true))) (is_on-set c o true) ∙ set_before ts d on o true c s.on_above);
  }

  pub off_stands : Stands ts off (top ts a) (span ts a) (cofactor ts a o false)
  off_stands = record {
    within = s.off_within;
    above = omega (arith, own, s.off_above);
    below = s.off_below;
    value = λ c. sym (s.value (set_option c o false) ∙ ap (λ b. cond b (value_in ts on (set_option c o false)) (value_in ts off (set_option c o false))) (is_on-set c o false) ∙ set_before ts d off o false c s.off_above);
  }

-- what the memo has stands
pub made_cofactor : (o : ℕ) (on : Bool) (ts : List Triple) (m : List (Pair × ℕ)) (p : Pair) (r : ℕ) → AreCofactors o on ts m → IsMade m p r → Stands ts r (top ts p.left) (span ts p.left) (cofactor ts p.left o on)
made_cofactor o on ts [] p r right h = absurd h
made_cofactor o on ts (e ∷ es) p r right (inl is) = subst (λ (f : Pair × ℕ). Stands ts f.1 (top ts f.0.left) (span ts f.0.left) (cofactor ts f.0.left o on)) is right.0.stands
made_cofactor o on ts (e ∷ es) p r right (inr h) = made_cofactor o on ts es p r right.1 h

-- a cofactor stays one as the table grows
module _ (o : ℕ) (on : Bool) (ts us : List Triple) (x : Extends ts us) where
  cofactor_later : (a r : ℕ) → a < diagram_size ts → Stands ts r (top ts a) (span ts a) (cofactor ts a o on) → Stands us r (top us a) (span us a) (cofactor us a o on)
  cofactor_later a r h s = record {
    within = omega (arith, s.within, x.count);
    above = omega (arith, s.above, x.least r s.within, x.least a h);
    below = omega (arith, s.below, x.most r s.within, x.most a h);
    value = λ c. x.value r s.within c ∙ s.value c ∙ sym (x.value a h (set_option c o on));
  }

  cofactors_later : (m : List (Pair × ℕ)) → AreCofactors o on ts m → AreCofactors o on us m
  cofactors_later [] right = tt
  cofactors_later (e ∷ es) right = (
    record { within = omega (arith, right.0.within, x.count); stands = cofactor_later e.0.left e.1 right.0.within right.0.stands },
    cofactors_later es right.1,
  )

module _ {o : ℕ} {on : Bool} {ts : List Triple} {a first a₀ a₁ : ℕ} {m : List (Pair × ℕ)}
    (ha : a < diagram_size ts) (at : first ≡ top ts a) (early : top ts a < o) (s : IsSides ts a first a₀ a₁) where
  -- after the steps down where the node's own option is off and where it is on
  module _ {t₁ : List Triple} {m₁ : List (Pair × ℕ)} (low : Restricts o on ts t₁ a₀ m m₁) where
    module _ {t₂ : List Triple} {m₂ : List (Pair × ℕ)} (high : Restricts o on t₁ t₂ a₁ m₁ m₂) where
      both : Extends ts t₂
      both = extends_trans ts t₁ t₂ low.extends high.extends

      kept : (n : ℕ) → reaches t₁ a₁ n ≡ reaches ts a₁ n
      kept n = ap (λ vs. reaches vs a₁ n) low.extends.is ∙ reaches-append low.extends.more ts a₁ n s.on_within

      reached₂ : (p : Pair) → IsKey (high.more ++ low.more) p → (reaches ts a p.left ≡ true) × (p.right ≡ 0)
      reached₂ p h = elim (IsKey-split high.more low.more p h) [
        | inl key ↦ (s.on_reached p.left (sym (kept p.left) ∙ (high.reached p key).0), (high.reached p key).1)
        | inr key ↦ (s.off_reached p.left (low.reached p key).0, (low.reached p key).1)
      ]

      -- the nodes met below stand before it
      less₂ : (p : Pair) → IsKey (high.more ++ low.more) p → p.left < a
      less₂ p h = elim (IsKey-split high.more low.more p h) [
        | inl key ↦ omega (arith, high.before p key, (s.falls (sym at)).1)
        | inr key ↦ omega (arith, low.before p key, (s.falls (sym at)).0)
      ]

      is₂ : m₂ ≡ (high.more ++ low.more) ++ m
      is₂ = high.is ∙ ap (λ l. high.more ++ l) low.is ∙ sym (append_assoc high.more low.more m)

      pub both_restricted : Restricts o on ts t₂ a m m₂
      both_restricted = record {
        extends = both;
        right = high.right;
        more = high.more ++ low.more;
        is = is₂;
        entries = omega (arith, low.entries, high.entries, length-append high.more low.more);
        reached = reached₂;
        before = λ p h. omega (arith, less₂ p h);
      }

      pub still_unmet : (p : Pair) → p.left ≡ a → (IsKey m p → ⊥) → IsKey m₂ p → ⊥
      still_unmet p la fresh key = elim (IsKey-split (high.more ++ low.more) m p (subst (λ l. IsKey l p) is₂ key)) [
        | inr old ↦ fresh old
        | inl new ↦ absurd (omega (arith, less₂ p new, la))
      ]

      -- the node of both sides
      module _ {off high_side : ℕ} (s₁ : Stands t₁ off (top ts a₀) (span ts a₀) (cofactor ts a₀ o on)) (s₂ : Stands t₂ high_side (top t₁ a₁) (span t₁ a₁) (cofactor t₁ a₁ o on))
          (pair : Pair) (t : Triple) (la : pair.left ≡ a) (ra : pair.right ≡ 0) (to : t.option ≡ first) (toff : t.off ≡ off) (ton : t.on ≡ high_side) (t₃ : List Triple) (m₃ : List (Pair × ℕ)) (k l : ℕ) where
        pub node_stands : (r : ℕ) → Joins t₂ t₃ pair t m₂ m₃ k l r → Stands t₃ r (top ts a) (span ts a) (cofactor ts a o on)
        node_stands r j =
            let apart : first ≢ o = omega (arith, at, early) in
            record {
              within = j.stands.within;
              above = omega (arith, j.stands.above, to, at);
              below = omega (arith, j.stands.below, to, ap (span t₂) toff, ap (span t₂) ton, high.extends.most off s₁.within, s₁.below, s.off_below, s₂.below, low.extends.most a₁ s.on_within, s.on_below, s.spanned (sym at));
              value = λ c. j.stands.value c
                  ∙ (λ i. cond (is_on c (to i)) (value_in t₂ (ton i) c) (value_in t₂ (toff i) c))
                  ∙ (λ i. cond (sym (is_on-set_other c o first on apart) i)
                  ((s₂.value c ∙ low.extends.value a₁ s.on_within (set_option c o on)) i)
                  ((high.extends.value off s₁.within c ∙ s₁.value c) i))
                  ∙ sym (s.value (set_option c o on));
            }

        node_restricted : (r : ℕ) → Joins t₂ t₃ pair t m₂ m₃ k l r → Restricts o on ts t₃ a m m₃
        unfolding both_restricted
        node_restricted r j =
            let x : Extends ts t₃ = extends_trans ts t₂ t₃ both j.extends in
            let stands : Stands t₃ r (top ts a) (span ts a) (cofactor ts a o on) = node_stands r j in
            record {
              extends = x;
              right = subst (AreCofactors o on t₃) (sym j.memo) (
                record {
                  within = omega (arith, la, ha, x.count);
                  stands = subst (λ n. Stands t₃ r (top t₃ n) (span t₃ n) (cofactor t₃ n o on)) (sym la) (record {
                    within = stands.within;
                    above = omega (arith, stands.above, x.least a ha);
                    below = omega (arith, stands.below, x.most a ha);
                    value = λ c. stands.value c ∙ sym (x.value a ha (set_option c o on));
                  });
                },
                cofactors_later o on t₂ t₃ j.extends m₂ high.right,
              );
              more = (pair, r) ∷ (high.more ++ low.more);
              is = j.memo ∙ ap (λ l. (pair, r) ∷ l) is₂;
              entries = omega (arith, j.one, low.entries, high.entries, length-append high.more low.more);
              reached = λ p h. elim h [
                | inl is ↦ subst (λ (q : Pair). (reaches ts a q.left ≡ true) × (q.right ≡ 0)) is (ap (reaches ts a) la ∙ reaches-itself ts a, ra)
                | inr key ↦ reached₂ p key
              ];
              before = λ p h. elim h [
                | inl is ↦ subst (λ (q : Pair). q.left ≤ a) is (omega (arith, la))
                | inr key ↦ omega (arith, less₂ p key)
              ];
            }

        rest_restricted : Rests t₂ t₃ m₂ m₃ k l → Restricts o on ts t₃ a m m₃
        rest_restricted e = subst (λ (q : List Triple × List (Pair × ℕ)). Restricts o on ts q.0 a m q.1) (λ i. (sym e.table i, sym e.memo i)) both_restricted

        pub joined_restricted : {E : Type 0} (result : Result ℕ E) → IfOk result (Joins t₂ t₃ pair t m₂ m₃ k l) → OnErr result (Rests t₂ t₃ m₂ m₃ k l) → Restricts o on ts t₃ a m m₃
        joined_restricted (Ok r) j e = node_restricted r j
        joined_restricted (Err x) j e = rest_restricted e

        pub joined_cofactor : {E : Type 0} (result : Result ℕ E) → IfOk result (Joins t₂ t₃ pair t m₂ m₃ k l) → IfOk result (λ r. Stands t₃ r (top ts a) (span ts a) (cofactor ts a o on))
        joined_cofactor (Ok r) j = node_stands r j
        joined_cofactor (Err x) j = tt

-- no more entries than nodes that are reached
pub restricted_entries : (o : ℕ) (on : Bool) (ts us : List Triple) (a : ℕ) (m n : List (Pair × ℕ)) → a < diagram_size ts → m ≡ [] → Restricts o on ts us a m n → IsDistinct n → diagram_size us ≤ diagram_size ts + size ts a
restricted_entries o on ts us a m n ha empty x distinct =
    let whole : n ≡ x.more = x.is ∙ ap (λ e. x.more ++ e) empty ∙ append-nil x.more in
    let bound : length x.more ≤ size ts a * 1 =
    fits_product x.more (reaches ts a) (λ k. k == 0) (diagram_size ts) 1 (subst IsDistinct whole distinct)
    (λ p key. (
      omega (arith, x.before p key, ha),
      omega (arith, (x.reached p key).1),
      (x.reached p key).0,
      ap (λ k. k == 0) (x.reached p key).1,
    )) in
    omega (arith, bound, x.entries)
