-- One step down two nodes.
use Rattle.std.proofs.Common.{◌≡◌, ℕ, ◌-◌, ◌<◌, ◌≤◌, ◌*◌, ◌&&◌, not, min, max, Bool, true, false, cond, List, [], ◌∷◌, ◌++◌, length, Option, Some, None, IfSome, Result, Ok, Err, IfOk, OnErr, refl, sym, ap, ◌∙◌, inl, inr, ◌⊎◌, subst, arith, append_assoc, length-append}
use Rattle.std.proofs.lemmas.List.{append-nil}
use Rattle.cov_base.specs.Choices.{is_on}
use Rattle.cov_dd.specs.declared.operation.Operation.{Operation}
use Rattle.cov_dd.specs.declared.operation.Operation.TheVariants.{Without}
use Rattle.cov_dd.specs.declared.triple.Triple.{Triple}
use Rattle.cov_dd.specs.declared.memo.Pair.{Pair}
use Rattle.cov_dd.specs.Diagrams.{diagram_size, top, span, value_in, IsDiagram, Extends, Stands}
use Rattle.cov_dd.specs.Memos.{IsKey, IsMade, IsDistinct}
use Rattle.cov_dd.specs.Reached.{reaches, size}
use Rattle.cov_dd.specs.Combinations.{applied, both_in, IsShortcut, first_option, joint_span, AreRight, IsRight, IsSides, Runs, Joins, Rests}
use Rattle.cov_dd.proofs.Nodes.{extends_trans, below, level, above, ordered, some_nodes, value-constant, top-constant, span-constant, top-most, extends_none}
use Rattle.cov_dd.proofs.Reaching.{reaches-append, reaches-itself}
use Rattle.cov_dd.proofs.Pairs.{IsKey-split}
use Rattle.cov_dd.proofs.Grid.{fits_product}

cond-applied : (w : Operation) (b x₁ x₀ y₁ y₀ : Bool) → cond b (applied w x₁ y₁) (applied w x₀ y₀) ≡ applied w (cond b x₁ x₀) (cond b y₁ y₀)
cond-applied w true x₁ x₀ y₁ y₀ = refl
cond-applied w false x₁ x₀ y₁ y₀ = refl

-- a shortcut stands
pub shortcut_stands : (w : Operation) (ts : List Triple) → IsDiagram ts → (a b r : ℕ) → a < diagram_size ts → b < diagram_size ts → IsShortcut w a b r
    → Stands ts r (first_option ts a b) (joint_span ts a b) (both_in w ts a b)
shortcut_stands w ts d a b r ha hb s = record {
  within = at (λ n. n < diagram_size ts) ha hb (λ h. omega (arith, h, some_nodes ts));
  above = at (λ n. first_option ts a b ≤ top ts n) (omega arith) (omega arith) (λ h. omega (arith, top-constant ts r h, top-most ts a d));
  below = at (λ n. span ts n ≤ joint_span ts a b) (omega arith) (omega arith) (λ h. omega (arith, span-constant ts r h));
  value = λ c. s.value (λ n. value_in ts n c) (value-constant ts 0 c (omega arith)) (value-constant ts 1 c (omega arith));
}
  where
    at : (P : ℕ → Type 0) → P a → P b → (r < 2 → P r) → P r
    at P pa pb pr = elim s.place as (λ _. P r) [
      | inl is ↦ subst P (sym is) pa
      | inr other ↦ elim other as (λ _. P r) [ inl is ↦ subst P (sym is) pb | inr h ↦ pr h ]
    ]

pub settled_stands : (w : Operation) (ts : List Triple) → IsDiagram ts → (a b : ℕ) → a < diagram_size ts → b < diagram_size ts → (o : Option ℕ) → IfSome o (IsShortcut w a b)
    → IfSome o (λ r. Stands ts r (first_option ts a b) (joint_span ts a b) (both_in w ts a b))
settled_stands w ts d a b ha hb None s = tt
settled_stands w ts d a b ha hb (Some r) s = shortcut_stands w ts d a b r ha hb s

-- what the memo has stands
pub made_stands : (w : Operation) (ts : List Triple) (m : List (Pair × ℕ)) (p : Pair) (r : ℕ) → AreRight w ts m → IsMade m p r
    → Stands ts r (first_option ts p.left p.right) (joint_span ts p.left p.right) (both_in w ts p.left p.right)
made_stands w ts [] p r right h = absurd h
made_stands w ts (e ∷ es) p r right (inl is) = subst (λ (f : Pair × ℕ). Stands ts f.1 (first_option ts f.0.left f.0.right) (joint_span ts f.0.left f.0.right) (both_in w ts f.0.left f.0.right)) is right.0.stands
made_stands w ts (e ∷ es) p r right (inr h) = made_stands w ts es p r right.1 h

-- the operation on two nodes stays as the table grows
module _ (w : Operation) (ts us : List Triple) (x : Extends ts us) (a b : ℕ) (ha : a < diagram_size ts) (hb : b < diagram_size ts) where
  pub first_option-later : first_option us a b ≡ first_option ts a b
  first_option-later = λ j. min (x.least a ha j) (x.least b hb j)

  pub joint_span-later : joint_span us a b ≡ joint_span ts a b
  joint_span-later = λ j. max (x.most a ha j) (x.most b hb j)

  pub both_in-later : (c : List Bool) → both_in w us a b c ≡ both_in w ts a b c
  both_in-later c = λ j. applied w (x.value a ha c j) (x.value b hb c j)

  pub combined_later : (r : ℕ) → Stands ts r (first_option ts a b) (joint_span ts a b) (both_in w ts a b) → Stands us r (first_option us a b) (joint_span us a b) (both_in w us a b)
  combined_later r s = record {
    within = omega (arith, s.within, x.count);
    above = omega (arith, s.above, x.least r s.within, first_option-later);
    below = omega (arith, s.below, x.most r s.within, joint_span-later);
    value = λ c. x.value r s.within c ∙ s.value c ∙ sym (both_in-later c);
  }

pub right_later : (w : Operation) (ts us : List Triple) → Extends ts us → (m : List (Pair × ℕ)) → AreRight w ts m → AreRight w us m
right_later w ts us x [] right = tt
right_later w ts us x (e ∷ es) right = (
  record {
    left = omega (arith, right.0.left, x.count);
    right = omega (arith, right.0.right, x.count);
    stands = combined_later w ts us x e.0.left e.0.right right.0.left right.0.right e.1 right.0.stands;
  },
  right_later w ts us x es right.1,
)

-- the node that was made for two nodes of a table that has grown since
pub right_after : (w : Operation) (ts us : List Triple) → Extends ts us → (a b r : ℕ) → a < diagram_size ts → b < diagram_size ts → Stands us r (first_option ts a b) (joint_span ts a b) (both_in w ts a b)
    → IsRight w us (record { left = a; right = b }, r)
right_after w ts us x a b r ha hb s = record {
  left = omega (arith, ha, x.count);
  right = omega (arith, hb, x.count);
  stands = record {
    within = s.within;
    above = omega (arith, s.above, first_option-later w ts us x a b ha hb);
    below = omega (arith, s.below, joint_span-later w ts us x a b ha hb);
    value = λ c. s.value c ∙ sym (both_in-later w ts us x a b ha hb c);
  };
}

reaches-later : (ts us : List Triple) → Extends ts us → (a n : ℕ) → a < diagram_size ts → reaches us a n ≡ reaches ts a n
reaches-later ts us x a n h = ap (λ vs. reaches vs a n) x.is ∙ reaches-append x.more ts a n h

-- the lesser of two numbers is one of them
has_option : (x y o : ℕ) → o ≡ min x y → (x ≡ o) ⊎ (y ≡ o)
has_option x y o at = elim (ordered x y) [ below h ↦ inl (omega (arith, h, at)) | level h ↦ inl (omega (arith, h, at)) | above h ↦ inr (omega (arith, h, at)) ]

-- nothing happened
pub no_runs : (w : Operation) (ts : List Triple) (a b : ℕ) (m : List (Pair × ℕ)) (k : ℕ) → AreRight w ts m → Runs w ts ts a b m m k k
no_runs w ts a b m k right = record {
  extends = extends_none ts;
  right = right;
  more = [];
  is = refl;
  steps = omega arith;
  entries = omega arith;
  reached = λ p h. absurd h;
  before = λ p h. absurd h;
}

module _ {w : Operation} {ts : List Triple} {a b o a₀ a₁ b₀ b₁ : ℕ} {m : List (Pair × ℕ)} {k : ℕ}
    (ha : a < diagram_size ts) (hb : b < diagram_size ts) (at : o ≡ first_option ts a b) (left : IsSides ts a o a₀ a₁) (right : IsSides ts b o b₀ b₁) where
  -- after the descent where the option is off
  module _ {t₁ : List Triple} {m₁ : List (Pair × ℕ)} {k₁ : ℕ} (first : Runs w ts t₁ a₀ b₀ m m₁ k k₁) where
    pub off_runs : Runs w ts t₁ a b m m₁ k k₁
    off_runs = record {
      extends = first.extends;
      right = first.right;
      more = first.more;
      is = first.is;
      steps = first.steps;
      entries = first.entries;
      reached = λ p h. let r = first.reached p h in (left.off_reached p.left r.0, right.off_reached p.right r.1);
      before = λ p h. let r = first.before p h in (omega (arith, r.0, left.off_most), omega (arith, r.1, right.off_most));
    }

    -- after the descent where it is on
    module _ {t₂ : List Triple} {m₂ : List (Pair × ℕ)} {k₂ : ℕ} (second : Runs w t₁ t₂ a₁ b₁ m₁ m₂ k₁ k₂) where
      both : Extends ts t₂
      both = extends_trans ts t₁ t₂ first.extends second.extends

      reached₂ : (p : Pair) → IsKey (second.more ++ first.more) p → (reaches ts a p.left ≡ true) × (reaches ts b p.right ≡ true)
      unfolding off_runs
      reached₂ p h = elim (IsKey-split second.more first.more p h) [
        | inl key ↦ (
          left.on_reached p.left (sym (reaches-later ts t₁ first.extends a₁ p.left left.on_within) ∙ (second.reached p key).0),
          right.on_reached p.right (sym (reaches-later ts t₁ first.extends b₁ p.right right.on_within) ∙ (second.reached p key).1),
        )
        | inr key ↦ off_runs.reached p key
      ]

      before₂ : (p : Pair) → IsKey (second.more ++ first.more) p → (p.left ≤ a) × (p.right ≤ b)
      unfolding off_runs
      before₂ p h = elim (IsKey-split second.more first.more p h) [
        | inl key ↦ (omega (arith, (second.before p key).0, left.on_most), omega (arith, (second.before p key).1, right.on_most))
        | inr key ↦ off_runs.before p key
      ]

      is₂ : m₂ ≡ (second.more ++ first.more) ++ m
      is₂ = second.is ∙ ap (λ l. second.more ++ l) first.is ∙ sym (append_assoc second.more first.more m)

      pub both_runs : Runs w ts t₂ a b m m₂ k k₂
      both_runs = record {
        extends = both;
        right = second.right;
        more = second.more ++ first.more;
        is = is₂;
        steps = omega (arith, first.steps, second.steps, length-append second.more first.more);
        entries = omega (arith, first.entries, second.entries, length-append second.more first.more);
        reached = reached₂;
        before = before₂;
      }

      -- one of the two nodes has the option
      deeper : (a ≤ a₁) × (b ≤ b₁) ⊎ (a ≤ a₀) × (b ≤ b₀) → ⊥
      deeper h = elim (has_option (top ts a) (top ts b) o at) [
        | inl here ↦ elim h [ inl on ↦ absurd (omega (arith, on.0, (left.falls here).1)) | inr off ↦ absurd (omega (arith, off.0, (left.falls here).0)) ]
        | inr here ↦ elim h [ inl on ↦ absurd (omega (arith, on.1, (right.falls here).1)) | inr off ↦ absurd (omega (arith, off.1, (right.falls here).0)) ]
      ]

      -- the pair itself isn't met below
      pub still_fresh : (p : Pair) → p.left ≡ a → p.right ≡ b → (IsKey m p → ⊥) → IsKey m₂ p → ⊥
      still_fresh p la rb fresh key = elim (IsKey-split (second.more ++ first.more) m p (subst (λ l. IsKey l p) is₂ key)) [
        | inr old ↦ fresh old
        | inl new ↦ elim (IsKey-split second.more first.more p new) [
          | inl on ↦ deeper (inl (omega (arith, (second.before p on).0, la), omega (arith, (second.before p on).1, rb)))
          | inr off ↦ deeper (inr (omega (arith, (first.before p off).0, la), omega (arith, (first.before p off).1, rb)))
        ]
      ]

      -- the node of both descents
      module _ {off on : ℕ} (s₁ : Stands t₁ off (first_option ts a₀ b₀) (joint_span ts a₀ b₀) (both_in w ts a₀ b₀))
          (s₂ : Stands t₂ on (first_option t₁ a₁ b₁) (joint_span t₁ a₁ b₁) (both_in w t₁ a₁ b₁)) where
        value_off : (c : List Bool) → value_in t₂ off c ≡ both_in w ts a₀ b₀ c
        value_off c = second.extends.value off s₁.within c ∙ s₁.value c

        value_on : (c : List Bool) → value_in t₂ on c ≡ both_in w ts a₁ b₁ c
        value_on c = s₂.value c ∙ both_in-later w ts t₁ first.extends a₁ b₁ left.on_within right.on_within c

        span_off : span t₂ off ≤ joint_span ts a b
        span_off = omega (arith, second.extends.most off s₁.within, s₁.below, left.off_below, right.off_below)

        span_on : span t₂ on ≤ joint_span ts a b
        span_on = omega (arith, s₂.below, joint_span-later w ts t₁ first.extends a₁ b₁ left.on_within right.on_within, left.on_below, right.on_below)

        span_own : o < joint_span ts a b
        span_own = elim (has_option (top ts a) (top ts b) o at) [
          | inl here ↦ omega (arith, left.spanned here)
          | inr here ↦ omega (arith, right.spanned here)
        ]

        module _ (pair : Pair) (t : Triple) (la : pair.left ≡ a) (rb : pair.right ≡ b) (to : t.option ≡ o) (toff : t.off ≡ off) (ton : t.on ≡ on)
            (t₃ : List Triple) (m₃ : List (Pair × ℕ)) (k₃ : ℕ) where
          node_stands : (r : ℕ) → Joins t₂ t₃ pair t m₂ m₃ k₂ k₃ r → Stands t₃ r (first_option ts a b) (joint_span ts a b) (both_in w ts a b)
          node_stands r j = record {
            within = j.stands.within;
            above = omega (arith, j.stands.above, to, at);
            below = omega (arith, j.stands.below, to, ap (span t₂) toff, ap (span t₂) ton, span_off, span_on, span_own);
            value = λ c. j.stands.value c
                ∙ (λ i. cond (is_on c (to i)) (value_in t₂ (ton i) c) (value_in t₂ (toff i) c))
                ∙ (λ i. cond (is_on c o) (value_on c i) (value_off c i))
                ∙ cond-applied w (is_on c o) (value_in ts a₁ c) (value_in ts a₀ c) (value_in ts b₁ c) (value_in ts b₀ c)
                ∙ (λ i. applied w (sym (left.value c) i) (sym (right.value c) i));
          }

          node_runs : (r : ℕ) → Joins t₂ t₃ pair t m₂ m₃ k₂ k₃ r → Runs w ts t₃ a b m m₃ k k₃
          node_runs r j =
              let x : Extends ts t₃ = extends_trans ts t₂ t₃ both j.extends in
              record {
                extends = x;
                right = subst (AreRight w t₃) (sym j.memo) (
                  record {
                    left = omega (arith, la, ha, x.count);
                    right = omega (arith, rb, hb, x.count);
                    stands = subst (λ (q : ℕ × ℕ). Stands t₃ r (first_option t₃ q.0 q.1) (joint_span t₃ q.0 q.1) (both_in w t₃ q.0 q.1)) (λ i. (sym la i, sym rb i))
                        (again r (node_stands r j) x);
                  },
                  right_later w t₂ t₃ j.extends m₂ second.right,
                );
                more = (pair, r) ∷ (second.more ++ first.more);
                is = j.memo ∙ ap (λ l. (pair, r) ∷ l) is₂;
                steps = omega (arith, j.steps, first.steps, second.steps, length-append second.more first.more);
                entries = omega (arith, j.one, first.entries, second.entries, length-append second.more first.more);
                reached = λ p h. elim h [
                  | inl is ↦ subst (λ (q : Pair). (reaches ts a q.left ≡ true) × (reaches ts b q.right ≡ true)) is
                      (ap (reaches ts a) la ∙ reaches-itself ts a, ap (reaches ts b) rb ∙ reaches-itself ts b)
                  | inr key ↦ reached₂ p key
                ];
                before = λ p h. elim h [
                  | inl is ↦ subst (λ (q : Pair). (q.left ≤ a) × (q.right ≤ b)) is (omega (arith, la), omega (arith, rb))
                  | inr key ↦ before₂ p key
                ];
              }
            where
              again : (r : ℕ) → Stands t₃ r (first_option ts a b) (joint_span ts a b) (both_in w ts a b) → Extends ts t₃ → Stands t₃ r (first_option t₃ a b) (joint_span t₃ a b) (both_in w t₃ a b)
              again r s x = record {
                within = s.within;
                above = omega (arith, s.above, first_option-later w ts t₃ x a b ha hb);
                below = omega (arith, s.below, joint_span-later w ts t₃ x a b ha hb);
                value = λ c. s.value c ∙ sym (both_in-later w ts t₃ x a b ha hb c);
              }

          rest_runs : Rests t₂ t₃ m₂ m₃ k₂ k₃ → Runs w ts t₃ a b m m₃ k k₃
          rest_runs e = subst (λ (q : List Triple × List (Pair × ℕ) × ℕ). Runs w ts q.0 a b m q.1 k q.2) (λ i. (sym e.table i, sym e.memo i, sym e.steps i)) both_runs

          pub joined_runs : {E : Type 0} (result : Result ℕ E) → IfOk result (Joins t₂ t₃ pair t m₂ m₃ k₂ k₃) → OnErr result (Rests t₂ t₃ m₂ m₃ k₂ k₃) → Runs w ts t₃ a b m m₃ k k₃
          joined_runs (Ok r) j e = node_runs r j
          joined_runs (Err x) j e = rest_runs e

          pub joined_stands : {E : Type 0} (result : Result ℕ E) → IfOk result (Joins t₂ t₃ pair t m₂ m₃ k₂ k₃)
              → IfOk result (λ r. Stands t₃ r (first_option ts a b) (joint_span ts a b) (both_in w ts a b))
          joined_stands (Ok r) j = node_stands r j
          joined_stands (Err x) j = tt

-- no more steps than pairs of nodes that are reached
pub combined_bound : (w : Operation) (ts us : List Triple) (a b : ℕ) (m n : List (Pair × ℕ)) (k l : ℕ) → a < diagram_size ts → b < diagram_size ts → m ≡ []
    → Runs w ts us a b m n k l → IsDistinct n → l - k ≤ size ts a * size ts b
combined_bound w ts us a b m n k l ha hb empty runs distinct =
    let whole : n ≡ runs.more = runs.is ∙ ap (λ e. runs.more ++ e) empty ∙ append-nil runs.more in
    let bound : length runs.more ≤ size ts a * size ts b =
    fits_product runs.more (reaches ts a) (reaches ts b) (diagram_size ts) (diagram_size ts) (subst IsDistinct whole distinct)
    (λ p key. (
      omega (arith, (runs.before p key).0, ha),
      omega (arith, (runs.before p key).1, hb),
      (runs.reached p key).0,
      (runs.reached p key).1,
    )) in
    omega (arith, bound, runs.steps)

-- the complement as a difference
pub complement_stands : (ts : List Triple) → IsDiagram ts → (us : List Triple) (a r : ℕ) → Stands us r (first_option ts 1 a) (joint_span ts 1 a) (both_in Without ts 1 a)
    → Stands us r (top ts a) (span ts a) (λ c. not (value_in ts a c))
complement_stands ts d us a r s = record {
  within = s.within;
  above = omega (arith, s.above, top-constant ts 1 (omega arith), top-most ts a d);
  below = omega (arith, s.below, span-constant ts 1 (omega arith));
  value = λ c. s.value c ∙ ap (λ x. x && not (value_in ts a c)) (value-constant ts 1 c (omega arith));
}
