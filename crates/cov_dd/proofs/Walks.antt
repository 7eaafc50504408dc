-- The first choice on which a node is true.
use Rattle.std.proofs.Common.{◌≡◌, ◌≢◌, ℕ, zero, suc, ◌+◌, ◌<◌, ◌≤◌, ◌==◌, Bool, true, false, cond, List, [], ◌∷◌, ◌++◌, length, replicate, map, Some, None, refl, sym, ap, ◌∙◌, arith, true≢false, append_assoc, length-append}
use Rattle.std.specs.List.{find}
use Rattle.std.proofs.lemmas.Bool.{eq-eqb, ne_eqb, eqb-true, eqb-false}
use Rattle.cov_base.specs.Choices.{all_choices, bits_of, is_on, with_option}
use Rattle.cov_base.specs.declared.limits.TheConstants.{CHOICE_WIDTH}
use Rattle.cov_dd.specs.declared.triple.Triple.{Triple}
use Rattle.cov_dd.specs.Diagrams.{diagram_size, entry_in, top, span, value_in, IsDiagram, IsEntry}
use Rattle.cov_base.proofs.CallerLemmas.{is_on-middle, length-with_option, with_option-middle}
use Rattle.cov_dd.proofs.Nodes.{Order, below, level, above, ordered, cond-older, value-constant, top-constant, entry-constant, entry_facts, has_entry}

-- the choice c with the options on that a walk through the nodes sets, where it goes off unless that is FALSE
abbrev pub walked : List Triple → ℕ → List Bool → List Bool
walked [] a c = c
walked (t ∷ ts) a c = cond (a == diagram_size ts) (cond (t.off == 0) (walked ts t.on (with_option c t.option true)) (walked ts t.off c)) (walked ts a c)

pub walked-none : (ts : List Triple) (a : ℕ) (c : List Bool) → entry_in ts a ≡ None → walked ts a c ≡ c
walked-none [] a c h = refl
walked-none (t ∷ ts) a c h = by (a == diagram_size ts) h (walked-none ts a c)
  where
    by : (b : Bool) → cond b (Some t) (entry_in ts a) ≡ None → (entry_in ts a ≡ None → walked ts a c ≡ c)
        → cond b (cond (t.off == 0) (walked ts t.on (with_option c t.option true)) (walked ts t.off c)) (walked ts a c) ≡ c
    by true is rest = absurd (cc)
    by false is rest = rest is

-- one step of the walk
pub walked-entry : (ts : List Triple) → IsDiagram ts → (a : ℕ) (t : Triple) (c : List Bool) → entry_in ts a ≡ Some t
    → walked ts a c ≡ cond (t.off == 0) (walked ts t.on (with_option c t.option true)) (walked ts t.off c)
walked-entry [] d a t c h = absurd (cc)
walked-entry (s ∷ ts) d a t c h = by (a == diagram_size ts) refl h (λ is. (entry_facts ts d.0 a t is, walked-entry ts d.0 a t c is))
  where
    older : (n : ℕ) (v : List Bool) → n < diagram_size ts → walked (s ∷ ts) n v ≡ walked ts n v
    older n v h = cond-older n (diagram_size ts) _ (walked ts n v) h

    by : (b : Bool) → (a == diagram_size ts) ≡ b → cond b (Some s) (entry_in ts a) ≡ Some t
        → (entry_in ts a ≡ Some t → IsEntry ts a t × (walked ts a c ≡ cond (t.off == 0) (walked ts t.on (with_option c t.option true)) (walked ts t.off c)))
        → cond b (cond (s.off == 0) (walked ts s.on (with_option c s.option true)) (walked ts s.off c)) (walked ts a c)
        ≡ cond (t.off == 0) (walked (s ∷ ts) t.on (with_option c t.option true)) (walked (s ∷ ts) t.off c)
    by true e is rest =
        let same : s ≡ t = cc in
        (λ j. cond (s.off == 0) (sym (older s.on (with_option c s.option true) d.1.on_within) j) (sym (older s.off c d.1.off_within) j))
        ∙ ap (λ (u : Triple). cond (u.off == 0) (walked (s ∷ ts) u.on (with_option c u.option true)) (walked (s ∷ ts) u.off c)) same
    by false e is rest =
        let f = rest is in
        let off : t.off < diagram_size ts = omega (arith, f.0.off_before, f.0.within) in
        let on : t.on < diagram_size ts = omega (arith, f.0.on_before, f.0.within) in
        f.1 ∙ (λ j. cond (t.off == 0) (sym (older t.on (with_option c t.option true) on) j) (sym (older t.off c off) j))

-- searching two lists, and lists of longer choices
find_first : {X : Type 0} (p : X → Bool) (xs ys : List X) (x : X) → find p xs ≡ Some x → find p (xs ++ ys) ≡ Some x
find_first p [] ys x h = absurd (cc)
find_first p (z ∷ xs) ys x h = by (p z) h (find_first p xs ys x)
  where
    by : (b : Bool) → cond b (Some z) (find p xs) ≡ Some x → (find p xs ≡ Some x → find p (xs ++ ys) ≡ Some x) → cond b (Some z) (find p (xs ++ ys)) ≡ Some x
    by true is rest = is
    by false is rest = rest is

find_past : {X : Type 0} (p : X → Bool) (xs ys : List X) → find p xs ≡ None → find p (xs ++ ys) ≡ find p ys
find_past p [] ys h = refl
find_past p (z ∷ xs) ys h = by (p z) h (find_past p xs ys)
  where
    by : (b : Bool) → cond b (Some z) (find p xs) ≡ None → (find p xs ≡ None → find p (xs ++ ys) ≡ find p ys) → cond b (Some z) (find p (xs ++ ys)) ≡ find p ys
    by true is rest = absurd (cc)
    by false is rest = rest is

find_longer : (p q : List Bool → Bool) (b : Bool) (cs : List (List Bool)) (c : List Bool) → ((x : List Bool) → p (b ∷ x) ≡ q x) → find q cs ≡ Some c → find p (map (λ x. b ∷ x) cs) ≡ Some (b ∷ c)
find_longer p q b [] c same h = absurd (cc)
find_longer p q b (x ∷ cs) c same h = by (q x) (p (b ∷ x)) (same x) h (find_longer p q b cs c same)
  where
    by : (r s : Bool) → s ≡ r → cond r (Some x) (find q cs) ≡ Some c → (find q cs ≡ Some c → find p (map (λ x. b ∷ x) cs) ≡ Some (b ∷ c)) → cond s (Some (b ∷ x)) (find p (map (λ x. b ∷ x) cs)) ≡ Some (b ∷ c)
    by true true e is rest = let at : x ≡ c = cc in ap (λ y. Some (b ∷ y)) at
    by true false e is rest = absurd (true≢false (sym e))
    by false true e is rest = absurd (true≢false e)
    by false false e is rest = rest is

find_nowhere : (p : List Bool → Bool) (b : Bool) (cs : List (List Bool)) → ((x : List Bool) → p (b ∷ x) ≡ false) → find p (map (λ x. b ∷ x) cs) ≡ None
find_nowhere p b [] h = refl
find_nowhere p b (x ∷ cs) h = ap (λ r. cond r (Some (b ∷ x)) (find p (map (λ y. b ∷ y) cs))) (h x) ∙ find_nowhere p b cs h

-- the first choice with the options p at its start on which a is true, where a has only options from there on
record First (ts : List Triple) (a m : ℕ) (p : List Bool) : Type 0 where
  rest : List Bool
  found : find (λ x. value_in ts a (p ++ x)) (all_choices m) ≡ Some rest
  whole : p ++ rest ≡ walked ts a (p ++ replicate m false)

module _ (ts : List Triple) (d : IsDiagram ts) (k : ℕ) (p : List Bool) where
  snoc : (b : Bool) (x : List Bool) → (p ++ b ∷ []) ++ x ≡ p ++ (b ∷ x)
  snoc b x = append_assoc p (b ∷ []) x

  longer : (b : Bool) (n : ℕ) (x : List Bool) → value_in ts n ((p ++ b ∷ []) ++ x) ≡ value_in ts n (p ++ (b ∷ x))
  longer b n x = ap (value_in ts n) (snoc b x)

  -- the node doesn't read the next option
  passed : (a : ℕ) → First ts a k (p ++ false ∷ []) → First ts a (suc k) p
  passed a f = record {
    rest = false ∷ f.rest;
    found = find_first (λ x. value_in ts a (p ++ x)) (map (λ x. false ∷ x) (all_choices k)) (map (λ x. true ∷ x) (all_choices k)) (false ∷ f.rest)
        (find_longer (λ x. value_in ts a (p ++ x)) (λ x. value_in ts a ((p ++ false ∷ []) ++ x)) false (all_choices k) f.rest (λ x. sym (longer false a x)) f.found);
    whole = sym (snoc false f.rest) ∙ f.whole ∙ ap (walked ts a) (snoc false (replicate k false));
  }

  module _ (a : ℕ) (t : Triple) (is : entry_in ts a ≡ Some t) (e : IsEntry ts a t) (at : t.option ≡ length p) where
    reads : (b : Bool) (x : List Bool) → value_in ts a (p ++ (b ∷ x)) ≡ cond b (value_in ts t.on (p ++ (b ∷ x))) (value_in ts t.off (p ++ (b ∷ x)))
    reads b x = e.value (p ++ (b ∷ x))
        ∙ ap (λ r. cond r (value_in ts t.on (p ++ (b ∷ x))) (value_in ts t.off (p ++ (b ∷ x)))) (ap (is_on (p ++ (b ∷ x))) at ∙ is_on-middle p x b)

    off_taken : t.off ≢ 0 → First ts t.off k (p ++ false ∷ []) → First ts a (suc k) p
    off_taken ne f = record {
      rest = false ∷ f.rest;
      found = find_first (λ x. value_in ts a (p ++ x)) (map (λ x. false ∷ x) (all_choices k)) (map (λ x. true ∷ x) (all_choices k)) (false ∷ f.rest)
          (find_longer (λ x. value_in ts a (p ++ x)) (λ x. value_in ts t.off ((p ++ false ∷ []) ++ x)) false (all_choices k) f.rest (λ x. reads false x ∙ sym (longer false t.off x)) f.found);
      whole = sym (snoc false f.rest) ∙ f.whole ∙ ap (walked ts t.off) (snoc false (replicate k false))
          ∙ sym (walked-entry ts d a t (p ++ (false ∷ replicate k false)) is
          ∙ ap (λ b. cond b (walked ts t.on (with_option (p ++ (false ∷ replicate k false)) t.option true)) (walked ts t.off (p ++ (false ∷ replicate k false)))) (ne_eqb t.off 0 ne));
    }

    on_taken : t.off ≡ 0 → First ts t.on k (p ++ true ∷ []) → First ts a (suc k) p
    on_taken zero_off f = record {
      rest = true ∷ f.rest;
      found = find_past (λ x. value_in ts a (p ++ x)) (map (λ x. false ∷ x) (all_choices k)) (map (λ x. true ∷ x) (all_choices k))
          (find_nowhere (λ x. value_in ts a (p ++ x)) false (all_choices k)
          (λ x. reads false x ∙ ap (λ n. value_in ts n (p ++ (false ∷ x))) zero_off ∙ value-constant ts 0 (p ++ (false ∷ x)) (omega arith)))
          ∙ find_longer (λ x. value_in ts a (p ++ x)) (λ x. value_in ts t.on ((p ++ true ∷ []) ++ x)) true (all_choices k) f.rest (λ x. reads true x ∙ sym (longer true t.on x)) f.found;
      whole = sym (snoc true f.rest) ∙ f.whole ∙ ap (walked ts t.on) (snoc true (replicate k false))
          ∙ sym (walked-entry ts d a t (p ++ (false ∷ replicate k false)) is
          ∙ ap (λ b. cond b (walked ts t.on (with_option (p ++ (false ∷ replicate k false)) t.option true)) (walked ts t.off (p ++ (false ∷ replicate k false)))) (eq-eqb t.off 0 zero_off)
          ∙ ap (walked ts t.on) (ap (λ o. with_option (p ++ (false ∷ replicate k false)) o true) at ∙ with_option-middle p (replicate k false) false true));
    }

module _ (ts : List Triple) (d : IsDiagram ts) where
  done : (a : ℕ) (p : List Bool) → a ≡ 1 → First ts a 0 p
  done a p at = record {
    rest = [];
    found = ap (λ r. cond r (Some []) None) (ap (λ n. value_in ts n (p ++ [])) at ∙ value-constant ts 1 (p ++ []) (omega arith));
    whole = sym (walked-none ts a (p ++ []) (ap (entry_in ts) at ∙ entry-constant ts 1 (omega arith)));
  }

  -- a node with an option at least at p's length isn't spanned by it
  only_true : (a : ℕ) (p : List Bool) → a < diagram_size ts → a ≢ 0 → length p ≤ top ts a → span ts a ≤ length p + 0 → a ≡ 1
  only_true a p within ne after spans = by (ordered a 1)
    where
      more : 1 < a → a ≡ 1
      more inner =
          let t = has_entry ts a inner within in
          let e : IsEntry ts a t.0 = entry_facts ts d a t.0 t.1 in
          absurd (omega (arith, after, spans, e.option, e.spans))

      by : Order a 1 → a ≡ 1
      by (below h) = absurd (ne (omega (arith, h)))
      by (level h) = h
      by (above h) = more h

  -- one more option
  further : (k a : ℕ) (p : List Bool) → a < diagram_size ts → length p ≤ top ts a → length p < CHOICE_WIDTH
      → (length p < top ts a → First ts a k (p ++ false ∷ []))
      → ((t : Triple) → IsEntry ts a t → t.option ≡ length p → t.off ≢ 0 → First ts t.off k (p ++ false ∷ []))
      → ((t : Triple) → IsEntry ts a t → t.option ≡ length p → t.on ≢ 0 → First ts t.on k (p ++ true ∷ []))
      → First ts a (suc k) p
  further k a p within after small here off on = by (ordered (length p) (top ts a))
    where
      at_entry : (t : Triple) → entry_in ts a ≡ Some t → IsEntry ts a t → t.option ≡ length p → (b : Bool) → (t.off == 0) ≡ b → First ts a (suc k) p
      at_entry t is e at true z =
          let nothing_off : t.off ≡ 0 = eqb-true t.off 0 z in
          on_taken ts d k p a t is e at nothing_off (on t e at (λ nothing_on. e.differ (nothing_off ∙ sym nothing_on)))
      at_entry t is e at false z =
          let ne : t.off ≢ 0 = eqb-false t.off 0 z in
          off_taken ts d k p a t is e at ne (off t e at ne)

      level_at : length p ≡ top ts a → First ts a (suc k) p
      level_at h =
          let inner : 1 < a = elim (ordered a 2) as (λ _. 1 < a) [
            | below c ↦ absurd (omega (arith, h, small, top-constant ts a c))
            | level c ↦ omega (arith, c)
            | above c ↦ omega (arith, c)
          ] in
          let t = has_entry ts a inner within in
          let e : IsEntry ts a t.0 = entry_facts ts d a t.0 t.1 in
          at_entry t.0 t.1 e (sym e.option ∙ sym h) (t.0.off == 0) refl

      by : Order (length p) (top ts a) → First ts a (suc k) p
      by (below h) = passed ts d k p a (here h)
      by (level h) = level_at h
      by (above h) = absurd (omega (arith, h, after))

  first : (m a : ℕ) (p : List Bool) → a < diagram_size ts → a ≢ 0 → length p ≤ top ts a → span ts a ≤ length p + m → length p + m ≤ CHOICE_WIDTH → First ts a m p
  first zero a p within ne after spans most = done a p (only_true a p within ne after spans)
  first (suc k) a p within ne after spans most =
      let long_off : length (p ++ false ∷ []) ≡ length p + 1 = length-append p (false ∷ []) in
      let long_on : length (p ++ true ∷ []) ≡ length p + 1 = length-append p (true ∷ []) in
      further k a p within after (omega (arith, most))
      (λ h. first k a (p ++ false ∷ []) within ne (omega (arith, h, long_off)) (omega (arith, spans, long_off)) (omega (arith, most, long_off)))
      (λ t e at nz. first k t.off (p ++ false ∷ []) (omega (arith, within, e.off_before)) nz (omega (arith, e.off_above, at, long_off)) (omega (arith, spans, e.spans, long_off)) (omega (arith, most, long_off)))
      (λ t e at nz. first k t.on (p ++ true ∷ []) (omega (arith, within, e.on_before)) nz (omega (arith, e.on_above, at, long_on)) (omega (arith, spans, e.spans, long_on)) (omega (arith, most, long_on)))

pub first_choice : (ts : List Triple) → IsDiagram ts → (a n : ℕ) → a < diagram_size ts → a ≢ 0 → span ts a ≤ n → n ≤ CHOICE_WIDTH
    → find (value_in ts a) (all_choices n) ≡ Some (walked ts a (replicate n false))
first_choice ts d a n within ne spans most =
    let f : First ts a n [] = first ts d n a [] within ne (omega arith) (omega (arith, spans)) (omega (arith, most)) in
    f.found ∙ ap Some f.whole

pub bits_of-zero : (n : ℕ) → bits_of n 0 ≡ replicate n false
bits_of-zero zero = refl
bits_of-zero (suc n) = ap (λ c. false ∷ c) (bits_of-zero n)

-- a step of the loop walks on
module _ (ts : List Triple) (a : ℕ) (t : Triple) (c : List Bool) where
  pub walked-step : IsDiagram ts → entry_in ts a ≡ Some t
      → walked ts (cond (t.off == 0) t.on t.off) (cond (t.off == 0) (with_option c t.option true) c) ≡ walked ts a c
  walked-step d is = by (t.off == 0) ∙ sym (walked-entry ts d a t c is)
    where
      by : (b : Bool) → walked ts (cond b t.on t.off) (cond b (with_option c t.option true) c) ≡ cond b (walked ts t.on (with_option c t.option true)) (walked ts t.off c)
      by true = refl
      by false = refl

  pub length-step : (b : Bool) → length (cond b (with_option c t.option true) c) ≡ length c
  length-step true = length-with_option c t.option true
  length-step false = refl

  pub span-step : (b : Bool) → IsEntry ts a t → span ts (cond b t.on t.off) ≤ span ts a
  span-step true e = omega (arith, e.spans)
  span-step false e = omega (arith, e.spans)

-- FALSE is true on no choice
pub find-false : (ts : List Triple) (cs : List (List Bool)) → find (value_in ts 0) cs ≡ None
find-false ts [] = refl
find-false ts (c ∷ cs) = ap (λ b. cond b (Some c) (find (value_in ts 0) cs)) (value-constant ts 0 c (omega arith)) ∙ find-false ts cs
