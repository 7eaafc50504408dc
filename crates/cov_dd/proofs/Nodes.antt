-- Nodes as a list of entries grows.
use Rattle.std.proofs.Common.{◌≡◌, ◌≢◌, ℕ, zero, suc, ◌+◌, ◌<◌, ◌≤◌, ◌==◌, max, Bool, true, false, cond, List, [], ◌∷◌, ◌++◌, length, Option, Some, None, IfSome, IsNone, is_some, ◌↔◌, true≢false, refl, sym, ap, ◌∙◌, inl, inr, ◌⊎◌, subst, arith, append_assoc}
use Rattle.std.proofs.lemmas.Bool.{eq-eqb, ne_eqb, eqb-true, eqb-false}
use Rattle.cov_base.specs.Choices.{is_on, with_option}
use Rattle.cov_base.specs.declared.limits.TheConstants.{CHOICE_WIDTH}
use Rattle.cov_dd.specs.declared.triple.Triple.{Triple}
use Rattle.cov_dd.specs.Diagrams.{diagram_size, entry_in, top, span, value_in, IsNew, IsDiagram, Extends, IsEntry, Stands}
use Rattle.cov_base.proofs.CallerLemmas.{is_on-other}

pub cond-older : {A : Type 0} (a n : ℕ) (x y : A) → a < n → cond (a == n) x y ≡ y
cond-older a n x y h = ap (λ b. cond b x y) (ne_eqb a n (λ e. omega (arith, h, e)))

pub cond-newest : {A : Type 0} (n : ℕ) (x y : A) → cond (n == n) x y ≡ x
cond-newest n x y = ap (λ b. cond b x y) (eq-eqb n n refl)

-- how two numbers stand
pub data Order (a b : ℕ) : Type 0 where
  below : a < b → Order a b
  level : a ≡ b → Order a b
  above : b < a → Order a b

pub ordered : (a b : ℕ) → Order a b
ordered zero zero = level refl
ordered zero (suc b) = below (omega arith)
ordered (suc a) zero = above (omega arith)
ordered (suc a) (suc b) = elim (ordered a b) [ below h ↦ below (omega (arith, h)) | level h ↦ level (ap suc h) | above h ↦ above (omega (arith, h)) ]

-- a node is the newest one or older
pub compared : (a n : ℕ) → a < suc n → (a ≡ n) ⊎ (a < n)
compared a n h = by (a == n) refl
  where
    by : (b : Bool) → (a == n) ≡ b → (a ≡ n) ⊎ (a < n)
    by true e = inl (eqb-true a n e)
    by false e = let ne : a ≢ n = eqb-false a n e in inr (omega (arith, h, ne))

pub some_nodes : (ts : List Triple) → 1 < diagram_size ts
some_nodes [] = omega arith
some_nodes (t ∷ ts) = omega (arith, some_nodes ts)

pub node_count-append : (more ts : List Triple) → diagram_size (more ++ ts) ≡ length more + diagram_size ts
node_count-append [] ts = omega arith
node_count-append (t ∷ more) ts = omega (arith, node_count-append more ts)

module _ (more ts : List Triple) (a : ℕ) (h : a < diagram_size ts) where
  pub older : a < diagram_size (more ++ ts)
  older = omega (arith, h, node_count-append more ts)

pub top-append : (more ts : List Triple) (a : ℕ) → a < diagram_size ts → top (more ++ ts) a ≡ top ts a
top-append [] ts a h = refl
top-append (t ∷ more) ts a h = cond-older a (diagram_size (more ++ ts)) t.option (top (more ++ ts) a) (older more ts a h) ∙ top-append more ts a h

pub span-append : (more ts : List Triple) (a : ℕ) → a < diagram_size ts → span (more ++ ts) a ≡ span ts a
span-append [] ts a h = refl
span-append (t ∷ more) ts a h = cond-older a (diagram_size (more ++ ts)) _ (span (more ++ ts) a) (older more ts a h) ∙ span-append more ts a h

pub value-append : (more ts : List Triple) (a : ℕ) (c : List Bool) → a < diagram_size ts → value_in (more ++ ts) a c ≡ value_in ts a c
value-append [] ts a c h = refl
value-append (t ∷ more) ts a c h = cond-older a (diagram_size (more ++ ts)) _ (value_in (more ++ ts) a c) (older more ts a h) ∙ value-append more ts a c h

pub extends_by : (more ts us : List Triple) → us ≡ more ++ ts → Extends ts us
extends_by more ts us e = record {
  more = more;
  is = e;
  count = omega (arith, ap diagram_size e, node_count-append more ts);
  least = λ a h. ap (λ vs. top vs a) e ∙ top-append more ts a h;
  most = λ a h. ap (λ vs. span vs a) e ∙ span-append more ts a h;
  value = λ a h c. ap (λ vs. value_in vs a c) e ∙ value-append more ts a c h;
}

pub extends_none : (ts : List Triple) → Extends ts ts
extends_none ts = extends_by [] ts ts refl

-- one growth after another
pub extends_trans : (ts us vs : List Triple) → Extends ts us → Extends us vs → Extends ts vs
extends_trans ts us vs x y = extends_by (y.more ++ x.more) ts vs (y.is ∙ ap (λ l. y.more ++ l) x.is ∙ sym (append_assoc y.more x.more ts))

-- a node that stands keeps standing
pub stands_later : {ts us : List Triple} {r least most : ℕ} {f : List Bool → Bool} → Extends ts us → Stands ts r least most f → Stands us r least most f
stands_later {r = r} e s = record {
  within = omega (arith, s.within, e.count);
  above = omega (arith, s.above, e.least r s.within);
  below = omega (arith, s.below, e.most r s.within);
  value = λ c. e.value r s.within c ∙ s.value c;
}

-- FALSE and TRUE have no option
pub value-constant : (ts : List Triple) (a : ℕ) (c : List Bool) → a < 2 → value_in ts a c ≡ (a == 1)
value-constant [] a c h = refl
value-constant (t ∷ ts) a c h = cond-older a (diagram_size ts) _ (value_in ts a c) (omega (arith, h, some_nodes ts)) ∙ value-constant ts a c h

pub top-constant : (ts : List Triple) (a : ℕ) → a < 2 → top ts a ≡ CHOICE_WIDTH
top-constant [] a h = refl
top-constant (t ∷ ts) a h = cond-older a (diagram_size ts) t.option (top ts a) (omega (arith, h, some_nodes ts)) ∙ top-constant ts a h

pub span-constant : (ts : List Triple) (a : ℕ) → a < 2 → span ts a ≡ 0
span-constant [] a h = refl
span-constant (t ∷ ts) a h = cond-older a (diagram_size ts) _ (span ts a) (omega (arith, h, some_nodes ts)) ∙ span-constant ts a h

pub entry-constant : (ts : List Triple) (a : ℕ) → a < 2 → entry_in ts a ≡ None
entry-constant [] a h = refl
entry-constant (t ∷ ts) a h = cond-older a (diagram_size ts) (Some t) (entry_in ts a) (omega (arith, h, some_nodes ts)) ∙ entry-constant ts a h

-- no option is CHOICE_WIDTH or more
pub top-most : (ts : List Triple) (a : ℕ) → IsDiagram ts → top ts a ≤ CHOICE_WIDTH
top-most [] a d = omega arith
top-most (t ∷ ts) a d = by (a == diagram_size ts) (top-most ts a d.0) (top-most ts t.off d.0)
  where
    by : (b : Bool) → top ts a ≤ CHOICE_WIDTH → top ts t.off ≤ CHOICE_WIDTH → cond b t.option (top ts a) ≤ CHOICE_WIDTH
    by true h child = omega (arith, d.1.off_above, child)
    by false h child = h

-- the newest entry
module _ (ts : List Triple) (t : Triple) (new : IsNew t ts) where
  pub newest_entry : IsEntry (t ∷ ts) (diagram_size ts) t
  newest_entry = record {
    inner = some_nodes ts;
    within = omega arith;
    off_before = new.off_within;
    on_before = new.on_within;
    option = cond-newest (diagram_size ts) t.option (top ts (diagram_size ts));
    off_above = omega (arith, new.off_above, top-append (t ∷ []) ts t.off new.off_within);
    on_above = omega (arith, new.on_above, top-append (t ∷ []) ts t.on new.on_within);
    differ = new.differ;
    value = λ c. cond-newest (diagram_size ts) _ (value_in ts (diagram_size ts) c)
        ∙ (λ j. cond (is_on c t.option) (sym (value-append (t ∷ []) ts t.on c new.on_within) j) (sym (value-append (t ∷ []) ts t.off c new.off_within) j));
    spans = cond-newest (diagram_size ts) _ (span ts (diagram_size ts))
        ∙ (λ j. max (t.option + 1) (max (sym (span-append (t ∷ []) ts t.off new.off_within) j) (sym (span-append (t ∷ []) ts t.on new.on_within) j)));
  }

-- an entry stays one
pub entry_later : (more ts : List Triple) (a : ℕ) (t : Triple) → IsEntry ts a t → IsEntry (more ++ ts) a t
entry_later more ts a t e =
    let off : t.off < diagram_size ts = omega (arith, e.off_before, e.within) in
    let on : t.on < diagram_size ts = omega (arith, e.on_before, e.within) in
    record {
      inner = e.inner;
      within = older more ts a e.within;
      off_before = e.off_before;
      on_before = e.on_before;
      option = top-append more ts a e.within ∙ e.option;
      off_above = omega (arith, e.off_above, top-append more ts t.off off);
      on_above = omega (arith, e.on_above, top-append more ts t.on on);
      differ = e.differ;
      value = λ c. value-append more ts a c e.within ∙ e.value c
          ∙ (λ j. cond (is_on c t.option) (sym (value-append more ts t.on c on) j) (sym (value-append more ts t.off c off) j));
      spans = span-append more ts a e.within ∙ e.spans
          ∙ (λ j. max (t.option + 1) (max (sym (span-append more ts t.off off) j) (sym (span-append more ts t.on on) j)));
    }

-- what is known of each entry
pub entry_facts : (ts : List Triple) → IsDiagram ts → (a : ℕ) (t : Triple) → entry_in ts a ≡ Some t → IsEntry ts a t
entry_facts [] d a t h = absurd (cc)
entry_facts (s ∷ ts) d a t h = by (a == diagram_size ts) refl h (entry_facts ts d.0 a t)
  where
    by : (b : Bool) → (a == diagram_size ts) ≡ b → cond b (Some s) (entry_in ts a) ≡ Some t → (entry_in ts a ≡ Some t → IsEntry ts a t) → IsEntry (s ∷ ts) a t
    by true e is rest =
        let at : diagram_size ts ≡ a = sym (eqb-true a (diagram_size ts) e) in
        let same : s ≡ t = cc in
        subst (λ (p : ℕ × Triple). IsEntry (s ∷ ts) p.0 p.1) (λ j. (at j, same j)) (newest_entry ts s d.1)
    by false e is rest = entry_later (s ∷ []) ts a t (rest is)

-- each node but FALSE and TRUE has an entry
pub has_entry : (ts : List Triple) (a : ℕ) → 1 < a → a < diagram_size ts → (t : Triple) × (entry_in ts a ≡ Some t)
has_entry [] a inner within = absurd (omega (arith, inner, within))
has_entry (t ∷ ts) a inner within = by (a == diagram_size ts) refl (has_entry ts a inner)
  where
    by : (b : Bool) → (a == diagram_size ts) ≡ b → (a < diagram_size ts → (u : Triple) × (entry_in ts a ≡ Some u)) → (u : Triple) × (cond b (Some t) (entry_in ts a) ≡ Some u)
    by true e rest = (t, refl)
    by false e rest = let ne : a ≢ diagram_size ts = eqb-false a (diagram_size ts) e in rest (omega (arith, within, ne))

-- a node whose option is below CHOICE_WIDTH has an entry
pub has_entry_below : (ts : List Triple) (a : ℕ) → top ts a < CHOICE_WIDTH → (t : Triple) × (entry_in ts a ≡ Some t)
has_entry_below [] a h = absurd (omega (arith, h))
has_entry_below (t ∷ ts) a h = by (a == diagram_size ts) h (has_entry_below ts a)
  where
    by : (b : Bool) → cond b t.option (top ts a) < CHOICE_WIDTH → (top ts a < CHOICE_WIDTH → (u : Triple) × (entry_in ts a ≡ Some u)) → (u : Triple) × (cond b (Some t) (entry_in ts a) ≡ Some u)
    by true h rest = (t, refl)
    by false h rest = rest h

-- the value doesn't depend on an option before the node's own
pub independent : (ts : List Triple) → IsDiagram ts → (a o : ℕ) (on : Bool) (c : List Bool) → o < top ts a → value_in ts a (with_option c o on) ≡ value_in ts a c
independent [] d a o on c h = refl
independent (t ∷ ts) d a o on c h = by (a == diagram_size ts) h (independent ts d.0 a o on c) (independent ts d.0 t.on o on c) (independent ts d.0 t.off o on c)
  where
    by : (b : Bool) → o < cond b t.option (top ts a)
        → (o < top ts a → value_in ts a (with_option c o on) ≡ value_in ts a c)
        → (o < top ts t.on → value_in ts t.on (with_option c o on) ≡ value_in ts t.on c)
        → (o < top ts t.off → value_in ts t.off (with_option c o on) ≡ value_in ts t.off c)
        → cond b (cond (is_on (with_option c o on) t.option) (value_in ts t.on (with_option c o on)) (value_in ts t.off (with_option c o on))) (value_in ts a (with_option c o on))
        ≡ cond b (cond (is_on c t.option) (value_in ts t.on c) (value_in ts t.off c)) (value_in ts a c)
    by true h here left right =
        let other : t.option ≢ o = omega (arith, h) in
        λ j. cond (is_on-other c o t.option on other j) (left (omega (arith, h, d.1.on_above)) j) (right (omega (arith, h, d.1.off_above)) j)
    by false h here left right = here h

pub known_entry : (ts : List Triple) (a : ℕ) (r : Option Triple) → IsDiagram ts → r ≡ entry_in ts a → IfSome r (IsEntry ts a)
known_entry ts a None d e = tt
known_entry ts a (Some t) d e = entry_facts ts d a t (sym e)

-- no entry exactly at FALSE and TRUE
pub no_entry : (ts : List Triple) (a : ℕ) (r : Option Triple) → a < diagram_size ts → r ≡ entry_in ts a → IsNone r ↔ (a < 2)
no_entry ts a r within e = (λ none. by (ordered a 2) none, λ inner. ap is_some (e ∙ entry-constant ts a inner))
  where
    inside : 1 < a → IsNone r → a < 2
    inside inner none = let t = has_entry ts a inner within in absurd (true≢false (sym (ap is_some (e ∙ t.1)) ∙ none))

    by : Order a 2 → IsNone r → a < 2
    by (below h) none = h
    by (level h) none = inside (omega (arith, h)) none
    by (above h) none = inside (omega (arith, h)) none

-- the node with FALSE and TRUE as its children
pub literal_stands : (ts us : List Triple) (r option : ℕ)
    → Stands us r option (max (option + 1) (max (span ts 0) (span ts 1))) (λ c. cond (is_on c option) (value_in ts 1 c) (value_in ts 0 c))
    → Stands us r option (option + 1) (λ c. is_on c option)
literal_stands ts us r option s = record {
  within = s.within;
  above = s.above;
  below = omega (arith, s.below, span-constant ts 0 (omega arith), span-constant ts 1 (omega arith));
  value = λ c. s.value c ∙ (λ j. cond (is_on c option) (value-constant ts 1 c (omega arith) j) (value-constant ts 0 c (omega arith) j)) ∙ itself (is_on c option);
}
  where
    itself : (b : Bool) → cond b true false ≡ b
    itself true = refl
    itself false = refl

-- a node with no entry is TRUE or false everywhere
pub value-none : (ts : List Triple) (a : ℕ) (c : List Bool) → entry_in ts a ≡ None → value_in ts a c ≡ (a == 1)
value-none [] a c h = refl
value-none (t ∷ ts) a c h = by (a == diagram_size ts) h (value-none ts a c)
  where
    by : (b : Bool) → cond b (Some t) (entry_in ts a) ≡ None → (entry_in ts a ≡ None → value_in ts a c ≡ (a == 1))
        → cond b (cond (is_on c t.option) (value_in ts t.on c) (value_in ts t.off c)) (value_in ts a c) ≡ (a == 1)
    by true is rest = absurd (cc)
    by false is rest = rest is

pub top-none : (ts : List Triple) (a : ℕ) → entry_in ts a ≡ None → top ts a ≡ CHOICE_WIDTH
top-none [] a h = refl
top-none (t ∷ ts) a h = by (a == diagram_size ts) h (top-none ts a)
  where
    by : (b : Bool) → cond b (Some t) (entry_in ts a) ≡ None → (entry_in ts a ≡ None → top ts a ≡ CHOICE_WIDTH) → cond b t.option (top ts a) ≡ CHOICE_WIDTH
    by true is rest = absurd (cc)
    by false is rest = rest is

-- FALSE and TRUE stand in each diagram
pub constant_stands : (ts : List Triple) (a : ℕ) (b : Bool) → a < 2 → (a == 1) ≡ b → Stands ts a CHOICE_WIDTH 0 (λ _. b)
constant_stands ts a b h is = record {
  within = omega (arith, h, some_nodes ts);
  above = omega (arith, top-constant ts a h);
  below = omega (arith, span-constant ts a h);
  value = λ c. value-constant ts a c h ∙ is;
}
