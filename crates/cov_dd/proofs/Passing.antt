-- A diagram without the nodes that don't pass a test.
use Rattle.std.proofs.Common.{◌≡◌, ◌⊎◌, inl, inr, ℕ, zero, suc, ◌+◌, ◌<◌, ◌≤◌, ◌==◌, ◌||◌, max, Bool, true, false, cond, List, [], ◌∷◌, ◌++◌, length, slice_index, Some, None, refl, sym, ap, ◌∙◌, subst, arith, length-append}
use Rattle.std.proofs.lemmas.Bool.{eq-eqb, ne_eqb, eqb-true, eqb-false}
use Rattle.std.proofs.lemmas.List.{get_or_push, get_or_append_left}
use Rattle.cov_base.specs.Choices.{is_on}
use Rattle.cov_dd.specs.declared.triple.Triple.{Triple}
use Rattle.cov_dd.specs.Diagrams.{diagram_size, entry_in, top, span, value_in, IsNew, IsDiagram}
use Rattle.cov_dd.specs.Reached.{count_below, reaches}
use Rattle.cov_dd.specs.Marks.{IsClosed, passing, numbers_below, kept_of}
use Rattle.cov_dd.specs.Sweeps.{IsRenumbered}
use Rattle.cov_dd.proofs.Nodes.{below, level, above, ordered, compared, cond-newest, cond-older}

-- a count goes up by at most one at each number
pub count-most : (p : ℕ → Bool) (n : ℕ) → count_below p n ≤ n
count-most p zero = omega arith
count-most p (suc n) = by (p n) (count-most p n)
  where
    by : (b : Bool) → count_below p n ≤ n → cond b (suc (count_below p n)) (count_below p n) ≤ suc n
    by true h = omega (arith, h)
    by false h = omega (arith, h)

-- and never falls
count-rises : (p : ℕ → Bool) (a n : ℕ) → a ≤ n → count_below p a ≤ count_below p n
count-rises p a zero h = let at : a ≡ 0 = omega (arith, h) in omega (arith, ap (count_below p) at)
count-rises p a (suc n) h = by (compared a (suc n) (omega (arith, h))) (count-rises p a n)
  where
    step : (b : Bool) → count_below p a ≤ count_below p n → count_below p a ≤ cond b (suc (count_below p n)) (count_below p n)
    step true h = omega (arith, h)
    step false h = h

    by : (a ≡ suc n) ⊎ (a < suc n) → (a ≤ n → count_below p a ≤ count_below p n) → count_below p a ≤ count_below p (suc n)
    by (inl at) rest = let same : count_below p a ≡ count_below p (suc n) = ap (count_below p) at in omega (arith, same)
    by (inr lt) rest = step (p n) (rest (omega (arith, lt)))

count-next : (p : ℕ → Bool) (a : ℕ) → p a ≡ true → count_below p (suc a) ≡ suc (count_below p a)
count-next p a h = ap (λ b. cond b (suc (count_below p a)) (count_below p a)) h

pub count-less : (p : ℕ → Bool) (a n : ℕ) → p a ≡ true → a < n → count_below p a < count_below p n
count-less p a n h lt = let next = count-next p a h in let rises = count-rises p (suc a) n (omega (arith, lt)) in omega (arith, next, rises)

-- numbers that pass have different counts
pub count-same : (p : ℕ → Bool) (a b : ℕ) → p a ≡ true → p b ≡ true → count_below p a ≡ count_below p b → a ≡ b
count-same p a b ha hb same = elim (ordered a b) [
  | below lt ↦ absurd (let less = count-less p a b ha lt in omega (arith, less, same))
  | level at ↦ at
  | above lt ↦ absurd (let less = count-less p b a hb lt in omega (arith, less, same))
]

pub count-eqb : (p : ℕ → Bool) (a b : ℕ) → p a ≡ true → p b ≡ true → (count_below p a == count_below p b) ≡ (a == b)
count-eqb p a b ha hb = by (a == b) refl
  where
    by : (e : Bool) → (a == b) ≡ e → (count_below p a == count_below p b) ≡ e
    by true e = eq-eqb (count_below p a) (count_below p b) (ap (count_below p) (eqb-true a b e))
    by false e = ne_eqb (count_below p a) (count_below p b) (λ same. eqb-false a b e (count-same p a b ha hb same))

-- each number below a count is that of a number that passes
pub counted : (p : ℕ → Bool) (n m : ℕ) → m < count_below p n → (a : ℕ) × (a < n) × (p a ≡ true) × (count_below p a ≡ m)
counted p zero m h = absurd (omega (arith, h))
counted p (suc n) m h = by (p n) refl h (counted p n m)
  where
    wider : (a : ℕ) × (a < n) × (p a ≡ true) × (count_below p a ≡ m) → (a : ℕ) × (a < suc n) × (p a ≡ true) × (count_below p a ≡ m)
    wider r = (r.0, omega (arith, r.1), r.2, r.3)

    by : (b : Bool) → p n ≡ b → m < cond b (suc (count_below p n)) (count_below p n)
        → (m < count_below p n → (a : ℕ) × (a < n) × (p a ≡ true) × (count_below p a ≡ m))
        → (a : ℕ) × (a < suc n) × (p a ≡ true) × (count_below p a ≡ m)
    by true e k rest = elim (compared m (count_below p n) k) [
      | inl at ↦ (n, omega arith, e, sym at)
      | inr lt ↦ wider (rest lt)
    ]
    by false e k rest = wider (rest k)

-- the diagram's end from which entries were put before it
pub diagram-tail : (more ts : List Triple) → IsDiagram (more ++ ts) → IsDiagram ts
diagram-tail [] ts d = d
diagram-tail (t ∷ more) ts d = diagram-tail more ts d.0

pub closed-tail : (p : ℕ → Bool) (more ts : List Triple) → IsClosed p (more ++ ts) → IsClosed p ts
closed-tail p [] ts c = c
closed-tail p (t ∷ more) ts c = closed-tail p more ts c.0

-- what closed says of each entry
pub closed-at : (p : ℕ → Bool) (ts : List Triple) → IsClosed p ts → (a : ℕ) (t : Triple) → entry_in ts a ≡ Some t → p a ≡ true → (p t.off ≡ true) × (p t.on ≡ true)
closed-at p [] c a t h passes = absurd (cc)
closed-at p (s ∷ ts) c a t h passes = by (a == diagram_size ts) refl h (closed-at p ts c.0 a t)
  where
    by : (b : Bool) → (a == diagram_size ts) ≡ b → cond b (Some s) (entry_in ts a) ≡ Some t
        → (entry_in ts a ≡ Some t → p a ≡ true → (p t.off ≡ true) × (p t.on ≡ true)) → (p t.off ≡ true) × (p t.on ≡ true)
    by true e is rest =
        let same : s ≡ t = cc in
        subst (λ (u : Triple). (p u.off ≡ true) × (p u.on ≡ true)) same (c.1 (ap p (sym (eqb-true a (diagram_size ts) e)) ∙ passes))
    by false e is rest = rest is passes

-- FALSE and TRUE pass
module _ (p : ℕ → Bool) (constants : (n : ℕ) → n < 2 → p n ≡ true) where
  count-constant : (a : ℕ) → a < 2 → count_below p a ≡ a
  count-constant zero h = refl
  count-constant (suc zero) h = count-next p zero (constants zero (omega arith))
  count-constant (suc (suc a)) h = absurd (omega (arith, h))

  count-two : count_below p 2 ≡ 2
  count-two = count-next p 1 (constants 1 (omega arith)) ∙ ap suc (count-constant 1 (omega arith))

  abbrev pub image : Triple → Triple
  image t = record { option = t.option; off = count_below p t.off; on = count_below p t.on }

  pub size-passing : (ts : List Triple) → diagram_size (passing p ts) ≡ count_below p (diagram_size ts)
  size-passing [] = sym count-two
  size-passing (t ∷ ts) = by (p (diagram_size ts)) (size-passing ts)
    where
      by : (b : Bool) → diagram_size (passing p ts) ≡ count_below p (diagram_size ts)
          → diagram_size (cond b (image t ∷ passing p ts) (passing p ts)) ≡ cond b (suc (count_below p (diagram_size ts))) (count_below p (diagram_size ts))
      by true h = ap suc h
      by false h = h

  -- what a recursion over the entries gives of a node is kept
  module _ {A : Type 0} (f f' : List Triple → ℕ → A) (g g' : ℕ → ℕ → A → A → A)
      (none : (a : ℕ) → a < 2 → f' [] (count_below p a) ≡ f [] a)
      (each : (a o : ℕ) (x y : A) → p a ≡ true → g' (count_below p a) o x y ≡ g a o x y)
      (next : (t : Triple) (ts : List Triple) (a : ℕ) → f (t ∷ ts) a ≡ cond (a == diagram_size ts) (g a t.option (f ts t.off) (f ts t.on)) (f ts a))
      (next' : (t : Triple) (ts : List Triple) (a : ℕ) → f' (t ∷ ts) a ≡ cond (a == diagram_size ts) (g' a t.option (f' ts t.off) (f' ts t.on)) (f' ts a)) where
    kept-as : (ts : List Triple) → IsDiagram ts → IsClosed p ts → (a : ℕ) → a < diagram_size ts → p a ≡ true → f' (passing p ts) (count_below p a) ≡ f ts a
    kept-as [] d c a h passes = none a h
    kept-as (t ∷ ts) d c a h passes = by (compared a (diagram_size ts) h) (kept-as ts d.0 c.0)
      where
        size : diagram_size (passing p ts) ≡ count_below p (diagram_size ts)
        size = size-passing ts

        -- the newest entry passes
        newest : p (diagram_size ts) ≡ true → ((b : ℕ) → b < diagram_size ts → p b ≡ true → f' (passing p ts) (count_below p b) ≡ f ts b)
            → f' (passing p (t ∷ ts)) (count_below p (diagram_size ts)) ≡ f (t ∷ ts) (diagram_size ts)
        newest here rest =
            ap (λ b. f' (cond b (image t ∷ passing p ts) (passing p ts)) (count_below p (diagram_size ts))) here
            ∙ ap (λ n. f' (image t ∷ passing p ts) n) (sym size)
            ∙ next' (image t) (passing p ts) (diagram_size (passing p ts))
            ∙ cond-newest (diagram_size (passing p ts)) _ _
            ∙ ap (λ n. g' n t.option (f' (passing p ts) (count_below p t.off)) (f' (passing p ts) (count_below p t.on))) size
            ∙ each (diagram_size ts) t.option _ _ here
            ∙ (λ j. g (diagram_size ts) t.option (rest t.off d.1.off_within (c.1 here).0 j) (rest t.on d.1.on_within (c.1 here).1 j))
            ∙ sym (next t ts (diagram_size ts) ∙ cond-newest (diagram_size ts) _ _)

        -- it is older, and the newest entry may pass or not
        older : (b : Bool) → a < diagram_size ts → f' (passing p ts) (count_below p a) ≡ f ts a → f' (cond b (image t ∷ passing p ts) (passing p ts)) (count_below p a) ≡ f ts a
        older true lt rest =
            let less = count-less p a (diagram_size ts) passes lt in
            next' (image t) (passing p ts) (count_below p a)
            ∙ cond-older (count_below p a) (diagram_size (passing p ts)) _ _ (omega (arith, less, size))
            ∙ rest
        older false lt rest = rest

        by : (a ≡ diagram_size ts) ⊎ (a < diagram_size ts) → ((b : ℕ) → b < diagram_size ts → p b ≡ true → f' (passing p ts) (count_below p b) ≡ f ts b)
            → f' (passing p (t ∷ ts)) (count_below p a) ≡ f (t ∷ ts) a
        by (inl at) rest = ap (λ n. f' (passing p (t ∷ ts)) (count_below p n)) at ∙ newest (ap p (sym at) ∙ passes) rest ∙ ap (f (t ∷ ts)) (sym at)
        by (inr lt) rest = older (p (diagram_size ts)) lt (rest a lt passes) ∙ sym (next t ts a ∙ cond-older a (diagram_size ts) _ _ lt)

  module _ (ts : List Triple) (d : IsDiagram ts) (c : IsClosed p ts) (a : ℕ) (within : a < diagram_size ts) (passes : p a ≡ true) where
    pub top-passing : top (passing p ts) (count_below p a) ≡ top ts a
    top-passing = kept-as top top (λ b o x y. o) (λ b o x y. o) (λ b h. ap (top []) (count-constant b h)) (λ b o x y h. refl) (λ t us b. refl) (λ t us b. refl) ts d c a within passes

    pub span-passing : span (passing p ts) (count_below p a) ≡ span ts a
    span-passing =
        kept-as span span (λ b o x y. max (o + 1) (max x y)) (λ b o x y. max (o + 1) (max x y)) (λ b h. ap (span []) (count-constant b h)) (λ b o x y h. refl)
        (λ t us b. refl) (λ t us b. refl) ts d c a within passes

    pub value-passing : (choice : List Bool) → value_in (passing p ts) (count_below p a) choice ≡ value_in ts a choice
    value-passing choice =
        kept-as (λ us b. value_in us b choice) (λ us b. value_in us b choice) (λ b o x y. cond (is_on choice o) y x) (λ b o x y. cond (is_on choice o) y x)
        (λ b h. ap (λ n. value_in [] n choice) (count-constant b h)) (λ b o x y h. refl)
        (λ t us b. refl) (λ t us b. refl) ts d c a within passes

    pub reaches-passing : (n : ℕ) → p n ≡ true → reaches (passing p ts) (count_below p a) (count_below p n) ≡ reaches ts a n
    reaches-passing n there =
        kept-as (λ us b. reaches us b n) (λ us b. reaches us b (count_below p n)) (λ b o x y. b == n || (x || y)) (λ b o x y. b == count_below p n || (x || y))
        (λ b h. count-eqb p b n (constants b h) there) (λ b o x y h. ap (λ e. e || (x || y)) (count-eqb p b n h there))
        (λ t us b. refl) (λ t us b. refl) ts d c a within passes

    pub within-passing : count_below p a < diagram_size (passing p ts)
    within-passing = let less = count-less p a (diagram_size ts) passes within in omega (arith, less, size-passing ts)

    pub renumbered_node : IsRenumbered ts (passing p ts) a (count_below p a)
    renumbered_node = record { within = within-passing; least = top-passing; most = span-passing; value = value-passing }

  -- each entry comes from one that passes
  entry-passing : (ts : List Triple) (x : ℕ) (u : Triple) → entry_in (passing p ts) x ≡ Some u
      → (a : ℕ) × (t : Triple) × (entry_in ts a ≡ Some t) × (p a ≡ true) × (u ≡ image t) × (a < diagram_size ts)
  entry-passing [] x u h = absurd (cc)
  entry-passing (t ∷ ts) x u h = by (p (diagram_size ts)) refl h (entry-passing ts x u)
    where
      later : (a : ℕ) × (s : Triple) × (entry_in ts a ≡ Some s) × (p a ≡ true) × (u ≡ image s) × (a < diagram_size ts)
          → (a : ℕ) × (s : Triple) × (entry_in (t ∷ ts) a ≡ Some s) × (p a ≡ true) × (u ≡ image s) × (a < suc (diagram_size ts))
      later r = (r.0, r.1, cond-older r.0 (diagram_size ts) (Some t) (entry_in ts r.0) r.5 ∙ r.2, r.3, r.4, omega (arith, r.5))

      here : (b : Bool) → p (diagram_size ts) ≡ true → cond b (Some (image t)) (entry_in (passing p ts) x) ≡ Some u
          → (entry_in (passing p ts) x ≡ Some u → (a : ℕ) × (s : Triple) × (entry_in ts a ≡ Some s) × (p a ≡ true) × (u ≡ image s) × (a < diagram_size ts))
          → (a : ℕ) × (s : Triple) × (entry_in (t ∷ ts) a ≡ Some s) × (p a ≡ true) × (u ≡ image s) × (a < suc (diagram_size ts))
      here true passes is rest = let same : image t ≡ u = cc in (diagram_size ts, t, cond-newest (diagram_size ts) (Some t) (entry_in ts (diagram_size ts)), passes, sym same, omega arith)
      here false passes is rest = later (rest is)

      by : (b : Bool) → p (diagram_size ts) ≡ b → entry_in (cond b (image t ∷ passing p ts) (passing p ts)) x ≡ Some u
          → (entry_in (passing p ts) x ≡ Some u → (a : ℕ) × (s : Triple) × (entry_in ts a ≡ Some s) × (p a ≡ true) × (u ≡ image s) × (a < diagram_size ts))
          → (a : ℕ) × (s : Triple) × (entry_in (t ∷ ts) a ≡ Some s) × (p a ≡ true) × (u ≡ image s) × (a < suc (diagram_size ts))
      by true e is rest = here (x == diagram_size (passing p ts)) e is rest
      by false e is rest = later (rest is)

  -- the newest entry may stand above the others that pass
  pub new-passing : (t : Triple) (ts : List Triple) → IsDiagram ts → IsClosed p ts → IsNew t ts → p t.off ≡ true → p t.on ≡ true → IsNew (image t) (passing p ts)
  new-passing t ts d c new off on = record {
    off_within = within-passing ts d c t.off new.off_within off;
    on_within = within-passing ts d c t.on new.on_within on;
    off_above = let same = top-passing ts d c t.off new.off_within off in omega (arith, new.off_above, same);
    on_above = let same = top-passing ts d c t.on new.on_within on in omega (arith, new.on_above, same);
    differ = λ same. new.differ (count-same p t.off t.on off on same);
    absent = λ x there.
        let r = entry-passing ts x (image t) there in
        let children = closed-at p ts c r.0 r.1 r.2 r.3 in
        let option : t.option ≡ r.1.option = ap (λ (u : Triple). u.option) r.4 in
        let off_is : t.off ≡ r.1.off = count-same p t.off r.1.off off children.0 (ap (λ (u : Triple). u.off) r.4) in
        let on_is : t.on ≡ r.1.on = count-same p t.on r.1.on on children.1 (ap (λ (u : Triple). u.on) r.4) in
        let same : r.1 ≡ t = λ j. record { option = sym option j; off = sym off_is j; on = sym on_is j } in
        new.absent r.0 (r.2 ∙ ap Some same);
  }

  pub diagram-passing : (ts : List Triple) → IsDiagram ts → IsClosed p ts → IsDiagram (passing p ts)
  diagram-passing [] d c = tt
  diagram-passing (t ∷ ts) d c = by (p (diagram_size ts)) refl (diagram-passing ts d.0 c.0)
    where
      by : (b : Bool) → p (diagram_size ts) ≡ b → IsDiagram (passing p ts) → IsDiagram (cond b (image t ∷ passing p ts) (passing p ts))
      by true e rest = (rest, new-passing t ts d.0 c.0 d.1 (c.1 e).0 (c.1 e).1)
      by false e rest = rest

  numbers-first : numbers_below p 2 ≡ 0 ∷ 1 ∷ []
  numbers-first = ap (λ n. 0 ∷ n ∷ []) (count-constant 1 (omega arith))

  -- nothing was met yet
  pub kept-none : kept_of p [] ≡ record { entries = []; numbers = 0 ∷ 1 ∷ [] }
  kept-none = ap (λ ns. record { entries = []; numbers = ns }) numbers-first

pub length-numbers : (p : ℕ → Bool) (n : ℕ) → length (numbers_below p n) ≡ n
length-numbers p zero = refl
length-numbers p (suc n) = let push = length-append (numbers_below p n) (count_below p n ∷ []) in let rest = length-numbers p n in omega (arith, push, rest)

pub number-at : (p : ℕ → Bool) (n a : ℕ) → a < n → slice_index (numbers_below p n) a ≡ count_below p a
number-at p zero a h = absurd (omega (arith, h))
number-at p (suc n) a h = by (compared a n h) (number-at p n a)
  where
    by : (a ≡ n) ⊎ (a < n) → (a < n → slice_index (numbers_below p n) a ≡ count_below p a) → slice_index (numbers_below p n ++ count_below p n ∷ []) a ≡ count_below p a
    by (inl at) rest = get_or_push (numbers_below p n) (count_below p n) 0 a (length-numbers p n ∙ sym at) ∙ ap (count_below p) (sym at)
    by (inr lt) rest = get_or_append_left (numbers_below p n) (count_below p n ∷ []) 0 a (omega (arith, lt, length-numbers p n)) ∙ rest lt

-- an entry beyond the newest isn't there
pub entry-beyond : (ts : List Triple) (a : ℕ) → diagram_size ts ≤ a → entry_in ts a ≡ None
entry-beyond [] a h = refl
entry-beyond (t ∷ ts) a h = ap (λ b. cond b (Some t) (entry_in ts a)) (ne_eqb a (diagram_size ts) (λ at. omega (arith, at, h))) ∙ entry-beyond ts a (omega (arith, h))
