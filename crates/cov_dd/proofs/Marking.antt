-- Marks of the nodes that roots reach.
use Rattle.std.proofs.Common.{◌≡◌, ◌⊎◌, inl, inr, ℕ, zero, suc, ◌+◌, ◌<◌, ◌≤◌, ◌==◌, ◌||◌, ◌&&◌, Bool, true, false, cond, List, [], ◌∷◌, length, replicate, Option, Some, None, refl, sym, ap, ◌∙◌, subst, arith, true≢false}
use Rattle.std.specs.List.{list_any, AllByRecursion}
use Rattle.std.proofs.lemmas.Bool.{eq-eqb, eqb-true, or_left, or_right, or_cases, and_parts}
use Rattle.std.proofs.lemmas.List.{get_or_past}
use Rattle.cov_dd.specs.declared.triple.Triple.{Triple}
use Rattle.cov_dd.specs.Diagrams.{diagram_size, entry_in, IsDiagram}
use Rattle.cov_dd.specs.Reached.{reaches}
use Rattle.cov_dd.specs.Marks.{is_marked, is_one_of, children_of, is_child, IsClosed, AreSpread, AreMarked}
use Rattle.cov_dd.proofs.Nodes.{Order, below, level, above, ordered, compared, cond-newest, cond-older, entry_facts}
use Rattle.cov_dd.proofs.Reaching.{reaches-append, reaches-itself, reaches-most, reaches-entry}
use Rattle.cov_dd.proofs.Passing.{entry-beyond}

-- what is marked is a place of the list
pub marked-within : (marks : List Bool) (n : ℕ) → is_marked marks n ≡ true → n < length marks
marked-within marks n h = elim (ordered n (length marks)) [
  | below lt ↦ lt
  | level at ↦ absurd (true≢false (sym h ∙ get_or_past marks n false (omega (arith, at))))
  | above gt ↦ absurd (true≢false (sym h ∙ get_or_past marks n false (omega (arith, gt))))
]

pub marked-none : (k n : ℕ) → is_marked (replicate k false) n ≡ false
marked-none zero n = refl
marked-none (suc k) zero = refl
marked-none (suc k) (suc n) = marked-none k n

pub one_of-found : (P : ℕ → Type 0) (nodes : List ℕ) (n : ℕ) → AllByRecursion P nodes → is_one_of nodes n ≡ true → P n
one_of-found P [] n all h = absurd (true≢false (sym h))
one_of-found P (a ∷ nodes) n all h = elim (or_cases (a == n) (is_one_of nodes n) h) [
  | inl here ↦ subst P (eqb-true a n here) all.0
  | inr there ↦ one_of-found P nodes n all.1 there
]

-- a child stands before its parent
pub child-before : (ts : List Triple) → IsDiagram ts → (a n : ℕ) → is_child ts a n ≡ true → n < a
child-before ts d a n h = by (entry_in ts a) refl h
  where
    by : (o : Option Triple) → entry_in ts a ≡ o → is_one_of (children_of o) n ≡ true → n < a
    by None e is = absurd (true≢false (sym is))
    by (Some t) e is = let f = entry_facts ts d a t e in one_of-found (λ m. m < a) (t.off ∷ t.on ∷ []) n (f.off_before, (f.on_before, tt)) is

pub child-within : (ts : List Triple) (a n : ℕ) → is_child ts a n ≡ true → a < diagram_size ts
child-within ts a n h = elim (ordered a (diagram_size ts)) [
  | below lt ↦ lt
  | level at ↦ absurd (true≢false (sym h ∙ ap (λ o. is_one_of (children_of o) n) (entry-beyond ts a (omega (arith, at)))))
  | above gt ↦ absurd (true≢false (sym h ∙ ap (λ o. is_one_of (children_of o) n) (entry-beyond ts a (omega (arith, gt)))))
]

-- what is reached from a reached node
pub reaches-trans : (ts : List Triple) → IsDiagram ts → (r a n : ℕ) → r < diagram_size ts → reaches ts r a ≡ true → reaches ts a n ≡ true → reaches ts r n ≡ true
reaches-trans [] d r a n within first second = ap (λ m. m == n) (eqb-true r a first) ∙ second
reaches-trans (t ∷ ts) d r a n within first second = by (compared r (diagram_size ts) within) (reaches-trans ts d.0)
  where
    -- by way of a child
    through : (child : ℕ) → child < diagram_size ts → reaches ts child a ≡ true
        → ((r a n : ℕ) → r < diagram_size ts → reaches ts r a ≡ true → reaches ts a n ≡ true → reaches ts r n ≡ true) → reaches ts child n ≡ true
    through child lt h rest =
        let most = reaches-most ts d.0 child a h in
        rest child a n lt h (sym (reaches-append (t ∷ []) ts a n (omega (arith, most, lt))) ∙ second)

    whole : reaches (t ∷ ts) r a ≡ true → r ≡ diagram_size ts → (r == a || (reaches ts t.off a || reaches ts t.on a)) ≡ true
    whole h at = sym (ap (λ b. cond b (r == a || (reaches ts t.off a || reaches ts t.on a)) (reaches ts r a)) (eq-eqb r (diagram_size ts) at)) ∙ h

    back : r ≡ diagram_size ts → (r == n || (reaches ts t.off n || reaches ts t.on n)) ≡ true → reaches (t ∷ ts) r n ≡ true
    back at h = ap (λ b. cond b (r == n || (reaches ts t.off n || reaches ts t.on n)) (reaches ts r n)) (eq-eqb r (diagram_size ts) at) ∙ h

    by : (r ≡ diagram_size ts) ⊎ (r < diagram_size ts) → ((r a n : ℕ) → r < diagram_size ts → reaches ts r a ≡ true → reaches ts a n ≡ true → reaches ts r n ≡ true)
        → reaches (t ∷ ts) r n ≡ true
    by (inl at) rest = elim (or_cases (r == a) _ (whole first at)) [
      | inl same ↦ ap (λ m. reaches (t ∷ ts) m n) (eqb-true r a same) ∙ second
      | inr further ↦ back at (or_right (r == n) _ (elim (or_cases (reaches ts t.off a) (reaches ts t.on a) further) as (λ _. (reaches ts t.off n || reaches ts t.on n) ≡ true) [
        | inl off ↦ or_left (reaches ts t.off n) (reaches ts t.on n) (through t.off d.1.off_within off rest)
        | inr on ↦ or_right (reaches ts t.off n) (reaches ts t.on n) (through t.on d.1.on_within on rest)
      ]))
    ]
    by (inr lt) rest =
        reaches-append (t ∷ []) ts r n lt
        ∙ through r lt (sym (reaches-append (t ∷ []) ts r a lt) ∙ first) rest

-- a child is reached
pub reaches-child : (ts : List Triple) → IsDiagram ts → (a n : ℕ) → is_child ts a n ≡ true → reaches ts a n ≡ true
reaches-child ts d a n h = by (entry_in ts a) refl h
  where
    by : (o : Option Triple) → entry_in ts a ≡ o → is_one_of (children_of o) n ≡ true → reaches ts a n ≡ true
    by None e is = absurd (true≢false (sym is))
    by (Some t) e is = reaches-entry ts d a t n e ∙ or_right (a == n) _ (elim (or_cases (t.off == n) _ is) as (λ _. (reaches ts t.off n || reaches ts t.on n) ≡ true) [
      | inl off ↦ or_left (reaches ts t.off n) (reaches ts t.on n) (ap (λ m. reaches ts m n) (eqb-true t.off n off) ∙ reaches-itself ts n)
      | inr more ↦ elim (or_cases (t.on == n) false more) as (λ _. (reaches ts t.off n || reaches ts t.on n) ≡ true) [
        | inl on ↦ or_right (reaches ts t.off n) (reaches ts t.on n) (ap (λ m. reaches ts m n) (eqb-true t.on n on) ∙ reaches-itself ts n)
        | inr none ↦ absurd (true≢false (sym none))
      ]
    ])

-- nothing was gone through
pub spread-none : (ts : List Triple) (from : ℕ) (marks : List Bool) → diagram_size ts ≤ from → AreSpread ts from marks marks
spread-none ts from marks h = record {
  long = refl;
  kept = λ n m. m;
  closed = λ a n le m child. let lt = child-within ts a n child in absurd (omega (arith, h, le, lt));
  sound = λ n m. (n, m, reaches-itself ts n);
}

-- one node more was gone through
module _ (ts : List Triple) (d : IsDiagram ts) (old mid new : List Bool) (node from : ℕ) (at : from ≡ node + 1) (long : length new ≡ length mid) (fits : length old ≡ diagram_size ts)
    (spread : AreSpread ts from old mid) (marked : (n : ℕ) → is_marked new n ≡ ((is_marked mid node && is_child ts node n) || is_marked mid n)) where
  mid_kept : (n : ℕ) → is_marked mid n ≡ true → is_marked new n ≡ true
  mid_kept n h = marked n ∙ or_right (is_marked mid node && is_child ts node n) (is_marked mid n) h

  -- nothing from the node on was marked
  unchanged : (a : ℕ) → node ≤ a → is_marked new a ≡ true → is_marked mid a ≡ true
  unchanged a le h = elim (or_cases (is_marked mid node && is_child ts node a) (is_marked mid a) (sym (marked a) ∙ h)) [
    | inl child ↦ absurd (let lt = child-before ts d node a (and_parts (is_marked mid node) _ child).1 in omega (arith, lt, le))
    | inr before ↦ before
  ]

  step_closed : (a n : ℕ) → node ≤ a → is_marked new a ≡ true → is_child ts a n ≡ true → is_marked new n ≡ true
  step_closed a n le m child = by (ordered node a)
    where
      was : is_marked mid a ≡ true
      was = unchanged a le m

      by : Order node a → is_marked new n ≡ true
      by (below lt) = mid_kept n (spread.closed a n (omega (arith, lt, at)) was child)
      by (level same) = marked n ∙ or_left _ (is_marked mid n) (λ j. (ap (is_marked mid) same ∙ was) j && (ap (λ b. is_child ts b n) same ∙ child) j)
      by (above gt) = absurd (omega (arith, gt, le))

  step_sound : (n : ℕ) → is_marked new n ≡ true → (r : ℕ) × (is_marked old r ≡ true) × (reaches ts r n ≡ true)
  step_sound n m = elim (or_cases (is_marked mid node && is_child ts node n) (is_marked mid n) (sym (marked n) ∙ m)) [
    | inl child ↦
        let parts = and_parts (is_marked mid node) (is_child ts node n) child in
        let s = spread.sound node parts.0 in
        let within = marked-within old s.0 s.1 in
        (s.0, s.1, reaches-trans ts d s.0 node n (omega (arith, within, fits)) s.2 (reaches-child ts d node n parts.1))
    | inr before ↦ spread.sound n before
  ]

  pub spread-step : AreSpread ts node old new
  spread-step = record {
    long = long ∙ spread.long;
    kept = λ n m. mid_kept n (spread.kept n m);
    closed = step_closed;
    sound = step_sound;
  }

-- the children of entries that pass pass
pub closed-by : (p : ℕ → Bool) (ts : List Triple) → ((a n : ℕ) → p a ≡ true → is_child ts a n ≡ true → p n ≡ true) → IsDiagram ts → IsClosed p ts
closed-by p [] h d = tt
closed-by p (t ∷ ts) h d = (
  closed-by p ts (λ a n m child. h a n m (later a n child (child-within ts a n child))) d.0,
  λ m. (h (diagram_size ts) t.off m (own t.off (or_left (t.off == t.off) _ (eq-eqb t.off t.off refl))), h (diagram_size ts) t.on m (own t.on (or_right (t.off == t.on) _ (or_left (t.on == t.on) false (eq-eqb t.on t.on refl))))),
)
  where
    later : (a n : ℕ) → is_child ts a n ≡ true → a < diagram_size ts → is_child (t ∷ ts) a n ≡ true
    later a n child lt = ap (λ o. is_one_of (children_of o) n) (cond-older a (diagram_size ts) (Some t) (entry_in ts a) lt) ∙ child

    own : (n : ℕ) → is_one_of (t.off ∷ t.on ∷ []) n ≡ true → is_child (t ∷ ts) (diagram_size ts) n ≡ true
    own n is = ap (λ o. is_one_of (children_of o) n) (cond-newest (diagram_size ts) (Some t) (entry_in ts (diagram_size ts))) ∙ is

-- one of the roots reaches a node
pub reached-from : (ts : List Triple) (roots : List ℕ) (r n : ℕ) → is_one_of roots r ≡ true → reaches ts r n ≡ true → list_any (λ a. reaches ts a n) roots ≡ true
reached-from ts [] r n h s = absurd (true≢false (sym h))
reached-from ts (a ∷ roots) r n h s = elim (or_cases (a == r) (is_one_of roots r) h) [
  | inl here ↦ or_left (reaches ts a n) _ (ap (λ m. reaches ts m n) (eqb-true a r here) ∙ s)
  | inr there ↦ or_right (reaches ts a n) _ (reached-from ts roots r n there s)
]

all-one_of : (P : ℕ → Type 0) (nodes : List ℕ) → ((n : ℕ) → is_one_of nodes n ≡ true → P n) → AllByRecursion P nodes
all-one_of P [] h = tt
all-one_of P (a ∷ nodes) h = (h a (or_left (a == a) _ (eq-eqb a a refl)), all-one_of P nodes (λ n is. h n (or_right (a == n) _ is)))

-- FALSE and TRUE were marked, then the roots, then what these reach
module _ (ts : List Triple) (d : IsDiagram ts) (roots : List ℕ) (none first second marks : List Bool)
    (empty : none ≡ replicate (diagram_size ts) false) (long : length second ≡ diagram_size ts)
    (constants : (n : ℕ) → is_marked first n ≡ (is_one_of (0 ∷ 1 ∷ []) n || is_marked none n))
    (given : (n : ℕ) → is_marked second n ≡ (is_one_of roots n || is_marked first n)) (spread : AreSpread ts 0 second marks) where
  marked-start : (n : ℕ) → is_marked second n ≡ true → (is_one_of roots n ≡ true) ⊎ (n < 2)
  marked-start n h = elim (or_cases (is_one_of roots n) (is_marked first n) (sym (given n) ∙ h)) [
    | inl root ↦ inl root
    | inr other ↦ elim (or_cases (is_one_of (0 ∷ 1 ∷ []) n) (is_marked none n) (sym (constants n) ∙ other)) [
      | inl constant ↦ inr (one_of-found (λ m. m < 2) (0 ∷ 1 ∷ []) n (omega arith, (omega arith, tt)) constant)
      | inr unmarked ↦ absurd (true≢false (sym unmarked ∙ ap (λ l. is_marked l n) empty ∙ marked-none (diagram_size ts) n))
    ]
  ]

  constant-marked : (n : ℕ) → n < 2 → is_marked marks n ≡ true
  constant-marked n h = spread.kept n (given n ∙ or_right (is_one_of roots n) (is_marked first n) (constants n ∙ or_left (is_one_of (0 ∷ 1 ∷ []) n) (is_marked none n) (two n h)))
    where
      two : (n : ℕ) → n < 2 → is_one_of (0 ∷ 1 ∷ []) n ≡ true
      two zero h = refl
      two (suc zero) h = refl
      two (suc (suc n)) h = absurd (omega (arith, h))

  reached-root : (n : ℕ) → 1 < n → is_marked marks n ≡ true → list_any (λ r. reaches ts r n) roots ≡ true
  reached-root n inner h = by (spread.sound n h)
    where
      by : (r : ℕ) × (is_marked second r ≡ true) × (reaches ts r n ≡ true) → list_any (λ r. reaches ts r n) roots ≡ true
      by s = elim (marked-start s.0 s.1) [
        | inl root ↦ reached-from ts roots s.0 n root s.2
        | inr constant ↦ absurd (let most = reaches-most ts d s.0 n s.2 in omega (arith, most, constant, inner))
      ]

  pub are_marked : AreMarked ts roots marks
  are_marked = record {
    long = spread.long ∙ long;
    constants = constant-marked;
    roots = all-one_of (λ r. is_marked marks r ≡ true) roots (λ n is. spread.kept n (given n ∙ or_left (is_one_of roots n) (is_marked first n) is));
    closed = closed-by (is_marked marks) ts (λ a n m child. spread.closed a n (omega arith) m child) d;
    reached = reached-root;
  }
