-- The choices on which nodes are reached, as nodes of a table that grows.
use Rattle.std.proofs.Common.{◌≡◌, ◌||◌, ◌&&◌, ℕ, zero, suc, ◌+◌, ◌<◌, ◌≤◌, ◌==◌, Bool, true, false, cond, nat_eq, List, [], ◌∷◌, ◌++◌, take, get_or, length, append-nil, refl, sym, ap, subst, ◌∙◌, arith}
use Rattle.std.specs.List.{list_any, AllByRecursion}
use Rattle.std.proofs.lemmas.Bool.Decides.{nat_tests}
use Rattle.std.proofs.lemmas.List.Folds.{list_any-append}
use Rattle.cov_base.specs.declared.number.Kind.{Kind}
use Rattle.cov_base.specs.Rows.{Row, AreDistinct, AreOnce}
use Rattle.cov_base.proofs.CallerLemmas.{all-map}
use Rattle.cov_base.specs.Reaching.{root}
use Rattle.cov_base.specs.Choices.{is_on}
use Rattle.cov_dd.specs.declared.triple.Triple.{Triple}
use Rattle.cov_dd.specs.Diagrams.{diagram_size, value_in, Extends, IsNode}
use Rattle.cov_dd.proofs.CallerLemmas.{some_nodes, value-constant}
use Rattle.cov_tree.specs.declared.entry.Place.{Place}
use Rattle.cov_tree.specs.declared.entry.Entry.{Entry}
use Rattle.cov_tree.specs.Entries.{row_at, rows_of, rows_in, nodes_of, AllAreWithin}
use Rattle.cov_tree.specs.Spreading.{reach_node, reached_in, Holds, AreReached, Turns, Rounds, Relaxes, Spreads, IsReach}
use Rattle.cov_tree.proofs.Rows.{rows_of-append, row_of_place, rows_of-grown, rows_in-append, rows_in-grown, taken, holds_at}
use Rattle.cov_tree.proofs.Spreading.{entry_more, step_more, right_in_time, right_at_rest, few_rows}

-- one place more has its row where it is visible
pub any_more : (t : List Triple) (c : List Bool) (test : Row → Bool) (node : ℕ) (kind : Kind) (ps : List Place) (i : ℕ) (p : Place) → i < length ps → p ≡ get_or ps i p
    → list_any test (rows_of t c node kind (take (i + 1) ps)) ≡ (list_any test (rows_of t c node kind (take i ps)) || (value_in t p.vis c && test (row_at node kind p)))
any_more t c test node kind ps i p here at =
    ap (λ qs. list_any test (rows_of t c node kind qs)) (taken ps i p here at)
    ∙ ap (list_any test) (rows_of-append t c node kind (take i ps) (p ∷ []))
    ∙ list_any-append test (rows_of t c node kind (take i ps)) (rows_of t c node kind (p ∷ []))
    ∙ ap (λ b. list_any test (rows_of t c node kind (take i ps)) || b) (ap (list_any test) (row_of_place t c node kind p) ∙ by (value_in t p.vis c) (test (row_at node kind p)) refl)
  where
    by : (a b : Bool) → test (row_at node kind p) ≡ b → list_any test (cond a (row_at node kind p ∷ []) []) ≡ (a && b)
    by true true e = ap (λ x. x || false) e
    by true false e = ap (λ x. x || false) e
    by false b e = refl

pub node_within : (t : List Triple) (reach : List ℕ) (x : ℕ) → AllByRecursion (λ n. n < diagram_size t) reach → reach_node reach x < diagram_size t
node_within t [] x h = let two : 2 ≤ diagram_size t = some_nodes t in omega (arith, two)
node_within t (n ∷ reach) zero h = h.0
node_within t (n ∷ reach) (suc x) h = node_within t reach x h.1

pub within_grown : (old new : List Triple) → Extends old new → (reach : List ℕ) → AllByRecursion (λ n. n < diagram_size old) reach → AllByRecursion (λ n. n < diagram_size new) reach
within_grown old new grows reach h = all-map (λ n. n < diagram_size old) (λ n. n < diagram_size new) (λ n k. omega (arith, k, grows.count)) reach h

-- the node of a directory is one of the table, also once the table grew
pub reach_within : (old new : List Triple) → Extends old new → (reach : List ℕ) (x node : ℕ) → AllByRecursion (λ n. n < diagram_size old) reach → node ≡ reach_node reach x → node < diagram_size new
reach_within old new grows reach x node h is = subst (λ n. n < diagram_size new) (sym is) (node_within new reach x (within_grown old new grows reach h))

pub reached_grown : (old new : List Triple) → Extends old new → (reach : List ℕ) → AllByRecursion (λ n. n < diagram_size old) reach → (c : List Bool) (x : ℕ) → reached_in new reach c x ≡ reached_in old reach c x
reached_grown old new grows reach h c x = grows.value (reach_node reach x) (node_within old reach x h) c

pub none_found : (t : List Triple) (f : List Bool → Bool) → ((c : List Bool) → f c ≡ false) → IsNode t 0 f
none_found t f h = record { within = let two : 2 ≤ diagram_size t = some_nodes t in omega (arith, two); value = λ c. value-constant t 0 c (omega arith) ∙ sym (h c) }

-- one place more, of which the parent is reached
pub arrival_more : (t0 t new : List Triple) → Extends t0 t → (reach : List ℕ) → AllByRecursion (λ n. n < diagram_size t0) reach
    → (node : ℕ) (kind : Kind) (ps : List Place) (i : ℕ) (p : Place) → i < length ps → p ≡ get_or ps i p → p.vis < diagram_size t0 → (found r b : ℕ)
    → IsNode t found (λ c. list_any (λ row. reached_in t0 reach c row.parent) (rows_of t0 c node kind (take i ps)))
    → b ≡ reach_node reach p.parent
    → IsNode new r (λ c. value_in t found c || (value_in t p.vis c && value_in t b c))
    → IsNode new r (λ c. list_any (λ row. reached_in t0 reach c row.parent) (rows_of t0 c node kind (take (i + 1) ps)))
arrival_more t0 t new grows reach within node kind ps i p here at inside found r b f is n = record {
  within = n.within;
  value = λ c.
      n.value c
      ∙ (λ j. f.value c j || (grows.value p.vis inside c j && (ap (λ m. value_in t m c) is ∙ reached_grown t0 t grows reach within c p.parent) j))
      ∙ sym (any_more t0 c (λ row. reached_in t0 reach c row.parent) node kind ps i p here at);
}

-- one node more of a round
pub round_more : (t0 t new : List Triple) → Extends t0 t → (es : List Entry) (i : ℕ) (e : Entry) → i < length es → e ≡ get_or es i e → AllAreWithin t0 es
    → AreDistinct (0 ∷ nodes_of es) → (before reach after : List ℕ) (changed b : Bool) → (c : List Bool) → AreOnce (rows_in t0 c es)
    → Rounds (rows_in t0 c es) (rows_in t0 c (take i es)) (reached_in t0 before c) (reached_in t reach c) changed
    → Relaxes t new e reach after b
    → Rounds (rows_in t0 c es) (rows_in t0 c (take (i + 1) es)) (reached_in t0 before c) (reached_in new after c) (b || changed)
round_more t0 t new grows es i e here at within distinct before reach after changed b c once m x =
    subst (λ done. Rounds (rows_in t0 c es) done (reached_in t0 before c) (reached_in new after c) (b || changed))
    (sym (ap (rows_in t0 c) (taken es i e here at) ∙ rows_in-append t0 c (take i es) (e ∷ []) ∙ ap (λ rs. rows_in t0 c (take i es) ++ rs) (append-nil (rows_of t0 c e.node e.kind e.places))))
    (entry_more t0 c es i e here at distinct once (rows_in t0 c (take i es)) (reached_in t0 before c) (reached_in t reach c) (reached_in new after c) changed b m
    (subst (λ own. Turns e.node own (reached_in t reach c) (reached_in new after c) b) (rows_of-grown t0 t grows c e.node e.kind e.places (holds_at _ es i e within here at)) (x.turns c)))

-- the rows that entries have on a choice are those in the table before
pub rounds_before : (t0 t new : List Triple) → Extends t0 t → (es : List Entry) → AllAreWithin t0 es → (before after : List ℕ) (b : Bool) → Spreads t new es before after b
    → (c : List Bool) → Rounds (rows_in t0 c es) (rows_in t0 c es) (reached_in t before c) (reached_in new after c) b
rounds_before t0 t new grows es within before after b s c =
    subst (λ rows. Rounds rows rows (reached_in t before c) (reached_in new after c) b) (rows_in-grown t0 t grows c es within) (s.rounds c)

true_node : (t : List Triple) (c : List Bool) → value_in t 1 c ≡ true
true_node [] c = refl
true_node (t ∷ ts) c =
    let two : 2 ≤ diagram_size ts = some_nodes ts in
    let other : (1 == diagram_size ts) ≡ false = grind (arith, nat_tests, two) in
    ap (λ b. cond b (cond (is_on c t.option) (value_in ts t.on c) (value_in ts t.off c)) (value_in ts 1 c)) other ∙ true_node ts c

-- at first the root alone is reached
pub first_holds : (t : List Triple) (reach : List ℕ) → reach_node reach 0 ≡ 1 → (rows : List Row) (c : List Bool) → Holds rows 0 (reached_in t reach c)
first_holds t reach one rows c zero is = ap (λ n. value_in t n c) one ∙ true_node t c
first_holds t reach one rows c (suc m) is = absurd (cc)

pub first_reached : (t : List Triple) (reach : List ℕ) → ((x : ℕ) → nat_eq x 0 ≡ false → reach_node reach x ≡ 0) → (rows : List Row) (c : List Bool) → AreReached rows (reached_in t reach c)
first_reached t reach none rows c zero is = root
first_reached t reach none rows c (suc m) is =
    let other : nat_eq (suc m) 0 ≡ false = grind (arith, nat_tests) in
    absurd (let no = ap (λ n. value_in t n c) (none (suc m) other) ∙ value-constant t 0 c (omega arith) in cc)

pub first_within : (t : List Triple) (reach : List ℕ) → AllByRecursion (λ n. n < 2) reach → AllByRecursion (λ n. n < diagram_size t) reach
first_within t reach h = let two : 2 ≤ diagram_size t = some_nodes t in all_map_two two reach h
  where
    all_map_two : 2 ≤ diagram_size t → (ns : List ℕ) → AllByRecursion (λ n. n < 2) ns → AllByRecursion (λ n. n < diagram_size t) ns
    all_map_two two ns k = all-map (λ n. n < 2) (λ n. n < diagram_size t) (λ n l. omega (arith, l, two)) ns k

-- a round that changes nothing is the last
pub reach_at_rest : (t0 t new : List Triple) → Extends t0 t → (es : List Entry) → AllAreWithin t0 es → (before after : List ℕ) (b : Bool) (k : ℕ) → b ≡ false
    → ((c : List Bool) → Holds (rows_in t0 c es) k (reached_in t before c)) → ((c : List Bool) → AreReached (rows_in t0 c es) (reached_in t before c))
    → Spreads t new es before after b → IsReach t0 new es after
reach_at_rest t0 t new grows es within before after b k is holds reached s = record {
  within = s.within;
  value = λ c x.
      right_at_rest (rows_in t0 c es) (reached_in t before c) (reached_in new after c) k (holds c) (reached c)
      (subst (Rounds (rows_in t0 c es) (rows_in t0 c es) (reached_in t before c) (reached_in new after c)) is (rounds_before t0 t new grows es within before after b s c)) x;
}

-- and there are no more rounds than nodes
pub reach_in_time : (t0 t : List Triple) (es : List Entry) (reach : List ℕ) (k : ℕ) → length es ≤ k → ((c : List Bool) → AreOnce (rows_in t0 c es)) → AllByRecursion (λ n. n < diagram_size t) reach
    → ((c : List Bool) → Holds (rows_in t0 c es) k (reached_in t reach c)) → ((c : List Bool) → AreReached (rows_in t0 c es) (reached_in t reach c)) → IsReach t0 t es reach
reach_in_time t0 t es reach k most once within holds reached = record {
  within = within;
  value = λ c x.
      let few : length (rows_in t0 c es) ≤ length es = few_rows t0 c es (once c).1 in
      right_in_time (rows_in t0 c es) k (reached_in t reach c) (omega (arith, few, most)) (holds c) (reached c) x;
}

pub holds_next : (t0 t new : List Triple) → Extends t0 t → (es : List Entry) → AllAreWithin t0 es → (before after : List ℕ) (b : Bool) (k : ℕ)
    → ((c : List Bool) → Holds (rows_in t0 c es) k (reached_in t before c)) → Spreads t new es before after b → (c : List Bool) → Holds (rows_in t0 c es) (k + 1) (reached_in new after c)
holds_next t0 t new grows es within before after b k holds s c =
    let next : suc k ≡ k + 1 = omega arith in
    subst (λ n. Holds (rows_in t0 c es) n (reached_in new after c)) next
    (step_more (rows_in t0 c es) (reached_in t before c) (reached_in new after c) b k (rounds_before t0 t new grows es within before after b s c) (holds c))

pub room_kept : (es : List Entry) (m n : ℕ) → n ≡ m → AllByRecursion (λ e. e.node < m) es → AllByRecursion (λ e. e.node < n) es
room_kept es m n is h = subst (λ k. AllByRecursion (λ (e : Entry). e.node < k) es) (sym is) h
