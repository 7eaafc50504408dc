-- No node has two rows.
use Rattle.std.specs.Prelude.{Result, Ok, Err, OnOk, OnErr}
use Rattle.std.proofs.Common.{◌≡◌, ◌||◌, ℕ, suc, ◌≤◌, Bool, true, false, cond, not, nat_eq, List, [], ◌∷◌, ◌++◌, map, length, refl, sym, ap, subst, ◌∙◌, arith}
use Rattle.std.specs.List.{filter}
use Rattle.std.proofs.lemmas.Bool.Decides.{nat_tests}
use Rattle.std.proofs.lemmas.List.{map-append}
use Rattle.std.proofs.lemmas.Bool.{or_parts}
use Rattle.cov_base.specs.declared.number.Kind.{Kind}
use Rattle.cov_base.specs.Rows.{Row, RowChange, Created, Renamed, Moved, Removed, changed, with_name, with_parent, has_node, AreDistinct, AreOnce}
use Rattle.cov_dd.specs.declared.triple.Triple.{Triple}
use Rattle.cov_dd.specs.Diagrams.{value_in, Extends}
use Rattle.cov_tree.specs.declared.entry.Place.{Place}
use Rattle.cov_tree.specs.declared.entry.Entry.{Entry}
use Rattle.cov_tree.specs.declared.parting.Shift.{Shift}
use Rattle.cov_tree.specs.declared.parting.Shift.TheVariants as shifts
use Rattle.cov_tree.specs.Entries.{row_at, rows_of, rows_in, nodes_of, AllAreWithin}
use Rattle.cov_tree.specs.Changes.{changed_on}
use Rattle.cov_tree.specs.Shifts.{change_of, Becomes}
use Rattle.cov_tree.proofs.Plans.{distinct_more}
use Rattle.cov_tree.proofs.Rows.{rows_in-grown, all_within-grown}

abbrev pub nodes : List Row → List ℕ
nodes rows = map (λ r. r.node) rows

-- what a change asks of the rows: a node that is made isn't there, and isn't the root
abbrev pub IsFresh : RowChange → List Row → Type 0
IsFresh (Created node kind parent name) rows = has_node node (0 ∷ map (λ r. r.node) rows) ≡ false
IsFresh (Renamed node name) rows = Unit {0}
IsFresh (Moved node parent) rows = Unit {0}
IsFresh (Removed node) rows = Unit {0}

named : (node : ℕ) (name : List ℕ) (rows : List Row) → nodes (map (with_name node name) rows) ≡ nodes rows
named node name [] = refl
named node name (r ∷ rows) = λ j. at (nat_eq r.node node) j ∷ named node name rows j
  where
    at : (b : Bool) → (cond b (record { node = r.node; kind = r.kind; parent = r.parent; name = name }) r).node ≡ r.node
    at true = refl
    at false = refl

moved : (node parent : ℕ) (rows : List Row) → nodes (map (with_parent node parent) rows) ≡ nodes rows
moved node parent [] = refl
moved node parent (r ∷ rows) = λ j. at (nat_eq r.node node) j ∷ moved node parent rows j
  where
    at : (b : Bool) → (cond b (record { node = r.node; kind = r.kind; parent = parent; name = r.name }) r).node ≡ r.node
    at true = refl
    at false = refl

pub has_filtered : (p : Row → Bool) (x : ℕ) (rows : List Row) → has_node x (nodes rows) ≡ false → has_node x (nodes (filter p rows)) ≡ false
has_filtered p x [] h = refl
has_filtered p x (r ∷ rows) h = at (p r) (has_filtered p x rows (or_parts (nat_eq r.node x) (has_node x (nodes rows)) h).1)
  where
    at : (b : Bool) → has_node x (nodes (filter p rows)) ≡ false → has_node x (nodes (cond b (r ∷ filter p rows) (filter p rows))) ≡ false
    at true k = (λ j. (or_parts (nat_eq r.node x) (has_node x (nodes rows)) h).0 j || has_node x (nodes (filter p rows))) ∙ k
    at false k = k

pub distinct_filtered : (p : Row → Bool) (rows : List Row) → AreDistinct (nodes rows) → AreDistinct (nodes (filter p rows))
distinct_filtered p [] h = tt
distinct_filtered p (r ∷ rows) h = at (p r) (distinct_filtered p rows h.1)
  where
    at : (b : Bool) → AreDistinct (nodes (filter p rows)) → AreDistinct (nodes (cond b (r ∷ filter p rows) (filter p rows)))
    at true k = (has_filtered p r.node rows h.0, k)
    at false k = k

-- a change keeps it so
pub once_changed : (rows : List Row) (change : RowChange) → AreOnce rows → IsFresh change rows → AreOnce (changed rows change)
once_changed rows (Created node kind parent name) once fresh =
    subst (λ ns. AreDistinct (0 ∷ ns)) (sym (map-append (λ (r : Row). r.node) rows (record { node = node; kind = kind; parent = parent; name = name } ∷ []))) (distinct_more (0 ∷ nodes rows) node once fresh)
once_changed rows (Renamed node name) once fresh = subst (λ ns. AreDistinct (0 ∷ ns)) (sym (named node name rows)) once
once_changed rows (Moved node parent) once fresh = subst (λ ns. AreDistinct (0 ∷ ns)) (sym (moved node parent rows)) once
once_changed rows (Removed node) once fresh = (has_filtered (λ r. not (nat_eq r.node node)) 0 rows once.0, distinct_filtered (λ r. not (nat_eq r.node node)) rows once.1)

once_on : (table : List Triple) (c : List Bool) (change : RowChange) (ambition : ℕ) (rows : List Row) → AreOnce rows → IsFresh change rows → AreOnce (changed_on table c change ambition rows)
once_on table c change ambition rows once fresh = at (value_in table ambition c)
  where
    at : (b : Bool) → AreOnce (cond b (changed rows change) rows)
    at true = once_changed rows change once fresh
    at false = once

pub once_becomes : (old new : List Triple) (before after : List Entry) (change : RowChange) (ambition : ℕ) → ((c : List Bool) → AreOnce (rows_in old c before))
    → ((c : List Bool) → IsFresh change (rows_in old c before)) → Becomes old new before after change ambition → (c : List Bool) → AreOnce (rows_in new c after)
once_becomes old new before after change ambition once fresh b c = subst AreOnce (sym (b.rows c)) (once_on old c change ambition (rows_in old c before) (once c) (fresh c))

pub shifts_fresh : (node : ℕ) (shift : Shift) (rows : List Row) → IsFresh (change_of node shift) rows
shifts_fresh node (shifts.Renamed name) rows = tt
shifts_fresh node (shifts.Moved parent) rows = tt
shifts_fresh node shifts.Removed rows = tt

-- the rows of entries are those of their nodes
not_own : (node : ℕ) (kind : Kind) (ps : List Place) (x : ℕ) (more : List Row) → nat_eq node x ≡ false → has_node x (nodes more) ≡ false → has_node x (nodes (map (row_at node kind) ps ++ more)) ≡ false
not_own node kind [] x more h k = k
not_own node kind (p ∷ ps) x more h k = (λ j. h j || has_node x (nodes (map (row_at node kind) ps ++ more))) ∙ not_own node kind ps x more h k

pub not_there : (table : List Triple) (c : List Bool) (es : List Entry) (x : ℕ) → has_node x (nodes_of es) ≡ false → has_node x (map (λ r. r.node) (rows_in table c es)) ≡ false
not_there table c [] x h = refl
not_there table c (e ∷ es) x h =
    not_own e.node e.kind (filter (λ (p : Place). value_in table p.vis c) e.places) x (rows_in table c es) (or_parts (nat_eq e.node x) (has_node x (nodes_of es)) h).0
    (not_there table c es x (or_parts (nat_eq e.node x) (has_node x (nodes_of es)) h).1)

pub fresh_there : (table : List Triple) (c : List Bool) (es : List Entry) (node : ℕ) (kind : Kind) (parent : ℕ) (name : List ℕ) → has_node node (0 ∷ nodes_of es) ≡ false
    → IsFresh (Created node kind parent name) (rows_in table c es)
fresh_there table c es node kind parent name h =
    (λ j. (or_parts (nat_eq 0 node) (has_node node (nodes_of es)) h).0 j || has_node node (nodes (rows_in table c es))) ∙ not_there table c es node (or_parts (nat_eq 0 node) (has_node node (nodes_of es)) h).1

-- a node has one row at most
length_own : (table : List Triple) (c : List Bool) (node node' : ℕ) (kind kind' : Kind) (ps : List Place) → length (map (row_at node kind) ps) ≡ length (map (row_at node' kind') ps)
length_own table c node node' kind kind' [] = refl
length_own table c node node' kind kind' (p ∷ ps) = ap suc (length_own table c node node' kind kind' ps)

one_own : (node : ℕ) (kind : Kind) (ps : List Place) (more : List Row) → AreDistinct (nodes (map (row_at node kind) ps ++ more)) → length (map (row_at node kind) ps) ≤ 1
one_own node kind [] more d = omega arith
one_own node kind (p ∷ []) more d = omega arith
one_own node kind (p ∷ q ∷ ps) more d =
    let same : nat_eq node node ≡ true = grind (arith, nat_tests) in
    absurd (let no = (or_parts (nat_eq node node) (has_node node (nodes (map (row_at node kind) ps ++ more))) d.0).0 in cc)

behind : (xs ys : List Row) → AreDistinct (nodes (xs ++ ys)) → AreDistinct (nodes ys)
behind [] ys d = d
behind (x ∷ xs) ys d = behind xs ys d.1

pub one_amid : (table : List Triple) (c : List Bool) (front rest : List Entry) (own : Entry) → AreDistinct (map (λ r. r.node) (rows_in table c (front ++ own ∷ rest)))
    → (node : ℕ) (kind : Kind) → length (rows_of table c node kind own.places) ≤ 1
one_amid table c [] rest own d node kind =
    let few = one_own own.node own.kind (filter (λ (p : Place). value_in table p.vis c) own.places) (rows_in table c rest) d in
    let same = length_own table c own.node node own.kind kind (filter (λ (p : Place). value_in table p.vis c) own.places) in
    omega (arith, few, same)
one_amid table c (f ∷ front) rest own d node kind =
    one_amid table c front rest own (behind (rows_of table c f.node f.kind f.places) (rows_in table c (front ++ own ∷ rest)) d) node kind

-- and in a table that grew
pub once_later : (old new : List Triple) → Extends old new → (es : List Entry) → AllAreWithin old es → ((c : List Bool) → AreOnce (rows_in old c es)) → (c : List Bool) → AreOnce (rows_in new c es)
once_later old new grows es within once c = subst AreOnce (sym (rows_in-grown old new grows c es within)) (once c)

-- after either result
pub once_either : {A E : Type 0} (r : Result A E) (old new : List Triple) → Extends old new → (before after : List Entry) (change : RowChange) (ambition : ℕ) → AllAreWithin old before
    → ((c : List Bool) → AreOnce (rows_in old c before)) → ((c : List Bool) → IsFresh change (rows_in old c before))
    → OnOk r (Becomes old new before after change ambition) → OnErr r (after ≡ before) → (c : List Bool) → AreOnce (rows_in new c after)
once_either (Ok a) old new grows before after change ambition within once fresh b e = once_becomes old new before after change ambition once fresh b
once_either (Err a) old new grows before after change ambition within once fresh b e = subst (λ es. (c : List Bool) → AreOnce (rows_in new c es)) (sym e) (once_later old new grows before within once)

pub within_either : {A E : Type 0} (r : Result A E) (old new : List Triple) → Extends old new → (before after : List Entry) (change : RowChange) (ambition : ℕ) → AllAreWithin old before
    → OnOk r (Becomes old new before after change ambition) → OnErr r (after ≡ before) → AllAreWithin new after
within_either (Ok a) old new grows before after change ambition within b e = b.within
within_either (Err a) old new grows before after change ambition within b e = subst (AllAreWithin new) (sym e) (all_within-grown old new grows before within)
