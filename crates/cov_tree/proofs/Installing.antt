-- Nodes that get the places of a plan from a position on.
use Rattle.std.proofs.Common.{◌≡◌, ℕ, zero, suc, ◌<◌, ◌≤◌, Bool, true, false, cond, ◌||◌, nat_eq, nat_le, List, [], ◌∷◌, ◌++◌, map, set, get_or, length, Some, append-nil, refl, sym, ap, subst, ◌∙◌, arith}
use Rattle.std.specs.List.{filter, find, list_any, AllByRecursion}
use Rattle.std.specs.Option.{option_map_or}
use Rattle.std.proofs.lemmas.Bool.Decides.{nat_tests}
use Rattle.std.proofs.lemmas.Bool.{or_parts, eqb-true}
use Rattle.cov_base.specs.Older.{value_at}
use Rattle.cov_base.specs.Rows.{has_node, AreDistinct}
use Rattle.cov_base.proofs.CallerLemmas.{all-append, nat_eq-sym}
use Rattle.cov_dd.specs.declared.triple.Triple.{Triple}
use Rattle.cov_tree.specs.declared.entry.Entry.{Entry}
use Rattle.cov_tree.specs.declared.entry.Place.{Place}
use Rattle.cov_tree.specs.declared.dated.DatedEntry.{DatedEntry}
use Rattle.cov_tree.specs.Dated.{Dated, entry_at, newest_entry, newest_nodes, nodes_at, with_places_of, with_entry, planned, with_no_room, without_room, AreUntil, HasRoomFor, HaveRoomFor}
use Rattle.cov_tree.specs.Entries.{rows_of, rows_in, nodes_of, AreWithin, AllAreWithin}
use Rattle.cov_tree.specs.Planning.{IsFoundAs}
use Rattle.cov_tree.specs.Installing.{IsChanged, IsPut, AreAlike, AreChanged}
use Rattle.cov_tree.proofs.Holding.{kept_behind, kept_in_place, kept_put, kept_set}
use Rattle.cov_tree.proofs.Noting.{put_noted, set_noted}
use Rattle.cov_tree.proofs.Among.{is_of, rows_found, entry_first, find_none}
use Rattle.cov_tree.proofs.Planned.{with_new, planned_distinct}
use Rattle.cov_tree.proofs.Rows.{rows_in-append}

-- what doesn't speak of room
roomless : {X : Type 0} (f : DatedEntry → X) → ((e : DatedEntry) → f (with_no_room e) ≡ f e) → (es : List DatedEntry) → map f (map with_no_room es) ≡ map f es
roomless f is [] = refl
roomless f is (e ∷ es) = λ j. is e j ∷ roomless f is es j

pub same_but_room : {X : Type 0} (f : DatedEntry → X) → ((e : DatedEntry) → f (with_no_room e) ≡ f e) → (es fs : List DatedEntry) → map with_no_room fs ≡ map with_no_room es → map f fs ≡ map f es
same_but_room f is es fs same = sym (roomless f is fs) ∙ ap (map f) same ∙ roomless f is es

pub same_newest : (es fs : List DatedEntry) → map with_no_room fs ≡ map with_no_room es → map newest_entry fs ≡ map newest_entry es
same_newest es fs same = same_but_room newest_entry (λ e. refl) es fs same

until_by : (p : ℕ) (es : List DatedEntry) → AreUntil p es → AllByRecursion (λ n. n ≤ p) (map (λ e. e.from) es)
until_by p [] h = tt
until_by p (e ∷ es) h = (h.0, until_by p es h.1)

until_of : (p : ℕ) (es : List DatedEntry) → AllByRecursion (λ n. n ≤ p) (map (λ e. e.from) es) → AreUntil p es
until_of p [] h = tt
until_of p (e ∷ es) h = (h.0, until_of p es h.1)

pub until_but_room : (p : ℕ) (es fs : List DatedEntry) → map with_no_room fs ≡ map with_no_room es → AreUntil p es → AreUntil p fs
until_but_room p es fs same h =
    until_of p fs (subst (AllByRecursion (λ n. n ≤ p)) (sym (same_but_room (λ (e : DatedEntry). e.from) (λ e. refl) es fs same)) (until_by p es h))

-- nodes that differ in room alone are the same at each position
pub nodes_but_room : (old new : Dated) → without_room new ≡ without_room old → (p : ℕ) → nodes_at p new ≡ nodes_at p old
nodes_but_room old new same p = λ j. cond (nat_le (from j) p) (newest j) (at j)
  where
    from : new.from ≡ old.from
    from = ap (λ (d : Dated). d.from) same

    entries : map with_no_room new.entries ≡ map with_no_room old.entries
    entries = ap (λ (d : Dated). d.entries) same

    newest : newest_nodes new ≡ newest_nodes old
    newest = same_newest old.entries new.entries entries

    at : map (entry_at p) new.entries ≡ map (entry_at p) old.entries
    at = same_but_room (entry_at p) (λ e. refl) old.entries new.entries entries

pub newest_but_room : (old new : Dated) → without_room new ≡ without_room old → newest_nodes new ≡ newest_nodes old
newest_but_room old new same = same_newest old.entries new.entries (ap (λ (d : Dated). d.entries) same)

-- where no change is beyond a position, the nodes there are the newest
at_until : (p q : ℕ) (es : List DatedEntry) → p ≤ q → AreUntil p es → map (entry_at q) es ≡ map newest_entry es
at_until p q [] le h = refl
at_until p q (e ∷ es) le h =
    let low : e.from ≤ p = h.0 in
    let yes : nat_le e.from q ≡ true = grind (arith, nat_tests, low, le) in
    λ j. record { node = e.node; kind = e.kind; places = ap (λ b. cond b e.places (value_at [] e.older.lists q)) yes j } ∷ at_until p q es le h.1 j

pub nodes_are : (p : ℕ) (d : Dated) → AreUntil d.from d.entries → nodes_at p d ≡ map (entry_at p) d.entries
nodes_are p d h = by (nat_le d.from p) refl
  where
    by : (b : Bool) → nat_le d.from p ≡ b → cond b (newest_nodes d) (map (entry_at p) d.entries) ≡ map (entry_at p) d.entries
    by true e = let le : d.from ≤ p = grind (arith, nat_tests, e) in sym (at_until d.from p d.entries le h)
    by false e = refl

-- the numbers of the nodes are the same at each position
pub numbers_at : (p : ℕ) (es : List DatedEntry) → nodes_of (map (entry_at p) es) ≡ nodes_of (map newest_entry es)
numbers_at p [] = refl
numbers_at p (e ∷ es) = ap (λ ns. e.node ∷ ns) (numbers_at p es)

pub node_among : (n : ℕ) (es : List DatedEntry) → has_node n (nodes_of (map newest_entry es)) ≡ list_any (λ e. nat_eq e.node n) es
node_among n [] = refl
node_among n (e ∷ es) = ap (λ b. nat_eq e.node n || b) (node_among n es)

-- a node that stands at a place
module _ (n : ℕ) where
  pub there : (es : List DatedEntry) (i : ℕ) (d : DatedEntry) → i < length es → nat_eq (get_or es i d).node n ≡ true → has_node n (nodes_of (map newest_entry es)) ≡ true
  there [] i d here is = absurd (omega (arith, here))
  there (e ∷ es) zero d here is = ap (λ b. b || has_node n (nodes_of (map newest_entry es))) is
  there (e ∷ es) (suc i) d here is = by (nat_eq e.node n) (there es i d (omega (arith, here)) is)
    where
      by : (b : Bool) → has_node n (nodes_of (map newest_entry es)) ≡ true → (b || has_node n (nodes_of (map newest_entry es))) ≡ true
      by true h = refl
      by false h = h

  -- the nodes before it are others
  pub others : (e : DatedEntry) (es : List DatedEntry) (i : ℕ) (d : DatedEntry) → i < length es → nat_eq (get_or es i d).node n ≡ true → has_node e.node (nodes_of (map newest_entry es)) ≡ false
      → nat_eq e.node n ≡ false
  others e es i d here is absent = by (nat_eq e.node n) refl
    where
      by : (b : Bool) → nat_eq e.node n ≡ b → b ≡ false
      by true same =
          let own : e.node ≡ n = eqb-true e.node n same in absurd (let yes = there es i d here is in let none = ap (λ m. has_node m (nodes_of (map newest_entry es))) (sym own) ∙ absent in cc)
      by false same = refl

length_at : {X Y : Type 0} (f : X → Y) (xs : List X) (i : ℕ) → i < length xs → i < length (map f xs)
length_at f [] i here = absurd (omega (arith, here))
length_at f (x ∷ xs) zero here = omega arith
length_at f (x ∷ xs) (suc i) here = let rest = length_at f xs i (omega (arith, here)) in omega (arith, rest)

item_at : {X Y : Type 0} (f : X → Y) (xs : List X) (i : ℕ) (d : X) → f (get_or xs i d) ≡ get_or (map f xs) i (f d)
item_at f [] i d = refl
item_at f (x ∷ xs) zero d = refl
item_at f (x ∷ xs) (suc i) d = item_at f xs i d

-- the node that is found at a place
pub found_at : (f : DatedEntry → Entry) → ((e : DatedEntry) → (f e).node ≡ e.node) → (n : ℕ) (es : List DatedEntry) (i : ℕ) (e : DatedEntry) → AreDistinct (nodes_of (map f es)) → i < length es
    → e ≡ get_or es i e → nat_eq e.node n ≡ true → find (λ x. nat_eq x.node n) (map f es) ≡ Some (f e)
found_at f own n es i e distinct here at is =
    entry_first (map f es) i n (f e) distinct (length_at f es i here) (ap f at ∙ item_at f es i e) (ap (λ m. nat_eq m n) (own e) ∙ is)

-- and its rows
pub rows_there : (table : List Triple) (c : List Bool) (p n : ℕ) (es : List DatedEntry) (i : ℕ) (e : DatedEntry) → AreDistinct (nodes_of (map newest_entry es)) → i < length es → e ≡ get_or es i e
    → nat_eq e.node n ≡ true → filter (is_of n) (rows_in table c (map (entry_at p) es)) ≡ rows_of table c e.node e.kind (entry_at p e).places
rows_there table c p n es i e distinct here at is =
    let same = subst AreDistinct (sym (numbers_at p es)) distinct in
    rows_found table c n (map (entry_at p) es) same
    ∙ ap (λ o. option_map_or (λ (x : Entry). rows_of table c x.node x.kind x.places) o []) (found_at (entry_at p) (λ x. refl) n es i e same here at is)

pub no_rows_there : (table : List Triple) (c : List Bool) (p n : ℕ) (es : List DatedEntry) → AreDistinct (nodes_of (map newest_entry es)) → has_node n (nodes_of (map newest_entry es)) ≡ false
    → filter (is_of n) (rows_in table c (map (entry_at p) es)) ≡ []
no_rows_there table c p n es distinct none =
    rows_found table c n (map (entry_at p) es) (subst AreDistinct (sym (numbers_at p es)) distinct)
    ∙ ap (λ o. option_map_or (λ (x : Entry). rows_of table c x.node x.kind x.places) o []) (find_none n (map (entry_at p) es) (ap (has_node n) (numbers_at p es) ∙ none))

-- nodes that are the same are alike
alike_same : (es fs : List Entry) → fs ≡ es → AreAlike es fs
alike_same es fs same = record {
  rows = λ table c. ap (rows_in table c) same;
  within = λ table h. subst (AllAreWithin table) (sym same) h;
}

alike_trans : (es fs gs : List Entry) → AreAlike es fs → AreAlike fs gs → AreAlike es gs
alike_trans es fs gs a b = record {
  rows = λ table c. b.rows table c ∙ a.rows table c;
  within = λ table h. b.within table (a.within table h);
}

-- a node that is there gets other places
module _ (at : ℕ) (f : Entry) (new : DatedEntry) where
  set_newest : (es : List DatedEntry) (i : ℕ) (d : DatedEntry) → AreDistinct (nodes_of (map newest_entry es)) → i < length es → nat_eq (get_or es i d).node f.node ≡ true
      → IsChanged at f.places (get_or es i d) new → map newest_entry (set es i new) ≡ with_entry f (map newest_entry es)
  set_newest [] i d distinct here is c = absurd (omega (arith, here))
  set_newest (e ∷ es) zero d distinct here is c =
      (λ j. record { node = c.node j; kind = c.kind j; places = c.places j } ∷ map newest_entry es)
      ∙ ap (λ b. cond b (with_places_of f (newest_entry e) ∷ map newest_entry es) (newest_entry e ∷ with_entry f (map newest_entry es))) (sym is)
  set_newest (e ∷ es) (suc i) d distinct here is c =
      ap (λ xs. newest_entry e ∷ xs) (set_newest es i d distinct.1 (omega (arith, here)) is c)
      ∙ ap (λ b. cond b (with_places_of f (newest_entry e) ∷ map newest_entry es) (newest_entry e ∷ with_entry f (map newest_entry es)))
      (sym (others f.node e es i d (omega (arith, here)) is distinct.0))

  set_before : (p : ℕ) → p < at → (es : List DatedEntry) (i : ℕ) (d : DatedEntry) → i < length es → IsChanged at f.places (get_or es i d) new → map (entry_at p) (set es i new) ≡ map (entry_at p) es
  set_before p low [] i d here c = absurd (omega (arith, here))
  set_before p low (e ∷ es) zero d here c = λ j. record { node = c.node j; kind = c.kind j; places = c.before p low j } ∷ map (entry_at p) es
  set_before p low (e ∷ es) (suc i) d here c = ap (λ xs. entry_at p e ∷ xs) (set_before p low es i d (omega (arith, here)) c)

  set_until : (es : List DatedEntry) (i : ℕ) → new.from ≡ at → AreUntil at es → AreUntil at (set es i new)
  set_until [] i is h = tt
  set_until (e ∷ es) zero is h = (omega (arith, is), h.1)
  set_until (e ∷ es) (suc i) is h = (h.0, set_until es i is h.1)

  pub set_changed : (es : List DatedEntry) (i : ℕ) (d : DatedEntry) → AreDistinct (nodes_of (map newest_entry es)) → i < length es → nat_eq (get_or es i d).node f.node ≡ true
      → IsChanged at f.places (get_or es i d) new → AreChanged at (f ∷ []) es (set es i new)
  set_changed es i d distinct here is c = record {
    newest = set_newest es i d distinct here is c;
    before = λ p low. alike_same (map (entry_at p) es) (map (entry_at p) (set es i new)) (set_before p low es i d here c);
    kept = λ table h plan. kept_set table new es i d here h (λ own. c.kept table own plan.0);
    until = λ h. set_until es i c.from h;
    noted = λ all own h. set_noted at f new all own.0 es i d here is c h;
  }

-- a node that is made stands behind the others
pub map_behind : {X Y : Type 0} (f : X → Y) (xs : List X) (x : X) → map f (xs ++ x ∷ []) ≡ map f xs ++ f x ∷ []
map_behind f [] x = refl
map_behind f (y ∷ xs) x = ap (λ ys. f y ∷ ys) (map_behind f xs x)

none_before : (at p : ℕ) (made : DatedEntry) → p < at → made.from ≡ at → made.older.lists ≡ [] → (entry_at p made).places ≡ []
none_before at p made low from older =
    let no : nat_le made.from p ≡ false = grind (arith, nat_tests, low, from) in
    ap (λ b. cond b made.places (value_at [] made.older.lists p)) no ∙ ap (λ ls. value_at [] ls p) older

put_alike : (at p : ℕ) (f : Entry) (es new : List DatedEntry) → p < at → IsPut at f es new → AreAlike (map (entry_at p) es) (map (entry_at p) new)
put_alike at p f es new low put = record {
  rows = λ table c.
      let empty : rows_in table c (map (entry_at p) es) ++ (rows_of table c put.made.node put.made.kind [] ++ []) ≡ rows_in table c (map (entry_at p) es) = append-nil (rows_in table c (map (entry_at p) es)) in
      ap (rows_in table c) is
      ∙ rows_in-append table c (map (entry_at p) es) (entry_at p put.made ∷ [])
      ∙ ap (λ ps. rows_in table c (map (entry_at p) es) ++ (rows_of table c put.made.node put.made.kind ps ++ [])) none
      ∙ empty;
  within = λ table h.
      subst (AllAreWithin table) (sym is)
      (all-append (λ (e : Entry). AreWithin table e.places) (map (entry_at p) es) (entry_at p put.made ∷ []) h (subst (AreWithin table) (sym none) tt, tt));
}
  where
    is : map (entry_at p) new ≡ map (entry_at p) es ++ entry_at p put.made ∷ []
    is = ap (map (entry_at p)) put.is ∙ map_behind (entry_at p) es put.made

    none : (entry_at p put.made).places ≡ []
    none = none_before at p put.made low put.from put.older

pub put_changed : (at : ℕ) (f : Entry) (es new : List DatedEntry) → has_node f.node (nodes_of (map newest_entry es)) ≡ false → IsPut at f es new → AreChanged at (f ∷ []) es new
put_changed at f es new none put = record {
  newest =
      ap (map newest_entry) put.is
      ∙ map_behind newest_entry es put.made
      ∙ ap (λ e. map newest_entry es ++ e ∷ []) put.newest
      ∙ sym (with_new f (map newest_entry es) none);
  before = λ p low. put_alike at p f es new low put;
  kept = λ table h plan. kept_put table at f es new put h plan.0;
  noted = λ all own h. put_noted at f all es new own.0 put h;
  until = λ h. subst (AreUntil at) (sym put.is) (let from = put.from in all-append (λ e. e.from ≤ at) es (put.made ∷ []) h (omega (arith, from), tt));
}

-- change by change
pub none_changed : (at : ℕ) (es : List DatedEntry) → AreChanged at [] es es
none_changed at es = record {
  newest = refl;
  before = λ p low. alike_same (map (entry_at p) es) (map (entry_at p) es) refl;
  kept = λ table h plan. h;
  until = λ h. h;
  noted = λ all own h. h;
}

pub more_changed : (at : ℕ) (f : Entry) (plan : List Entry) (es fs gs : List DatedEntry) → AreChanged at (f ∷ []) es fs → AreChanged at plan fs gs → AreChanged at (f ∷ plan) es gs
more_changed at f plan es fs gs a b = record {
  newest = b.newest ∙ ap (planned plan) a.newest;
  before = λ p low. alike_trans (map (entry_at p) es) (map (entry_at p) fs) (map (entry_at p) gs) (a.before p low) (b.before p low);
  kept = λ table h plan'. b.kept table (a.kept table h (plan'.0, tt)) plan'.1;
  until = λ h. b.until (a.until h);
  noted = λ all own h. b.noted all own.1 (a.noted all (own.0, tt) h);
}

pub changed_distinct : (at : ℕ) (f : Entry) (es fs : List DatedEntry) → nat_eq f.node 0 ≡ false → AreDistinct (0 ∷ nodes_of (map newest_entry es)) → AreChanged at (f ∷ []) es fs
    → AreDistinct (0 ∷ nodes_of (map newest_entry fs))
changed_distinct at f es fs inner distinct a =
    subst (λ xs. AreDistinct (0 ∷ nodes_of xs)) (sym a.newest) (planned_distinct (f ∷ []) (map newest_entry es) (ap (λ b. b || false) inner, (refl, tt)) distinct)

-- the room for the others is left
pub room_left : (n : ℕ) (plan : List Entry) (es fs : List DatedEntry) → has_node n (nodes_of plan) ≡ false
    → ((other : ℕ) → nat_eq n other ≡ false → AllByRecursion (HasRoomFor other) es → AllByRecursion (HasRoomFor other) fs) → HaveRoomFor plan es → HaveRoomFor plan fs
room_left n [] es fs none kept h = tt
room_left n (g ∷ plan) es fs none kept h =
    let parts = or_parts (nat_eq g.node n) (has_node n (nodes_of plan)) none in
    (kept g.node (nat_eq-sym n g.node ∙ parts.0) h.0, room_left n plan es fs parts.1 kept h.1)

-- a node's places are set
module _ (at : ℕ) (places : List Place) (old new : DatedEntry) (node : new.node ≡ old.node) (kind : new.kind ≡ old.kind) (set_to : new.places ≡ places) (from : new.from ≡ at) where
  beyond : (p : ℕ) → p < at → (entry_at p new).places ≡ value_at [] new.older.lists p
  beyond p low =
      let no : nat_le new.from p ≡ false = grind (arith, nat_tests, low, from) in
      ap (λ b. cond b new.places (value_at [] new.older.lists p)) no

  -- in the place of those of the same position
  pub set_in_place : old.from ≡ at → new.older.lists ≡ old.older.lists → IsChanged at places old new
  set_in_place same older = record {
    node = node;
    kind = kind;
    places = set_to;
    from = from;
    before = λ p low.
        let no : nat_le old.from p ≡ false = grind (arith, nat_tests, low, same) in
        beyond p low
        ∙ ap (λ ls. value_at [] ls p) older
        ∙ ap (λ b. cond b old.places (value_at [] old.older.lists p)) (sym no);
    kept = λ table h k. kept_in_place table places old new set_to h k older;
  }

  -- or behind those before
  pub set_behind : new.older.lists ≡ (old.from, old.places) ∷ old.older.lists → IsChanged at places old new
  set_behind older = record {
    node = node;
    kind = kind;
    places = set_to;
    from = from;
    before = λ p low. beyond p low ∙ ap (λ ls. value_at [] ls p) older;
    kept = λ table h k. kept_behind table places old new set_to h k older;
  }

-- room for a change of a node
pub room_same : (es : List DatedEntry) (i : ℕ) (d new : DatedEntry) → with_no_room new ≡ with_no_room (get_or es i d) → map with_no_room (set es i new) ≡ map with_no_room es
room_same [] i d new same = refl
room_same (e ∷ es) zero d new same = ap (λ x. x ∷ map with_no_room es) same
room_same (e ∷ es) (suc i) d new same = ap (λ xs. with_no_room e ∷ xs) (room_same es i d new same)

pub none_wanted : (n : ℕ) (es : List DatedEntry) → has_node n (nodes_of (map newest_entry es)) ≡ false → AllByRecursion (HasRoomFor n) es
none_wanted n [] none = tt
none_wanted n (e ∷ es) none =
    let parts = or_parts (nat_eq e.node n) (has_node n (nodes_of (map newest_entry es))) none in
    (λ same. absurd (let no = parts.0 in cc), none_wanted n es parts.1)

pub room_made : (n : ℕ) (new : DatedEntry) → 0 < new.older.room → (es : List DatedEntry) (i : ℕ) (d : DatedEntry) → AreDistinct (nodes_of (map newest_entry es)) → i < length es
    → nat_eq (get_or es i d).node n ≡ true → AllByRecursion (HasRoomFor n) (set es i new)
room_made n new some [] i d distinct here is = absurd (omega (arith, here))
room_made n new some (e ∷ es) zero d distinct here is =
    let own : e.node ≡ n = eqb-true e.node n is in (λ same. some, none_wanted n es (ap (λ m. has_node m (nodes_of (map newest_entry es))) (sym own) ∙ distinct.0))
room_made n new some (e ∷ es) (suc i) d distinct here is =
    let no = others n e es i d (omega (arith, here)) is distinct.0 in
    (λ same. absurd (cc), room_made n new some es i d distinct.1 (omega (arith, here)) is)

pub room_kept : (other : ℕ) (new : DatedEntry) → HasRoomFor other new → (es : List DatedEntry) (i : ℕ) → AllByRecursion (HasRoomFor other) es → AllByRecursion (HasRoomFor other) (set es i new)
room_kept other new some [] i h = tt
room_kept other new some (e ∷ es) zero h = (some, h.1)
room_kept other new some (e ∷ es) (suc i) h = (h.0, room_kept other new some es i h.1)

pub room_at : (n : ℕ) (es : List DatedEntry) (i : ℕ) (d : DatedEntry) → i < length es → nat_eq (get_or es i d).node n ≡ true → AllByRecursion (HasRoomFor n) es → 0 < (get_or es i d).older.room
room_at n [] i d here is h = absurd (omega (arith, here))
room_at n (e ∷ es) zero d here is h = h.0 is
room_at n (e ∷ es) (suc i) d here is h = room_at n es i d (omega (arith, here)) is h.1

-- a change leaves the room of other nodes
other_node : (f : Entry) (new : DatedEntry) (other : ℕ) → new.node ≡ f.node → nat_eq f.node other ≡ false → HasRoomFor other new
other_node f new other own apart = λ same. absurd (let no = ap (λ n. nat_eq n other) own ∙ apart in cc)

pub room_beside : (at : ℕ) (f : Entry) (new : DatedEntry) (es : List DatedEntry) (i : ℕ) (d : DatedEntry) → nat_eq (get_or es i d).node f.node ≡ true → IsChanged at f.places (get_or es i d) new
    → (other : ℕ) → nat_eq f.node other ≡ false → AllByRecursion (HasRoomFor other) es → AllByRecursion (HasRoomFor other) (set es i new)
room_beside at f new es i d is c other apart h = room_kept other new (other_node f new other (c.node ∙ eqb-true (get_or es i d).node f.node is) apart) es i h

pub room_before : (at : ℕ) (f : Entry) (es new : List DatedEntry) → IsPut at f es new → (other : ℕ) → nat_eq f.node other ≡ false → AllByRecursion (HasRoomFor other) es → AllByRecursion (HasRoomFor other) new
room_before at f es new put other apart h =
    subst (AllByRecursion (HasRoomFor other)) (sym put.is)
    (all-append (HasRoomFor other) es (put.made ∷ []) h (other_node f put.made other (ap (λ (e : Entry). e.node) put.newest) apart, tt))

-- the first of a plan is done, and the rest is left
module _ (at : ℕ) (f : Entry) (plan rest : List Entry) (is : plan ≡ f ∷ rest) where
  opened : AreDistinct (0 ∷ nodes_of plan) → AreDistinct (0 ∷ nodes_of (f ∷ rest))
  opened h = subst (λ xs. AreDistinct (0 ∷ nodes_of xs)) is h

  pub rest_distinct : AreDistinct (0 ∷ nodes_of plan) → AreDistinct (0 ∷ nodes_of rest)
  rest_distinct h = let whole = opened h in ((or_parts (nat_eq f.node 0) (has_node 0 (nodes_of rest)) whole.0).1, tail f.node (nodes_of rest) whole.1)
    where
      tail : (n : ℕ) (ns : List ℕ) → AreDistinct (n ∷ ns) → AreDistinct ns
      tail n ns d = d.1

  pub first_room : (es : List DatedEntry) → HaveRoomFor plan es → AllByRecursion (HasRoomFor f.node) es
  first_room es h = (subst (λ xs. HaveRoomFor xs es) is h).0

  pub rest_room : (es fs : List DatedEntry) → AreDistinct (0 ∷ nodes_of plan)
      → ((other : ℕ) → nat_eq f.node other ≡ false → AllByRecursion (HasRoomFor other) es → AllByRecursion (HasRoomFor other) fs) → HaveRoomFor plan es → HaveRoomFor rest fs
  rest_room es fs distinct kept h = room_left f.node rest es fs (head f.node (nodes_of rest) (opened distinct).1) kept (subst (λ xs. HaveRoomFor xs es) is h).1
    where
      head : (n : ℕ) (ns : List ℕ) → AreDistinct (n ∷ ns) → has_node n ns ≡ false
      head n ns d = d.0

  pub still_once : (es fs : List DatedEntry) → AreDistinct (0 ∷ nodes_of plan) → AreDistinct (0 ∷ nodes_of (map newest_entry es)) → AreChanged at (f ∷ []) es fs → AreDistinct (0 ∷ nodes_of (map newest_entry fs))
  still_once es fs distinct once a = changed_distinct at f es fs (or_parts (nat_eq f.node 0) (has_node 0 (nodes_of rest)) (opened distinct).0).0 once a

  pub and_then : (es fs gs : List DatedEntry) → AreChanged at (f ∷ []) es fs → AreChanged at rest fs gs → AreChanged at plan es gs
  and_then es fs gs a b = subst (λ xs. AreChanged at xs es gs) (sym is) (more_changed at f rest es fs gs a b)

-- a node that is found as it is since its newest change
pub found_as : (n : ℕ) (es : List DatedEntry) (i : ℕ) (e : DatedEntry) → AreDistinct (0 ∷ nodes_of (map newest_entry es)) → i < length es → e ≡ get_or es i e → nat_eq e.node n ≡ true
    → IsFoundAs n (Some (newest_entry e)) (map newest_entry es)
found_as n es i e distinct here at is =
    let own : e.node ≡ n = eqb-true e.node n is in (
      subst (λ m. find (λ x. nat_eq x.node m) (map newest_entry es) ≡ Some (newest_entry e)) (sym own) (found_at newest_entry (λ x. refl) n es i e (rest distinct) here at is),
      own,
      inner es i (rootless distinct) here at,
    )
  where
    rest : AreDistinct (0 ∷ nodes_of (map newest_entry es)) → AreDistinct (nodes_of (map newest_entry es))
    rest d = d.1

    rootless : AreDistinct (0 ∷ nodes_of (map newest_entry es)) → has_node 0 (nodes_of (map newest_entry es)) ≡ false
    rootless d = d.0

    inner : (xs : List DatedEntry) (k : ℕ) → has_node 0 (nodes_of (map newest_entry xs)) ≡ false → k < length xs → e ≡ get_or xs k e → nat_eq e.node 0 ≡ false
    inner [] k none below stands = absurd (omega (arith, below))
    inner (x ∷ xs) zero none below stands = ap (λ (y : DatedEntry). nat_eq y.node 0) stands ∙ (or_parts (nat_eq x.node 0) (has_node 0 (nodes_of (map newest_entry xs))) none).0
    inner (x ∷ xs) (suc k) none below stands = inner xs k (or_parts (nat_eq x.node 0) (has_node 0 (nodes_of (map newest_entry xs))) none).1 (omega (arith, below)) stands
