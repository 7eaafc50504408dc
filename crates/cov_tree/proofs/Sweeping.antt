-- Nodes whose visibilities are renumbered.
use Rattle.std.proofs.Common.{◌≡◌, ℕ, nat_le, Bool, true, false, ◌||◌, cond, List, [], ◌∷◌, ◌++◌, length, map, reverse, refl, sym, ap, ◌∙◌, subst, arith, length-append}
use Rattle.std.specs.List.{filter, AllByRecursion, AllZip}
use Rattle.std.proofs.lemmas.Grind.{reverse_onto}
use Rattle.std.proofs.lemmas.List.{length-map, reverse-reverse}
use Rattle.indexmap.proofs.ReorderLemmas.{map-reverse}
use Rattle.cov_base.specs.Older.{value_at}
use Rattle.cov_base.specs.declared.number.Kind.{Kind}
use Rattle.cov_dd.specs.declared.triple.Triple.{Triple}
use Rattle.cov_dd.specs.Diagrams.{value_in}
use Rattle.cov_dd.specs.Sweeps.{IsRenumbered}
use Rattle.cov_tree.specs.declared.entry.Place.{Place}
use Rattle.cov_tree.specs.declared.dated.DatedEntry.{DatedEntry}
use Rattle.cov_tree.specs.Dated.{Dated, entry_at, newest_entry, newest_nodes, AreUntil}
use Rattle.cov_tree.specs.Entries.{rows_in, rows_of, row_at, nodes_of, AllAreWithin, AreWithin}
use Rattle.cov_tree.specs.Installing.{AreAllNoted}
use Rattle.cov_tree.specs.Noted.{Noted, AreNoted, is_noted}
use Rattle.cov_tree.specs.Places.{has_place, is_one_place, AreApart}
use Rattle.cov_base.specs.Replacing.{having}
use Rattle.cov_tree.specs.Renumbered.{all_numbers, entry_visibilities, entry_without_vis, having_vis, list_visibilities, list_without_vis, visibilities, visibilities_of, without_vis, KeepsRows}

module _ {X Z : Type 0} (R : X → Z → Type 0) where
  zip-joined : (xs ys : List X) (us vs : List Z) → AllZip R xs us → AllZip R ys vs → AllZip R (xs ++ ys) (us ++ vs)
  zip-joined [] ys [] vs z w = w
  zip-joined [] ys (u ∷ us) vs z w = absurd z
  zip-joined (x ∷ xs) ys [] vs z w = absurd z
  zip-joined (x ∷ xs) ys (u ∷ us) vs z w = (z.0, zip-joined xs ys us vs z.1 w)

  zip-parts : (xs ys : List X) (us vs : List Z) → length us ≡ length xs → AllZip R (xs ++ ys) (us ++ vs) → AllZip R xs us × AllZip R ys vs
  zip-parts [] ys [] vs long z = (tt, z)
  zip-parts [] ys (u ∷ us) vs long z = absurd (omega (arith, long))
  zip-parts (x ∷ xs) ys [] vs long z = absurd (omega (arith, long))
  zip-parts (x ∷ xs) ys (u ∷ us) vs long z = let rest = zip-parts xs ys us vs (omega (arith, long)) z.1 in ((z.0, rest.0), rest.1)

  zip-reverse : (xs : List X) (us : List Z) → AllZip R xs us → AllZip R (reverse xs) (reverse us)
  zip-reverse [] [] z = tt
  zip-reverse [] (u ∷ us) z = absurd z
  zip-reverse (x ∷ xs) [] z = absurd z
  zip-reverse (x ∷ xs) (u ∷ us) z =
      subst (λ (q : List X × List Z). AllZip R q.0 q.1) (λ j. (sym (reverse_onto xs x []) j, sym (reverse_onto us u []) j))
      (zip-joined (reverse xs) (x ∷ []) (reverse us) (u ∷ []) (zip-reverse xs us z.1) (z.0, tt))

-- any numbers, as many
zip-any : (xs ys : List ℕ) → length ys ≡ length xs → AllZip (λ (a b : ℕ). Unit {0}) xs ys
zip-any [] [] long = tt
zip-any [] (y ∷ ys) long = absurd (omega (arith, long))
zip-any (x ∷ xs) [] long = absurd (omega (arith, long))
zip-any (x ∷ xs) (y ∷ ys) long = (tt, zip-any xs ys (omega (arith, long)))

-- nodes that differ in their visibilities, of which each two are in a relation
module _ (V : ℕ → ℕ → Type 0) where
  pub record IsPlace (p q : Place) : Type 0 where
    pub parent : q.parent ≡ p.parent
    pub name : q.name ≡ p.name
    pub vis : V p.vis q.vis

  abbrev ArePlaces : List Place → List Place → Type 0
  ArePlaces ps qs = AllZip IsPlace ps qs

  pub record IsList (l m : ℕ × List Place) : Type 0 where
    pub from : m.0 ≡ l.0
    pub places : ArePlaces l.1 m.1

  pub record IsEntry (e f : DatedEntry) : Type 0 where
    pub node : f.node ≡ e.node
    pub kind : f.kind ≡ e.kind
    pub from : f.from ≡ e.from
    pub places : ArePlaces e.places f.places
    pub older : AllZip IsList e.older.lists f.older.lists

  places_are : (ps qs : List Place) → without_vis qs ≡ without_vis ps → AllZip V (visibilities_of ps) (visibilities_of qs) → ArePlaces ps qs
  places_are [] [] e z = tt
  places_are [] (q ∷ qs) e z = absurd z
  places_are (p ∷ ps) [] e z = absurd z
  places_are (p ∷ ps) (q ∷ qs) e z =
      let first : having_vis 0 q ≡ having_vis 0 p = cc in
      let rest : without_vis qs ≡ without_vis ps = cc in
      (record { parent = ap (λ (r : Place). r.parent) first; name = ap (λ (r : Place). r.name) first; vis = z.0 }, places_are ps qs rest z.1)

  as_long : (ps qs : List Place) → without_vis qs ≡ without_vis ps → length (visibilities_of qs) ≡ length (visibilities_of ps)
  as_long ps qs e = length-map qs (λ p. p.vis) ∙ sym (length-map qs (having_vis 0)) ∙ ap length e ∙ length-map ps (having_vis 0) ∙ sym (length-map ps (λ p. p.vis))

  lists_are : (ls ms : List (ℕ × List Place)) → map list_without_vis ms ≡ map list_without_vis ls → AllZip V (all_numbers list_visibilities ls) (all_numbers list_visibilities ms) → AllZip IsList ls ms
  lists_are [] [] e z = tt
  lists_are [] (m ∷ ms) e z = absurd (cc)
  lists_are (l ∷ ls) [] e z = absurd (cc)
  lists_are (l ∷ ls) (m ∷ ms) e z =
      let first : list_without_vis m ≡ list_without_vis l = cc in
      let rest : map list_without_vis ms ≡ map list_without_vis ls = cc in
      let places : without_vis m.1 ≡ without_vis l.1 = ap (λ (k : ℕ × List Place). k.1) first in
      let parts = zip-parts V (visibilities_of l.1) (all_numbers list_visibilities ls) (visibilities_of m.1) (all_numbers list_visibilities ms) (as_long l.1 m.1 places) z in
      (record { from = ap (λ (k : ℕ × List Place). k.0) first; places = places_are l.1 m.1 places parts.0 }, lists_are ls ms rest parts.1)

  lists-long : (ls ms : List (ℕ × List Place)) → map list_without_vis ms ≡ map list_without_vis ls → length (all_numbers list_visibilities ms) ≡ length (all_numbers list_visibilities ls)
  lists-long [] [] e = refl
  lists-long [] (m ∷ ms) e = absurd (cc)
  lists-long (l ∷ ls) [] e = absurd (cc)
  lists-long (l ∷ ls) (m ∷ ms) e =
      let first : list_without_vis m ≡ list_without_vis l = cc in
      let rest : map list_without_vis ms ≡ map list_without_vis ls = cc in
      let here = as_long l.1 m.1 (ap (λ (k : ℕ × List Place). k.1) first) in
      let behind = lists-long ls ms rest in
      let old = length-append (visibilities_of l.1) (all_numbers list_visibilities ls) in
      let new = length-append (visibilities_of m.1) (all_numbers list_visibilities ms) in
      omega (arith, here, behind, old, new)

  reversed : (ls ms : List (ℕ × List Place)) → map list_without_vis ms ≡ map list_without_vis ls → map list_without_vis (reverse ms) ≡ map list_without_vis (reverse ls)
  reversed ls ms e = map-reverse list_without_vis ms ∙ ap reverse e ∙ sym (map-reverse list_without_vis ls)

  module _ (e f : DatedEntry) (same : entry_without_vis f ≡ entry_without_vis e) where
    same_places : without_vis f.places ≡ without_vis e.places
    same_places = ap (λ (d : DatedEntry). d.places) same

    same_older : map list_without_vis (reverse f.older.lists) ≡ map list_without_vis (reverse e.older.lists)
    same_older = reversed e.older.lists f.older.lists (ap (λ (d : DatedEntry). d.older.lists) same)

    pub entry-long : length (entry_visibilities f) ≡ length (entry_visibilities e)
    entry-long =
        let here = as_long e.places f.places same_places in
        let behind = lists-long (reverse e.older.lists) (reverse f.older.lists) same_older in
        let old = length-append (visibilities_of e.places) (all_numbers list_visibilities (reverse e.older.lists)) in
        let new = length-append (visibilities_of f.places) (all_numbers list_visibilities (reverse f.older.lists)) in
        omega (arith, here, behind, old, new)

    pub entry_is : AllZip V (entry_visibilities e) (entry_visibilities f) → IsEntry e f
    entry_is z =
        let parts = zip-parts V (visibilities_of e.places) (all_numbers list_visibilities (reverse e.older.lists)) (visibilities_of f.places) (all_numbers list_visibilities (reverse f.older.lists)) (as_long e.places f.places same_places) z in
        record {
          node = ap (λ (d : DatedEntry). d.node) same;
          kind = ap (λ (d : DatedEntry). d.kind) same;
          from = ap (λ (d : DatedEntry). d.from) same;
          places = places_are e.places f.places same_places parts.0;
          older =
              subst (λ (q : List (ℕ × List Place) × List (ℕ × List Place)). AllZip IsList q.0 q.1) (λ j. (reverse-reverse e.older.lists j, reverse-reverse f.older.lists j))
              (zip-reverse IsList (reverse e.older.lists) (reverse f.older.lists) (lists_are (reverse e.older.lists) (reverse f.older.lists) same_older parts.1));
        }

  pub entries_are : (es fs : List DatedEntry) → map entry_without_vis fs ≡ map entry_without_vis es → AllZip V (all_numbers entry_visibilities es) (all_numbers entry_visibilities fs) → AllZip IsEntry es fs
  entries_are [] [] e z = tt
  entries_are [] (f ∷ fs) e z = absurd (cc)
  entries_are (e' ∷ es) [] e z = absurd (cc)
  entries_are (e' ∷ es) (f ∷ fs) e z =
      let first : entry_without_vis f ≡ entry_without_vis e' = cc in
      let rest : map entry_without_vis fs ≡ map entry_without_vis es = cc in
      let parts = zip-parts V (entry_visibilities e') (all_numbers entry_visibilities es) (entry_visibilities f) (all_numbers entry_visibilities fs) (entry-long e' f first) z in
      (entry_is e' f first parts.0, entries_are es fs rest parts.1)

  older_at : (p : ℕ) (ls ms : List (ℕ × List Place)) → AllZip IsList ls ms → ArePlaces (value_at [] ls p) (value_at [] ms p)
  older_at p [] [] z = tt
  older_at p [] (m ∷ ms) z = absurd z
  older_at p (l ∷ ls) [] z = absurd z
  older_at p (l ∷ ls) (m ∷ ms) z =
      subst (λ b. ArePlaces (cond (nat_le l.0 p) l.1 (value_at [] ls p)) (cond b m.1 (value_at [] ms p))) (ap (λ n. nat_le n p) (sym z.0.from))
      (at (nat_le l.0 p) (older_at p ls ms z.1))
    where
      at : (b : Bool) → ArePlaces (value_at [] ls p) (value_at [] ms p) → ArePlaces (cond b l.1 (value_at [] ls p)) (cond b m.1 (value_at [] ms p))
      at true rest = z.0.places
      at false rest = rest

  pub places_at : (p : ℕ) (e f : DatedEntry) → IsEntry e f → ArePlaces (entry_at p e).places (entry_at p f).places
  places_at p e f i = older_at p ((e.from, e.places) ∷ e.older.lists) ((f.from, f.places) ∷ f.older.lists) (record { from = i.from; places = i.places }, i.older)

  pub numbers_are : (es fs : List DatedEntry) → AllZip IsEntry es fs → nodes_of (map newest_entry fs) ≡ nodes_of (map newest_entry es)
  numbers_are [] [] z = refl
  numbers_are [] (f ∷ fs) z = absurd z
  numbers_are (e ∷ es) [] z = absurd z
  numbers_are (e ∷ es) (f ∷ fs) z = λ j. z.0.node j ∷ numbers_are es fs z.1 j

  pub until_are : (p : ℕ) (es fs : List DatedEntry) → AllZip IsEntry es fs → AreUntil p es → AreUntil p fs
  until_are p [] [] z h = tt
  until_are p [] (f ∷ fs) z h = absurd z
  until_are p (e ∷ es) [] z h = absurd z
  until_are p (e ∷ es) (f ∷ fs) z h = (omega (arith, z.0.from, h.0), until_are p es fs z.1 h.1)

  noted_are : (noted : Noted) (node : ℕ) (ps qs : List Place) → ArePlaces ps qs → AreNoted noted node ps → AreNoted noted node qs
  noted_are noted node [] [] z h = tt
  noted_are noted node [] (q ∷ qs) z h = absurd z
  noted_are noted node (p ∷ ps) [] z h = absurd z
  noted_are noted node (p ∷ ps) (q ∷ qs) z h =
      ((λ j. is_noted noted node (record { parent = z.0.parent j; name = z.0.name j; vis = 0 })) ∙ h.0, noted_are noted node ps qs z.1 h.1)

  pub all_noted_are : (noted : Noted) (es fs : List DatedEntry) → AllZip IsEntry es fs → AreAllNoted noted es → AreAllNoted noted fs
  all_noted_are noted [] [] z h = tt
  all_noted_are noted [] (f ∷ fs) z h = absurd z
  all_noted_are noted (e ∷ es) [] z h = absurd z
  all_noted_are noted (e ∷ es) (f ∷ fs) z h =
      ((λ p. subst (λ n. AreNoted noted n (entry_at p f).places) (sym z.0.node) (noted_are noted e.node (entry_at p e).places (entry_at p f).places (places_at p e f z.0) (h.0 p))), all_noted_are noted es fs z.1 h.1)

-- the visibilities have the same options and values under their new numbers
module _ (ts us : List Triple) where
  abbrev V : ℕ → ℕ → Type 0
  V a b = IsRenumbered ts us a b

  zip-renumbered : (by : ℕ → ℕ) (xs : List ℕ) → AllByRecursion (λ a. IsRenumbered ts us a (by a)) xs → AllZip V xs (map by xs)
  zip-renumbered by [] h = tt
  zip-renumbered by (x ∷ xs) h = (h.0, zip-renumbered by xs h.1)

  rows_same : (c : List Bool) (node node' : ℕ) (kind kind' : Kind) (ps qs : List Place) → node' ≡ node → kind' ≡ kind → AllZip (IsPlace V) ps qs → rows_of us c node' kind' qs ≡ rows_of ts c node kind ps
  rows_same c node node' kind kind' [] [] n k z = refl
  rows_same c node node' kind kind' [] (q ∷ qs) n k z = absurd z
  rows_same c node node' kind kind' (p ∷ ps) [] n k z = absurd z
  rows_same c node node' kind kind' (p ∷ ps) (q ∷ qs) n k z =
      (λ j. map (row_at node' kind') (cond (z.0.vis.value c j) (q ∷ filter (λ r. value_in us r.vis c) qs) (filter (λ r. value_in us r.vis c) qs)))
      ∙ at (value_in ts p.vis c) (rows_same c node node' kind kind' ps qs n k z.1)
    where
      at : (b : Bool) → rows_of us c node' kind' qs ≡ rows_of ts c node kind ps
          → map (row_at node' kind') (cond b (q ∷ filter (λ r. value_in us r.vis c) qs) (filter (λ r. value_in us r.vis c) qs))
          ≡ map (row_at node kind) (cond b (p ∷ filter (λ r. value_in ts r.vis c) ps) (filter (λ r. value_in ts r.vis c) ps))
      at true rest = λ j. (record { node = n j; kind = k j; parent = z.0.parent j; name = z.0.name j }) ∷ rest j
      at false rest = rest

  within_same : (ps qs : List Place) → AllZip (IsPlace V) ps qs → AreWithin us qs
  within_same [] [] z = tt
  within_same [] (q ∷ qs) z = absurd z
  within_same (p ∷ ps) [] z = absurd z
  within_same (p ∷ ps) (q ∷ qs) z = (z.0.vis.within, within_same ps qs z.1)

  module _ (c : List Bool) where
    newest_same : (es fs : List DatedEntry) → AllZip (IsEntry V) es fs → rows_in us c (map newest_entry fs) ≡ rows_in ts c (map newest_entry es)
    newest_same [] [] z = refl
    newest_same [] (f ∷ fs) z = absurd z
    newest_same (e ∷ es) [] z = absurd z
    newest_same (e ∷ es) (f ∷ fs) z = λ j. rows_same c e.node f.node e.kind f.kind e.places f.places z.0.node z.0.kind z.0.places j ++ newest_same es fs z.1 j

    at_same : (p : ℕ) (es fs : List DatedEntry) → AllZip (IsEntry V) es fs → rows_in us c (map (entry_at p) fs) ≡ rows_in ts c (map (entry_at p) es)
    at_same p [] [] z = refl
    at_same p [] (f ∷ fs) z = absurd z
    at_same p (e ∷ es) [] z = absurd z
    at_same p (e ∷ es) (f ∷ fs) z = λ j.
        rows_same c e.node f.node e.kind f.kind (entry_at p e).places (entry_at p f).places z.0.node z.0.kind (places_at V p e f z.0) j ++ at_same p es fs z.1 j

  newest_within : (es fs : List DatedEntry) → AllZip (IsEntry V) es fs → AllAreWithin us (map newest_entry fs)
  newest_within [] [] z = tt
  newest_within [] (f ∷ fs) z = absurd z
  newest_within (e ∷ es) [] z = absurd z
  newest_within (e ∷ es) (f ∷ fs) z = (within_same e.places f.places z.0.places, newest_within es fs z.1)

  at_within : (p : ℕ) (es fs : List DatedEntry) → AllZip (IsEntry V) es fs → AllAreWithin us (map (entry_at p) fs)
  at_within p [] [] z = tt
  at_within p [] (f ∷ fs) z = absurd z
  at_within p (e ∷ es) [] z = absurd z
  at_within p (e ∷ es) (f ∷ fs) z = (within_same (entry_at p e).places (entry_at p f).places (places_at V p e f z.0), at_within p es fs z.1)

-- nodes keep their rows, and so do the nodes of a table that a sweep left
pub keeps_rows : (old new : Dated) → new.from ≡ old.from → map entry_without_vis new.entries ≡ map entry_without_vis old.entries → KeepsRows old new
keeps_rows old new from same ts us r =
    let z : AllZip (V ts us) (visibilities old) (visibilities new) = subst (AllZip (V ts us) (visibilities old)) (sym r.is) (zip-renumbered ts us r.by (visibilities old) r.each) in
    let are = entries_are (V ts us) old.entries new.entries same z in
    record {
      rows = λ c p.
          (λ j. rows_in us c (cond (nat_le (from j) p) (newest_nodes new) (map (entry_at p) new.entries)))
          ∙ rows-by (nat_le old.from p) c p are;
      within = λ p. within-by (nat_le new.from p) p are;
    }
  where
    rows-by : (b : Bool) (c : List Bool) (p : ℕ) → AllZip (IsEntry (V ts us)) old.entries new.entries
        → rows_in us c (cond b (newest_nodes new) (map (entry_at p) new.entries)) ≡ rows_in ts c (cond b (newest_nodes old) (map (entry_at p) old.entries))
    rows-by true c p are = newest_same ts us c old.entries new.entries are
    rows-by false c p are = at_same ts us c p old.entries new.entries are

    within-by : (b : Bool) (p : ℕ) → AllZip (IsEntry (V ts us)) old.entries new.entries → AllAreWithin us (cond b (newest_nodes new) (map (entry_at p) new.entries))
    within-by true p are = newest_within ts us old.entries new.entries are
    within-by false p are = at_within ts us p old.entries new.entries are

-- whatever the visibilities, the nodes are the same otherwise
pub entries_stay : (es fs : List DatedEntry) → map entry_without_vis fs ≡ map entry_without_vis es → length (all_numbers entry_visibilities fs) ≡ length (all_numbers entry_visibilities es)
    → AllZip (IsEntry (λ (a b : ℕ). Unit {0})) es fs
entries_stay es fs same long = entries_are (λ (a b : ℕ). Unit {0}) es fs same (zip-any (all_numbers entry_visibilities es) (all_numbers entry_visibilities fs) long)

has_having : (parent : ℕ) (name : List ℕ) (ps : List Place) (ns : List ℕ) → has_place parent name (having having_vis ps ns) ≡ has_place parent name ps
has_having parent name [] ns = refl
has_having parent name (p ∷ ps) [] = refl
has_having parent name (p ∷ ps) (n ∷ ns) = ap (λ b. is_one_place parent name p.parent p.name || b) (has_having parent name ps ns)

-- places are apart whatever their visibilities
pub apart_having : (ps : List Place) (ns : List ℕ) → AreApart ps → AreApart (having having_vis ps ns)
apart_having [] ns h = tt
apart_having (p ∷ ps) [] h = h
apart_having (p ∷ ps) (n ∷ ns) h = (has_having p.parent p.name ps ns ∙ h.0, apart_having ps ns h.1)
