-- Visibilities that are nodes of a table, and stay so as changes are installed.
use Rattle.std.proofs.Common.{◌≡◌, refl, ℕ, zero, suc, ◌<◌, List, [], ◌∷◌, ◌++◌, length, map, reverse, set, get_or, sym, ap, ◌∙◌, subst, arith}
use Rattle.std.proofs.lemmas.Grind.{reverse_onto}
use Rattle.cov_base.specs.Rows.{AreDistinct}
use Rattle.cov_base.proofs.CallerLemmas.{all-append}
use Rattle.cov_dd.specs.declared.triple.Triple.{Triple}
use Rattle.cov_dd.specs.Diagrams.{diagram_size}
use Rattle.cov_tree.specs.declared.entry.Place.{Place}
use Rattle.cov_tree.specs.declared.entry.Entry.{Entry}
use Rattle.cov_tree.specs.declared.dated.DatedEntry.{DatedEntry}
use Rattle.cov_tree.specs.Dated.{Dated, newest_entry, nodes_in, kinds_in, planned, with_entry, with_no_room, without_room}
use Rattle.cov_tree.specs.Entries.{nodes_of, kinds_of, AllAreWithin, AreWithin}
use Rattle.cov_tree.specs.Installing.{IsPut}
use Rattle.cov_tree.specs.Planning.{with_places}
use Rattle.cov_tree.specs.Renumbered.{all_numbers, entry_visibilities, entry_without_vis, list_visibilities, visibilities, visibilities_of, without_visibilities, AreKeptNodes, AreNodes}
use Rattle.cov_tree.proofs.Planned.{all_passed, split}
use Rattle.cov_tree.proofs.Spreading.{all_left, all_right}

module _ (table : List Triple) where
  abbrev Within : ℕ → Type 0
  Within n = n < diagram_size table

  within-numbers : (ps : List Place) → AreWithin table ps → AreNodes table (visibilities_of ps)
  within-numbers [] h = tt
  within-numbers (p ∷ ps) h = (h.0, within-numbers ps h.1)

  joined : (xs ys : List ℕ) → AreNodes table xs → AreNodes table ys → AreNodes table (xs ++ ys)
  joined xs ys h k = all-append Within xs ys h k

  numbers-joined : {X : Type 0} (numbers : X → List ℕ) (xs ys : List X) → AreNodes table (all_numbers numbers xs) → AreNodes table (all_numbers numbers ys) → AreNodes table (all_numbers numbers (xs ++ ys))
  numbers-joined numbers [] ys h k = k
  numbers-joined numbers (x ∷ xs) ys h k =
      joined (numbers x) (all_numbers numbers (xs ++ ys))
      (all_left Within (numbers x) (all_numbers numbers xs) h) (numbers-joined numbers xs ys (all_right Within (numbers x) (all_numbers numbers xs) h) k)

  -- a node gets other places, in the place of its newest or before these
  module _ (given : List Place) (old new : DatedEntry) (set_to : new.places ≡ given) (h : AreNodes table (entry_visibilities old)) (k : AreWithin table given) where
    newest : AreNodes table (visibilities_of old.places)
    newest = all_left Within (visibilities_of old.places) (all_numbers list_visibilities (reverse old.older.lists)) h

    older : AreNodes table (all_numbers list_visibilities (reverse old.older.lists))
    older = all_right Within (visibilities_of old.places) (all_numbers list_visibilities (reverse old.older.lists)) h

    both : (lists : List (ℕ × List Place)) → new.older.lists ≡ lists → AreNodes table (all_numbers list_visibilities (reverse lists)) → AreNodes table (entry_visibilities new)
    both lists is behind =
        subst (λ (q : List Place × List (ℕ × List Place)). AreNodes table (visibilities_of q.0 ++ all_numbers list_visibilities (reverse q.1))) (λ j. (sym set_to j, sym is j))
        (joined (visibilities_of given) (all_numbers list_visibilities (reverse lists)) (within-numbers given k) behind)

    pub kept_in_place : new.older.lists ≡ old.older.lists → AreNodes table (entry_visibilities new)
    kept_in_place is = both old.older.lists is older

    pub kept_behind : new.older.lists ≡ (old.from, old.places) ∷ old.older.lists → AreNodes table (entry_visibilities new)
    kept_behind is =
        both ((old.from, old.places) ∷ old.older.lists) is
        (subst (λ ls. AreNodes table (all_numbers list_visibilities ls)) (sym (reverse_onto old.older.lists (old.from, old.places) []))
        (numbers-joined list_visibilities (reverse old.older.lists) ((old.from, old.places) ∷ []) older (joined (visibilities_of old.places) [] newest tt)))

  -- a node among others gets other visibilities
  pub kept_set : (new : DatedEntry) (es : List DatedEntry) (i : ℕ) (d : DatedEntry) → i < length es → AreKeptNodes table es
      → (AreNodes table (entry_visibilities (get_or es i d)) → AreNodes table (entry_visibilities new)) → AreKeptNodes table (set es i new)
  kept_set new [] i d here h k = absurd (omega (arith, here))
  kept_set new (e ∷ es) zero d here h k =
      joined (entry_visibilities new) (all_numbers entry_visibilities es)
      (k (all_left Within (entry_visibilities e) (all_numbers entry_visibilities es) h)) (all_right Within (entry_visibilities e) (all_numbers entry_visibilities es) h)
  kept_set new (e ∷ es) (suc i) d here h k =
      joined (entry_visibilities e) (all_numbers entry_visibilities (set es i new))
      (all_left Within (entry_visibilities e) (all_numbers entry_visibilities es) h) (kept_set new es i d (omega (arith, here)) (all_right Within (entry_visibilities e) (all_numbers entry_visibilities es) h) k)

  -- a node is put behind the others
  pub kept_put : (at : ℕ) (f : Entry) (es new : List DatedEntry) → IsPut at f es new → AreKeptNodes table es → AreWithin table f.places → AreKeptNodes table new
  kept_put at f es new put h k =
      subst (AreKeptNodes table) (sym put.is)
      (numbers-joined entry_visibilities es (put.made ∷ []) h (joined (entry_visibilities put.made) [] made tt))
    where
      made : AreNodes table (entry_visibilities put.made)
      made =
          subst (λ (q : List Place × List (ℕ × List Place)). AreNodes table (visibilities_of q.0 ++ all_numbers list_visibilities (reverse q.1)))
          (λ j. (sym (ap (λ (e : Entry). e.places) put.newest) j, sym put.older j))
          (joined (visibilities_of f.places) [] (within-numbers f.places k) tt)

  -- the visibilities of a plan are among those that there are with it
  middle : (front rest : List Entry) (e : Entry) → AllAreWithin table (front ++ e ∷ rest) → AreWithin table e.places
  middle [] rest e h = h.0
  middle (f ∷ front) rest e h = middle front rest e h.1

  pub plan_within : (plan es : List Entry) → AreDistinct (nodes_of plan) → AllAreWithin table (planned plan es) → AllAreWithin table plan
  plan_within [] es distinct h = tt
  plan_within (g ∷ plan) es distinct h =
      let s = split g es in
      let p = all_passed plan g.node s.front s.rest distinct.0 in
      let now : planned (g ∷ plan) es ≡ p.front ++ with_places g.places s.own ∷ p.rest = ap (planned plan) (s.all g.places) ∙ p.all (with_places g.places s.own) s.node in
      (middle p.front p.rest (with_places g.places s.own) (subst (AllAreWithin table) now h), plan_within plan (with_entry g es) distinct.1 h)

-- entries that differ in room alone keep the same visibilities
pub visibilities_but_room : (old new : Dated) → without_room new ≡ without_room old → visibilities new ≡ visibilities old
visibilities_but_room old new same = sym (roomless new.entries) ∙ ap (λ (d : Dated). all_numbers entry_visibilities d.entries) same ∙ roomless old.entries
  where
    roomless : (es : List DatedEntry) → all_numbers entry_visibilities (map with_no_room es) ≡ all_numbers entry_visibilities es
    roomless [] = refl
    roomless (e ∷ es) = ap (λ ns. entry_visibilities e ++ ns) (roomless es)

-- entries that differ in visibilities alone have the same nodes, of the same kinds
module _ (old new : Dated) (same : without_visibilities new ≡ without_visibilities old) where
  unseen_nodes : (es : List DatedEntry) → nodes_of (map newest_entry (map entry_without_vis es)) ≡ nodes_of (map newest_entry es)
  unseen_nodes [] = refl
  unseen_nodes (e ∷ es) = ap (λ ns. e.node ∷ ns) (unseen_nodes es)

  unseen_kinds : (es : List DatedEntry) → kinds_of (map newest_entry (map entry_without_vis es)) ≡ kinds_of (map newest_entry es)
  unseen_kinds [] = refl
  unseen_kinds (e ∷ es) = ap (λ ks. (e.node, e.kind) ∷ ks) (unseen_kinds es)

  pub same_nodes : nodes_in new ≡ nodes_in old
  same_nodes = sym (unseen_nodes new.entries) ∙ ap (λ (d : Dated). nodes_of (map newest_entry d.entries)) same ∙ unseen_nodes old.entries

  pub same_kinds : kinds_in new ≡ kinds_in old
  same_kinds = sym (unseen_kinds new.entries) ∙ ap (λ (d : Dated). kinds_of (map newest_entry d.entries)) same ∙ unseen_kinds old.entries
