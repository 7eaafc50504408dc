-- The index of the places of nodes.
use Rattle.std.proofs.Common.{◌≡◌, ℕ, zero, suc, ◌+◌, ◌<◌, not, Bool, true, false, cond, nat_eq, nat_lt, List, [], ◌∷◌, ◌++◌, map, set, get_or, length, Option, Some, None, position, refl, sym, ap, subst, ◌∙◌, arith}
use Rattle.std.specs.List.{list_any, position_or_len}
use Rattle.std.specs.Map.{lookup}
use Rattle.std.specs.Option.{option_map}
use Rattle.std.proofs.lemmas.Bool.{or_parts, eqb-true}
use Rattle.std.proofs.lemmas.Bool.Decides.{nat_tests}
use Rattle.std.proofs.lemmas.List.Quantifiers.{position-Some}
use Rattle.cov_base.specs.Rows.{Row, has_node, AreDistinct}
use Rattle.cov_base.proofs.CallerLemmas.{none-placed}
use Rattle.cov_tree.specs.declared.entry.Entry.{Entry}
use Rattle.cov_tree.specs.declared.dated.DatedEntry.{DatedEntry}
use Rattle.cov_tree.specs.Dated.{newest_entry, with_no_room, AreUntil}
use Rattle.cov_tree.specs.Entries.{nodes_of}
use Rattle.cov_tree.specs.Installing.{IsPlaceOf, IsIndex, IsPut, AreAllNoted}
use Rattle.cov_tree.specs.Shown.{AreTrees}
use Rattle.cov_tree.specs.Noted.{Noted, Keeps}
use Rattle.cov_values.specs.declared.sights.Sight.{Sight}
use Rattle.cov_tree.proofs.Noting.{all_kept, noted_but_room}
use Rattle.cov_tree.proofs.Installing.{map_behind, same_newest, until_but_room}

-- the first place where a test passes, item by item
module _ {X : Type 0} (t : X → Bool) where
  pub place_first : (x : X) (xs : List X) → position t (x ∷ xs) ≡ cond (t x) (Some 0) (option_map suc (position t xs))
  place_first x xs = by (t x) (position_or_len t xs)
    where
      by : (b : Bool) (n : ℕ) → cond (nat_lt (cond (not b) (1 + n) 0) (suc (length xs))) (Some (cond (not b) (1 + n) 0)) None ≡ cond b (Some 0) (option_map suc (cond (nat_lt n (length xs)) (Some n) None))
      by true n = let yes : nat_lt 0 (suc (length xs)) ≡ true = grind (arith, nat_tests) in ap (λ c. cond c (Some 0) None) yes
      by false n = (let one : 1 + n ≡ suc n = omega arith in ap (λ m. cond (nat_lt m (suc (length xs))) (Some m) None) one) ∙ inner (nat_lt n (length xs)) refl
        where
          inner : (c : Bool) → nat_lt n (length xs) ≡ c → cond (nat_lt (suc n) (suc (length xs))) (Some (suc n)) None ≡ option_map suc (cond c (Some n) None)
          inner true e = let yes : nat_lt (suc n) (suc (length xs)) ≡ true = grind (arith, nat_tests, e) in ap (λ c. cond c (Some (suc n)) None) yes
          inner false e = let no : nat_lt (suc n) (suc (length xs)) ≡ false = grind (arith, nat_tests, e) in ap (λ c. cond c (Some (suc n)) None) no

  -- where one more stands behind the others
  pub place_behind : (xs : List X) (x : X) → list_any t xs ≡ false → position t (xs ++ x ∷ []) ≡ cond (t x) (Some (length xs)) None
  place_behind [] x h = place_first x []
  place_behind (y ∷ xs) x h =
      let parts = or_parts (t y) (list_any t xs) h in
      place_first y (xs ++ x ∷ [])
      ∙ ap (λ b. cond b (Some 0) (option_map suc (position t (xs ++ x ∷ [])))) parts.0
      ∙ ap (option_map suc) (place_behind xs x parts.1)
      ∙ by (t x)
    where
      by : (b : Bool) → option_map suc (cond b (Some (length xs)) None) ≡ cond b (Some (length (y ∷ xs))) None
      by true = refl
      by false = refl

  pub place_before : (xs : List X) (x : X) → t x ≡ false → position t (xs ++ x ∷ []) ≡ position t xs
  place_before [] x h = place_first x [] ∙ ap (λ b. cond b (Some 0) None) h
  place_before (y ∷ xs) x h =
      place_first y (xs ++ x ∷ [])
      ∙ ap (λ o. cond (t y) (Some 0) (option_map suc o)) (place_before xs x h)
      ∙ sym (place_first y xs)

nodes_kept : (f : DatedEntry → ℕ) → ((e : DatedEntry) → f e ≡ e.node) → (es : List DatedEntry) → nodes_of (map newest_entry es) ≡ map f es
nodes_kept f is [] = refl
nodes_kept f is (e ∷ es) = λ j. sym (is e) j ∷ nodes_kept f is es j

-- a node's place in the index is that among the others
pub place_indexed : (n : ℕ) (index : List (ℕ × ℕ)) (es : List DatedEntry) (place : Option ℕ) → IsIndex index es → place ≡ lookup (nat_eq n) index → IsPlaceOf n es place
place_indexed n index es None indexed is = none-placed (λ m. nat_eq m n) (nodes_of (map newest_entry es)) (sym (is ∙ indexed n))
place_indexed n index es (Some i) indexed is =
    let found = sym (is ∙ indexed n) in (
      inside es i (position-Some (λ m. nat_eq m n) (nodes_of (map newest_entry es)) i 0 found).0,
      λ d. ap (λ m. nat_eq m n) (stands es i d) ∙ (position-Some (λ m. nat_eq m n) (nodes_of (map newest_entry es)) i d.node found).1,
    )
  where
    inside : (xs : List DatedEntry) (k : ℕ) → k < length (nodes_of (map newest_entry xs)) → k < length xs
    inside [] k h = h
    inside (x ∷ xs) zero h = omega arith
    inside (x ∷ xs) (suc k) h = let rest = inside xs k (omega (arith, h)) in omega (arith, rest)

    stands : (xs : List DatedEntry) (k : ℕ) (d : DatedEntry) → (get_or xs k d).node ≡ get_or (nodes_of (map newest_entry xs)) k d.node
    stands [] k d = refl
    stands (x ∷ xs) zero d = refl
    stands (x ∷ xs) (suc k) d = stands xs k d

pub index_kept : (index : List (ℕ × ℕ)) (es fs : List DatedEntry) → map newest_entry fs ≡ map newest_entry es → IsIndex index es → IsIndex index fs
index_kept index es fs same h n = h n ∙ ap (λ xs. position (λ m. nat_eq m n) (nodes_of xs)) (sym same)

-- a node that is there keeps its number
pub index_set : (index : List (ℕ × ℕ)) (es : List DatedEntry) (i : ℕ) (d new : DatedEntry) → new.node ≡ (get_or es i d).node → IsIndex index es → IsIndex index (set es i new)
index_set index es i d new own h n = h n ∙ ap (position (λ m. nat_eq m n)) (sym (same es i own))
  where
    same : (xs : List DatedEntry) (k : ℕ) → new.node ≡ (get_or xs k d).node → nodes_of (map newest_entry (set xs k new)) ≡ nodes_of (map newest_entry xs)
    same [] k is = refl
    same (x ∷ xs) zero is = ap (λ m. m ∷ nodes_of (map newest_entry xs)) is
    same (x ∷ xs) (suc k) is = ap (λ ns. x.node ∷ ns) (same xs k is)

-- and one that is made stands behind the others
pub index_put : (index more : List (ℕ × ℕ)) (es new : List DatedEntry) (at count : ℕ) (f : Entry) → IsPut at f es new → has_node f.node (nodes_of (map newest_entry es)) ≡ false → count ≡ length es
    → ((n : ℕ) → lookup (nat_eq n) more ≡ cond (nat_eq f.node n) (Some count) (lookup (nat_eq n) index)) → IsIndex index es → IsIndex more new
index_put index more es new at count f put fresh long noted h n =
    noted n ∙ by (nat_eq f.node n) refl ∙ ap (position (λ m. nat_eq m n)) (sym numbers)
  where
    behind : (xs : List Entry) → nodes_of (xs ++ newest_entry put.made ∷ []) ≡ nodes_of xs ++ put.made.node ∷ []
    behind [] = refl
    behind (x ∷ xs) = ap (λ ms. x.node ∷ ms) (behind xs)

    numbers : nodes_of (map newest_entry new) ≡ (nodes_of (map newest_entry es)) ++ f.node ∷ []
    numbers =
        ap (λ xs. nodes_of (map newest_entry xs)) put.is
        ∙ ap nodes_of (map_behind newest_entry es put.made)
        ∙ behind (map newest_entry es)
        ∙ ap (λ (x : Entry). (nodes_of (map newest_entry es)) ++ x.node ∷ []) put.newest

    count_of : (xs : List DatedEntry) → length (nodes_of (map newest_entry xs)) ≡ length xs
    count_of [] = refl
    count_of (x ∷ xs) = ap suc (count_of xs)

    by : (b : Bool) → nat_eq f.node n ≡ b → cond b (Some count) (lookup (nat_eq n) index) ≡ position (λ m. nat_eq m n) ((nodes_of (map newest_entry es)) ++ f.node ∷ [])
    by true e =
        let own : f.node ≡ n = eqb-true f.node n e in
        sym
        (place_behind (λ m. nat_eq m n) (nodes_of (map newest_entry es)) f.node (ap (λ m. has_node m (nodes_of (map newest_entry es))) (sym own) ∙ fresh)
        ∙ ap (λ b. cond b (Some (length (nodes_of (map newest_entry es)))) None) e
        ∙ ap Some (count_of es ∙ sym long))
    by false e = h n ∙ sym (place_before (λ m. nat_eq m n) (nodes_of (map newest_entry es)) f.node e)

-- what holds of entries, of the index of their places, of what is noted and of the trees that are kept
abbrev pub AreSound : ℕ → List DatedEntry → List (ℕ × ℕ) → Noted → List (Sight (List Row)) → Type 0
AreSound from es index all trees =
    AreDistinct (0 ∷ nodes_of (map newest_entry es)) × AreUntil from es × IsIndex index es × AreAllNoted all es × AreTrees (map newest_entry es) trees

-- it still holds where there is more room, and more is noted
pub still_sound : (from : ℕ) (es mid fs : List DatedEntry) (index more : List (ℕ × ℕ)) (old new : Noted) (trees : List (Sight (List Row))) → Keeps old new → map with_no_room mid ≡ map with_no_room es → fs ≡ mid → more ≡ index
    → AreSound from es index old trees → AreSound from fs more new trees
still_sound from es mid fs index more old new trees keeps same is index_is sound =
    subst (λ xs. AreSound from xs more new trees) (sym is)
    (subst (λ xs. AreSound from mid xs new trees) (sym index_is) (
      subst (λ xs. AreDistinct (0 ∷ nodes_of xs)) (sym (same_newest es mid same)) sound.0,
      until_but_room from es mid same sound.1,
      index_kept index es mid (same_newest es mid same) sound.2,
      noted_but_room new es mid same (all_kept old new keeps es sound.3),
      subst (λ xs. AreTrees xs trees) (sym (same_newest es mid same)) sound.4,
    ))
