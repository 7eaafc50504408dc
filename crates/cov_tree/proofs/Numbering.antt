-- Items that get the numbers of a list, one item after another.
use Rattle.std.proofs.Common.{◌≡◌, ℕ, zero, suc, ◌+◌, ◌<◌, ◌≤◌, List, [], ◌∷◌, ◌++◌, length, map, take, drop, get_or, set, reverse, slice_get, slice_index_or, Some, refl, sym, ap, ◌∙◌, arith, length-append, take-add, append_assoc, take_all}
use Rattle.std.proofs.lemmas.List.{append-nil, drop_all, drop_more, get_or_at, length-drop, length-map, map-append, reverse-reverse, set_at}
use Rattle.cov_base.specs.Older.{IsReplaced}
use Rattle.cov_base.specs.Replacing.{having}
use Rattle.cov_base.proofs.CallerLemmas.{having-numbers, having-rest}
use Rattle.indexmap.proofs.ReorderLemmas.{map-reverse}
use Rattle.cov_tree.specs.declared.dated.DatedEntry.{DatedEntry}
use Rattle.cov_tree.specs.declared.entry.Place.{Place}
use Rattle.cov_tree.specs.Renumbered.{all_numbers, entry_visibilities, entry_without_vis, having_vis, list_visibilities, list_without_vis, vis_of, visibilities_of, AllGet, Gets, GetsAt}

module _ {X Y : Type 0} (numbers : X → List ℕ) (rest : X → Y) where
  numbers-append : (xs ys : List X) → all_numbers numbers (xs ++ ys) ≡ all_numbers numbers xs ++ all_numbers numbers ys
  numbers-append [] ys = refl
  numbers-append (x ∷ xs) ys = ap (λ l. numbers x ++ l) (numbers-append xs ys) ∙ sym (append_assoc (numbers x) (all_numbers numbers xs) (all_numbers numbers ys))

  take-next : (xs : List X) (i : ℕ) (d : X) → i < length xs → take (suc i) xs ≡ take i xs ++ get_or xs i d ∷ []
  take-next [] i d h = absurd (omega (arith, h))
  take-next (x ∷ xs) zero d h = refl
  take-next (x ∷ xs) (suc i) d h = ap (λ l. x ∷ l) (take-next xs i d (omega (arith, h)))

  -- the items before an index have their numbers
  pub record GetsUntil (xs now : List X) (ns : List ℕ) (i count : ℕ) : Type 0 where
    pub done : List X
    pub is : now ≡ done ++ drop i xs
    pub long : length done ≡ i
    pub got : all_numbers numbers done ≡ take count ns
    pub same : map rest done ≡ map rest (take i xs)
    pub counted : count ≡ length (all_numbers numbers (take i xs))

  pub gets-none : (xs : List X) (ns : List ℕ) → GetsUntil xs xs ns 0 0
  gets-none xs ns = record { done = []; is = refl; long = refl; got = refl; same = refl; counted = refl }

  module _ (xs now : List X) (ns : List ℕ) (i count : ℕ) (u : GetsUntil xs now ns i count) (d : X) (h : i < length xs) where
    split : now ≡ u.done ++ get_or xs i d ∷ drop (i + 1) xs
    split = u.is ∙ ap (λ l. u.done ++ l) (drop_more xs i d h)

    -- the item at the index is the old one
    pub gets-here : get_or now i d ≡ get_or xs i d
    gets-here = ap (λ l. get_or l i d) split ∙ get_or_at u.done (get_or xs i d) (drop (i + 1) xs) d i u.long

    counted-next : length (all_numbers numbers (take (suc i) xs)) ≡ count + length (numbers (get_or xs i d))
    counted-next =
        ap (λ l. length (all_numbers numbers l)) (take-next xs i d h)
        ∙ ap length (numbers-append (take i xs) (get_or xs i d ∷ []))
        ∙ length-append (all_numbers numbers (take i xs)) (numbers (get_or xs i d) ++ [])
        ∙ (λ j. sym u.counted j + length (append-nil (numbers (get_or xs i d)) j))

    -- and then one item more
    pub gets-step : (y : X) (k next : ℕ) → k ≡ i + 1 → next ≡ count + length (numbers (get_or xs i d)) → Gets numbers rest (get_or xs i d) y (drop count ns)
        → (now' : List X) → now' ≡ set now i y → GetsUntil xs now' ns k next
    gets-step y k next at more g now' is =
        let same_k : suc i ≡ k = omega (arith, at) in
        record {
          done = u.done ++ y ∷ [];
          is = is ∙ (λ j. set (split j) i y) ∙ set_at u.done (get_or xs i d) (drop (i + 1) xs) y i u.long ∙ sym (append_assoc u.done (y ∷ []) (drop (i + 1) xs)) ∙ (λ j. (u.done ++ y ∷ []) ++ drop (sym at j) xs);
          long = omega (arith, length-append u.done (y ∷ []), u.long, at);
          got =
              numbers-append u.done (y ∷ []) ∙ (λ j. u.got j ++ (append-nil (numbers y) ∙ g.got) j)
              ∙ sym (take-add count (length (numbers (get_or xs i d))) ns) ∙ ap (λ n. take n ns) (sym more);
          same = map-append rest u.done (y ∷ []) ∙ (λ j. u.same j ++ g.same j ∷ []) ∙ sym (map-append rest (take i xs) (get_or xs i d ∷ [])) ∙ (λ j. map rest (sym (take-next xs i d h) j)) ∙ ap (λ n. map rest (take n xs)) same_k;
          counted = more ∙ sym counted-next ∙ ap (λ n. length (all_numbers numbers (take n xs))) same_k;
        }

  pub gets-long : (xs now : List X) (ns : List ℕ) (i count : ℕ) → GetsUntil xs now ns i count → i ≤ length xs → length now ≡ length xs
  gets-long xs now ns i count u h =
      let joined = ap length u.is in
      let parts = length-append u.done (drop i xs) in
      omega (arith, joined, parts, u.long, length-drop i xs, h)

  -- there are enough numbers for the item at an index behind those before it
  pub gets-room : (xs : List X) (i : ℕ) (d : X) → i < length xs → length (all_numbers numbers (take i xs)) + length (numbers (get_or xs i d)) ≤ length (all_numbers numbers xs)
  gets-room [] i d h = absurd (omega (arith, h))
  gets-room (x ∷ xs) zero d h = let whole = length-append (numbers x) (all_numbers numbers xs) in omega (arith, whole)
  gets-room (x ∷ xs) (suc i) d h =
      let before = length-append (numbers x) (all_numbers numbers (take i xs)) in
      let whole = length-append (numbers x) (all_numbers numbers xs) in
      let here = gets-room xs i d (omega (arith, h)) in
      omega (arith, before, whole, here)

  -- at the end all have theirs
  module _ (xs now : List X) (ns : List ℕ) (i count : ℕ) (u : GetsUntil xs now ns i count) (h : length xs ≤ i) where
    whole : now ≡ u.done
    whole = u.is ∙ ap (λ l. u.done ++ l) (drop_all i xs h) ∙ append-nil u.done

    pub gets-count : count ≡ length (all_numbers numbers xs)
    gets-count = u.counted ∙ ap (λ l. length (all_numbers numbers l)) (take_all i xs h)

    pub gets-all : AllGet numbers rest xs now ns
    gets-all = record {
      got = ap (all_numbers numbers) whole ∙ u.got ∙ ap (λ n. take n ns) gets-count;
      same = ap (map rest) whole ∙ u.same ∙ ap (map rest) (take_all i xs h);
    }

-- places that got the visibilities of a list
pub places_got : (places : List Place) (ns : List ℕ) → length places ≤ length ns → map vis_of (having having_vis places ns) ≡ take (length (map vis_of places)) ns
places_got places ns h = having-numbers having_vis vis_of (λ n p. refl) places ns h ∙ ap (λ n. take n ns) (sym (length-map places vis_of))

pub places_same : (places : List Place) (ns : List ℕ) → map (having_vis 0) (having having_vis places ns) ≡ map (having_vis 0) places
places_same places ns = having-rest having_vis (having_vis 0) (λ n p. refl) places ns

module _ {X : Type 0} where
  read : (xs : List X) (i : ℕ) (x d : X) → slice_get xs i ≡ Some x → slice_index_or xs i d ≡ x
  read [] i x d h = absurd (cc)
  read (y ∷ ys) zero x d h = let same : y ≡ x = cc in same
  read (y ∷ ys) (suc i) x d h = read ys i x d h

  set-twice : (xs : List X) (i : ℕ) (x y : X) → set (set xs i x) i y ≡ set xs i y
  set-twice [] i x y = refl
  set-twice (z ∷ zs) zero x y = refl
  set-twice (z ∷ zs) (suc i) x y = ap (λ l. z ∷ l) (set-twice zs i x y)

  set-read : (xs : List X) (i : ℕ) (x y z : X) → slice_get xs i ≡ Some z → slice_get (set xs i x) i ≡ Some y → y ≡ x
  set-read [] i x y z there h = absurd (cc)
  set-read (w ∷ ws) zero x y z there h = let same : x ≡ y = cc in sym same
  set-read (w ∷ ws) (suc i) x y z there h = set-read ws i x y z there h

-- the places of the list at an index are taken out and put back with other visibilities
module _ (old mid new : List (ℕ × List Place)) (index : ℕ) (empty taken given none : List Place) (out : IsReplaced old mid index empty taken) (back : IsReplaced mid new index given none) where
  oldest_is : out.oldest ≡ reverse old
  oldest_is = sym (reverse-reverse out.oldest) ∙ ap reverse (sym out.was)

  pub taken_is : slice_index_or (reverse old) index (0, []) ≡ (out.from, taken)
  taken_is = (λ j. slice_index_or (sym oldest_is j) index (0, [])) ∙ read out.oldest index (out.from, taken) (0, []) out.item

  mid_is : back.oldest ≡ set out.oldest index (out.from, empty)
  mid_is = sym (reverse-reverse back.oldest) ∙ ap reverse (sym back.was) ∙ ap reverse out.is ∙ reverse-reverse (set out.oldest index (out.from, empty))

  same_from : back.from ≡ out.from
  same_from = ap (λ (l : ℕ × List Place). l.0) (set-read out.oldest index (out.from, empty) (back.from, none) (out.from, taken) out.item (ap (λ ls. slice_get ls index) (sym mid_is) ∙ back.item))

  new_is : reverse new ≡ set (reverse old) index (out.from, given)
  new_is =
      ap reverse back.is ∙ reverse-reverse (set back.oldest index (back.from, given))
      ∙ (λ j. set (mid_is j) index (same_from j, given)) ∙ set-twice out.oldest index (out.from, empty) (out.from, given)
      ∙ (λ j. set (oldest_is j) index (out.from, given))

  pub list_gets : (ns : List ℕ) → given ≡ having having_vis taken ns → length taken ≤ length ns → GetsAt index old new ns
  list_gets ns is room = record {
    list = (out.from, given);
    gets = record {
      got = (ap (map vis_of) is ∙ places_got taken ns room) ∙ (λ j. take (length (list_visibilities (sym taken_is j))) ns);
      same = (λ j. (out.from, (ap (map (having_vis 0)) is ∙ places_same taken ns) j)) ∙ ap list_without_vis (sym taken_is);
    };
    is = new_is;
  }

-- a node's places and its older ones got the visibilities of a list, one after another
pub entry_gets : (e f : DatedEntry) (ns : List ℕ) → length (entry_visibilities e) ≤ length ns → f.node ≡ e.node → f.kind ≡ e.kind → f.from ≡ e.from → f.older.room ≡ e.older.room
    → f.places ≡ having having_vis e.places ns → AllGet list_visibilities list_without_vis (reverse e.older.lists) (reverse f.older.lists) (drop (length e.places) ns)
    → Gets entry_visibilities entry_without_vis e f ns
entry_gets e f ns room node kind from spare places older =
    let joined = length-append (visibilities_of e.places) (all_numbers list_visibilities (reverse e.older.lists)) in
    let mapped = length-map e.places vis_of in
    record {
      got =
          (λ j. (ap (map vis_of) places ∙ places_got e.places ns (omega (arith, room, joined, mapped))) j ++ (older.got ∙ ap (λ k. take (length (all_numbers list_visibilities (reverse e.older.lists))) (drop k ns)) (sym mapped)) j)
          ∙ sym (take-add (length (visibilities_of e.places)) (length (all_numbers list_visibilities (reverse e.older.lists))) ns) ∙ ap (λ n. take n ns) (sym joined);
      same = λ j. record {
        node = node j;
        kind = kind j;
        from = from j;
        places = (ap (map (having_vis 0)) places ∙ places_same e.places ns) j;
        older = record { lists = lists_same j; room = spare j };
      };
    }
  where
    lists_same : map list_without_vis f.older.lists ≡ map list_without_vis e.older.lists
    lists_same =
        ap (map list_without_vis) (sym (reverse-reverse f.older.lists)) ∙ map-reverse list_without_vis (reverse f.older.lists)
        ∙ ap reverse older.same ∙ sym (map-reverse list_without_vis (reverse e.older.lists)) ∙ ap (map list_without_vis) (reverse-reverse e.older.lists)
