-- Room for more lines: what a line and a split take of it.
use Rattle.std.proofs.Common.{◌≡◌, ℕ, suc, ◌+◌, ◌*◌, ◌-◌, ◌/◌, ◌<◌, ◌≤◌, true, nat_eq, min, vec_len, vec_capacity, List, [], ◌∷◌, ◌++◌, length, take, drop, set, refl, sym, ap, subst, true≢false, ◌∙◌, arith, length-take, length-drop}
use Rattle.std.specs.Map.{lookup}
use Rattle.std.proofs.lemmas.List.{nil_from_length}
use Rattle.std.proofs.lemmas.List.Sums.{sum_by-cons, sum_by_push, sum_by-set}
use Rattle.indexmap.specs.IndexMap.{spare}
use Rattle.cov_base.specs.Addresses.{after_anchor, after_first}
use Rattle.cov_order.specs.Orders.{has_line}
use Rattle.cov_order.specs.Pages.{lines_on, lines_in, has_page, halved, moved, beyond_half, crowding, ArePaged, IsPaged, HasRoom, Grows}
use Rattle.cov_order.specs.declared.pages.Pages.{Pages}
use Rattle.cov_order.proofs.Places.{length-after}
use Rattle.cov_order.proofs.Paging.{split_paged}

-- pages are crowded by 128 lines each at most
pub crowding-most : (pages : List (List ℕ)) → crowding pages ≤ 128 * length pages
crowding-most [] = omega arith
crowding-most (p ∷ ps) =
    let rest : crowding ps ≤ 128 * length ps = crowding-most ps in
    let sum : crowding (p ∷ ps) ≡ beyond_half p + crowding ps = sum_by-cons beyond_half p ps in
    omega (arith, rest, sum)

-- a line more makes a page more crowded by one at most
pub crowding-put : (pages : List (List ℕ)) (k anchor line : ℕ) → k < length pages → crowding (set pages k (after_anchor anchor line (lines_on pages k))) ≤ crowding pages + 1
crowding-put pages k anchor line less =
    let sum : crowding (set pages k (after_anchor anchor line (lines_on pages k))) + beyond_half (lines_on pages k) ≡ crowding pages + beyond_half (after_anchor anchor line (lines_on pages k)) =
    sum_by-set beyond_half pages k (after_anchor anchor line (lines_on pages k)) [] less in
    let longer : length (after_anchor anchor line (lines_on pages k)) ≡ suc (length (lines_on pages k)) = length-after anchor line (lines_on pages k) in
    omega (arith, sum, longer)

-- a split of a full page makes them less crowded by 128
pub crowding-split : (pages : List (List ℕ)) (k : ℕ) → k < length pages → length (lines_on pages k) ≡ 256 → crowding (halved pages k) + 128 ≡ crowding pages
crowding-split pages k less full =
    let pushed : crowding (halved pages k) ≡ crowding (set pages k (take 128 (lines_on pages k))) + beyond_half (drop 128 (lines_on pages k)) =
    sum_by_push beyond_half (set pages k (take 128 (lines_on pages k))) (drop 128 (lines_on pages k)) in
    let sum : crowding (set pages k (take 128 (lines_on pages k))) + beyond_half (lines_on pages k) ≡ crowding pages + beyond_half (take 128 (lines_on pages k)) =
    sum_by-set beyond_half pages k (take 128 (lines_on pages k)) [] less in
    let first : length (take 128 (lines_on pages k)) ≡ min 128 (length (lines_on pages k)) = length-take 128 (lines_on pages k) in
    let rest : length (drop 128 (lines_on pages k)) ≡ length (lines_on pages k) - 128 = length-drop 128 (lines_on pages k) in
    omega (arith, pushed, sum, first, rest, full)

-- a full page makes pages crowded by 128 lines at least
pub crowding-full : (pages : List (List ℕ)) (k : ℕ) → k < length pages → length (lines_on pages k) ≡ 256 → 128 ≤ crowding pages
crowding-full pages k less full = omega (arith, crowding-split pages k less full)

pub fewer : (p : Pages) (n m : ℕ) → m ≤ n → HasRoom p n → HasRoom p m
fewer p n m less room = record {
  index = omega (arith, less, room.index);
  begun = λ some. room.begun (omega (arith, less, some));
  splits = λ few. omega (arith, less, room.splits (omega (arith, less, few)));
}

pub grown_room : (old new : Pages) (m : ℕ) → Grows old new → HasRoom old m → HasRoom new m
grown_room old new m grows room = record {
  index = omega (arith, grows.index, room.index);
  begun = λ some. omega (arith, grows.begun, room.begun some);
  splits = λ few. omega (arith, few, grows.crowding, grows.empty, room.splits (omega (arith, few, grows.empty)));
}

pub grows-trans : (p q r : Pages) → Grows p q → Grows q r → Grows p r
grows-trans p q r first second = record {
  paged = second.paged;
  lines = second.lines ∙ first.lines;
  crowding = second.crowding ∙ first.crowding;
  begun = omega (arith, first.begun, second.begun);
  empty = omega (arith, first.empty, second.empty);
  index = omega (arith, first.index, second.index);
}

no_lines : (p : Pages) → p.pages.items ≡ [] → p.sequence.items ≡ [] → ArePaged p.pages.items p.sequence.items p.index.entries
no_lines p pages sequence =
    subst (λ l. ArePaged l p.sequence.items p.index.entries) (sym pages) (subst (λ l. ArePaged [] l p.index.entries) (sym sequence)
    (record { lines = tt; numbers = tt; page = λ line h. absurd (true≢false (sym h)) }))

pub empty_paged : (p : Pages) → p.pages.items ≡ [] → p.sequence.items ≡ [] → vec_len p.pages ≡ 0 → vec_len p.sequence ≡ 0 → vec_len p.empty ≡ 0 → IsPaged p
empty_paged p pages sequence no_pages no_places no_empty = record {
  paged = no_lines p pages sequence;
  count = omega (arith, no_pages, no_places);
  room = omega (arith, no_pages, no_empty);
  places = omega (arith, no_places, no_empty);
}

kept_paged : (p q : Pages) → q.pages.items ≡ p.pages.items → q.sequence.items ≡ p.sequence.items → q.index.entries ≡ p.index.entries
    → ArePaged p.pages.items p.sequence.items p.index.entries → ArePaged q.pages.items q.sequence.items q.index.entries
kept_paged p q e f g paged =
    subst (λ l. ArePaged l q.sequence.items q.index.entries) (sym e) (subst (λ l. ArePaged p.pages.items l q.index.entries) (sym f)
    (subst (ArePaged p.pages.items p.sequence.items) (sym g) paged))

-- the same lines on the same pages, with as many empty ones or others, for which there is room
pub same_paged : (p q : Pages) → IsPaged p → q.pages.items ≡ p.pages.items → q.sequence.items ≡ p.sequence.items → q.index.entries ≡ p.index.entries
    → vec_len q.pages ≡ vec_len p.pages → vec_len q.sequence ≡ vec_len p.sequence
    → vec_len q.pages + vec_len q.empty ≤ vec_capacity q.pages → vec_len q.sequence + vec_len q.empty ≤ vec_capacity q.sequence → IsPaged q
same_paged p q paged e f g pages sequence room places = record {
  paged = kept_paged p q e f g paged.paged;
  count = omega (arith, pages, sequence, paged.count);
  room = room;
  places = places;
}

pub grows_same : (p q : Pages) → IsPaged p → q.pages.items ≡ p.pages.items → q.sequence.items ≡ p.sequence.items → q.index.entries ≡ p.index.entries
    → vec_len q.pages ≡ vec_len p.pages → vec_len q.sequence ≡ vec_len p.sequence
    → vec_len q.pages + vec_len q.empty ≤ vec_capacity q.pages → vec_len q.sequence + vec_len q.empty ≤ vec_capacity q.sequence
    → vec_len p.empty ≤ vec_len q.empty → spare p.index ≤ spare q.index → Grows p q
grows_same p q paged e f g pages sequence room places empty index = record {
  paged = same_paged p q paged e f g pages sequence room places;
  lines = ap (λ l. lines_in l q.sequence.items) e ∙ ap (lines_in p.pages.items) f;
  crowding = ap crowding e;
  begun = omega (arith, pages);
  empty = empty;
  index = index;
}

-- a first page without lines is put in use
pub grows_begun : (p q : Pages) → IsPaged p → vec_len p.pages ≡ 0 → q.pages.items ≡ p.pages.items ++ [] ∷ [] → q.sequence.items ≡ p.sequence.items ++ 0 ∷ []
    → vec_len q.pages ≡ vec_len p.pages + 1 → vec_len q.sequence ≡ vec_len p.sequence + 1
    → vec_len q.pages + vec_len q.empty ≤ vec_capacity q.pages → vec_len q.sequence + vec_len q.empty ≤ vec_capacity q.sequence
    → vec_len p.empty ≤ vec_len q.empty → spare p.index ≤ spare q.index → Grows p q
grows_begun p q paged none e f pages sequence room places empty index = record {
  paged = record {
    paged = subst (λ l. ArePaged l q.sequence.items q.index.entries) (sym one) (subst (λ l. ArePaged ([] ∷ []) l q.index.entries) (sym first)
        (record { lines = tt; numbers = (omega arith, refl, tt); page = λ line h. absurd (true≢false (sym h)) }));
    count = omega (arith, pages, sequence, paged.count);
    room = room;
    places = places;
  };
  lines = ap (λ l. lines_in l q.sequence.items) one ∙ ap (lines_in ([] ∷ [])) first ∙ sym (ap (lines_in p.pages.items) unused);
  crowding = ap crowding one ∙ sym (ap crowding without);
  begun = omega (arith, pages);
  empty = empty;
  index = index;
}
  where
    without : p.pages.items ≡ []
    without = nil_from_length p.pages.items (omega (arith, none, p.pages.ok.0))

    unused : p.sequence.items ≡ []
    unused = nil_from_length p.sequence.items (omega (arith, none, paged.count, p.sequence.ok.0))

    one : q.pages.items ≡ [] ∷ []
    one = e ∙ ap (λ l. l ++ [] ∷ []) without

    first : q.sequence.items ≡ 0 ∷ []
    first = f ∙ ap (λ l. l ++ 0 ∷ []) unused

-- with so many empty pages or more there is room
pub reserved_room : (p q r : Pages) (n : ℕ) → IsPaged p → Grows p q → r.pages.items ≡ q.pages.items → vec_len r.pages ≡ vec_len q.pages → spare r.index ≡ spare q.index
    → n ≤ spare q.index → (0 < n → 0 < vec_len q.pages) → min n (vec_len p.pages + n / 128) ≤ vec_len r.empty → HasRoom r n
reserved_room p q r n paged grows e pages index enough begun splits = record {
  index = omega (arith, index, enough);
  begun = λ some. omega (arith, pages, begun some);
  splits = λ few.
      let most : crowding p.pages.items ≤ 128 * length p.pages.items = crowding-most p.pages.items in
      let same : crowding r.pages.items ≡ crowding p.pages.items = ap crowding e ∙ grows.crowding in
      omega (arith, few, most, same, splits, p.pages.ok.0);
}

-- a page is split
pub split_whole : (p q : Pages) → IsPaged p → (k : ℕ) → has_page k p.sequence.items ≡ true → q.pages.items ≡ halved p.pages.items k
    → q.sequence.items ≡ after_first (λ n. nat_eq n k) (length p.pages.items) p.sequence.items
    → ((n : ℕ) → lookup (nat_eq n) q.index.entries ≡ moved (length p.pages.items) (has_line n (drop 128 (lines_on p.pages.items k))) (lookup (nat_eq n) p.index.entries))
    → vec_len q.pages ≡ vec_len p.pages + 1 → vec_len q.sequence ≡ vec_len p.sequence + 1 → vec_len q.empty + 1 ≡ vec_len p.empty
    → vec_capacity p.pages ≤ vec_capacity q.pages → vec_capacity p.sequence ≤ vec_capacity q.sequence → IsPaged q
split_whole p q paged k there e f found pages sequence empty room places = record {
  paged = subst (λ l. ArePaged l q.sequence.items q.index.entries) (sym e)
      (subst (λ l. ArePaged (halved p.pages.items k) l q.index.entries) (sym f)
      (split_paged p.pages.items p.sequence.items p.index.entries paged.paged k there q.index.entries found));
  count = omega (arith, pages, sequence, paged.count);
  room = omega (arith, pages, empty, room, paged.room);
  places = omega (arith, sequence, empty, places, paged.places);
}
