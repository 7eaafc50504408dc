-- Lines stay on pages as one page is split, and as a line is put on one.
use Rattle.std.proofs.Common.{◌≡◌, ◌≢◌, ℕ, zero, suc, ◌+◌, ◌-◌, ◌<◌, min, Bool, true, false, ◌||◌, cond, nat_eq, List, [], ◌∷◌, ◌++◌, length, take, drop, get_or, set, Option, None, Some, refl, sym, ap, subst, true≢false, ◌∙◌, arith, length-set, length-take, length-drop}
use Rattle.std.specs.Map.{lookup}
use Rattle.std.proofs.lemmas.Bool.Decides.{nat_tests}
use Rattle.std.proofs.lemmas.Bool.{and_parts, and_from, or_left, or_right}
use Rattle.std.proofs.lemmas.List.{get_or-set_same, get_or-set_other, get_or_append_left, get_or_push, get_or_read, take-append-drop, length_push}
use Rattle.std.proofs.lemmas.List.Folds.{list_any-append}
use Rattle.cov_base.specs.Addresses.{after_first, after_anchor}
use Rattle.cov_base.proofs.CallerLemmas.{or_second}
use Rattle.cov_order.specs.Orders.{has_line, is_anchor, AreLines}
use Rattle.cov_order.specs.Pages.{lines_on, lines_in, has_page, ArePages, is_on, ArePaged, IsPageOf, halved, moved}
use Rattle.cov_order.proofs.Places.{any-after_first, any-after, same_number, lines-after}
use Rattle.cov_order.proofs.Sequences.{below, with_page, split, put, put_first}

other_place : (j k : ℕ) → nat_eq j k ≡ false → j ≢ k
other_place j k e h = absurd (true≢false (sym (ap (λ m. nat_eq j m) (sym h) ∙ same_number j) ∙ e))

turned : (a b : Bool) → (a || b) ≡ true → (b || a) ≡ true
turned true true h = refl
turned true false h = refl
turned false true h = refl
turned false false h = h

-- a page that was read is the one with its number
pub page_read : (pages : List (List ℕ)) (k : ℕ) (page : List ℕ) → k < length pages → page ≡ get_or pages k page → page ≡ lines_on pages k
page_read pages k page less is = get_or_read pages k page less is []

-- the head's page is the first
pub head_page : (pages : List (List ℕ)) (sequence : List ℕ) (anchor number : ℕ) → anchor ≡ 0 → 0 < length sequence → number ≡ get_or sequence 0 number → IsPageOf pages sequence anchor number
head_page pages [] zero number none some is = absurd (omega (arith, some))
head_page pages (n ∷ ns) zero number none some is = (ns, ap (λ m. m ∷ ns) (sym is))
head_page pages sequence (suc anchor) number none some is = absurd (omega (arith, none))

module _ (pages : List (List ℕ)) (sequence : List ℕ) (entries : List (ℕ × ℕ)) (p : ArePaged pages sequence entries) where
  -- a page that was found for a line is that of the line
  pub found_page : (anchor number : ℕ) (found : Option ℕ) → is_on pages sequence (suc anchor) found ≡ true → found ≡ Some number → IsPageOf pages sequence (suc anchor) number
  found_page anchor number None on is = absurd (true≢false (sym on))
  found_page anchor number (Some j) on is =
      let same : j ≡ number = cc in
      subst (IsPageOf pages sequence (suc anchor)) same (and_parts (has_page j sequence) (has_line (suc anchor) (lines_on pages j)) on)

  -- the index has the page of each anchor but the head
  pub anchor_page : (anchor number : ℕ) → (anchor ≡ 0 → ⊥) → is_anchor anchor (lines_in pages sequence) ≡ true → lookup (nat_eq anchor) entries ≡ Some number → IsPageOf pages sequence anchor number
  anchor_page zero number some anchored found = absurd (some refl)
  anchor_page (suc anchor) number some anchored found = found_page anchor number (lookup (nat_eq (suc anchor)) entries) (p.page (suc anchor) anchored) found

  pub anchor_known : (anchor : ℕ) → (anchor ≡ 0 → ⊥) → is_anchor anchor (lines_in pages sequence) ≡ true → lookup (nat_eq anchor) entries ≡ None → ⊥
  anchor_known zero some anchored found = some refl
  anchor_known (suc anchor) some anchored found = true≢false (sym (p.page (suc anchor) anchored) ∙ ap (is_on pages sequence (suc anchor)) found)

  pub known : (anchor number : ℕ) → IsPageOf pages sequence anchor number → has_page number sequence ≡ true
  known zero number page = ap (has_page number) page.1 ∙ or_left (nat_eq number number) (has_page number page.0) (same_number number)
  known (suc anchor) number page = page.0

  pub within : (anchor number : ℕ) → IsPageOf pages sequence anchor number → number < length pages
  within anchor number page = below (length pages) number sequence p.numbers (known anchor number page)

  -- the page with number k is split
  module _ (k : ℕ) (there : has_page k sequence ≡ true) where
    abbrev first : List ℕ
    first = take 128 (lines_on pages k)

    abbrev rest : List ℕ
    rest = drop 128 (lines_on pages k)

    abbrev after : List ℕ
    after = after_first (λ n. nat_eq n k) (length pages) sequence

    less : k < length pages
    less = below (length pages) k sequence p.numbers there

    same_length : length (set pages k first) ≡ length pages
    same_length = length-set pages k first

    length-halved : length (halved pages k) ≡ length pages + 1
    length-halved = length_push (set pages k first) rest ∙ ap (λ n. n + 1) same_length

    first_half : lines_on (halved pages k) k ≡ first
    first_half = get_or_append_left (set pages k first) (rest ∷ []) [] k (omega (arith, less, same_length)) ∙ get_or-set_same pages k first [] less

    second_half : lines_on (halved pages k) (length pages) ≡ rest
    second_half = get_or_push (set pages k first) rest [] (length pages) same_length

    other_half : (j : ℕ) → nat_eq j k ≡ false → j < length pages → lines_on (halved pages k) j ≡ lines_on pages j
    other_half j e small =
        get_or_append_left (set pages k first) (rest ∷ []) [] j (omega (arith, small, same_length)) ∙ get_or-set_other pages k j first [] (other_place j k e)

    -- the page as it is read afterwards
    pub read_first : (halves : List (List ℕ)) (page : List ℕ) → halves ≡ halved pages k → page ≡ get_or halves k page → page ≡ first
    read_first halves page e is =
        let longer : length halves ≡ length pages + 1 = ap length e ∙ length-halved in
        page_read halves k page (omega (arith, less, longer)) is ∙ ap (λ l. lines_on l k) e ∙ first_half

    -- both halves have a place
    pub first_place : length (lines_on (halved pages k) k) < 256
    first_place =
        let short : length (lines_on (halved pages k) k) ≡ min 128 (length (lines_on pages k)) = ap length first_half ∙ length-take 128 (lines_on pages k) in
        omega (arith, short)

    pub second_place : length (lines_on pages k) ≡ 256 → length (lines_on (halved pages k) (length pages)) < 256
    second_place full =
        let short : length (lines_on (halved pages k) (length pages)) ≡ length (lines_on pages k) - 128 = ap length second_half ∙ length-drop 128 (lines_on pages k) in
        omega (arith, short, full)

    pub split_lines : lines_in (halved pages k) after ≡ lines_in pages sequence
    split_lines =
        split (lines_on pages) (lines_on (halved pages k)) k (length pages) other_half sequence p.numbers there
        (ap (λ l. l ++ lines_on (halved pages k) (length pages)) first_half ∙ ap (λ l. first ++ l) second_half ∙ take-append-drop 128 (lines_on pages k))

    has_halves : (q : ℕ) → has_line q (lines_on pages k) ≡ (has_line q first || has_line q rest)
    has_halves q = ap (has_line q) (sym (take-append-drop 128 (lines_on pages k))) ∙ list_any-append (λ n. nat_eq n q) first rest

    new_there : has_page (length pages) after ≡ true
    new_there =
        any-after_first (λ n. nat_eq n k) (length pages) (λ n. nat_eq n (length pages)) sequence
        ∙ or_left (nat_eq (length pages) (length pages)) (has_page (length pages) sequence) (same_number (length pages))

    old_there : (j : ℕ) → has_page j sequence ≡ true → has_page j after ≡ true
    old_there j h = any-after_first (λ n. nat_eq n k) (length pages) (λ n. nat_eq n j) sequence ∙ or_right (nat_eq (length pages) j) (has_page j sequence) h

    -- a line that isn't moved is where it was
    stays : (q : ℕ) (found : Option ℕ) → has_line q rest ≡ false → is_on pages sequence q found ≡ true → is_on (halved pages k) after q found ≡ true
    stays q None out on = absurd (true≢false (sym on))
    stays q (Some j) out on = and_from (has_page j after) (has_line q (lines_on (halved pages k) j)) (old_there j parts.0) (at (nat_eq j k) refl)
      where
        parts : (has_page j sequence ≡ true) × (has_line q (lines_on pages j) ≡ true)
        parts = and_parts (has_page j sequence) (has_line q (lines_on pages j)) on

        at : (b : Bool) → nat_eq j k ≡ b → has_line q (lines_on (halved pages k) j) ≡ true
        at true e =
            let is : j ≡ k = grind (arith, nat_tests, e) in
            ap (λ m. has_line q (lines_on (halved pages k) m)) is ∙ ap (has_line q) first_half
            ∙ or_second (has_line q rest) (has_line q first) out
            (turned (has_line q first) (has_line q rest) (sym (has_halves q) ∙ ap (λ m. has_line q (lines_on pages m)) (sym is) ∙ parts.1))
        at false e = ap (has_line q) (other_half j e (below (length pages) j sequence p.numbers parts.0)) ∙ parts.1

    -- a line that is moved is on the new page
    goes : (q : ℕ) (found : Option ℕ) → has_line q rest ≡ true → is_on pages sequence q found ≡ true → is_on (halved pages k) after q (moved (length pages) true found) ≡ true
    goes q None moves on = absurd (true≢false (sym on))
    goes q (Some j) moves on = and_from (has_page (length pages) after) (has_line q (lines_on (halved pages k) (length pages))) new_there (ap (has_line q) second_half ∙ moves)

    pub split_paged : (index : List (ℕ × ℕ)) → ((q : ℕ) → lookup (nat_eq q) index ≡ moved (length pages) (has_line q rest) (lookup (nat_eq q) entries))
        → ArePaged (halved pages k) after index
    split_paged index found = record {
      lines = subst AreLines (sym split_lines) p.lines;
      numbers = with_page (λ n. nat_eq n k) (length pages) (length (halved pages k)) sequence length-halved p.numbers;
      page = λ q h. at q (has_line q rest) refl (p.page q (sym (ap (has_line q) split_lines) ∙ h));
    }
      where
        at : (q : ℕ) (b : Bool) → has_line q rest ≡ b → is_on pages sequence q (lookup (nat_eq q) entries) ≡ true → is_on (halved pages k) after q (lookup (nat_eq q) index) ≡ true
        at q true e on =
            ap (is_on (halved pages k) after q) (found q ∙ ap (λ b. moved (length pages) b (lookup (nat_eq q) entries)) e) ∙ goes q (lookup (nat_eq q) entries) e on
        at q false e on =
            ap (is_on (halved pages k) after q) (found q ∙ ap (λ b. moved (length pages) b (lookup (nat_eq q) entries)) e) ∙ stays q (lookup (nat_eq q) entries) e on

    heads : (others : List ℕ) → sequence ≡ k ∷ others → after ≡ k ∷ length pages ∷ others
    heads others e =
        ap (after_first (λ n. nat_eq n k) (length pages)) e
        ∙ ap (λ b. cond b (k ∷ length pages ∷ others) (k ∷ after_first (λ n. nat_eq n k) (length pages) others)) (same_number k)

    -- the anchor is on the first half or on the second, and the head is before the first
    pub in_first : (anchor : ℕ) → IsPageOf pages sequence anchor k → has_line anchor first ≡ true → IsPageOf (halved pages k) after anchor k
    in_first zero of here = (length pages ∷ of.0, heads of.0 of.1)
    in_first (suc anchor) of here = (old_there k there, ap (has_line (suc anchor)) first_half ∙ here)

    pub at_head : (anchor : ℕ) → IsPageOf pages sequence anchor k → anchor ≡ 0 → IsPageOf (halved pages k) after anchor k
    at_head zero of none = (length pages ∷ of.0, heads of.0 of.1)
    at_head (suc anchor) of none = absurd (omega (arith, none))

    pub in_second : (anchor : ℕ) → IsPageOf pages sequence anchor k → (anchor ≡ 0 → ⊥) → has_line anchor first ≡ false → IsPageOf (halved pages k) after anchor (length pages)
    in_second zero of some out = absurd (some refl)
    in_second (suc anchor) of some out =
        (new_there, ap (has_line (suc anchor)) second_half ∙ or_second (has_line (suc anchor) first) (has_line (suc anchor) rest) out (sym (has_halves (suc anchor)) ∙ of.1))

  -- a line is put on the page of its anchor
  module _ (k anchor line : ℕ) (of : IsPageOf pages sequence anchor k) where
    abbrev longer : List ℕ
    longer = after_anchor anchor line (lines_on pages k)

    put_here : lines_on (set pages k longer) k ≡ longer
    put_here = get_or-set_same pages k longer [] (within anchor k of)

    put_away : (j : ℕ) → nat_eq j k ≡ false → j < length pages → lines_on (set pages k longer) j ≡ lines_on pages j
    put_away j e small = get_or-set_other pages k j longer [] (other_place j k e)

  pub put_lines : (k anchor line : ℕ) → IsPageOf pages sequence anchor k
      → lines_in (set pages k (after_anchor anchor line (lines_on pages k))) sequence ≡ after_anchor anchor line (lines_in pages sequence)
  put_lines k zero line of =
      ap (lines_in (set pages k (line ∷ lines_on pages k))) of.1
      ∙ put_first (lines_on pages) (lines_on (set pages k (line ∷ lines_on pages k))) k (length pages) (put_away k zero line of) line of.0
      (subst (ArePages (length pages)) of.1 p.numbers) (put_here k zero line of)
      ∙ ap (λ ns. line ∷ lines_in pages ns) (sym of.1)
  put_lines k (suc anchor) line of =
      put (lines_on pages) (lines_on (set pages k (after_anchor (suc anchor) line (lines_on pages k)))) k (length pages) (put_away k (suc anchor) line of)
      (suc anchor) line sequence p.numbers of.0 p.lines of.1 (put_here k (suc anchor) line of)

  module _ (k anchor line : ℕ) (of : IsPageOf pages sequence anchor k) (index : List (ℕ × ℕ))
      (found : (q : ℕ) → lookup (nat_eq q) index ≡ cond (nat_eq line q) (Some k) (lookup (nat_eq q) entries)) where
    abbrev put_pages : List (List ℕ)
    put_pages = set pages k (after_anchor anchor line (lines_on pages k))

    -- a line is still where it was
    still : (q : ℕ) (o : Option ℕ) → is_on pages sequence q o ≡ true → is_on put_pages sequence q o ≡ true
    still q None on = absurd (true≢false (sym on))
    still q (Some j) on = and_from (has_page j sequence) (has_line q (lines_on put_pages j)) parts.0 (at (nat_eq j k) refl)
      where
        parts : (has_page j sequence ≡ true) × (has_line q (lines_on pages j) ≡ true)
        parts = and_parts (has_page j sequence) (has_line q (lines_on pages j)) on

        at : (b : Bool) → nat_eq j k ≡ b → has_line q (lines_on put_pages j) ≡ true
        at true e =
            let is : j ≡ k = grind (arith, nat_tests, e) in
            ap (λ m. has_line q (lines_on put_pages m)) is ∙ ap (has_line q) (put_here k anchor line of) ∙ any-after q anchor line (lines_on pages k)
            ∙ or_right (nat_eq line q) (has_line q (lines_on pages k)) (ap (λ m. has_line q (lines_on pages m)) (sym is) ∙ parts.1)
        at false e = ap (has_line q) (put_away k anchor line of j e (below (length pages) j sequence p.numbers parts.0)) ∙ parts.1

    -- and the new one is on the page
    new_on : (q : ℕ) → nat_eq line q ≡ true → is_on put_pages sequence q (Some k) ≡ true
    new_on q e =
        and_from (has_page k sequence) (has_line q (lines_on put_pages k)) (known anchor k of)
        (ap (has_line q) (put_here k anchor line of) ∙ any-after q anchor line (lines_on pages k) ∙ or_left (nat_eq line q) (has_line q (lines_on pages k)) e)

    pub put_paged : 0 < line → has_line line (lines_in pages sequence) ≡ false → ArePaged put_pages sequence index
    put_paged above fresh = record {
      lines = subst AreLines (sym (put_lines k anchor line of)) (lines-after anchor line (lines_in pages sequence) above fresh p.lines);
      numbers = subst (λ n. ArePages n sequence) (sym (length-set pages k (after_anchor anchor line (lines_on pages k)))) p.numbers;
      page = λ q h. at q (nat_eq line q) refl (sym (ap (has_line q) (put_lines k anchor line of) ∙ any-after q anchor line (lines_in pages sequence)) ∙ h);
    }
      where
        at : (q : ℕ) (b : Bool) → nat_eq line q ≡ b → (nat_eq line q || has_line q (lines_in pages sequence)) ≡ true → is_on put_pages sequence q (lookup (nat_eq q) index) ≡ true
        at q true e h = ap (is_on put_pages sequence q) (found q ∙ ap (λ b. cond b (Some k) (lookup (nat_eq q) entries)) e) ∙ new_on q e
        at q false e h =
            ap (is_on put_pages sequence q) (found q ∙ ap (λ b. cond b (Some k) (lookup (nat_eq q) entries)) e)
            ∙ still q (lookup (nat_eq q) entries) (p.page q (or_second (nat_eq line q) (has_line q (lines_in pages sequence)) e h))

-- the page of an anchor, where pages and sequence are the same
pub same_page : (pages old_pages : List (List ℕ)) (sequence old_sequence : List ℕ) (anchor number : ℕ) → pages ≡ old_pages → sequence ≡ old_sequence
    → IsPageOf old_pages old_sequence anchor number → IsPageOf pages sequence anchor number
same_page pages old_pages sequence old_sequence anchor number e f of =
    subst (λ l. IsPageOf l sequence anchor number) (sym e) (subst (λ l. IsPageOf old_pages l anchor number) (sym f) of)
