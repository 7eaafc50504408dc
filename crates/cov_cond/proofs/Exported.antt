-- What is exported of a file gives its texts on each choice.
use Rattle.std.proofs.Common.{◌≡◌, ℕ, ◌+◌, ◌≤◌, Bool, true, false, cond, ◌&&◌, ◌||◌, not, nat_eq, List, [], ◌∷◌, ◌++◌, map, length, Ok, if◌then◌else◌, refl, sym, ap, subst, ◌∙◌, arith}
use Rattle.std.specs.Prelude.{codes}
use Rattle.std.specs.List.{filter, flat_map, list_all, list_any, AllByRecursion}
use Rattle.std.specs.Cmp.Lexicographic.{pointwise}
use Rattle.std.proofs.Math.Seq.{take-length}
use Rattle.std.proofs.lemmas.Bool.{and_parts}
use Rattle.std.proofs.lemmas.Bool.Decides.{nat_tests}
use Rattle.std.proofs.lemmas.Simd.{map-map}
use Rattle.cov_base.specs.Addresses.{line_of}
use Rattle.cov_base.specs.Spelling.{is_line_text}
use Rattle.cov_base.specs.declared.limits.TheConstants.{CHOICE_WIDTH}
use Rattle.cov_base.proofs.CallerLemmas.{all-both, all-filter, all-map, any-map, nat_eq-sym}
use Rattle.cov_order.specs.Orders.{has_line, AreLines}
use Rattle.cov_expr.specs.ExpressionText.{text_of as expression_text}
use Rattle.cov_expr.specs.Formula.{Formula, value}
use Rattle.cov_expr.specs.Laws.{ReadsByGrammar, TextsReadBack, NamesBindBack}
use Rattle.cov_expr.specs.Options.{option_name}
use Rattle.cov_expr.specs.Validity.{is_valid}
use Rattle.cov_edit.specs.declared.command.Command.{Command}
use Rattle.cov_edit.specs.History.{options_of, option_count}
use Rattle.cov_edit.specs.Replay.{replay}
use Rattle.cov_edit.specs.Variant.{Variant, Line, lines_of}
use Rattle.cov_vis.specs.declared.listing.Child.{Child}
use Rattle.cov_vis.specs.declared.listing.Child.TheVariants.{F, T, At}
use Rattle.cov_vis.specs.declared.listing.ListingEntry.{ListingEntry}
use Rattle.cov_vis.specs.Laws.{IsListingOf, TestsHaveOneListing}
use Rattle.cov_vis.specs.Listings.{ListingValue, reads, has_options_below, same_child, same_entry}
use Rattle.cov_history.specs.Files.{dated, file_dated, as_shown, dated_as_shown, dated_shown, is_dated_seen}
use Rattle.cov_history.specs.Kept.{Kept, is_seen, the_item, kept_number, kept_of, file_kept}
use Rattle.cov_history.specs.Laws.{text_of}
use Rattle.cov_history.specs.Verdict.{IsLegal}
use Rattle.cov_history.proofs.CallerLemmas.{all-mapped, any-none, file-shows, holding-whole, replay-seen}
use Rattle.cov_engine.specs.Visibility.{has_line_number, presence_of}
use Rattle.cov_cond_text.specs.Conditional.{CondLine, projection}
use Rattle.cov_cond.specs.Exporting.{expression_of, PresentLine, present_line, is_nowhere, same_listing, present_lines, AreShort, IsShort, Listed, onto_listed, listed, text_line, listed_lines, conditional_text}
use Rattle.cov_cond_text.specs.Reading.{line_read, read_text}
use Rattle.cov_cond.proofs.Expressions.{expression-value, expression-reach}
use Rattle.cov_cond.proofs.Projecting.{shown_text}
use Rattle.cov_cond_text.proofs.CallerLemmas.{projection-append, run-projection}
use Rattle.cov_cond.proofs.ReadingBack.{Gives, texts-given, enclosed-given}
use Rattle.cov_cond.proofs.Spelt.{AreNames, legal-names, legal-texts, IsSpelt}

same_child-is : (x y : Child) → same_child x y ≡ true → x ≡ y
same_child-is F F h = refl
same_child-is T T h = refl
same_child-is (At i) (At j) h = let same : i ≡ j = grind (arith, nat_tests, h) in ap At same
same_child-is F T h = absurd (cc)
same_child-is F (At j) h = absurd (cc)
same_child-is T F h = absurd (cc)
same_child-is T (At j) h = absurd (cc)
same_child-is (At i) F h = absurd (cc)
same_child-is (At i) T h = absurd (cc)

same_entry-is : (e f : ListingEntry) → same_entry e f ≡ true → e ≡ f
same_entry-is e f h =
    let options = and_parts (nat_eq e.option f.option) (same_child e.off f.off && same_child e.on f.on) h in
    let children = and_parts (same_child e.off f.off) (same_child e.on f.on) options.1 in
    let option : e.option ≡ f.option = grind (arith, nat_tests, options.0) in
    let off = same_child-is e.off f.off children.0 in
    let on = same_child-is e.on f.on children.1 in
    λ i. record { option = option i; off = off i; on = on i }

same_entries-is : (es fs : List ListingEntry) → pointwise same_entry es fs ≡ true → es ≡ fs
same_entries-is [] [] h = refl
same_entries-is [] (f ∷ fs) h = absurd (cc)
same_entries-is (e ∷ es) [] h = absurd (cc)
same_entries-is (e ∷ es) (f ∷ fs) h =
    let parts = and_parts (same_entry e f) (pointwise same_entry es fs) h in
    λ i. same_entry-is e f parts.0 i ∷ same_entries-is es fs parts.1 i

pub same_listing-is : (l m : ListingValue) → same_listing l m ≡ true → l ≡ m
same_listing-is l m h =
    let parts = and_parts (same_child l.root m.root) (pointwise same_entry l.entries m.entries) h in
    let root = same_child-is l.root m.root parts.0 in
    let entries = same_entries-is l.entries m.entries parts.1 in
    λ i. record { root = root i; entries = entries i }

-- the texts of a run on a choice
abbrev run_texts : List Bool → Listed → List (List ℕ)
run_texts c r = if reads r.first.listing c then r.first.text ∷ r.others else []

abbrev runs_texts : List Bool → List Listed → List (List ℕ)
runs_texts c rs = flat_map (run_texts c) rs

-- whether a line is present on a choice
abbrev is_present_on : List Bool → PresentLine → Bool
is_present_on c l = reads l.listing c

abbrev present_text : PresentLine → List ℕ
present_text l = l.text

abbrev present_texts : List Bool → List PresentLine → List (List ℕ)
present_texts c ls = map present_text (filter (is_present_on c) ls)

-- the runs have the texts of their lines
onto-texts : (c : List Bool) (l : PresentLine) (rs : List Listed) → runs_texts c (onto_listed l rs) ≡ (if reads l.listing c then l.text ∷ [] else []) ++ runs_texts c rs
onto-texts c l [] = refl
onto-texts c l (r ∷ rs) = at (same_listing l.listing r.first.listing) refl
  where
    by : (b d : Bool) → b ≡ d → (if b then l.text ∷ r.first.text ∷ r.others else []) ++ runs_texts c rs ≡ (if b then l.text ∷ [] else []) ++ ((if d then r.first.text ∷ r.others else []) ++ runs_texts c rs)
    by true true e = refl
    by true false e = absurd (cc)
    by false true e = absurd (cc)
    by false false e = refl

    at : (b : Bool) → same_listing l.listing r.first.listing ≡ b
        → runs_texts c (if b then record { first = l; others = r.first.text ∷ r.others } ∷ rs else record { first = l; others = [] } ∷ r ∷ rs)
        ≡ (if reads l.listing c then l.text ∷ [] else []) ++ runs_texts c (r ∷ rs)
    at true e = by (reads l.listing c) (reads r.first.listing c) (ap (λ m. reads m c) (same_listing-is l.listing r.first.listing e))
    at false e = refl

listed-texts : (c : List Bool) (ls : List PresentLine) → runs_texts c (listed ls) ≡ present_texts c ls
listed-texts c [] = refl
listed-texts c (l ∷ ls) = onto-texts c l (listed ls) ∙ ap (λ ts. (if reads l.listing c then l.text ∷ [] else []) ++ ts) (listed-texts c ls) ∙ at (reads l.listing c)
  where
    at : (b : Bool) → (if b then l.text ∷ [] else []) ++ present_texts c ls ≡ map present_text (cond b (l ∷ filter (is_present_on c) ls) (filter (is_present_on c) ls))
    at true = refl
    at false = refl

-- lines that no choice has are on none
without-nowhere : (c : List Bool) (ls : List PresentLine) → present_texts c (filter (λ l. not (is_nowhere l.listing)) ls) ≡ present_texts c ls
without-nowhere c [] = refl
without-nowhere c (l ∷ ls) = at (is_nowhere l.listing) refl (reads l.listing c) refl (without-nowhere c ls)
  where
    shown : PresentLine → Bool
    shown m = not (is_nowhere m.listing)

    at : (b : Bool) → is_nowhere l.listing ≡ b → (d : Bool) → reads l.listing c ≡ d → present_texts c (filter (λ m. not (is_nowhere m.listing)) ls) ≡ present_texts c ls
        → present_texts c (cond (not b) (l ∷ filter (λ m. not (is_nowhere m.listing)) ls) (filter (λ m. not (is_nowhere m.listing)) ls)) ≡ present_texts c (l ∷ ls)
    at true e true r rest =
        let root : l.listing.root ≡ F = same_child-is l.listing.root F e in
        let none : reads (record { root = F; entries = l.listing.entries }) c ≡ true = subst (λ x. reads (record { root = x; entries = l.listing.entries }) c ≡ true) root r in
        absurd (cc)
    at true e false r rest = rest ∙ ap (λ d. map present_text (cond d (l ∷ filter (is_present_on c) ls) (filter (is_present_on c) ls))) (sym r)
    at false e true r rest =
        ap (λ d. map present_text (cond d (l ∷ filter (is_present_on c) (filter (λ m. not (is_nowhere m.listing)) ls)) (filter (is_present_on c) (filter (λ m. not (is_nowhere m.listing)) ls)))) r
        ∙ ap (λ ts. l.text ∷ ts) rest
        ∙ ap (λ d. map present_text (cond d (l ∷ filter (is_present_on c) ls) (filter (is_present_on c) ls))) (sym r)
    at false e false r rest =
        ap (λ d. map present_text (cond d (l ∷ filter (is_present_on c) (filter (λ m. not (is_nowhere m.listing)) ls)) (filter (is_present_on c) (filter (λ m. not (is_nowhere m.listing)) ls)))) r
        ∙ rest
        ∙ ap (λ d. map present_text (cond d (l ∷ filter (is_present_on c) ls) (filter (is_present_on c) ls))) (sym r)

-- no two of the items are the same
abbrev AreApart : {X : Type 0} → (X → X → Bool) → List X → Type 0
AreApart same [] = Unit {0}
AreApart same (x ∷ xs) = AllByRecursion (λ y. (same x y ≡ false) × (same y x ≡ false)) xs × AreApart same xs

-- so the same as an item is among those that pass a test exactly where it passes itself
any-same : {X : Type 0} (same : X → X → Bool) (p : X → Bool) → ((x : X) → same x x ≡ true) → (xs : List X) → AreApart same xs → AllByRecursion (λ x. list_any (λ y. same y x) (filter p xs) ≡ p x) xs
any-same same p itself [] apart = tt
any-same same p itself (x ∷ xs) apart = (
  first (p x),
  all-both (λ y. (same x y ≡ false) × (same y x ≡ false)) (λ y. list_any (λ z. same z y) (filter p xs) ≡ p y) (λ y. list_any (λ z. same z y) (filter p (x ∷ xs)) ≡ p y)
      (λ y other rest. later y (p x) other.0 rest) xs apart.0 (any-same same p itself xs apart.1),
)
  where
    first : (s : Bool) → list_any (λ z. same z x) (cond s (x ∷ filter p xs) (filter p xs)) ≡ s
    first true = ap (λ b. b || list_any (λ z. same z x) (filter p xs)) (itself x)
    first false =
        any-none (λ z. same z x) (filter p xs)
        (all-filter (λ y. same y x ≡ false) p xs (all-map (λ y. (same x y ≡ false) × (same y x ≡ false)) (λ y. same y x ≡ false) (λ y other. other.1) xs apart.0))

    later : (y : _) (s : Bool) → same x y ≡ false → list_any (λ z. same z y) (filter p xs) ≡ p y → list_any (λ z. same z y) (cond s (x ∷ filter p xs) (filter p xs)) ≡ p y
    later y true other rest = ap (λ b. b || list_any (λ z. same z y) (filter p xs)) other ∙ rest
    later y false other rest = rest

-- no line has the number of another
numbers-differ : (n : ℕ) (ks : List (Kept Line)) → has_line n (map kept_number ks) ≡ false → AllByRecursion (λ k. nat_eq (kept_number k) n ≡ false) ks
numbers-differ n [] h = tt
numbers-differ n (k ∷ ks) h = at (nat_eq (kept_number k) n) refl h (numbers-differ n ks)
  where
    at : (b : Bool) → nat_eq (kept_number k) n ≡ b → (b || has_line n (map kept_number ks)) ≡ false
        → (has_line n (map kept_number ks) ≡ false → AllByRecursion (λ j. nat_eq (kept_number j) n ≡ false) ks) → AllByRecursion (λ j. nat_eq (kept_number j) n ≡ false) (k ∷ ks)
    at true e i rest = absurd (cc)
    at false e i rest = (e, rest i)

numbers-apart : (ks : List (Kept Line)) → AreLines (map kept_number ks) → AreApart (λ j k. nat_eq (kept_number j) (kept_number k)) ks
numbers-apart [] h = tt
numbers-apart (k ∷ ks) h = (
  all-map (λ j. nat_eq (kept_number j) (kept_number k) ≡ false) (λ j. (nat_eq (kept_number k) (kept_number j) ≡ false) × (nat_eq (kept_number j) (kept_number k) ≡ false))
      (λ j e. (nat_eq-sym (kept_number k) (kept_number j) ∙ e, e)) ks (numbers-differ (kept_number k) ks h.1),
  numbers-apart ks h.2,
)

-- the number of a kept line is in a replay where the line is seen
number-seen : (history : List Command) (c : List Bool) → AllByRecursion (λ k. has_line_number (kept_number k) (replay c history) ≡ is_seen c (length history) k) (kept_of history)
number-seen history c =
    all-map (λ k. list_any (λ j. nat_eq (kept_number j) (kept_number k)) (filter (is_seen c (length history)) all) ≡ is_seen c (length history) k)
    (λ k. has_line_number (kept_number k) (replay c history) ≡ is_seen c (length history) k)
    (λ k h.
    ap (λ (v : Variant). has_line_number (kept_number k) v) (sym (replay-seen c (length history) history ∙ ap (replay c) (take-length history)))
    ∙ any-map (λ (l : Line). nat_eq (line_of l.address) (kept_number k)) the_item (filter (is_seen c (length history)) all)
    ∙ h)
    all
    (any-same (λ j k. nat_eq (kept_number j) (kept_number k)) (is_seen c (length history)) (λ k. itself (kept_number k)) all (numbers-apart all (holding-whole history).once))
  where
    all : List (Kept Line)
    all = kept_of history

    itself : (n : ℕ) → nat_eq n n ≡ true
    itself n = grind (arith, nat_tests)

-- so the lines of a file that are present on a choice are those of its variant
module _ (history : List Command) (c : List Bool) (present : (line : ℕ) → reads (presence_of history line) c ≡ has_line_number line (replay c history)) where
  present-shown : (ks : List (Kept Line)) → AllByRecursion (λ k. has_line_number (kept_number k) (replay c history) ≡ is_seen c (length history) k) ks
      → present_texts c (map (present_line history) (map dated ks)) ≡ map shown_text (dated_shown c (length history) (map dated ks))
  present-shown [] h = refl
  present-shown (k ∷ ks) h = at (reads (presence_of history (kept_number k)) c) (is_seen c (length history) k) (present (kept_number k) ∙ h.0) refl (present-shown ks h.1)
    where
      later : List PresentLine
      later = filter (is_present_on c) (map (present_line history) (map dated ks))

      at : (a b : Bool) → a ≡ b → is_seen c (length history) k ≡ b
          → present_texts c (map (present_line history) (map dated ks)) ≡ map shown_text (dated_shown c (length history) (map dated ks))
          → map present_text (cond a (present_line history (dated k) ∷ filter (is_present_on c) (map (present_line history) (map dated ks))) (filter (is_present_on c) (map (present_line history) (map dated ks))))
          ≡ map shown_text (dated_shown c (length history) (dated k ∷ map dated ks))
      at true true e f rest = ap (λ ts. k.item.text ∷ ts) rest ∙ sym (ap (λ d. map shown_text (map dated_as_shown (cond d (dated k ∷ filter (is_dated_seen c (length history)) (map dated ks)) (filter (is_dated_seen c (length history)) (map dated ks))))) f)
      at false false e f rest = rest ∙ sym (ap (λ d. map shown_text (map dated_as_shown (cond d (dated k ∷ filter (is_dated_seen c (length history)) (map dated ks)) (filter (is_dated_seen c (length history)) (map dated ks))))) f)
      at true false e f rest = absurd (cc)
      at false true e f rest = absurd (cc)

  pub present-texts : (file : ℕ) → present_texts c (present_lines history file) ≡ map text_of (lines_of (replay c history) file)
  present-texts file =
      without-nowhere c (map (present_line history) (file_dated file (kept_of history)))
      ∙ present-shown (file_kept file (kept_of history)) (all-filter (λ k. has_line_number (kept_number k) (replay c history) ≡ is_seen c (length history) k) (λ k. nat_eq k.item.file file) (kept_of history) (number-seen history c))
      ∙ ap (map shown_text) (file-shows c (length history) file history)
      ∙ ap (λ h. map shown_text (map as_shown (lines_of (replay c h) file))) (take-length history)
      ∙ map-map shown_text as_shown (lines_of (replay c history) file)

-- a run has texts that lines can have, and a listing of these options whose expression has few tokens
pub record IsReadable (names : List (List ℕ)) (r : Listed) : Type 0 where
  pub spelt : list_all is_line_text (r.first.text ∷ r.others) ≡ true
  pub options : has_options_below (length names) r.first.listing ≡ true
  pub short : IsShort names r.first.listing

module _ (names : List (List ℕ)) (are : AreNames names) (grammar : ReadsByGrammar) (back : TextsReadBack) (bind : NamesBindBack) where
  -- the lines that are read where runs are exported, so many directives having come before
  abbrev ReadsBack : ℕ → List Listed → Type 0
  ReadsBack d rs = (ls : List CondLine) × Gives names (record { blocks = []; directives = d }) (flat_map (listed_lines names) rs) ls × ((c : List Bool) → projection ls c ≡ runs_texts c rs)

  -- texts that are all within one list of conditions
  same-projection : (c : List Bool) (conditions : List (Formula ℕ)) (group : ℕ) (texts : List (List ℕ))
      → projection (map (λ t. record { conditions = conditions; text = t; group = group }) texts) c ≡ (if is_valid conditions c then texts else [])
  same-projection c conditions group texts = run-projection (record { group = group; conditions = conditions; texts = texts }) c texts

  run-read : (d : ℕ) (r : Listed) (rest : List (List ℕ)) → IsReadable names r
      → (b : Bool) → same_child r.first.listing.root T ≡ b
      → (next : ℕ) × ((more : List CondLine) → Gives names (record { blocks = []; directives = next }) rest more
      → (ls : List CondLine) × Gives names (record { blocks = []; directives = d }) ((if b then map text_line (r.first.text ∷ r.others)
      else (codes "#if " ++ expression_text (option_name names) (expression_of r.first.listing)) ∷ (map text_line (r.first.text ∷ r.others) ++ codes "#endif" ∷ [])) ++ rest) (ls ++ more)
      × ((c : List Bool) → projection ls c ≡ run_texts c r))
  run-read d r rest fit true e = (
    d,
    λ more given. (
      map (line_read (record { blocks = []; directives = d })) texts,
      texts-given names (record { blocks = []; directives = d }) texts rest more fit.spelt given,
      λ c. same-projection c [] d texts ∙ everywhere c,
    ),
  )
    where
      texts : List (List ℕ)
      texts = r.first.text ∷ r.others

      root : r.first.listing.root ≡ T
      root = same_child-is r.first.listing.root T e

      everywhere : (c : List Bool) → texts ≡ (if reads r.first.listing c then texts else [])
      everywhere c = ap (λ x. if reads (record { root = x; entries = r.first.listing.entries }) c then texts else []) (sym root)
  run-read d r rest fit false e = (
    d + 1 + 1,
    λ more given. (
      map (λ t. record { conditions = expression_of r.first.listing ∷ []; text = t; group = d + 1 }) texts,
      enclosed-given names are.spelt are.distinct grammar back bind (expression_of r.first.listing) (expression-reach (length names) r.first.listing fit.options) fit.short.0 fit.short.1 fit.short.2 d texts rest more
          fit.spelt given,
      λ c. same-projection c (expression_of r.first.listing ∷ []) (d + 1) texts ∙ ap (λ b. if b then texts else []) (one (value (expression_of r.first.listing) c) ∙ expression-value r.first.listing c),
    ),
  )
    where
      texts : List (List ℕ)
      texts = r.first.text ∷ r.others

      one : (b : Bool) → (b && true) ≡ b
      one true = refl
      one false = refl

  pub runs-read : (d : ℕ) (rs : List Listed) → AllByRecursion (IsReadable names) rs → ReadsBack d rs
  runs-read d [] fit = ([], (λ n. refl), (λ c. refl))
  runs-read d (r ∷ rs) fit =
      let one = run-read d r (flat_map (listed_lines names) rs) fit.0 (same_child r.first.listing.root T) refl in
      let later = runs-read one.0 rs fit.1 in
      let all = one.1 later.0 later.1 in
      (all.0 ++ later.0, all.1, λ c. projection-append all.0 later.0 c ∙ (λ i. all.2 c i ++ later.2 c i))

-- a line has a text that lines can have, and a listing of the first n options
abbrev IsPrintable : ℕ → PresentLine → Type 0
IsPrintable n l = (is_line_text l.text ≡ true) × (has_options_below n l.listing ≡ true)

abbrev IsPrintableRun : ℕ → Listed → Type 0
IsPrintableRun n r = (list_all is_line_text (r.first.text ∷ r.others) ≡ true) × (has_options_below n r.first.listing ≡ true)

printable-alone : (n : ℕ) (l : PresentLine) → IsPrintable n l → IsPrintableRun n (record { first = l; others = [] })
printable-alone n l h = ((λ j. h.0 j && true), h.1)

printable-onto : (n : ℕ) (l : PresentLine) (rs : List Listed) → IsPrintable n l → AllByRecursion (IsPrintableRun n) rs → AllByRecursion (IsPrintableRun n) (onto_listed l rs)
printable-onto n l [] h all = (printable-alone n l h, tt)
printable-onto n l (r ∷ rs) h all = at (same_listing l.listing r.first.listing)
  where
    at : (b : Bool) → AllByRecursion (IsPrintableRun n) (if b then record { first = l; others = r.first.text ∷ r.others } ∷ rs else record { first = l; others = [] } ∷ r ∷ rs)
    at true = (((λ j. h.0 j && all.0.0 j), h.1), all.1)
    at false = (printable-alone n l h, all)

printable-runs : (n : ℕ) (ls : List PresentLine) → AllByRecursion (IsPrintable n) ls → AllByRecursion (IsPrintableRun n) (listed ls)
printable-runs n [] h = tt
printable-runs n (l ∷ ls) h = printable-onto n l (listed ls) h.0 (printable-runs n ls h.1)

-- what is exported is read back, and gives the texts of the file on each choice
pub export-gives : TestsHaveOneListing → ReadsByGrammar → TextsReadBack → NamesBindBack → (history : List Command) (file : ℕ) → IsLegal history → AreShort history file
    → (t : List CondLine) × (read_text (options_of history) (conditional_text history file) ≡ Ok t)
    × ((c : List Bool) → length c ≡ option_count history → projection t c ≡ map text_of (lines_of (replay c history) file))
export-gives one grammar back bind history file legal short = (
  read.0,
  read.1 1,
  λ c long. read.2 c ∙ listed-texts c (present_lines history file) ∙ present-texts history c (λ line. (listing line).values c long) file,
)
  where
    n : ℕ
    n = option_count history

    names : List (List ℕ)
    names = options_of history

    are : AreNames names
    are = legal-names history legal

    few : n ≤ CHOICE_WIDTH
    few = let most = are.most in omega (arith, most)

    listing : (line : ℕ) → IsListingOf n (λ c. has_line_number line (replay c history)) (presence_of history line)
    listing line = (one n (λ c. has_line_number line (replay c history)) few (presence_of history line)).1 refl

    printable : AllByRecursion (IsPrintable n) (present_lines history file)
    printable =
        all-filter (IsPrintable n) (λ l. not (is_nowhere l.listing)) (map (present_line history) (file_dated file (kept_of history)))
        (all-mapped (λ d. is_line_text d.text ≡ true) (IsPrintable n) (present_line history) (λ d spelt. (spelt, (listing d.line).options)) (file_dated file (kept_of history))
        (all-mapped IsSpelt (λ d. is_line_text d.text ≡ true) dated (λ k spelt. spelt) (file_kept file (kept_of history))
        (all-filter IsSpelt (λ k. nat_eq k.item.file file) (kept_of history) (legal-texts history legal))))

    readable : AllByRecursion (IsReadable names) (listed (present_lines history file))
    readable =
        all-both (IsPrintableRun n) (λ r. IsShort names r.first.listing) (IsReadable names) (λ r h k. record { spelt = h.0; options = h.1; short = k })
        (listed (present_lines history file)) (printable-runs n (present_lines history file) printable) short

    read : ReadsBack names are grammar back bind 0 (listed (present_lines history file))
    read = runs-read names are grammar back bind 0 (listed (present_lines history file)) readable
