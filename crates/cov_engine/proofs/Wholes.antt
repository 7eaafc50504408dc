-- What an engine shows is whole.
use Rattle.std.proofs.Common.{◌≡◌, ℕ, ◌<◌, Bool, true, false, cond, ◌||◌, nat_eq, List, [], ◌∷◌, map, true≢false, refl, sym, ap, subst, ◌∙◌, arith}
use Rattle.std.specs.List.{AllByRecursion}
use Rattle.std.proofs.lemmas.Bool.{or_right}
use Rattle.std.proofs.lemmas.Bool.Decides.{nat_tests}
use Rattle.cov_base.proofs.CallerLemmas.{all-map, all-both}
use Rattle.cov_dd.specs.declared.triple.Triple.{Triple}
use Rattle.cov_edit.specs.declared.command.Command.{Command}
use Rattle.cov_edit.specs.History.{option_count}
use Rattle.cov_edit.specs.Touched.{AreRising}
use Rattle.cov_edit.specs.Variant.{Line}
use Rattle.cov_file.specs.Dated.{line_numbers_of}
use Rattle.cov_history.specs.Files.{file_dated, file_order}
use Rattle.cov_history.specs.Kept.{Kept, kept_number, kept_of, file_kept}
use Rattle.cov_order.specs.Orders.{has_line, AreLines}
use Rattle.cov_tree.specs.Dated.{Dated}
use Rattle.cov_visible.specs.declared.file_part.FilePart.{FilePart}
use Rattle.cov_overtaking.specs.declared.mark.CommitMark.{CommitMark}
use Rattle.cov_visible.specs.declared.visible.Visible.{Visible}
use Rattle.cov_engine.specs.Holdings.{IsFileOf, AreRowsAndLinesOf}
use Rattle.cov_visible.specs.Parts.{part_node}
use Rattle.cov_visible.specs.Visible.{AreLineNodes, HaveNoCommonLine, HaveNoCommonLines, IsWhole}
use Rattle.cov_history.proofs.CallerLemmas.{files-rise, holding-whole}
use Rattle.cov_engine.proofs.Committed.{numbers-dated}
use Rattle.cov_engine.proofs.Dating.{dated-numbers, dated-nodes}
use Rattle.cov_engine.proofs.FileLines.{all-unmapped}
use Rattle.cov_visible.proofs.CallerLemmas.{equal}
use Rattle.cov_engine.proofs.RowPlans.{entries-once}

abbrev numbers : List (Kept Line) → List ℕ
numbers ks = map kept_number ks

-- a line of a file is one of all
of-all : (file line : ℕ) (ks : List (Kept Line)) → has_line line (numbers (file_kept file ks)) ≡ true → has_line line (numbers ks) ≡ true
of-all file line [] h = h
of-all file line (k ∷ ks) h = at (nat_eq k.item.file file) h (of-all file line ks)
  where
    front : (b : Bool) → (b || has_line line (numbers (file_kept file ks))) ≡ true → (has_line line (numbers (file_kept file ks)) ≡ true → has_line line (numbers ks) ≡ true) → (b || has_line line (numbers ks)) ≡ true
    front true g rest = refl
    front false g rest = rest g

    at : (b : Bool) → has_line line (numbers (cond b (k ∷ file_kept file ks) (file_kept file ks))) ≡ true → (has_line line (numbers (file_kept file ks)) ≡ true → has_line line (numbers ks) ≡ true)
        → (nat_eq (kept_number k) line || has_line line (numbers ks)) ≡ true
    at true g rest = front (nat_eq (kept_number k) line) g rest
    at false g rest = or_right (nat_eq (kept_number k) line) (has_line line (numbers ks)) (rest g)

-- no line of a file where there is none at all
not-any : (b : Bool) → (b ≡ true → ⊥) → b ≡ false
not-any true never = absurd (never refl)
not-any false never = refl

-- lines each of which stands once have none in two files
apart-lines : (a b line : ℕ) → nat_eq a b ≡ false → (ks : List (Kept Line)) → AreLines (numbers ks) → has_line line (numbers (file_kept a ks)) ≡ true → has_line line (numbers (file_kept b ks)) ≡ false
apart-lines a b line differs [] lines h = absurd (true≢false (sym h))
apart-lines a b line differs (k ∷ ks) lines h =
    at (nat_eq k.item.file a) (nat_eq k.item.file b) (nat_eq (kept_number k) line) refl refl refl h (apart-lines a b line differs ks lines.2) lines.1
  where
    Rest : Type 0
    Rest = has_line line (numbers (file_kept a ks)) ≡ true → has_line line (numbers (file_kept b ks)) ≡ false

    same-file : nat_eq k.item.file a ≡ true → nat_eq k.item.file b ≡ true → ⊥
    same-file e f = true≢false (sym (grind (arith, nat_tests, e, f)) ∙ differs)

    none-of : (file : ℕ) → has_line (kept_number k) (numbers ks) ≡ false → nat_eq (kept_number k) line ≡ true → has_line line (numbers (file_kept file ks)) ≡ false
    none-of file once is =
        not-any (has_line line (numbers (file_kept file ks)))
        (λ there. true≢false (sym (of-all file line ks there) ∙ (λ j. has_line (sym (equal (kept_number k) line is) j) (numbers ks)) ∙ once))

    at : (s t u : Bool) → nat_eq k.item.file a ≡ s → nat_eq k.item.file b ≡ t → nat_eq (kept_number k) line ≡ u → has_line line (numbers (cond s (k ∷ file_kept a ks) (file_kept a ks))) ≡ true → Rest → has_line (kept_number k) (numbers ks) ≡ false
        → has_line line (numbers (cond t (k ∷ file_kept b ks) (file_kept b ks))) ≡ false
    at true true u e f g i rest once = absurd (same-file e f)
    at true false true e f g i rest once = none-of b once g
    at true false false e f g i rest once = rest (ap (λ w. w || has_line line (numbers (file_kept a ks))) (sym g) ∙ i)
    at false true true e f g i rest once = absurd (true≢false (sym i ∙ none-of a once g))
    at false true false e f g i rest once = ap (λ w. w || has_line line (numbers (file_kept b ks))) g ∙ rest i
    at false false u e f g i rest once = rest i

module _ (history : List Command) (ts : List Triple) where
  order-is : (e : FilePart) → IsFileOf history ts e → line_numbers_of e.lines.lines ≡ file_order e.node (kept_of history)
  order-is e h = dated-numbers ts (option_count history) (file_dated e.node (kept_of history)) e.lines.lines h.lines ∙ numbers-dated (file_kept e.node (kept_of history))

  no-common : (e f : FilePart) → IsFileOf history ts e → IsFileOf history ts f → e.node < f.node → HaveNoCommonLine e f
  no-common e f own other less = λ line there.
      let differs : nat_eq e.node f.node ≡ false = grind (arith, nat_tests, less) in
      ap (has_line line) (order-is f other)
      ∙ apart-lines e.node f.node line differs (kept_of history) (holding-whole history).once (ap (has_line line) (sym (order-is e own)) ∙ there)

  -- the files of a history have no common line
  files-apart : (es : List FilePart) → AllByRecursion (IsFileOf history ts) es → AreRising (map part_node es) → HaveNoCommonLines es
  files-apart [] files rising = tt
  files-apart (e ∷ es) files rising = (
    all-both (λ f. e.node < f.node) (IsFileOf history ts) (HaveNoCommonLine e) (λ f less own. no-common e f files.0 own less) es (all-unmapped (λ n. e.node < n) part_node es rising.0) files.1,
    files-apart es files.1 rising.1,
  )

-- the files that are held are by rising node
pub held-rise : (history : List Command) (ts : List Triple) (commits : List CommitMark) (file_of_line : List ℕ) (entries : Dated) (stored : List FilePart) → AreRowsAndLinesOf history ts commits file_of_line entries stored → AreRising (map part_node stored)
held-rise history ts commits file_of_line entries stored held = subst AreRising (sym held.parts) (files-rise history).0

-- what holds the rows and lines of a history is whole
pub held-whole : (history : List Command) (commits : List CommitMark) (file_of_line : List ℕ) (v : Visible) → AreRowsAndLinesOf history v.table commits file_of_line v.entries v.files → IsWhole v
held-whole history commits file_of_line v held =
    let rising : AreRising (map part_node v.files) = held-rise history v.table commits file_of_line v.entries v.files held in
    record {
      entry_nodes = held.of_entries.within;
      line_nodes =
          all-map (IsFileOf history v.table) (AreLineNodes v.table)
          (λ e h p. dated-nodes v.table (option_count history) p (file_dated e.node (kept_of history)) e.lines.lines h.lines) v.files held.files;
      files = held.parts ∙ sym held.made;
      rising = rising;
      apart = files-apart history v.table v.files held.files rising;
      once = entries-once history v.table v.entries held.of_entries;
    }
