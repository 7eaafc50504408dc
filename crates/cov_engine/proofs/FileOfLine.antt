-- The file of each line has a stored file.
use Rattle.std.proofs.Common.{◌≡◌, ℕ, zero, suc, ◌+◌, ◌-◌, ◌<◌, ◌≤◌, Bool, true, false, cond, nat_eq, None, Option, Some, List, [], ◌∷◌, ◌⊎◌, inl, inr, length, slice_get, refl, sym, ap, subst, ◌∙◌, arith}
use Rattle.std.specs.List.{list_any, AllByRecursion}
use Rattle.std.proofs.lemmas.Bool.Decides.{nat_tests}
use Rattle.cov_base.specs.Rows.{has_node}
use Rattle.cov_dd.specs.declared.triple.Triple.{Triple}
use Rattle.cov_edit.specs.declared.command.Command.{Command}
use Rattle.cov_edit.specs.Numbering.{line_count}
use Rattle.cov_edit.specs.Variant.{Line}
use Rattle.cov_visible.specs.declared.file_part.FilePart.{FilePart}
use Rattle.cov_overtaking.specs.declared.mark.CommitMark.{CommitMark}
use Rattle.cov_history.specs.FileNodes.{files_of}
use Rattle.cov_history.specs.Kept.{Kept, kept_number, kept_of, file_kept, is_kept_anchor}
use Rattle.cov_tree.specs.Dated.{Dated}
use Rattle.cov_engine.specs.Holdings.{IsFileOf, AreRowsAndLinesOf}
use Rattle.cov_history.specs.Verdict.{IsLegal}
use Rattle.cov_visible.specs.Parts.{part_of}
use Rattle.cov_engine.specs.Visibility.{item_of, stored_file_of}
use Rattle.cov_history.proofs.CallerLemmas.{anchor-case, legal-in_files, file_of_line-has}
use Rattle.cov_visible.proofs.CallerLemmas.{equal, part-has, part-some}
use Rattle.cov_engine.proofs.Named.{the_file}

-- what is true of each line's file is so of a file with a line
file-with : (P : ℕ → Type 0) (t : Kept Line → Bool) (file : ℕ) (ks : List (Kept Line)) → AllByRecursion (λ k. P (the_file k)) ks → list_any t (file_kept file ks) ≡ true → P file
file-with P t file [] h any = absurd (cc)
file-with P t file (k ∷ ks) h any = at (nat_eq k.item.file file) refl any (file-with P t file ks h.1)
  where
    at : (b : Bool) → nat_eq k.item.file file ≡ b → list_any t (cond b (k ∷ file_kept file ks) (file_kept file ks)) ≡ true → (list_any t (file_kept file ks) ≡ true → P file) → P file
    at true e i rest = subst P (equal k.item.file file e) h.0
    at false e i rest = rest i

-- a file that has no line
pub none-kept : (P : ℕ → Type 0) (file : ℕ) (ks : List (Kept Line)) → AllByRecursion (λ k. P (the_file k)) ks → (P file → ⊥) → file_kept file ks ≡ []
none-kept P file [] h never = refl
none-kept P file (k ∷ ks) h never = at (nat_eq k.item.file file) refl (none-kept P file ks h.1 never)
  where
    at : (b : Bool) → nat_eq k.item.file file ≡ b → file_kept file ks ≡ [] → cond b (k ∷ file_kept file ks) (file_kept file ks) ≡ []
    at true e rest = absurd (never (subst P (equal k.item.file file e) h.0))
    at false e rest = rest

-- items by their numbers
module _ {X : Type 0} where
  pub item-suc : (xs : List X) (n : ℕ) → item_of xs (suc n) ≡ slice_get xs n
  item-suc xs n =
      let above : nat_eq (suc n) 0 ≡ false = grind (arith, nat_tests) in
      let place : suc n - 1 ≡ n = omega arith in
      ap (λ b. cond b None (slice_get xs (suc n - 1))) above ∙ ap (slice_get xs) place

  item-zero : (xs : List X) → item_of xs 0 ≡ None
  item-zero xs = let zero_is : nat_eq 0 0 ≡ true = grind (arith, nat_tests) in ap (λ b. cond b None (slice_get xs (0 - 1))) zero_is

  item-some : (xs : List X) (number : ℕ) (x : X) → item_of xs number ≡ Some x → (i : ℕ) × (number ≡ i + 1) × (slice_get xs i ≡ Some x)
  item-some xs zero x h = absurd (none-some (sym (item-zero xs) ∙ h))
    where
      none-some : None ≡ Some x → ⊥
      none-some e = cc
  item-some xs (suc n) x h = (n, omega arith, sym (item-suc xs n) ∙ h)

  slice-end : (xs : List X) (i : ℕ) → slice_get xs i ≡ None → length xs ≤ i
  slice-end [] i h = omega arith
  slice-end (x ∷ xs) zero h = absurd (cc)
  slice-end (x ∷ xs) (suc i) h = let rest = slice-end xs i h in omega (arith, rest)

  slice-within : (xs : List X) (i : ℕ) (x : X) → slice_get xs i ≡ Some x → i < length xs
  slice-within [] i x h = absurd (cc)
  slice-within (y ∷ xs) zero x h = omega arith
  slice-within (y ∷ xs) (suc i) x h = let rest = slice-within xs i x h in omega (arith, rest)

  item-none : (xs : List X) (number : ℕ) → item_of xs number ≡ None → (number ≡ 0) ⊎ (length xs < number)
  item-none xs zero h = inl refl
  item-none xs (suc n) h = let end = slice-end xs n (sym (item-suc xs n) ∙ h) in inr (omega (arith, end))

module _ (history : List Command) (ts : List Triple) (commits : List CommitMark) (file_of_line : List ℕ) (entries : Dated) (stored : List FilePart) (legal : IsLegal history) (held : AreRowsAndLinesOf history ts commits file_of_line entries stored) where
  -- a file of the history
  abbrev IsMade : ℕ → Type 0
  IsMade file = has_node file (files_of history) ≡ true

  -- the stored file of a number is the file's
  pub stored-held : (file : ℕ) (e : FilePart) → part_of stored file ≡ Some e → (e.node ≡ file) × IsFileOf history ts e
  stored-held file e h = part-some (IsFileOf history ts) stored file e held.files h

  made-there : (file : ℕ) → IsMade file → part_of stored file ≡ None → ⊥
  made-there file made none =
      let at = part-has stored file (ap (has_node file) held.parts ∙ made) in
      let there : Some at.0 ≡ None = sym at.1 ∙ none in
      cc

  -- a number without a stored file has no lines
  pub none-stored : (file : ℕ) → part_of stored file ≡ None → file_kept file (kept_of history) ≡ []
  none-stored file none = none-kept IsMade file (kept_of history) (legal-in_files history legal) (λ made. made-there file made none)

  any-line : (file i : ℕ) → slice_get file_of_line i ≡ Some file → list_any (λ k. nat_eq (kept_number k) (i + 1)) (file_kept file (kept_of history)) ≡ true
  any-line file i at =
      let same : 0 + i + 1 ≡ i + 1 = omega arith in
      by (anchor-case file (i + 1) (kept_of history) (subst (λ l. is_kept_anchor file l (kept_of history) ≡ true) same (file_of_line-has (kept_of history) 0 i file_of_line file held.in_files at)))
    where
      by : (i + 1 ≡ 0) ⊎ (list_any (λ k. nat_eq (kept_number k) (i + 1)) (file_kept file (kept_of history)) ≡ true)
          → list_any (λ k. nat_eq (kept_number k) (i + 1)) (file_kept file (kept_of history)) ≡ true
      by (inl e) = absurd (omega (arith, e))
      by (inr any) = any

  line-file-made : (file i : ℕ) → slice_get file_of_line i ≡ Some file → IsMade file
  line-file-made file i at = file-with IsMade (λ k. nat_eq (kept_number k) (i + 1)) file (kept_of history) (legal-in_files history legal) (any-line file i at)

  -- a line whose file has a stored file is one of the history's, and stands in that file
  pub line-stored : (line : ℕ) (e : FilePart) → stored_file_of stored (item_of file_of_line line) ≡ Some e
      → (0 < line) × (line ≤ line_count history) × (list_any (λ k. nat_eq (kept_number k) line) (file_kept e.node (kept_of history)) ≡ true) × IsFileOf history ts e
  line-stored line e h = by (item_of file_of_line line) refl h
    where
      by : (o : Option ℕ) → item_of file_of_line line ≡ o → stored_file_of stored o ≡ Some e
          → (0 < line) × (line ≤ line_count history) × (list_any (λ k. nat_eq (kept_number k) line) (file_kept e.node (kept_of history)) ≡ true) × IsFileOf history ts e
      by None i k = absurd (cc)
      by (Some file) i k =
          let at = item-some file_of_line line file i in
          let own = stored-held file e k in
          let number : line ≡ at.0 + 1 = at.1 in
          let within = slice-within file_of_line at.0 file at.2 in
          let lines = held.lines in (
            omega (arith, number),
            omega (arith, number, within, lines),
            subst (λ f. list_any (λ k. nat_eq (kept_number k) line) (file_kept f (kept_of history)) ≡ true) (sym own.0)
                (subst (λ l. list_any (λ k. nat_eq (kept_number k) l) (file_kept file (kept_of history)) ≡ true) (sym number) (any-line file at.0 at.2)),
            own.1,
          )

  -- a line whose file has none isn't
  pub no-line-file : (line : ℕ) → stored_file_of stored (item_of file_of_line line) ≡ None → (line ≡ 0) ⊎ (line_count history < line)
  no-line-file line h = by (item_of file_of_line line) refl h
    where
      counts : (line ≡ 0) ⊎ (length file_of_line < line) → (line ≡ 0) ⊎ (line_count history < line)
      counts (inl e) = inl e
      counts (inr above) = let lines = held.lines in inr (omega (arith, above, lines))

      by : (o : Option ℕ) → item_of file_of_line line ≡ o → stored_file_of stored o ≡ None → (line ≡ 0) ⊎ (line_count history < line)
      by None i k = counts (item-none file_of_line line i)
      by (Some file) i k = let at = item-some file_of_line line file i in absurd (made-there file (line-file-made file at.0 at.2) k)
