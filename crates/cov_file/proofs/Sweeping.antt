-- Lines whose nodes are renumbered show the same.
use Rattle.std.proofs.Common.{◌≡◌, ℕ, ◌==◌, ◌||◌, nat_le, Bool, true, false, cond, List, [], ◌∷◌, map, refl, sym, ap, ◌∙◌, subst, arith}
use Rattle.std.specs.List.{filter, AllByRecursion}
use Rattle.std.proofs.lemmas.Bool.{eqb-true, eq-eqb, or_right}
use Rattle.cov_base.specs.Older.{value_at}
use Rattle.cov_dd.specs.declared.triple.Triple.{Triple}
use Rattle.cov_dd.specs.Diagrams.{value_in}
use Rattle.cov_dd.specs.Marks.{is_one_of}
use Rattle.cov_dd.specs.Sweeps.{AreRenumbered, IsRenumbered}
use Rattle.cov_dd.proofs.CallerLemmas.{value-constant}
use Rattle.cov_file.specs.Dated.{DatedLine, file_row_of, is_visible, rows_at}
use Rattle.cov_file.specs.Renumbered.{renumbered_changes, renumbered_line, AllPass, AreAllNodes, AreRenumberedLines, ChangesPass}
use Rattle.cov_file.specs.Rooms.{DatedFile}

-- what holds of all nodes holds of one of them
of-one : (P : ℕ → Type 0) (n : ℕ) (nodes : List ℕ) → AllByRecursion P nodes → is_one_of nodes n ≡ true → P n
of-one P n [] h t = absurd (cc)
of-one P n (m ∷ ms) h t = by (m == n) refl t (of-one P n ms h.1)
  where
    by : (b : Bool) → (m == n) ≡ b → (b || is_one_of ms n) ≡ true → (is_one_of ms n ≡ true → P n) → P n
    by true e t rest = subst P (eqb-true m n e) h.0
    by false e t rest = rest t

more-pass : (m : ℕ) (ns ms : List ℕ) → AllPass (is_one_of ms) ns → AllPass (is_one_of (m ∷ ms)) ns
more-pass m [] ms h = tt
more-pass m (n ∷ ns) ms h = (or_right (m == n) (is_one_of ms n) h.0, more-pass m ns ms h.1)

-- each node is one of them
all-are : (nodes : List ℕ) → AllPass (is_one_of nodes) nodes
all-are [] = tt
all-are (n ∷ ns) = (ap (λ b. b || is_one_of ns n) (eq-eqb n n refl), more-pass n ns ns (all-are ns))

module _ (old new : List Triple) (by : ℕ → ℕ) (c : List Bool) (p : ℕ) where
  abbrev Kept : List (ℕ × ℕ) → Type 0
  Kept changes = AllByRecursion (λ d. IsRenumbered old new d.1 (by d.1)) changes

  vis-kept : (changes : List (ℕ × ℕ)) → Kept changes → value_in new (value_at 0 (renumbered_changes by changes) p) c ≡ value_in old (value_at 0 changes p) c
  vis-kept [] h = value-constant new 0 c (omega arith) ∙ sym (value-constant old 0 c (omega arith))
  vis-kept (d ∷ ds) h = at (nat_le d.0 p) (vis-kept ds h.1)
    where
      at : (b : Bool) → value_in new (value_at 0 (renumbered_changes by ds) p) c ≡ value_in old (value_at 0 ds p) c
          → value_in new (cond b (by d.1) (value_at 0 (renumbered_changes by ds) p)) c ≡ value_in old (cond b d.1 (value_at 0 ds p)) c
      at true rest = h.0.value c
      at false rest = rest

  rows-kept : (lines : List DatedLine) → AllByRecursion (λ l. Kept l.changes) lines → rows_at new c p (map (renumbered_line by) lines) ≡ rows_at old c p lines
  rows-kept [] h = refl
  rows-kept (l ∷ ls) h =
      (λ j. map file_row_of (cond (vis-kept l.changes h.0 j) (renumbered_line by l ∷ filter (is_visible new c p) (map (renumbered_line by) ls)) (filter (is_visible new c p) (map (renumbered_line by) ls))))
      ∙ at (is_visible old c p l) (rows-kept ls h.1)
    where
      at : (b : Bool) → rows_at new c p (map (renumbered_line by) ls) ≡ rows_at old c p ls
          → map file_row_of (cond b (renumbered_line by l ∷ filter (is_visible new c p) (map (renumbered_line by) ls)) (filter (is_visible new c p) (map (renumbered_line by) ls)))
          ≡ map file_row_of (cond b (l ∷ filter (is_visible old c p) ls) (filter (is_visible old c p) ls))
      at true rest = ap (λ rs. file_row_of l ∷ rs) rest
      at false rest = rest

module _ (old new : List Triple) (by : ℕ → ℕ) (nodes : List ℕ) (each : AllByRecursion (λ a. IsRenumbered old new a (by a)) nodes) where
  changes-each : (changes : List (ℕ × ℕ)) → ChangesPass (is_one_of nodes) changes → AllByRecursion (λ d. IsRenumbered old new d.1 (by d.1)) changes
  changes-each [] h = tt
  changes-each (d ∷ ds) h = (of-one (λ a. IsRenumbered old new a (by a)) d.1 nodes each h.0, changes-each ds h.1)

  lines-each : (lines : List DatedLine) → AllByRecursion (λ l. ChangesPass (is_one_of nodes) l.changes) lines → AllByRecursion (λ l. AllByRecursion (λ d. IsRenumbered old new d.1 (by d.1)) l.changes) lines
  lines-each [] h = tt
  lines-each (l ∷ ls) h = (changes-each l.changes h.0, lines-each ls h.1)

-- the node of each change has the same options and values under its new number
pub each_renumbered : (old new : List Triple) (file file' : DatedFile) (r : AreRenumbered old new file.nodes file'.nodes) → AreAllNodes file
    → AllByRecursion (λ l. AllByRecursion (λ d. IsRenumbered old new d.1 (r.by d.1)) l.changes) file.lines
each_renumbered old new file file' r all = lines-each old new r.by file.nodes r.each file.lines (all (is_one_of file.nodes) (all-are file.nodes))

-- the lines show the same on each choice at each position
pub rows_renumbered : (old new : List Triple) (file file' : DatedFile) → AreRenumbered old new file.nodes file'.nodes → AreRenumberedLines file file' → AreAllNodes file
    → (c : List Bool) (p : ℕ) → rows_at new c p file'.lines ≡ rows_at old c p file.lines
rows_renumbered old new file file' r lines all c p =
    ap (rows_at new c p) (lines r.by r.is) ∙ rows-kept old new r.by c p file.lines (each_renumbered old new file file' r all)
