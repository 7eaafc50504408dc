-- The rows that edits are tried on, with their lines and without.
use Rattle.std.proofs.Common.{◌≡◌, refl, ap, sym, ◌∙◌, ℕ, zero, suc, ◌<◌, Bool, true, false, cond, nat_eq, List, [], ◌∷◌, map, Some, None, arith}
use Rattle.std.specs.List.{list_any, AllByRecursion}
use Rattle.std.proofs.lemmas.Bool.{or_from, or_parts}
use Rattle.std.proofs.lemmas.Bool.Decides.{nat_tests}
use Rattle.cov_base.specs.Rows.{Row, has_node, AreDistinct, AreOnce}
use Rattle.cov_base.specs.declared.number.NodeRef.TheVariants as nodes
use Rattle.cov_base.proofs.CallerLemmas.{any-map}
use Rattle.cov_dd.specs.declared.triple.Triple.{Triple}
use Rattle.cov_edit.specs.declared.edit.Edit.{Edit}
use Rattle.cov_edit.specs.Touched.{touched, AreRising}
use Rattle.cov_edit.proofs.CallerLemmas.{touched-rising}
use Rattle.cov_history.specs.RowChanges.{changes_rows}
use Rattle.cov_tree.specs.Dated.{among}
use Rattle.cov_tree.proofs.CallerLemmas.{among_once}
use Rattle.cov_view.specs.References.{is_root, same_node}
use Rattle.cov_view.specs.Seen.{has_row, row_at, AreRows}
use Rattle.cov_view.specs.declared.row.ViewRow.{ViewRow}
use Rattle.cov_visible.specs.declared.file_part.FilePart.{FilePart}
use Rattle.cov_visible.specs.Showing.{bare_row}
use Rattle.cov_visible.specs.Trying.{whole_row}
use Rattle.cov_visible.proofs.Matching.{bared}

-- the rows of a variant that edits are tried on
abbrev pub rows-of : List Edit → List Row → List Row
rows-of es rows = cond (list_any changes_rows es) rows (among (touched es) rows)

pub none-any : {X : Type 0} (p : X → Bool) (xs : List X) → ((x : X) → p x ≡ false) → list_any p xs ≡ false
none-any p [] h = refl
none-any p (x ∷ xs) h = or_from (p x) (list_any p xs) (h x) (none-any p xs h)

module _ (ts : List Triple) (c : List Bool) (at : ℕ) (stored : List FilePart) where
  pub no-new : (f : Row → ViewRow) → ((r : Row) → (f r).node ≡ nodes.Old r.node) → (i : ℕ) (rs : List Row) → row_at (map f rs) (nodes.New i) ≡ None
  no-new f old i [] = refl
  no-new f old i (r ∷ rs) = ap (λ n. cond (same_node n (nodes.New i)) (Some (f r)) (row_at (map f rs) (nodes.New i))) (old r) ∙ no-new f old i rs

  pub all-bared : (rs : List Row) → map bared (map bare_row rs) ≡ map bared (map (whole_row ts c at stored) rs)
  all-bared [] = refl
  all-bared (r ∷ rs) = ap (λ qs. bare_row r ∷ qs) (all-bared rs)

  -- the whole rows stand once
  pub whole-once : (rs : List Row) → has_node 0 (map (λ r. r.node) rs) ≡ false → AreDistinct (map (λ r. r.node) rs) → AreRows 0 (map (whole_row ts c at stored) rs)
  whole-once [] no_root distinct = tt
  whole-once (r ∷ rs) no_root distinct =
      let is = or_parts (nat_eq r.node 0) (has_node 0 (map (λ q. q.node) rs)) no_root in
      (root r.node is.0, refl, fresh rs ∙ distinct.0, whole-once rs is.1 distinct.1)
    where
      root : (x : ℕ) → nat_eq x 0 ≡ false → is_root (nodes.Old x) ≡ false
      root zero h = absurd (cc)
      root (suc x) h = refl

      fresh : (qs : List Row) → has_row (map (whole_row ts c at stored) qs) (nodes.Old r.node) ≡ has_node r.node (map (λ q. q.node) qs)
      fresh qs = any-map (λ (q : ViewRow). same_node q.node (nodes.Old r.node)) (whole_row ts c at stored) qs ∙ sym (any-map (λ n. nat_eq n r.node) (λ (q : Row). q.node) qs)

-- rising numbers stand once
rising-once : (xs : List ℕ) → AreRising xs → AreDistinct xs
rising-once [] rising = tt
rising-once (x ∷ xs) rising = (above xs rising.0, rising-once xs rising.1)
  where
    above : (ys : List ℕ) → AllByRecursion (λ y. x < y) ys → has_node x ys ≡ false
    above [] h = refl
    above (y ∷ ys) h = let more = h.0 in let differs : nat_eq y x ≡ false = grind (arith, nat_tests, more) in or_from (nat_eq y x) (has_node x ys) differs (above ys h.1)

-- the rows that edits are tried on are of different nodes
pub rows-once : (es : List Edit) (rows : List Row) → AreOnce rows → AreOnce (rows-of es rows)
rows-once es rows once = by (list_any changes_rows es)
  where
    by : (b : Bool) → AreOnce (cond b rows (among (touched es) rows))
    by true = once
    by false = among_once (touched es) rows (rising-once (touched es) (touched-rising es).0) once
