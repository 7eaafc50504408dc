-- The rows of a replay are each of a node that isn't shown before it.
use Rattle.std.proofs.Common.{◌≡◌, ℕ, zero, suc, Bool, true, false, cond, ◌||◌, nat_eq, List, [], ◌∷◌, ◌++◌, map, length, get_or, append-nil, append_assoc, ◌<◌, ◌≤◌, Option, Some, None, option_map, refl, sym, ap, subst, ◌∙◌, arith}
use Rattle.std.specs.List.{fold, AllByRecursion}
use Rattle.std.proofs.lemmas.Bool.{or_parts}
use Rattle.std.proofs.lemmas.Bool.Decides.{nat_tests}
use Rattle.cov_base.specs.Rows.{Row, has_node, AreDistinct, AreOnce}
use Rattle.cov_base.specs.declared.number.Kind.{Kind}
use Rattle.cov_base.specs.declared.number.Kind.TheVariants as kinds
use Rattle.cov_base.specs.declared.number.NodeRef.{NodeRef}
use Rattle.cov_base.specs.declared.number.NodeRef.TheVariants as nodes
use Rattle.std.proofs.lemmas.List.{map-append}
use Rattle.cov_base.proofs.CallerLemmas.{all-both, nat_eq-sym, opened, rest_of}
use Rattle.cov_dd.specs.declared.triple.Triple.{Triple}
use Rattle.cov_base.specs.declared.file_row.FileRow.{FileRow}
use Rattle.cov_file.specs.Dated.{rows_at}
use Rattle.cov_view.specs.declared.row.ViewRow.{ViewRow}
use Rattle.cov_view.specs.References.{is_root, same_node}
use Rattle.cov_view.specs.Seen.{row_at, kind_in, with_file_row}
use Rattle.cov_visible.specs.declared.file_part.FilePart.{FilePart}
use Rattle.cov_visible.specs.Showing.{bare_row, bare_rows, with_lines, with_node, AreFresh}
use Rattle.cov_visible.specs.Parts.{part_of}
use Rattle.cov_visible.proofs.Showing.{kind-still}

abbrev kind_at : List ViewRow → NodeRef → Option Kind
kind_at rows node = option_map (λ (r : ViewRow). r.kind) (row_at rows node)

last-other : (rows : List ViewRow) (r : ViewRow) (node : NodeRef) → same_node r.node node ≡ false → row_at (rows ++ r ∷ []) node ≡ row_at rows node
last-other [] r node h = ap (λ b. cond b (Some r) None) h
last-other (s ∷ rows) r node h = ap (λ o. cond (same_node s.node node) (Some s) o) (last-other rows r node h)

kind-other : (rows : List ViewRow) (r : ViewRow) (node : NodeRef) → same_node r.node node ≡ false → kind_in (rows ++ r ∷ []) node ≡ kind_in rows node
kind-other rows r node h = ap (λ o. cond (is_root node) (Some kinds.Dir) (option_map (λ (s : ViewRow). s.kind) o)) (last-other rows r node h)

inner : (node : ℕ) → nat_eq node 0 ≡ false → is_root (nodes.Old node) ≡ false
inner zero h = absurd (cc)
inner (suc n) h = refl

-- a node isn't shown yet
abbrev pub IsNew : List ViewRow → Row → Type 0
IsNew rows r = kind_in rows (nodes.Old r.node) ≡ None

differs : (node : ℕ) (rs : List Row) → has_node node (map (λ r. r.node) rs) ≡ false → AllByRecursion (λ r. nat_eq r.node node ≡ false) rs
differs node [] h = tt
differs node (r ∷ rs) h = (first (nat_eq r.node node) h, differs node rs (second (nat_eq r.node node) h))
  where
    first : (b : Bool) → (b || has_node node (map (λ s. s.node) rs)) ≡ false → b ≡ false
    first true k = absurd (cc)
    first false k = refl

    second : (b : Bool) → (b || has_node node (map (λ s. s.node) rs)) ≡ false → has_node node (map (λ s. s.node) rs) ≡ false
    second true k = absurd (cc)
    second false k = k

module _ (ts : List Triple) (c : List Bool) (at : ℕ) (stored : List FilePart) where
  lines-same : (node : NodeRef) (file : ℕ) (rows : List ViewRow) (shown : List FileRow) → kind_in (fold (with_file_row file) rows shown) node ≡ kind_in rows node
  lines-same node file rows [] = refl
  lines-same node file rows (s ∷ shown) = lines-same node file (with_file_row file rows s) shown ∙ kind-still (nodes.Old file) node _ rows

  kinds-same : (node : NodeRef) (k : Kind) (file : ℕ) (e : Option FilePart) (rows : List ViewRow) → kind_in (with_lines ts c at k file e rows) node ≡ kind_in rows node
  kinds-same node kinds.File file (Some e) rows = lines-same node file rows (rows_at ts c at e.lines.lines)
  kinds-same node kinds.File file None rows = refl
  kinds-same node kinds.Dir file e rows = refl

  still-new : (rows : List ViewRow) (r s : Row) → nat_eq s.node r.node ≡ false → IsNew rows s → IsNew (with_node ts c at stored rows r) s
  still-new rows r s other h =
      let differ : nat_eq r.node s.node ≡ false = grind (arith, nat_tests, other) in
      kinds-same (nodes.Old s.node) r.kind r.node (part_of stored r.node) (rows ++ bare_row r ∷ []) ∙ kind-other rows (bare_row r) (nodes.Old s.node) differ ∙ h

  fresh-from : (rows : List ViewRow) (rs : List Row) → AllByRecursion (IsNew rows) rs → AreDistinct (map (λ r. r.node) rs) → AreFresh ts c at stored rows rs
  fresh-from rows [] new distinct = tt
  fresh-from rows (r ∷ rs) new distinct = (
    new.0,
    fresh-from (with_node ts c at stored rows r) rs
        (all-both (λ s. nat_eq s.node r.node ≡ false) (IsNew rows) (IsNew (with_node ts c at stored rows r)) (λ s other h. still-new rows r s other h) rs (differs r.node rs distinct.0) new.1)
        distinct.1,
  )

  -- rows that are of different nodes but the root are fresh in turn
  pub once-fresh : (rs : List Row) → AreOnce rs → AreFresh ts c at stored [] rs
  once-fresh rs once = fresh-from [] rs (all-new rs (differs 0 rs once.0)) once.1
    where
      all-new : (ss : List Row) → AllByRecursion (λ s. nat_eq s.node 0 ≡ false) ss → AllByRecursion (IsNew []) ss
      all-new [] h = tt
      all-new (s ∷ ss) h = (ap (λ b. cond b (Some kinds.Dir) None) (inner s.node h.0), all-new ss h.1)

-- a row that is to be added is of a node that isn't shown yet
module _ (r : Row) (rest : List Row) where
  among : (node : ℕ) (done : List Row) → has_node node (map (λ (s : Row). s.node) (done ++ r ∷ rest)) ≡ false → nat_eq r.node node ≡ false
  among node [] h = (or_parts (nat_eq r.node node) (has_node node (map (λ (s : Row). s.node) rest)) h).0
  among node (d ∷ done) h = among node done (or_parts (nat_eq d.node node) (has_node node (map (λ (s : Row). s.node) (done ++ r ∷ rest))) h).1

  apart : (done : List Row) → AreDistinct (map (λ (s : Row). s.node) (done ++ r ∷ rest)) → row_at (bare_rows done) (nodes.Old r.node) ≡ None
  apart [] h = refl
  apart (d ∷ done) h =
      ap (λ b. cond b (Some (bare_row d)) (row_at (bare_rows done) (nodes.Old r.node))) (nat_eq-sym d.node r.node ∙ among d.node done h.0)
      ∙ apart done h.1

  pub bare-fresh : (done : List Row) → AreOnce (done ++ r ∷ rest) → IsNew (bare_rows done) r
  bare-fresh done once =
      ap (λ b. cond b (Some kinds.Dir) (kind_at (bare_rows done) (nodes.Old r.node))) (inner r.node (among 0 done once.0))
      ∙ ap (option_map (λ (s : ViewRow). s.kind)) (apart done once.1)

-- some rows are added, and others are ahead
abbrev pub AreAdded : List Row → List ViewRow → List Row → Type 0
AreAdded all rows ahead = (done : List Row) × (done ++ ahead ≡ all) × (rows ≡ bare_rows done)

-- the next row that is ahead is of a node that isn't shown yet
pub added-fresh : (all : List Row) (rows : List ViewRow) (ahead : List Row) (r : Row) → AreOnce all → r ≡ get_or ahead 0 r → 1 ≤ length ahead → AreAdded all rows ahead → IsNew rows r
added-fresh all rows ahead r once is long h =
    ap (λ (rs : List ViewRow). kind_in rs (nodes.Old r.node)) h.2
    ∙ bare-fresh r (rest_of ahead) h.0 (subst AreOnce (sym h.1 ∙ ap (λ (rs : List Row). h.0 ++ rs) (opened r r ahead is long)) once)

-- the next row that is ahead is added
pub added-next : (all : List Row) (rows next : List ViewRow) (ahead : List Row) (r : Row) → r ≡ get_or ahead 0 r → 1 ≤ length ahead → next ≡ rows ++ bare_row r ∷ [] → AreAdded all rows ahead
    → AreAdded all next (rest_of ahead)
added-next all rows next ahead r is long step h = (
  h.0 ++ r ∷ [],
  append_assoc h.0 (r ∷ []) (rest_of ahead) ∙ ap (λ (rs : List Row). h.0 ++ rs) (sym (opened r r ahead is long)) ∙ h.1,
  step ∙ ap (λ (rs : List ViewRow). rs ++ bare_row r ∷ []) h.2 ∙ sym (map-append bare_row h.0 (r ∷ [])),
)

-- all rows are added once none is ahead
pub added-all : (all : List Row) (rows : List ViewRow) (ahead : List Row) → length ahead < 1 → AreAdded all rows ahead → rows ≡ bare_rows all
added-all all rows [] none h = h.2 ∙ ap bare_rows (sym (append-nil h.0) ∙ h.1)
added-all all rows (r ∷ ahead) none h = absurd (omega (arith, none))
