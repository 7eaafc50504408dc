-- The kinds of nodes by rows without their lines.
use Rattle.std.proofs.Common.{◌≡◌, refl, ℕ, zero, suc, Bool, true, false, cond, nat_eq, List, [], ◌∷◌, map, Some, None, option_map}
use Rattle.std.specs.List.{find}
use Rattle.cov_base.specs.Rows.{Row}
use Rattle.cov_base.specs.declared.number.NodeRef.TheVariants as nodes
use Rattle.cov_view.specs.Seen.{kind_in, row_at}
use Rattle.cov_view.specs.declared.row.ViewRow.{ViewRow}
use Rattle.cov_visible.specs.Showing.{bare_row}

-- the kind of a node but the root is that of its row
pub kind-found : (rows : List Row) (node : ℕ) → nat_eq node 0 ≡ false → option_map (λ (r : Row). r.kind) (find (λ (r : Row). nat_eq r.node node) rows) ≡ kind_in (map bare_row rows) (nodes.Old node)
kind-found rows zero h = absurd (cc)
kind-found rows (suc node) h = from rows
  where
    from : (rs : List Row) → option_map (λ (r : Row). r.kind) (find (λ (r : Row). nat_eq r.node (suc node)) rs) ≡ option_map (λ (r : ViewRow). r.kind) (row_at (map bare_row rs) (nodes.Old (suc node)))
    from [] = refl
    from (r ∷ rs) = by (nat_eq r.node (suc node)) (from rs)
      where
        by : (b : Bool) → option_map (λ (q : Row). q.kind) (find (λ (q : Row). nat_eq q.node (suc node)) rs) ≡ option_map (λ (q : ViewRow). q.kind) (row_at (map bare_row rs) (nodes.Old (suc node)))
            → option_map (λ (q : Row). q.kind) (cond b (Some r) (find (λ (q : Row). nat_eq q.node (suc node)) rs))
            ≡ option_map (λ (q : ViewRow). q.kind) (cond b (Some (bare_row r)) (row_at (map bare_row rs) (nodes.Old (suc node))))
        by true rest = refl
        by false rest = rest

-- no row is of a node that edits make
pub kind-new : (rows : List Row) (i : ℕ) → None ≡ kind_in (map bare_row rows) (nodes.New i)
kind-new [] i = refl
kind-new (r ∷ rows) i = kind-new rows i
