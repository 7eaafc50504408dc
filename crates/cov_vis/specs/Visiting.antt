-- The order in which a walk meets the nodes below a node.
use Rattle.std.specs.Prelude.{ℕ, zero, suc, ◌≡◌, true, false, nat_eq, List, [], ◌∷◌, ◌++◌, Option, Some, None}
use Rattle.std.specs.List.{list_any, position, flat_map}
use Rattle.cov_dd.specs.declared.triple.Triple.{Triple}
use Rattle.cov_dd.specs.Diagrams.{entry_in}
use Rattle.cov_vis.specs.declared.listing.Child.{Child}
use Rattle.cov_vis.specs.declared.listing.Child.TheVariants.{F, T}
use Rattle.cov_vis.specs.declared.listing.ListingEntry.{ListingEntry}
use Rattle.cov_vis.specs.Decisions.{child_at}
use Rattle.cov_vis.specs.Listings.{ListingValue}

-- the nodes met before a node and those met after it: the node first, then what lies below its off side, then what lies below its on side
pub data Visits (ts : List Triple) : List ℕ → ℕ → List ℕ → Type 0 where
  constant : {ns : List ℕ} {a : ℕ} → entry_in ts a ≡ None → Visits ts ns a ns
  known : {ns : List ℕ} {a : ℕ} → list_any (nat_eq a) ns ≡ true → Visits ts ns a ns
  further : {ns ms ks : List ℕ} {a : ℕ} {t : Triple} → entry_in ts a ≡ Some t → list_any (nat_eq a) ns ≡ false
      → Visits ts (ns ++ a ∷ []) t.off ms → Visits ts ms t.on ks → Visits ts ns a ks

-- a node as a child, by its place among the nodes
abbrev pub child_in : List ℕ → ℕ → Child
child_in ns zero = F
child_in ns (suc zero) = T
child_in ns (suc (suc a)) = child_at (position (nat_eq (suc (suc a))) ns)

abbrev pub listed : List ℕ → Option Triple → List ListingEntry
listed ns None = []
listed ns (Some t) = record { option = t.option; off = child_in ns t.off; on = child_in ns t.on } ∷ []

-- nodes as a listing, with one of them as its root
abbrev pub listing_of_nodes : List Triple → List ℕ → ℕ → ListingValue
listing_of_nodes ts ns a = record { root = child_in ns a; entries = flat_map (λ n. listed ns (entry_in ts n)) ns }
