-- The one reduced listing of a test of choices.
use Rattle.std.specs.Prelude.{ℕ, zero, suc, ◌+◌, Bool, true, false, ◌&&◌, nat_eq, List, [], ◌∷◌, ◌++◌, Option, Some, None, if◌then◌else◌}
use Rattle.std.specs.Bool.{beq}
use Rattle.std.specs.List.{list_any, position, flat_map}
use Rattle.cov_vis.specs.declared.listing.Child.{Child}
use Rattle.cov_vis.specs.declared.listing.Child.TheVariants.{F, T, At}
use Rattle.cov_vis.specs.declared.listing.ListingEntry.{ListingEntry}
use Rattle.cov_vis.specs.Listings.{ListingValue}

-- a decision tree: an answer, or an option with what follows where it is off and where it is on
pub data Decision : Type 0 where
  Leaf : Bool → Decision
  Branch : (option : ℕ) → (off on : Decision) → Decision

abbrev pub same_decision : Decision → Decision → Bool
same_decision (Leaf a) (Leaf b) = beq a b
same_decision (Branch o a b) (Branch p c d) = nat_eq o p && (same_decision a c && same_decision b d)
same_decision (Leaf a) (Branch p c d) = false
same_decision (Branch o a b) (Leaf c) = false

-- a decision on an option, unless the same follows on both sides
abbrev pub decision_by : ℕ → Decision → Decision → Decision
decision_by o off on = if same_decision off on then off else Branch o off on

-- the decision tree of a test of n options, the first of which is o
abbrev pub decision_of : ℕ → ℕ → (List Bool → Bool) → Decision
decision_of zero o test = Leaf (test [])
decision_of (suc n) o test = decision_by o (decision_of n (o + 1) (λ c. test (false ∷ c))) (decision_of n (o + 1) (λ c. test (true ∷ c)))

-- the decisions met so far and then those of a tree that weren't met: a decision first, then those of its off side, then those of its on side
abbrev pub decisions : Decision → List Decision → List Decision
decisions (Leaf b) met = met
decisions (Branch o off on) met = if list_any (same_decision (Branch o off on)) met then met else decisions on (decisions off (met ++ Branch o off on ∷ []))

-- the entry at a place as a child; no tree is asked for that has no place
abbrev pub child_at : Option ℕ → Child
child_at None = F
child_at (Some i) = At i

-- a tree as a child, by its place among the decisions
abbrev pub child_among : List Decision → Decision → Child
child_among all (Leaf false) = F
child_among all (Leaf true) = T
child_among all (Branch o off on) = child_at (position (same_decision (Branch o off on)) all)

-- the entry of a decision
abbrev pub entry_among : List Decision → Decision → List ListingEntry
entry_among all (Leaf b) = []
entry_among all (Branch o off on) = record { option = o; off = child_among all off; on = child_among all on } ∷ []

-- the listing of a tree among its decisions
abbrev pub listing_among : List Decision → Decision → ListingValue
listing_among all root = record { root = child_among all root; entries = flat_map (entry_among all) all }

abbrev pub listing_of_decision : Decision → ListingValue
listing_of_decision root = listing_among (decisions root []) root

-- the reduced listing that reads as a test on the choices of n options
abbrev pub listing_of : ℕ → (List Bool → Bool) → ListingValue
listing_of n test = listing_of_decision (decision_of n 0 test)
