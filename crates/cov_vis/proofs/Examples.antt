-- Worked cases of the definitions.
use Rattle.std.proofs.Common.{◌≡◌, ◌||◌, ◌&&◌, Bool, true, false, not, List, [], ◌∷◌, refl}
use Rattle.cov_base.specs.Choices.{is_on}
use Rattle.cov_dd.specs.declared.triple.Triple.{Triple}
use Rattle.cov_vis.specs.declared.listing.Child.TheVariants.{F, T, At}
use Rattle.cov_vis.specs.Decisions.{listing_of}
use Rattle.cov_vis.specs.Listings.{ListingValue, has_options_below, is_reduced, reads}
use Rattle.cov_vis.specs.Visiting.{listing_of_nodes}

-- option 0 or option 1: where 0 is off, what 1 is
abbrev either : ListingValue
either = record { root = At 0; entries = record { option = 0; off = At 1; on = T } ∷ record { option = 1; off = F; on = T } ∷ [] }

either_listed : listing_of 2 (λ c. is_on c 0 || is_on c 1) ≡ either
either_listed = refl

-- nodes 2 and 3 are the literals of options 0 and 1, and node 4 is true where one of them is
abbrev either_node : List Triple
either_node = record { option = 0; off = 3; on = 1 } ∷ record { option = 1; off = 0; on = 1 } ∷ record { option = 0; off = 0; on = 1 } ∷ []

nodes_listed : listing_of_nodes either_node (4 ∷ 3 ∷ []) 4 ≡ either
nodes_listed = refl

either_reduced : is_reduced either ≡ true
either_reduced = refl

either_below : has_options_below 2 either ≡ true
either_below = refl

true_with_b : reads either (false ∷ true ∷ []) ≡ true
true_with_b = refl

false_with_none : reads either (false ∷ false ∷ []) ≡ false
false_with_none = refl

-- with its two entries exchanged it begins with option 1, and option 0 follows
exchanged : is_reduced (record { root = At 0; entries = record { option = 1; off = F; on = T } ∷ record { option = 0; off = At 1; on = T } ∷ [] }) ≡ false
exchanged = refl

-- the same diagram in another order: it reads the same
abbrev second_first : ListingValue
second_first = record { root = At 1; entries = record { option = 1; off = F; on = T } ∷ record { option = 0; off = At 0; on = T } ∷ [] }

second_first_reads : reads second_first (false ∷ true ∷ []) ≡ true
second_first_reads = refl

not_in_walk_order : is_reduced second_first ≡ false
not_in_walk_order = refl

-- what lies below the off side stands before what lies below the on side
both_sides : listing_of 2 (λ c. (is_on c 0 && is_on c 1) || (not (is_on c 0) && not (is_on c 1)))
    ≡ record { root = At 0; entries = record { option = 0; off = At 1; on = At 2 } ∷ record { option = 1; off = T; on = F } ∷ record { option = 1; off = F; on = T } ∷ [] }
both_sides = refl

-- an option on which the test doesn't depend has no entry
skipped_option : listing_of 3 (λ c. is_on c 2) ≡ record { root = At 0; entries = record { option = 2; off = F; on = T } ∷ [] }
skipped_option = refl

-- both sides of option 0 are one entry
shared : listing_of 3 (λ c. (is_on c 0 && is_on c 2) || (not (is_on c 0) && (is_on c 1 && is_on c 2)))
    ≡ record { root = At 0; entries = record { option = 0; off = At 1; on = At 2 } ∷ record { option = 1; off = F; on = At 2 } ∷ record { option = 2; off = F; on = T } ∷ [] }
shared = refl

always : listing_of 2 (λ c. true) ≡ record { root = T; entries = [] }
always = refl

always_without_options : listing_of 0 (λ c. true) ≡ record { root = T; entries = [] }
always_without_options = refl

-- a line that was taken out of every choice
never : listing_of 1 (λ c. is_on c 0 && not (is_on c 0)) ≡ record { root = F; entries = [] }
never = refl

-- a line put in where option 0 is on
where_on : listing_of 1 (λ c. is_on c 0) ≡ record { root = At 0; entries = record { option = 0; off = F; on = T } ∷ [] }
where_on = refl

-- a line taken out where option 0 is on
where_off : listing_of 1 (λ c. not (is_on c 0)) ≡ record { root = At 0; entries = record { option = 0; off = T; on = F } ∷ [] }
where_off = refl

abbrev exclusive : Bool → Bool → Bool
exclusive a b = (a && not b) || (not a && b)

-- an odd number of three options: the entries of option 1 share those of option 2
odd : listing_of 3 (λ c. exclusive (is_on c 0) (exclusive (is_on c 1) (is_on c 2))) ≡ record {
  root = At 0;
  entries = record { option = 0; off = At 1; on = At 4 } ∷ record { option = 1; off = At 2; on = At 3 } ∷ record { option = 2; off = F; on = T }
      ∷ record { option = 2; off = T; on = F } ∷ record { option = 1; off = At 3; on = At 2 } ∷ [];
}
odd = refl

-- no listing without entries is out of range but one that names an entry
out_of_range : is_reduced (record { root = At 0; entries = [] }) ≡ false
out_of_range = refl

-- an entry whose sides are the same
useless_entry : is_reduced (record { root = At 0; entries = record { option = 0; off = T; on = T } ∷ [] }) ≡ false
useless_entry = refl

-- an entry that the walk doesn't meet
unmet_entry : is_reduced (record { root = T; entries = record { option = 0; off = F; on = T } ∷ [] }) ≡ false
unmet_entry = refl

-- a child with the same option
same_option : is_reduced (record { root = At 0; entries = record { option = 1; off = At 1; on = T } ∷ record { option = 1; off = F; on = T } ∷ [] }) ≡ false
same_option = refl

-- two equal entries
equal_entries : is_reduced (record { root = At 0; entries = record { option = 0; off = At 1; on = At 2 } ∷ record { option = 1; off = F; on = T } ∷ record { option = 1; off = F; on = T } ∷ [] }) ≡ false
equal_entries = refl
