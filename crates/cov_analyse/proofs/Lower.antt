-- The numbers of a checked listing are lower bounds of distances.
use Rattle.std.proofs.Common.{◌≡◌, ℕ, zero, suc, ◌+◌, ◌-◌, ◌≤◌, Bool, true, false, cond, List, [], ◌∷◌, drop, Option, Some, None, true≢false, refl, sym, ap, subst, ◌∙◌, arith}
use Rattle.std.specs.Prelude.{slice_get, nat_le, nat_eq, length}
use Rattle.std.specs.List.{list_all}
use Rattle.std.proofs.lemmas.Bool.{and_parts, leb-true, ltb-true}
use Rattle.cov_base.specs.Choices.{is_on}
use Rattle.cov_base.specs.declared.limits.TheConstants.{CHOICE_WIDTH}
use Rattle.cov_vis.specs.declared.listing.Child.{Child}
use Rattle.cov_vis.specs.declared.listing.Child.TheVariants.{F, T, At}
use Rattle.cov_vis.specs.declared.listing.ListingEntry.{ListingEntry}
use Rattle.cov_vis.specs.Listings.{reads_from, followed, is_below, is_ordered, is_reduced, option_above, is_in_range}
use Rattle.cov_analyse.specs.Bounding.{differing, distance, bound_of, number_in, is_bound, are_bounds, off_number, BoundsAreLower}
use Rattle.cov_analyse.proofs.Distances.{distance_at, distance_later}

-- the entry at a child
abbrev entry_of : List ListingEntry → Child → Option ListingEntry
entry_of es F = None
entry_of es T = None
entry_of es (At i) = slice_get es i

pub all_at : (p : ListingEntry → Bool) (es : List ListingEntry) (i : ℕ) (e : ListingEntry) → list_all p es ≡ true → slice_get es i ≡ Some e → p e ≡ true
all_at p [] i e h at = absurd (cc)
all_at p (f ∷ es) zero e h at = let same : f ≡ e = cc in ap p (sym same) ∙ (and_parts (p f) (list_all p es) h).0
all_at p (f ∷ es) (suc i) e h at = all_at p es i e (and_parts (p f) (list_all p es) h).1 at

-- each entry's number is at most those of its sides
bound_at : (numbers : List ℕ) (c : List Bool) (es : List ListingEntry) (ns : List ℕ) (i : ℕ) (e : ListingEntry)
    → are_bounds numbers c es ns ≡ true → slice_get es i ≡ Some e → is_bound numbers c e (number_in (slice_get ns i)) ≡ true
bound_at numbers c [] ns i e h at = absurd (cc)
bound_at numbers c (f ∷ es) [] i e h at = absurd (true≢false (sym h))
bound_at numbers c (f ∷ es) (n ∷ ns) zero e h at =
    let same : f ≡ e = cc in
    ap (λ x. is_bound numbers c x n) (sym same) ∙ (and_parts (is_bound numbers c f n) (are_bounds numbers c es ns) h).0
bound_at numbers c (f ∷ es) (n ∷ ns) (suc i) e h at = bound_at numbers c es ns i e (and_parts (is_bound numbers c f n) (are_bounds numbers c es ns) h).1 at

module _ (es : List ListingEntry) where
  -- a child reads no option before this one
  abbrev pub Starts : ℕ → Child → Type 0
  Starts p x = (e : ListingEntry) → entry_of es x ≡ Some e → p ≤ e.option

  starts_below : (o : ℕ) (x : Child) → is_below es o x ≡ true → Starts (suc o) x
  starts_below o F h e at = absurd (cc)
  starts_below o T h e at = absurd (cc)
  starts_below o (At i) h e at =
      let above : option_above o (Some e) ≡ true = subst (λ r. option_above o r ≡ true) at h in
      omega (arith, ltb-true o e.option above)

  -- so the sides of an entry behind its option
  module _ (ordered : list_all (is_ordered es) es ≡ true) (i : ℕ) (e : ListingEntry) (at : slice_get es i ≡ Some e) where
    parts : is_ordered es e ≡ true
    parts = all_at (is_ordered es) es i e ordered at

    pub starts_off : Starts (suc e.option) e.off
    starts_off = starts_below e.option e.off (and_parts (is_below es e.option e.off) _ parts).0

    pub starts_on : Starts (suc e.option) e.on
    starts_on = starts_below e.option e.on (and_parts (is_below es e.option e.on) _ (and_parts (is_below es e.option e.off) _ parts).1).0

module _ (es : List ListingEntry) (numbers : List ℕ) (c d : List Bool) (ordered : list_all (is_ordered es) es ≡ true) (bounds : are_bounds numbers c es numbers ≡ true) where
  -- what a child says of the distance from an option on
  abbrev Lower : ℕ → Child → Type 0
  Lower p x = bound_of numbers x ≤ distance (drop p c) (drop p d)

  lower_entry : (i : ℕ) (e : ListingEntry) (p : ℕ) → slice_get es i ≡ Some e → p ≤ e.option
      → (on : Bool) → is_on d e.option ≡ on
      → (is_on d e.option ≡ true → Lower (suc e.option) e.on) → (is_on d e.option ≡ false → Lower (suc e.option) e.off)
      → Lower p (At i)
  lower_entry i e p at low true is on off =
      let fits = bound_at numbers c es numbers i e bounds at in
      let side = leb-true _ _ (and_parts (nat_le (number_in (slice_get numbers i)) (off_number numbers c e)) _ fits).1 in
      let later = distance_later c d (e.option - p) p e.option (omega (arith, low)) in
      let here = subst (λ b. distance (drop e.option c) (drop e.option d) ≡ differing (is_on c e.option) b + distance (drop (suc e.option) c) (drop (suc e.option) d)) is (distance_at c d e.option) in
      omega (arith, side, later, here, on is)
  lower_entry i e p at low false is on off =
      let fits = bound_at numbers c es numbers i e bounds at in
      let side = leb-true _ _ (and_parts (nat_le (number_in (slice_get numbers i)) (off_number numbers c e)) _ fits).0 in
      let later = distance_later c d (e.option - p) p e.option (omega (arith, low)) in
      let here = subst (λ b. distance (drop e.option c) (drop e.option d) ≡ differing (is_on c e.option) b + distance (drop (suc e.option) c) (drop (suc e.option) d)) is (distance_at c d e.option) in
      omega (arith, side, later, here, off is)

  -- a child's number is at most the distance from an option on that isn't behind its own, where it reads true
  pub lower : (s : ℕ) (x : Child) (p : ℕ) → Starts es p x → reads_from es s x d ≡ true → Lower p x
  lower s F p low h = absurd (true≢false (sym h))
  lower s T p low h = omega arith
  lower zero (At i) p low h = absurd (true≢false (sym h))
  lower (suc s) (At i) p low h = by (slice_get es i) refl h (lower s)
    where
      by : (r : Option ListingEntry) → slice_get es i ≡ r → followed d (λ x. reads_from es s x d) r ≡ true
          → ((x : Child) (q : ℕ) → Starts es q x → reads_from es s x d ≡ true → Lower q x) → Lower p (At i)
      by None at h rec = absurd (true≢false (sym h))
      by (Some e) at h rec =
          lower_entry i e p at (low e at) (is_on d e.option) refl
          (λ is. rec e.on (suc e.option) (starts_on es ordered i e at) (subst (λ b. cond b (reads_from es s e.on d) (reads_from es s e.off d) ≡ true) is h))
          (λ is. rec e.off (suc e.option) (starts_off es ordered i e at) (subst (λ b. cond b (reads_from es s e.on d) (reads_from es s e.off d) ≡ true) is h))

-- the root's number is at most the distance
pub bounds_are_lower : BoundsAreLower
bounds_are_lower l c d numbers h reads =
    let rest = (and_parts (is_reduced l) _ h).1 in
    let more = (and_parts (nat_eq (length numbers) (length l.entries)) _ rest).1 in
    let bounds = (and_parts (list_all (λ n. nat_le n 129) numbers) _ more).1 in
    let ranged = (and_parts (is_in_range l.entries l.root) _ (and_parts (is_reduced l) _ h).0).1 in
    let ordered = (and_parts (list_all (is_ordered l.entries) l.entries) _ ranged).0 in
    lower l.entries numbers c d ordered bounds (CHOICE_WIDTH + length l.entries) l.root 0 (λ e at. omega arith) reads
