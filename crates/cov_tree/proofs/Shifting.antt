-- A node's places shifted among those of all nodes.
use Rattle.std.proofs.Common.{◌≡◌, ℕ, Bool, true, false, cond, not, nat_eq, List, [], ◌∷◌, ◌++◌, map, refl, sym, ap, ◌∙◌}
use Rattle.std.specs.List.{filter}
use Rattle.std.proofs.lemmas.Bool.{or_parts}
use Rattle.cov_base.specs.Rows.{changed, has_node, AreDistinct}
use Rattle.cov_base.specs.declared.number.Kind.{Kind}
use Rattle.cov_base.proofs.CallerLemmas.{nat_eq-sym}
use Rattle.cov_dd.specs.declared.triple.Triple.{Triple}
use Rattle.cov_dd.specs.Diagrams.{value_in, Extends}
use Rattle.cov_tree.specs.declared.entry.Place.{Place}
use Rattle.cov_tree.specs.declared.entry.Entry.{Entry}
use Rattle.cov_tree.specs.declared.parting.Shift.{Shift}
use Rattle.cov_tree.specs.declared.parting.Shift.TheVariants as shifts
use Rattle.cov_tree.specs.Entries.{row_at, rows_of, rows_in, nodes_of, kinds_of, AllAreWithin}
use Rattle.cov_tree.specs.Planning.{with_places}
use Rattle.cov_tree.specs.Shifts.{place_at, change_of, shifted, Adds, Becomes}
use Rattle.cov_tree.proofs.Rows.{rows_of-grown, rows_in-grown, within-grown, all_within-grown}
use Rattle.cov_tree.proofs.Parts.{shifted-append}

-- a change of another node leaves a node's rows alone
untouched : (node : ℕ) (shift : Shift) (other : ℕ) (kind : Kind) (ps : List Place) → nat_eq other node ≡ false
    → changed (map (row_at other kind) ps) (change_of node shift) ≡ map (row_at other kind) ps
untouched node (shifts.Renamed name) other kind [] h = refl
untouched node (shifts.Renamed name) other kind (p ∷ ps) h =
    λ j. cond (h j) (row_at other kind (place_at p.parent name p.vis)) (row_at other kind p) ∷ untouched node (shifts.Renamed name) other kind ps h j
untouched node (shifts.Moved parent) other kind [] h = refl
untouched node (shifts.Moved parent) other kind (p ∷ ps) h =
    λ j. cond (h j) (row_at other kind (place_at parent p.name p.vis)) (row_at other kind p) ∷ untouched node (shifts.Moved parent) other kind ps h j
untouched node shifts.Removed other kind [] h = refl
untouched node shifts.Removed other kind (p ∷ ps) h =
    λ j. cond (not (h j)) (row_at other kind p ∷ untouched node shifts.Removed other kind ps h j) (untouched node shifts.Removed other kind ps h j)

unshifted : (table : List Triple) (c : List Bool) (node : ℕ) (shift : Shift) (ambition other : ℕ) (kind : Kind) (ps : List Place) → nat_eq other node ≡ false
    → shifted table c node shift ambition (rows_of table c other kind ps) ≡ rows_of table c other kind ps
unshifted table c node shift ambition other kind ps h = at (value_in table ambition c)
  where
    at : (b : Bool) → cond b (changed (rows_of table c other kind ps) (change_of node shift)) (rows_of table c other kind ps) ≡ rows_of table c other kind ps
    at true = untouched node shift other kind (filter (λ p. value_in table p.vis c) ps) h
    at false = refl

none_shifted : (table : List Triple) (c : List Bool) (node : ℕ) (shift : Shift) (ambition : ℕ) → shifted table c node shift ambition [] ≡ []
none_shifted table c node shift ambition = at (value_in table ambition c) shift
  where
    at : (b : Bool) (s : Shift) → cond b (changed [] (change_of node s)) [] ≡ []
    at true (shifts.Renamed name) = refl
    at true (shifts.Moved parent) = refl
    at true shifts.Removed = refl
    at false s = refl

-- and a change of a node that isn't there changes nothing
all_unshifted : (table : List Triple) (c : List Bool) (node : ℕ) (shift : Shift) (ambition : ℕ) (es : List Entry) → has_node node (nodes_of es) ≡ false
    → shifted table c node shift ambition (rows_in table c es) ≡ rows_in table c es
all_unshifted table c node shift ambition [] h = none_shifted table c node shift ambition
all_unshifted table c node shift ambition (e ∷ es) h =
    shifted-append table c node shift ambition (rows_of table c e.node e.kind e.places) (rows_in table c es)
    ∙ (λ j.
    unshifted table c node shift ambition e.node e.kind e.places (or_parts (nat_eq e.node node) (has_node node (nodes_of es)) h).0 j
    ++ all_unshifted table c node shift ambition es (or_parts (nat_eq e.node node) (has_node node (nodes_of es)) h).1 j)

module _ (old new : List Triple) (grows : Extends old new) (node : ℕ) (shift : Shift) (ambition : ℕ) (ps : List Place) (own : Entry) (rest : List Entry) (is : own.node ≡ node)
    (parted : Adds old new [] ps (λ c. true) (λ c n kind. shifted old c n shift ambition (rows_of old c n kind own.places))) where
  -- the rows of a node with the shifted places are those that it had, shifted
  own_rows : (c : List Bool) → rows_of new c own.node own.kind ps ≡ shifted old c node shift ambition (rows_of old c own.node own.kind own.places)
  own_rows c = parted.rows c own.node own.kind (λ k. refl) ∙ ap (λ n. shifted old c n shift ambition (rows_of old c own.node own.kind own.places)) is

  -- and among others
  rows_amid : (c : List Bool) (front : List Entry) → AreDistinct (nodes_of (front ++ own ∷ rest)) → AllAreWithin old (front ++ own ∷ rest)
      → rows_in new c (front ++ with_places ps own ∷ rest) ≡ shifted old c node shift ambition (rows_in old c (front ++ own ∷ rest))
  rows_amid c [] distinct within =
      (λ j.
      own_rows c j
      ++ (rows_in-grown old new grows c rest within.1 ∙ sym (all_unshifted old c node shift ambition rest (ap (λ n. has_node n (nodes_of rest)) (sym is) ∙ distinct.0))) j)
      ∙ sym (shifted-append old c node shift ambition (rows_of old c own.node own.kind own.places) (rows_in old c rest))
  rows_amid c (e ∷ front) distinct within =
      (λ j.
      (rows_of-grown old new grows c e.node e.kind e.places within.0 ∙ sym (unshifted old c node shift ambition e.node e.kind e.places other)) j
      ++ rows_amid c front distinct.1 within.1 j)
      ∙ sym (shifted-append old c node shift ambition (rows_of old c e.node e.kind e.places) (rows_in old c (front ++ own ∷ rest)))
    where
      there : (es : List Entry) → has_node e.node (nodes_of (es ++ own ∷ rest)) ≡ false → nat_eq own.node e.node ≡ false
      there [] h = (or_parts (nat_eq own.node e.node) (has_node e.node (nodes_of rest)) h).0
      there (x ∷ es) h = there es (or_parts (nat_eq x.node e.node) (has_node e.node (nodes_of (es ++ own ∷ rest))) h).1

      other : nat_eq e.node node ≡ false
      other = nat_eq-sym e.node node ∙ ap (λ n. nat_eq n e.node) (sym is) ∙ there front distinct.0

  within_amid : (front : List Entry) → AllAreWithin old (front ++ own ∷ rest) → AllAreWithin new (front ++ with_places ps own ∷ rest)
  within_amid [] within = (parted.within, all_within-grown old new grows rest within.1)
  within_amid (e ∷ front) within = (within-grown old new grows e.places within.0, within_amid front within.1)

  pub shifted_amid : (front : List Entry) → AreDistinct (nodes_of (front ++ own ∷ rest)) → AllAreWithin old (front ++ own ∷ rest)
      → Becomes old new (front ++ own ∷ rest) (front ++ with_places ps own ∷ rest) (change_of node shift) ambition
  shifted_amid front distinct within = record { within = within_amid front within; rows = λ c. rows_amid c front distinct within }

-- the numbers of nodes and their kinds stay where one has other places
pub nodes_amid : (front rest : List Entry) (own : Entry) (ps : List Place) → nodes_of (front ++ with_places ps own ∷ rest) ≡ nodes_of (front ++ own ∷ rest)
nodes_amid [] rest own ps = refl
nodes_amid (e ∷ front) rest own ps = ap (λ ns. e.node ∷ ns) (nodes_amid front rest own ps)

pub kinds_amid : (front rest : List Entry) (own : Entry) (ps : List Place) → kinds_of (front ++ with_places ps own ∷ rest) ≡ kinds_of (front ++ own ∷ rest)
kinds_amid [] rest own ps = refl
kinds_amid (e ∷ front) rest own ps = ap (λ ns. (e.node, e.kind) ∷ ns) (kinds_amid front rest own ps)

-- where a node isn't there, nothing changes
pub shifted_none : (table : List Triple) (node : ℕ) (shift : Shift) (ambition : ℕ) (es : List Entry) → has_node node (nodes_of es) ≡ false → AllAreWithin table es
    → Becomes table table es es (change_of node shift) ambition
shifted_none table node shift ambition es h within = record {
  within = within;
  rows = λ c. sym (all_unshifted table c node shift ambition es h);
}
