-- Where the edits of a commit apply, as nodes of a table.
use Rattle.std.proofs.Common.{◌≡◌, ℕ, ◌<◌, ◌≤◌, List, [], ◌∷◌, ◌++◌, length, refl}
use Rattle.std.specs.List.{AllByRecursion}
use Rattle.cov_dd.specs.declared.triple.Triple.{Triple}
use Rattle.cov_dd.specs.Diagrams.{diagram_size, span, Extends, Stands}
use Rattle.cov_dd.proofs.CallerLemmas.{stands_later}
use Rattle.cov_expr.specs.Formula.{Formula, value}
use Rattle.cov_base.specs.declared.number.LineRef.{LineRef}
use Rattle.cov_base.specs.declared.number.NodeRef.{NodeRef}
use Rattle.cov_edit.specs.declared.edit.Edit.{Edit}
use Rattle.cov_edit.specs.declared.edit.Edit.TheVariants as edits
use Rattle.cov_edit.specs.Numbering.{anchors_of}
use Rattle.cov_edit.specs.Replay.{first_within, rest_within, within_behind}
use Rattle.cov_visible.specs.Nodes.{own_node}
use Rattle.cov_visible.specs.Resolved.{first_node, rest_nodes, insert_nodes, AreOfTable}
use Rattle.cov_visible.proofs.CallerLemmas.{AllOn, inserts-all, own-all}
use Rattle.cov_engine.specs.Staged.{StandFor}
use Rattle.cov_engine.proofs.Dating.{false-stands}

-- the nodes where each edit after some others applies
abbrev pub nodes_behind : {X : Type 0} → List X → List ℕ → List ℕ
nodes_behind [] ns = ns
nodes_behind (x ∷ xs) ns = nodes_behind xs (rest_nodes ns)

pub nodes-more : {X : Type 0} (begun : List X) (x : X) (ns : List ℕ) → nodes_behind (begun ++ x ∷ []) ns ≡ rest_nodes (nodes_behind begun ns)
nodes-more [] x ns = refl
nodes-more (y ∷ begun) x ns = nodes-more begun x (rest_nodes ns)

module _ (ts : List Triple) (count : ℕ) where
  pub stands-first : (within : List (Formula ℕ)) (ns : List ℕ) → StandFor ts count within ns → Stands ts (first_node ns) 0 count (value (first_within within))
  stands-first [] [] h = false-stands ts count
  stands-first [] (n ∷ ns) h = absurd h
  stands-first (f ∷ within) [] h = absurd h
  stands-first (f ∷ within) (n ∷ ns) h = h.0

  pub stands-rest : (within : List (Formula ℕ)) (ns : List ℕ) → StandFor ts count within ns → StandFor ts count (rest_within within) (rest_nodes ns)
  stands-rest [] [] h = tt
  stands-rest [] (n ∷ ns) h = absurd h
  stands-rest (f ∷ within) [] h = absurd h
  stands-rest (f ∷ within) (n ∷ ns) h = h.1

  -- the nodes of the edits behind some stand for where these apply
  pub stands-behind : {X : Type 0} (begun : List X) (within : List (Formula ℕ)) (ns : List ℕ) → StandFor ts count within ns → StandFor ts count (within_behind begun within) (nodes_behind begun ns)
  stands-behind [] within ns h = h
  stands-behind (x ∷ begun) within ns h = stands-behind begun (rest_within within) (rest_nodes ns) (stands-rest within ns h)

  -- they are of the table
  pub stands-of_table : (within : List (Formula ℕ)) (ns : List ℕ) → StandFor ts count within ns → AreOfTable ts ns
  stands-of_table [] [] h = tt
  stands-of_table [] (n ∷ ns) h = absurd h
  stands-of_table (f ∷ within) [] h = absurd h
  stands-of_table (f ∷ within) (n ∷ ns) h = (h.0.within, stands-of_table within ns h.1)

  -- and stand for it in a longer one
  pub stand-later : (us : List Triple) (within : List (Formula ℕ)) (ns : List ℕ) → Extends ts us → StandFor ts count within ns → StandFor us count within ns
  stand-later us [] [] x h = tt
  stand-later us [] (n ∷ ns) x h = absurd h
  stand-later us (f ∷ within) [] x h = absurd h
  stand-later us (f ∷ within) (n ∷ ns) x h = (stands_later x h.0, stand-later us within ns x h.1)

  -- the node of each edit names only the first so many options
  pub all-low : (within : List (Formula ℕ)) (ns : List ℕ) (es : List Edit) → StandFor ts count within ns → AllOn (λ e node. span ts node ≤ count) ns es
  all-low within ns [] h = tt
  all-low within ns (e ∷ es) h = ((stands-first within ns h).below, all-low (rest_within within) (rest_nodes ns) es (stands-rest within ns h))

  -- the nodes of the lines that a commit inserts name only the first so many options
  pub own-low : (within : List (Formula ℕ)) (ns : List ℕ) (es : List Edit) (index : ℕ) → StandFor ts count within ns
      → (own_node (insert_nodes ns es) index < diagram_size ts) × (span ts (own_node (insert_nodes ns es) index) ≤ count)
  own-low within ns es index h = own-all IsLow none (insert_nodes ns es) index (inserts-all IsLow none ns es (all within ns h))
    where
      IsLow : ℕ → Type 0
      IsLow n = (n < diagram_size ts) × (span ts n ≤ count)

      none : IsLow 0
      none = let s = false-stands ts count in (s.within, s.below)

      all : (within : List (Formula ℕ)) (ns : List ℕ) → StandFor ts count within ns → AllByRecursion IsLow ns
      all [] [] h = tt
      all [] (n ∷ ns) h = absurd h
      all (f ∷ within) [] h = absurd h
      all (f ∷ within) (n ∷ ns) h = ((h.0.within, h.0.below), all within ns h.1)

-- what holds of each edit, and what holds anyway, whatever the nodes
pub all-on : (R : Edit → Type 0) (ns : List ℕ) (es : List Edit) → AllByRecursion R es → AllOn (λ e node. R e) ns es
all-on R ns [] h = tt
all-on R ns (e ∷ es) h = (h.0, all-on R (rest_nodes ns) es h.1)

pub all-any : (ns : List ℕ) (es : List Edit) → AllOn (λ e node. Unit {0}) ns es
all-any ns [] = tt
all-any ns (e ∷ es) = (tt, all-any (rest_nodes ns) es)

-- the node of a line that a commit inserts, by the count of those that it inserts before
pub insert-node : (m : ℕ) (ns : List ℕ) (begun : List Edit) (file : NodeRef) (after : LineRef) (text : List ℕ) (later : List Edit)
    → own_node (insert_nodes ns (begun ++ edits.Insert file after text ∷ later)) (length (anchors_of m begun)) ≡ first_node (nodes_behind begun ns)
insert-node m ns [] file after text later = refl
insert-node m ns (edits.New kind parent name ∷ begun) file after text later = insert-node m (rest_nodes ns) begun file after text later
insert-node m ns (edits.Insert f a t ∷ begun) file after text later = insert-node m (rest_nodes ns) begun file after text later
insert-node m ns (edits.Delete f line ∷ begun) file after text later = insert-node m (rest_nodes ns) begun file after text later
insert-node m ns (edits.Rename node name ∷ begun) file after text later = insert-node m (rest_nodes ns) begun file after text later
insert-node m ns (edits.Move node parent ∷ begun) file after text later = insert-node m (rest_nodes ns) begun file after text later
insert-node m ns (edits.Remove node ∷ begun) file after text later = insert-node m (rest_nodes ns) begun file after text later
