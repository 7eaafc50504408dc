-- The nodes of rules, and others in their places.
use Rattle.std.specs.Prelude.{ℕ, List, [], ◌∷◌, ◌++◌, map}
use Rattle.cov_dd.specs.declared.triple.Triple.{Triple}
use Rattle.cov_dd.specs.Sweeps.{AreRenumbered}
use Rattle.cov_rules.specs.Installing.{Standing, Holds}
use Rattle.cov_rules.specs.declared.rules.Installed.{Installed}

abbrev pub node_of : Installed → ℕ
node_of r = r.node

-- every node that is kept, in one order
abbrev pub nodes_of : Standing → List ℕ
nodes_of s = map node_of s.constraints ++ (map node_of s.preferences ++ s.conjunction ∷ [])

abbrev pub having_node : ℕ → Installed → Installed
having_node n r = record { expr = r.expr; node = n; at = r.at }

-- all but the nodes
abbrev pub without_nodes : Standing → Standing
without_nodes s = record {
  constraints = map (having_node 0) s.constraints;
  preferences = map (having_node 0) s.preferences;
  defaults = s.defaults;
  conjunction = 0;
}

-- where the nodes have the same options and values under their new numbers, rules still hold
abbrev pub HoldRenumbered : Standing → Standing → Type 0
HoldRenumbered old new = (ts us : List Triple) → AreRenumbered ts us (nodes_of old) (nodes_of new) → Holds ts old → Holds us new
