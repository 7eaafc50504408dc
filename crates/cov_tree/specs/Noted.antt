-- The nodes that were noted under names in directories.
use Rattle.std.specs.Global.{Vec}
use Rattle.std.specs.Prelude.{◌≡◌, ℕ, Bool, true, List, []}
use Rattle.std.specs.List.{AllByRecursion}
use Rattle.std.specs.Map.{lookup}
use Rattle.std.specs.Option.{option_map_or}
use Rattle.cov_base.specs.Rows.{has_node}
use Rattle.cov_tree.specs.declared.entry.Entry.{Entry}
use Rattle.cov_tree.specs.declared.entry.Place.{Place}
use Rattle.cov_tree.specs.declared.noted.NameKey.{NameKey}
use Rattle.cov_tree.specs.Places.{is_one_place}

-- nodes by a directory and a name in it
abbrev pub Noted : Type 0
Noted = List (NameKey ℕ (Vec ℕ) × Vec ℕ)

-- whether a key is that of a name in a directory
abbrev pub is_key : ℕ → List ℕ → NameKey ℕ (Vec ℕ) → Bool
is_key dir name key = is_one_place dir name key.dir key.name.items

-- the nodes that were noted under a name in a directory
abbrev pub noted_at : Noted → ℕ → List ℕ → List ℕ
noted_at noted dir name = option_map_or (λ nodes. nodes.items) (lookup (is_key dir name) noted) []

-- whether a node was noted at a place
abbrev pub is_noted : Noted → ℕ → Place → Bool
is_noted noted node place = has_node node (noted_at noted place.parent place.name)

-- a node was noted at each of these places
abbrev pub AreNoted : Noted → ℕ → List Place → Type 0
AreNoted noted node places = AllByRecursion (λ place. is_noted noted node place ≡ true) places

-- the nodes of a plan were noted at each of their places
abbrev pub ArePlanNoted : Noted → List Entry → Type 0
ArePlanNoted noted plan = AllByRecursion (λ e. AreNoted noted e.node e.places) plan

-- what was noted is kept
abbrev pub Keeps : Noted → Noted → Type 0
Keeps old new = (node : ℕ) (place : Place) → is_noted old node place ≡ true → is_noted new node place ≡ true
