-- A node that is looked up by its name in a directory, or by its number.
use Rattle.std.specs.Prelude.{ℕ, Bool, ◌&&◌, min, nat_eq, List, Option, None, Some}
use Rattle.std.specs.List.{list_any}
use Rattle.std.specs.Str.{bytes_eq}
use Rattle.cov_dd.specs.declared.triple.Triple.{Triple}
use Rattle.cov_dd.specs.Diagrams.{value_in}
use Rattle.cov_tree.specs.declared.entry.Place.{Place}

-- whether one of these places is a name in a directory and is there on a choice
abbrev pub stands_in : List Triple → List Bool → ℕ → List ℕ → List Place → Bool
stands_in table c dir name places = list_any (λ p. nat_eq p.parent dir && (bytes_eq p.name name && value_in table p.vis c)) places

-- the earlier of two places
abbrev pub earlier : Option ℕ → Option ℕ → Option ℕ
earlier None b = b
earlier (Some i) None = Some i
earlier (Some i) (Some j) = Some (min i j)

-- whether one of these places is there on a choice
abbrev pub is_seen : List Triple → List Bool → List Place → Bool
is_seen table c places = list_any (λ p. value_in table p.vis c) places
