-- Sessions by their names.
use Rattle.std.specs.Option.{option_map_or}
use Rattle.std.specs.Prelude.{ℕ, List, Option, None, Some, not, map, if◌then◌else◌}
use Rattle.std.specs.List.{filter, find}
use Rattle.std.specs.Str.{bytes_eq}
use Rattle.cov_expr.specs.Formula.{Formula, True}
use Rattle.cov_session.specs.Open.{NamedSession}

-- the session of a name, if one is open
abbrev pub named : List NamedSession → List ℕ → Option NamedSession
named ss name = find (λ s. bytes_eq s.name name) ss

-- the current side of the session of a name, True if none is open
abbrev pub side_of : List NamedSession → List ℕ → Formula ℕ
side_of ss name = option_map_or (λ s. s.side) (named ss name) True

-- the sessions with one in the place of that of its name
abbrev pub with_session : List NamedSession → NamedSession → List NamedSession
with_session ss new = map (λ s. if bytes_eq s.name new.name then new else s) ss

-- the sessions but that of a name
abbrev pub without : List NamedSession → List ℕ → List NamedSession
without ss name = filter (λ s. not (bytes_eq s.name name)) ss

-- the sessions that are left once that of a name has ended, if there is a name
abbrev pub left_by : List NamedSession → Option (List ℕ) → List NamedSession
left_by ss None = ss
left_by ss (Some name) = without ss name
