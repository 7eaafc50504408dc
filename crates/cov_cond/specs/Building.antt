-- What building the part of an expression with room for so many parts comes to.
use Rattle.std.specs.Prelude.{◌≡◌, ℕ, ◌+◌, ◌<◌, Bool, true, false, Option, Some, None}
use Rattle.cov_expr.specs.Formula.{Formula, On, Not, part_count}
use Rattle.cov_expr.specs.Parts.{formula}
use Rattle.cov_cond.specs.declared.expressing.Built.{Built}

-- an option, or what is true where it is off
abbrev pub literal : ℕ → Bool → Formula ℕ
literal o true = On o
literal o false = Not (On o)

-- a part is an expression, and so many parts more took their room; or there was less room
abbrev pub TakesRoom : Formula ℕ → ℕ → ℕ → Option Built → Type 0
TakesRoom e parts room None = room < parts
TakesRoom e parts room (Some b) = (formula b.part ≡ e) × (b.room + parts ≡ room)

-- a part is an expression, all of whose parts took their room; or there was less room
abbrev pub IsBuilt : Formula ℕ → ℕ → Option Built → Type 0
IsBuilt e room built = TakesRoom e (part_count e) room built
