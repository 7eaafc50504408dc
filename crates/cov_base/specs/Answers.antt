-- What a call answers that may lack memory.
use Rattle.std.specs.Prelude.{◌≡◌, Bool, true, false, Result, Ok, Err}

-- a statement, unless it is excused
abbrev pub Unless : Bool → Type 0 → Type 0
Unless true statement = Unit {0}
Unless false statement = statement

-- the result is the one wanted, or an error that tells want of memory
abbrev pub IsOrMemory : {X E : Type 0} → (E → Bool) → Result X E → Result X E → Type 0
IsOrMemory is_memory wanted (Ok x) = wanted ≡ Ok x
IsOrMemory is_memory wanted (Err fault) = Unless (is_memory fault) (wanted ≡ Err fault)
