-- The state of a reading.
use Rattle.std.specs.Prelude.{reverse}
use Rattle.cov_expr.specs.Reading.{ParserState}
use Rattle.cov_expr.specs.declared.reading.Reading.{Reading}

-- the state that a reading keeps, with its levels from the inside
abbrev pub state_of : Reading → ParserState
state_of r = record { outer = reverse r.outer.items; level = r.level; operand = r.operand }
