-- What a reader has read.
use Rattle.std.specs.Prelude.{◌≡◌, ℕ, ◌+◌, ◌*◌, ◌≤◌, List, ◌++◌, map, length, reverse, Result, Ok, Err}
use Rattle.std.specs.List.{sum_by}
use Rattle.cov_base.specs.declared.limits.TheConstants.{MOST_PARTS}
use Rattle.cov_expr.specs.Formula.{Formula, part_count}
use Rattle.cov_cond_text.specs.Conditional.{CondLine, lines_in}
use Rattle.cov_cond_text.specs.Reading.{Reading, line_read, form_of, after_line}
use Rattle.cov_cond_text.specs.declared.fault.CondFault.{CondFault}
use Rattle.cov_cond_text.specs.declared.fault.CondFault.TheVariants as faults
use Rattle.cov_cond_text.specs.declared.reader.Block.{Block}
use Rattle.cov_cond_text.specs.declared.reader.Reader.{Reader}

-- the condition that holds in a block
abbrev pub condition_in : Block → Formula ℕ
condition_in b = b.condition

-- the state that a reader keeps, with the blocks from the inside
abbrev pub state_of : Reader → Reading
state_of r = record { blocks = reverse r.blocks.items; directives = r.directives }

-- the lines that it has read
abbrev pub done_of : Reader → List CondLine
done_of r = lines_in r.runs.runs ++ map (line_read (state_of r)) r.texts

-- the parts of a condition, with one for the operator before it
abbrev pub weight : Block → ℕ
weight b = part_count b.condition + 1

-- a reader counts how many parts more the conditions may have
abbrev pub HasRoom : Reader → Type 0
HasRoom r = r.room + sum_by weight r.blocks.items ≡ MOST_PARTS + 1

-- one directive more was read, which opened one block at most
pub record IsFurther (old new : Reader) : Type 0 where
  pub directives : new.directives ≡ old.directives + 1
  pub blocks : length new.blocks.items ≤ length old.blocks.items + 1

-- a fault is want of memory, or the one that an answer has
abbrev pub IsFaultOf : {X : Type 0} → Result X CondFault → CondFault → Type 0
IsFaultOf answer faults.Memory = Unit {0}
IsFaultOf answer fault = answer ≡ Err fault

-- how many bytes a line has with its end
abbrev pub line_size : List ℕ → ℕ
line_size line = length line + 1

-- a line was taken: what it adds was read, and one that opens a block has some bytes
pub record Takes (names : List (List ℕ)) (n : ℕ) (line : List ℕ) (old new : Reader) : Type 0 where
  pub added : List CondLine
  pub step : after_line names n (state_of old) (form_of line) ≡ Ok (record { reading = state_of new; added = added })
  pub done : done_of new ≡ done_of old ++ added
  pub directives : new.directives ≤ old.directives + 1
  pub blocks : 2 * length new.blocks.items ≤ 2 * length old.blocks.items + length line
