-- Lines that read a variant of now: its tree, or a file of it. They change no history.
use Rattle.std.specs.Prelude.{ℕ, Bool, true, false, List, Result, Ok, Err}
use Rattle.cov_script.specs.Grouping.{grouped}
use Rattle.cov_script.specs.Lines.{form_of}
use Rattle.cov_script.specs.declared.grouped.GroupedLine.{GroupedLine}
use Rattle.cov_script.specs.declared.grouped.GroupedLine.TheVariants as groups
use Rattle.cov_script.specs.declared.grouped.Question.TheVariants as questions
use Rattle.cov_script.specs.declared.grouped.TreeLine.TheVariants as trees
use Rattle.cov_script.specs.declared.line.Line.{Line}
use Rattle.cov_script.specs.declared.line.LineSyntax.{LineSyntax}

-- a line of any other form than cat and checkout is no such line
abbrev pub is_reader : GroupedLine → Bool
is_reader (groups.Question (questions.Cat choice path)) = true
is_reader (groups.Tree (trees.Checkout tree choice)) = true
is_reader line = false

abbrev pub has_reader : Result Line LineSyntax → Bool
has_reader (Ok form) = is_reader (grouped form)
has_reader (Err syntax) = false

-- whether a line has the form cat or checkout, of whatever length it is
abbrev pub reads_variant : List ℕ → Bool
reads_variant line = has_reader (form_of line)
