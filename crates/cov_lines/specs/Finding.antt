-- What a line names in the history: options, expressions and choices.
pub use Rattle.cov_alt.specs.Sides.{◌>>=◌}
use Rattle.std.specs.Prelude.{ℕ, Bool, List, position, unwrap_or, Option, Some, None, Result, Ok, Err}
use Rattle.std.specs.Str.{bytes_eq}
use Rattle.cov_expr.specs.Binding.{bound}
use Rattle.cov_expr.specs.Formula.{Formula}
use Rattle.cov_expr.specs.Naming.{bound_expression}
use Rattle.cov_rules.specs.Completion.{Completion, Complete, Invalid, Incomplete}
use Rattle.cov_script.specs.declared.code.Code.{Code}
use Rattle.cov_script.specs.declared.code.Code.TheVariants as codes
use Rattle.cov_edit.specs.declared.command.Command.{Command}
use Rattle.cov_edit.specs.History.{options_of}
use Rattle.cov_history.specs.Completing.{completed_in}
use Rattle.cov_hist.specs.Past.{first_open, values_of}
use Rattle.cov_codes.specs.Codes.{name_code, bind_code}

-- what is found, or the code by which the line is refused
abbrev pub Found : Type 0 → Type 0
Found X = Result X Code

-- what is found, with a code in place of a fault
abbrev pub by_code : {X E : Type 0} → (E → Code) → Result X E → Found X
by_code code (Ok x) = Ok x
by_code code (Err fault) = Err (code fault)

-- an option, unless there is none of that name
abbrev pub option_if : List ℕ → Option ℕ → Found ℕ
option_if name None = Err (codes.UnknownOption name)
option_if name (Some option) = Ok option

-- the option that has a name
abbrev pub found_option : List Command → List ℕ → Found ℕ
found_option history name = option_if name (position (bytes_eq name) (options_of history))

-- an expression with options in place of their names
abbrev pub found_expression : List Command → Formula (List ℕ) → Found (Formula ℕ)
found_expression history expr = by_code name_code (bound_expression (options_of history) expr)

-- the partial choice that bindings are
abbrev pub found_partial : List Command → List (List ℕ × Bool) → Found (List (ℕ × Bool))
found_partial history bindings = by_code bind_code (bound (options_of history) bindings)

-- the choice that a completion is; one that is incomplete has an open option
abbrev pub as_found : Completion → Found (List Bool)
as_found (Complete choice) = Ok choice
as_found (Invalid rule) = Err (codes.Invalid rule)
as_found (Incomplete option) = Err (codes.Incomplete (unwrap_or option 0))

-- the choice to which the rules of the history complete a partial one
abbrev pub completed_choice : List Command → List (ℕ × Bool) → Found (List Bool)
completed_choice history partial = as_found (completed_in history partial)

-- the choice to which the rules complete bindings
abbrev pub found_choice : List Command → List (List ℕ × Bool) → Found (List Bool)
found_choice history bindings = found_partial history bindings >>= completed_choice history

-- a choice, unless an option is left open
abbrev pub unless_open : Option ℕ → List Bool → Found (List Bool)
unless_open None choice = Ok choice
unless_open (Some option) choice = Err (codes.Incomplete option)

-- the choice that bindings of each of so many options are; the least that isn't bound is open
abbrev pub whole_choice : ℕ → List (ℕ × Bool) → Found (List Bool)
whole_choice count partial = unless_open (first_open count partial) (values_of count partial)
