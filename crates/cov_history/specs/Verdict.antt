-- Which commands a history accepts.
use Rattle.std.specs.Prelude.{◌≡◌, ℕ, ◌+◌, Bool, true, false, ◌&&◌, ◌||◌, not, nat_eq, nat_lt, nat_le, List, [], ◌∷◌, ◌++◌, length, take, Option, Some, None}
use Rattle.std.specs.List.{list_any, position}
use Rattle.cov_base.specs.Choices.{all_choices}
use Rattle.cov_base.specs.declared.limits.Limits.{Limits}
use Rattle.cov_expr.specs.Formula.{Formula, value, reach}
use Rattle.cov_expr.specs.Options.{is_declared}
use Rattle.cov_edit.specs.declared.edit.Edit.{Edit}
use Rattle.cov_edit.specs.declared.sided.Sided.{Sided}
use Rattle.cov_edit.specs.declared.command.Command.{Command}
use Rattle.cov_edit.specs.declared.command.Command.TheVariants as commands
use Rattle.cov_edit.specs.Fits.{fits_command}
use Rattle.cov_edit.specs.History.{options_of, option_count, constraints_of, preferences_of, defaults_of, is_valid_in, first_false_in, text_bytes, byte_count}
use Rattle.cov_edit.specs.Limits.{is_upgraded, limits_of}
use Rattle.cov_edit.specs.Numbering.{numbers_of, nodes_made, anchors_of, line_count, node_count}
use Rattle.cov_edit.specs.Replay.{replay}
use Rattle.cov_edit.specs.Sides.{unsided, reach_within}
use Rattle.cov_view.specs.Refusals.{when, first_of, first_refused}
use Rattle.cov_view.specs.declared.fault.EditFault.{EditFault}
use Rattle.cov_history.specs.BadChoices.{unsound_refusal}
use Rattle.cov_history.specs.Overtaking.{overtaken}
use Rattle.cov_history.specs.declared.refusal.Refusal.{Refusal}
use Rattle.cov_history.specs.declared.refusal.Refusal.TheVariants as refusals

-- the refusal for the first constraint that is false on a choice
abbrev pub as_invalid : Option ℕ → Option Refusal
as_invalid None = None
as_invalid (Some rule) = Some (refusals.Invalid rule)

-- the refusal for the first edit that a variant refuses
abbrev pub as_bad_record : Option (ℕ × EditFault) → Option Refusal
as_bad_record None = None
as_bad_record (Some refused) = Some (refusals.BadRecord refused.0)

-- the refusal for the first commit that overtakes
abbrev pub as_overtaken : Option ℕ → Option Refusal
as_overtaken None = None
as_overtaken (Some p) = Some (refusals.Overtaken p)

-- the place of the first edit whose side is false on a choice
abbrev pub first_outside : List Bool → List Sided → Option ℕ
first_outside c ss = position (λ s. not (value s.side c)) ss

-- the refusal for the first edit whose side is false
abbrev pub as_outside : Option ℕ → Option Refusal
as_outside None = None
as_outside (Some i) = Some (refusals.OutsideSide i)

-- whether there are no edits
abbrev pub has_no_edits : {X : Type 0} → List X → Bool
has_no_edits [] = true
has_no_edits (e ∷ es) = false

-- the refusals of a rule that has only options below a count, so many rules of its kind standing
abbrev pub rule_refusals : List Command → ℕ → ℕ → List (Option Refusal)
rule_refusals history count standing =
    when (nat_lt (option_count history) count) refusals.BadOption
    ∷ when (nat_le (limits_of history).rules standing) refusals.Full
    ∷ []

-- whether an expression is true on some valid choice of the declared options
abbrev pub leaves_variant : List Command → Formula ℕ → Bool
leaves_variant history expr = list_any (λ c. is_valid_in history c && value expr c) (all_choices (option_count history))

-- the refusals where there would be too many lines or nodes, or a commit or all together would have too many bytes of text
abbrev pub amount_refusals : Limits → ℕ → ℕ → ℕ → ℕ → List (Option Refusal)
amount_refusals limits lines nodes commit_bytes bytes =
    when (nat_lt limits.lines lines) refusals.TooManyLines
    ∷ when (nat_lt limits.nodes nodes) refusals.TooManyNodes
    ∷ when (nat_lt limits.commit_bytes commit_bytes || nat_lt limits.bytes bytes) refusals.TooManyBytes
    ∷ []

-- the refusals of edits that are too many, make too many lines or nodes, or have too much text, so many lines, nodes and bytes being there
abbrev pub refusals_by_size : Limits → ℕ → ℕ → ℕ → List Edit → List (Option Refusal)
refusals_by_size limits lines nodes bytes es =
    when (nat_lt limits.edits (length es)) refusals.TooManyEdits
    ∷ amount_refusals limits (lines + length (anchors_of 0 es)) (nodes + nodes_made es) (text_bytes es) (bytes + text_bytes es)

-- the same after a history
abbrev pub size_refusals : List Command → List Edit → List (Option Refusal)
size_refusals history es = refusals_by_size (limits_of history) (line_count history) (node_count history) (byte_count history) es

-- the refusals of an option by its name, so many being allowed and these declared
abbrev pub name_refusals : ℕ → List (List ℕ) → List ℕ → List (Option Refusal)
name_refusals most names name = when (nat_le most (length names)) refusals.Full ∷ when (is_declared names name) refusals.Exists ∷ []

-- the refusals of a command, in order, but that of a full history
abbrev pub refusals_of : List Command → Command → List (Option Refusal)
refusals_of history (commands.Option name) = name_refusals (limits_of history).options (options_of history) name
refusals_of history (commands.Constraint expr) =
    rule_refusals history (reach expr) (length (constraints_of history)) ++ when (not (leaves_variant history expr)) refusals.NoVariantLeft ∷ []
refusals_of history (commands.Prefer expr) = rule_refusals history (reach expr) (length (preferences_of history))
refusals_of history (commands.Default option on) = rule_refusals history (option + 1) (length (defaults_of history))
refusals_of history (commands.Commit base choice ambition ss) =
    when (nat_lt (length history) base) refusals.BadBase
    ∷ when (not (nat_eq (length choice) (option_count (take base history))) || nat_lt (option_count (take base history)) (reach_within ambition ss)) refusals.BadOption
    ∷ (size_refusals history (unsided ss)
    ++ as_invalid (first_false_in (take base history) choice)
    ∷ when (not (value ambition choice)) refusals.OutsideAmbition
    ∷ as_outside (first_outside choice ss)
    ∷ when (has_no_edits ss) refusals.Empty
    ∷ as_bad_record (first_refused (numbers_of (take base history)) (replay choice (take base history)) (unsided ss))
    ∷ as_overtaken (overtaken history base ambition ss)
    ∷ unsound_refusal history ambition (commands.Commit base choice ambition ss)
    ∷ [])
refusals_of history commands.Upgrade = when (is_upgraded history) refusals.Upgraded ∷ []

-- the refusal of a history that has as many commands as it holds
abbrev pub when_full : List Command → Option Refusal
when_full history = when (nat_le (limits_of history).commands (length history)) refusals.Full

-- the first refusal of a command after a history; none where it is accepted
abbrev pub verdict : List Command → Command → Option Refusal
verdict history command = first_of (when_full history ∷ refusals_of history command)

-- each command is what its types keep, and is accepted after those before it
abbrev pub IsLegalFrom : List Command → List Command → Type 0
IsLegalFrom before [] = Unit {0}
IsLegalFrom before (command ∷ later) = (fits_command command ≡ true) × (verdict before command ≡ None) × IsLegalFrom (before ++ command ∷ []) later

-- each command of a history is what its types keep, and is accepted after those before it
abbrev pub IsLegal : List Command → Type 0
IsLegal history = IsLegalFrom [] history

-- the refusal is that of a verdict, unless memory is wanting
abbrev pub RefusedBy : Refusal → Option Refusal → Type 0
RefusedBy refusals.Memory verdict = Unit {0}
RefusedBy r verdict = verdict ≡ Some r
