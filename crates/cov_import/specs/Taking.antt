-- The commits that lines are as a new file, or why they aren't any.
use Rattle.std.specs.Prelude.{◌≡◌, ℕ, List, [], ◌∷◌, Option, Some, None, option_map, Result, Ok, Err}
use Rattle.cov_base.specs.Lines.{lines_of}
use Rattle.cov_codes.specs.Codes.{cond_code, import_code, refusal_code}
use Rattle.cov_codes.specs.declared.stop.Stop.{Stop}
use Rattle.cov_codes.specs.declared.stop.Stop.TheVariants as stops
use Rattle.cov_cond.specs.Fitting.{imported_at}
use Rattle.cov_cond_text.specs.Conditional.{CondLine}
use Rattle.cov_cond_text.specs.Reading.{read_text}
use Rattle.cov_cond_text.specs.declared.fault.CondFault.{CondFault}
use Rattle.cov_edit.specs.History.{option_count, options_of}
use Rattle.cov_edit.specs.declared.command.Command.{Command}
use Rattle.cov_history.specs.Verdict.{IsLegalFrom, verdict}
use Rattle.cov_import.specs.Sources.{kept_lines}
use Rattle.cov_lines.specs.Finding.{Found, ◌>>=◌, by_code}
use Rattle.cov_script.specs.Replies.{IsCodeOf}
use Rattle.cov_script.specs.declared.code.Code.TheVariants.{Long}
use Rattle.cov_session.specs.Faults.{unless}

-- the commits of a conditional text, if lines spell one
abbrev pub text_taken : List Command → List (List ℕ) → Result (List CondLine) CondFault → Found (List Command)
text_taken history path (Ok text) = by_code import_code (imported_at history path text)
text_taken history path (Err fault) = Err (cond_code fault)

-- the commits that lines are, if none of them is too long
abbrev pub lines_taken : List Command → List (List ℕ) → Option (List (List ℕ)) → Found (List Command)
lines_taken history path None = Err Long
lines_taken history path (Some lines) = text_taken history path (read_text (options_of history) lines)

-- commits, unless the history refuses the first of them
abbrev pub admitted : List Command → List Command → Found (List Command)
admitted history [] = Ok []
admitted history (first ∷ later) = unless (option_map refusal_code (verdict history first)) (first ∷ later)

-- the commits that lines are, unless something refuses them
abbrev pub kept_taken : List Command → List (List ℕ) → Option (List (List ℕ)) → Found (List Command)
kept_taken history path lines = lines_taken history path lines >>= admitted history

-- the commits that a text is as a new file at a path, or the code by which it is refused: that of a line that is too long, wherever it
-- stands, then of the first line at fault, then of the rule that refuses the file, then of the history's refusal of the first commit
abbrev pub taken_in : List Command → List (List ℕ) → List ℕ → Found (List Command)
taken_in history path text = kept_taken history path (kept_lines (lines_of text))

-- memory is wanting, or a code refuses, which can be told
abbrev pub StopsTaking : {X : Type 0} → List Command → Found X → Stop → Type 0
StopsTaking history found stops.Memory = Unit {0}
StopsTaking history found (stops.Refused code) = (found ≡ Err code) × IsCodeOf (option_count history) code

-- where a history accepts the first of some commits, it accepts them all, one after another
abbrev pub FollowFirst : List Command → List Command → Type 0
FollowFirst history [] = Unit {0}
FollowFirst history (first ∷ later) = verdict history first ≡ None → IsLegalFrom history (first ∷ later)

-- what is handed on where nothing refuses it
abbrev pub handed_on : {X Y : Type 0} → X → Result Y Stop → Result X Stop
handed_on x (Ok y) = Ok x
handed_on x (Err stop) = Err stop
