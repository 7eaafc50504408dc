-- Laws of conditional texts.
use Rattle.std.specs.Prelude.{◌≡◌, ℕ, ◌+◌, Bool, true, List, ◌++◌, length, map, Some, None, Ok}
use Rattle.cov_base.specs.Rows.{row_of}
use Rattle.cov_base.specs.Spelling.{is_name}
use Rattle.cov_base.specs.declared.number.Kind.TheVariants as kinds
use Rattle.cov_edit.specs.declared.command.Command.{Command}
use Rattle.cov_edit.specs.History.{options_of, option_count, is_valid_in}
use Rattle.cov_edit.specs.Numbering.{numbers_of}
use Rattle.cov_edit.specs.Replay.{replay}
use Rattle.cov_edit.specs.Variant.{lines_of}
use Rattle.cov_history.specs.Laws.{text_of}
use Rattle.cov_history.specs.Verdict.{IsLegal, verdict}
use Rattle.cov_cond_text.specs.Conditional.{CondLine, AreGrouped, projection, runs_of, IsCondText}
use Rattle.cov_cond.specs.Exporting.{AreShort, conditional_text, exported}
use Rattle.cov_cond.specs.Fitting.{HasRoom}
use Rattle.cov_cond.specs.Importing.{making_commit, imported}
use Rattle.cov_cond_text.specs.Reading.{read_text}

-- where no expression is too long, what is exported of a file is read back, and gives on each choice the texts of the file there
abbrev pub ExportGivesText : Type 0
ExportGivesText = (history : List Command) (file : ℕ) → IsLegal history → AreShort history file
    → (t : List CondLine) × (read_text (options_of history) (conditional_text history file) ≡ Ok t)
    × ((c : List Bool) → length c ≡ option_count history → projection t c ≡ map text_of (lines_of (replay c history) file))

-- what is exported of a file is read back, and gives on each choice the texts of the file there
abbrev pub ExportedIsRead : Type 0
ExportedIsRead = (history : List Command) (file : ℕ) (lines : List (List ℕ)) → IsLegal history → exported history file ≡ Ok lines
    → (t : List CondLine) × (read_text (options_of history) lines ≡ Ok t)
    × ((c : List Bool) → length c ≡ option_count history → projection t c ≡ map text_of (lines_of (replay c history) file))

-- on each valid choice, the new file of an import has the texts of the conditional text
abbrev pub ImportGivesText : Type 0
ImportGivesText = (history : List Command) (parent : ℕ) (name : List ℕ) (t : List CondLine) (c : List Bool) → IsLegal history → AreGrouped t
    → length c ≡ option_count history → is_valid_in history c ≡ true
    → map text_of (lines_of (replay c (history ++ imported history parent name t)) ((numbers_of history).nodes + 1)) ≡ projection t c

-- the commits of an import are all accepted where the first is and there is room for them
abbrev pub ImportIsAccepted : Type 0
ImportIsAccepted = (history : List Command) (parent : ℕ) (name : List ℕ) (t : List CondLine) → IsLegal history → is_name name ≡ true → IsCondText (option_count history) t
    → HasRoom history parent name t → verdict history (making_commit history parent name (runs_of t)) ≡ None → IsLegal (history ++ imported history parent name t)

-- on each choice the new file of an import is there, in its directory and with its name
abbrev pub ImportMakesFile : Type 0
ImportMakesFile = (history : List Command) (parent : ℕ) (name : List ℕ) (t : List CondLine) (c : List Bool)
    → row_of (replay c (history ++ imported history parent name t)).rows ((numbers_of history).nodes + 1)
    ≡ Some (record { node = (numbers_of history).nodes + 1; kind = kinds.File; parent = parent; name = name })
