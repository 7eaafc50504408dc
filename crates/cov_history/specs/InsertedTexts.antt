-- The texts of the lines that a history inserts.
use Rattle.std.specs.Prelude.{◌≡◌, ℕ, ◌-◌, List, [], ◌∷◌, ◌++◌, Option, Some, None, slice_get}
use Rattle.std.specs.List.{filter_map}
use Rattle.cov_edit.specs.declared.edit.Edit.{Edit}
use Rattle.cov_edit.specs.declared.edit.Edit.TheVariants as edits
use Rattle.cov_edit.specs.declared.command.Command.{Command}
use Rattle.cov_edit.specs.declared.command.Command.TheVariants as commands
use Rattle.cov_edit.specs.Sides.{unsided}
use Rattle.cov_edit.specs.Variant.{Line}
use Rattle.cov_history.specs.Kept.{Kept, kept_number}

-- the text of the line that an edit inserts, if it inserts one
abbrev pub new_text : Edit → Option (List ℕ)
new_text (edits.New kind parent name) = None
new_text (edits.Insert file after text) = Some text
new_text (edits.Delete file line) = None
new_text (edits.Rename node name) = None
new_text (edits.Move node parent) = None
new_text (edits.Remove node) = None

-- the texts of the lines that edits insert
abbrev pub new_texts : List Edit → List (List ℕ)
new_texts es = filter_map new_text es

-- the text with which a history inserts its line 1, its line 2 and so on
abbrev pub texts_in : List Command → List (List ℕ)
texts_in [] = []
texts_in (commands.Commit base choice ambition ss ∷ history) = new_texts (unsided ss) ++ texts_in history
texts_in (_ ∷ history) = texts_in history

-- a kept line has the text that stands at its number among these
abbrev pub HasText : List (List ℕ) → Kept Line → Type 0
HasText texts k = slice_get texts (kept_number k - 1) ≡ Some k.item.text
