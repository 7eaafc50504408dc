-- Which nodes are files.
use Rattle.std.specs.Prelude.{◌≡◌, ℕ, ◌+◌, true, List, [], ◌∷◌, ◌++◌, Option, Some, None}
use Rattle.std.specs.List.{cons_option}
use Rattle.cov_base.specs.Rows.{has_node}
use Rattle.cov_base.specs.declared.number.Kind.{Kind}
use Rattle.cov_base.specs.declared.number.Kind.TheVariants as kinds
use Rattle.cov_edit.specs.declared.edit.Edit.{Edit}
use Rattle.cov_edit.specs.declared.edit.Edit.TheVariants as edits
use Rattle.cov_edit.specs.declared.command.Command.{Command}
use Rattle.cov_edit.specs.declared.command.Command.TheVariants as commands
use Rattle.cov_edit.specs.Numbering.{node_number, node_count_after, nodes_made}
use Rattle.cov_edit.specs.Sides.{unsided}

-- the number of a node, if its kind is that of files
abbrev pub if_file : Kind → ℕ → Option ℕ
if_file kinds.File node = Some node
if_file kinds.Dir node = None

-- the number of the file that an edit makes, if it makes one, n nodes having been made before
abbrev pub file_made : ℕ → Edit → Option ℕ
file_made n (edits.New kind parent name) = if_file kind (n + 1)
file_made n (edits.Insert file after text) = None
file_made n (edits.Delete file line) = None
file_made n (edits.Rename node name) = None
file_made n (edits.Move node parent) = None
file_made n (edits.Remove node) = None

-- the numbers of the files that edits make, n nodes having been made before
abbrev pub files_made : ℕ → List Edit → List ℕ
files_made n [] = []
files_made n (e ∷ es) = cons_option (file_made n e) (files_made (node_count_after n e) es)

-- the numbers of the files that more of a history makes, n nodes having been made before
abbrev pub files_from : ℕ → List Command → List ℕ
files_from n [] = []
files_from n (commands.Commit base choice ambition ss ∷ history) = files_made n (unsided ss) ++ files_from (n + nodes_made (unsided ss)) history
files_from n (_ ∷ history) = files_from n history

-- the numbers of the files that a history makes, in order
abbrev pub files_of : List Command → List ℕ
files_of history = files_from 0 history

-- an insert or a delete names one of these files, n nodes having been made before its commit
abbrev pub NamesFile : List ℕ → ℕ → Edit → Type 0
NamesFile files n (edits.New kind parent name) = Unit {0}
NamesFile files n (edits.Insert file after text) = has_node (node_number n file) files ≡ true
NamesFile files n (edits.Delete file line) = has_node (node_number n file) files ≡ true
NamesFile files n (edits.Rename node name) = Unit {0}
NamesFile files n (edits.Move node parent) = Unit {0}
NamesFile files n (edits.Remove node) = Unit {0}
