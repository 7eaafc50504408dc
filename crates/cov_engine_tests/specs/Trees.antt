-- Histories with a directory: one that is accepted whole, and two whose next commit would leave a variant unsound.
use Rattle.std.specs.Prelude.{ℕ, Bool, true, false, List, [], ◌∷◌, ◌++◌, map, Option, Some, None, codes}
use Rattle.cov_base.specs.declared.number.Kind.TheVariants as kinds
use Rattle.cov_base.specs.declared.number.NodeRef.TheVariants as nodes
use Rattle.cov_base.specs.declared.number.LineRef.TheVariants as lines
use Rattle.cov_expr.specs.Formula.{Formula, True, On}
use Rattle.cov_edit.specs.declared.edit.Edit.{Edit}
use Rattle.cov_edit.specs.declared.edit.Edit.TheVariants as edits
use Rattle.cov_edit.specs.declared.command.Command.{Command}
use Rattle.cov_edit.specs.declared.command.Command.TheVariants as commands
use Rattle.cov_edit.specs.declared.sided.Sided.{Sided}
use Rattle.cov_edit.specs.Sides.{sided}

-- all variants, or those with an option
abbrev pub ambition_in : Option ℕ → Formula ℕ
ambition_in None = True
ambition_in (Some option) = On option

-- edits with the side True
abbrev pub everywhere : List Edit → List Sided
everywhere es = map (sided True) es

-- a commit of edits on the variant of a choice
abbrev pub commit_in : ℕ → List Bool → Option ℕ → List Sided → Command
commit_in base choice within es = commands.Commit base choice (ambition_in within) es

-- an option
abbrev pub of_option : List ℕ → Command
of_option name = commands.Option name

-- a file in the root
abbrev pub file_in_root : List ℕ → Edit
file_in_root name = edits.New kinds.File (nodes.Old 0) name

-- a directory in the root
abbrev pub dir_in_root : List ℕ → Edit
dir_in_root name = edits.New kinds.Dir (nodes.Old 0) name

-- a line more of a file, after another
abbrev pub line_of : ℕ → ℕ → List ℕ → Edit
line_of file after text = edits.Insert (nodes.Old file) (lines.Old after) text

-- another name of a node
abbrev pub renaming : ℕ → List ℕ → Edit
renaming node name = edits.Rename (nodes.Old node) name

-- another directory of a node
abbrev pub moving : ℕ → ℕ → Edit
moving node parent = edits.Move (nodes.Old node) (nodes.Old parent)

-- the removal of a node
abbrev pub removing : ℕ → Edit
removing node = edits.Remove (nodes.Old node)

-- the options p and q
abbrev pub of_both : List Command
of_both = of_option (codes "p") ∷ of_option (codes "q") ∷ []

-- the file 1 with the line 1, and the directory 2
abbrev pub begun : List Command
begun = of_both
    ++ commit_in 2 (false ∷ false ∷ []) None (everywhere (file_in_root (codes "x") ∷ dir_in_root (codes "a") ∷ []))
    ∷ commit_in 3 (false ∷ false ∷ []) None (everywhere (line_of 1 0 (codes "A") ∷ []))
    ∷ []

-- the file has another name with p, and another with q
abbrev pub renamed : List Command
renamed = begun
    ++ commit_in 4 (true ∷ false ∷ []) (Some 0) (everywhere (renaming 1 (codes "y") ∷ []))
    ∷ commit_in 5 (false ∷ true ∷ []) (Some 1) (everywhere (renaming 1 (codes "z") ∷ []))
    ∷ []

-- it is removed with p, moved into the directory with q, and has a line more
abbrev pub grown : List Command
grown = renamed
    ++ commit_in 6 (true ∷ false ∷ []) (Some 0) (everywhere (removing 1 ∷ []))
    ∷ commit_in 7 (false ∷ true ∷ []) (Some 1) (everywhere (moving 1 2 ∷ []))
    ∷ commit_in 8 (false ∷ false ∷ []) None (everywhere (line_of 1 1 (codes "B") ∷ []))
    ∷ []

-- a file for those with d alone
abbrev pub file_for_d : List Command
file_for_d = of_option (codes "d") ∷ commit_in 1 (true ∷ []) (Some 0) (everywhere (file_in_root (codes "x") ∷ [])) ∷ []

-- three directories, of which one is in another with p, and the third isn't there with p
abbrev pub directories : List Command
directories = of_option (codes "p")
    ∷ commit_in 1 (true ∷ []) None (everywhere (dir_in_root (codes "a") ∷ dir_in_root (codes "b") ∷ dir_in_root (codes "c") ∷ []))
    ∷ commit_in 2 (true ∷ []) (Some 0) (everywhere (moving 1 2 ∷ removing 3 ∷ []))
    ∷ []
