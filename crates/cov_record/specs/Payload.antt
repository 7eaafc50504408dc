-- The one spelling of each command.
use Rattle.std.specs.Prelude.{ℕ, Bool, true, false, cond, List, [], ◌∷◌, ◌++◌, length, map}
use Rattle.std.specs.Int.{w16, w32, to_be_bytes}
use Rattle.cov_base.specs.declared.number.Kind.{Kind}
use Rattle.cov_base.specs.declared.number.Kind.TheVariants.{File, Dir}
use Rattle.cov_base.specs.declared.number.NodeRef.{NodeRef}
use Rattle.cov_base.specs.declared.number.NodeRef.TheVariants as nodes
use Rattle.cov_base.specs.declared.number.LineRef.{LineRef}
use Rattle.cov_base.specs.declared.number.LineRef.TheVariants as lines
use Rattle.cov_expr.specs.Formula.{Formula, False, True, On, Not, And, Or}
use Rattle.cov_edit.specs.Sides.{unsided}
use Rattle.cov_edit.specs.declared.edit.Edit.{Edit}
use Rattle.cov_edit.specs.declared.edit.Edit.TheVariants as edits
use Rattle.cov_edit.specs.declared.sided.Sided.{Sided}
use Rattle.cov_edit.specs.declared.command.Command.{Command}
use Rattle.cov_edit.specs.declared.command.Command.TheVariants as commands
use Rattle.cov_record.specs.SideRuns.{SideRun, side_runs, has_sides}

-- forms, one behind another
abbrev pub run_of : {X : Type 0} → (X → List ℕ) → List X → List ℕ
run_of spelling [] = []
run_of spelling (x ∷ xs) = spelling x ++ run_of spelling xs

-- the byte of a truth value
abbrev pub bit : Bool → ℕ
bit on = cond on 1 0

-- a choice: how many options, and a byte for each
abbrev pub choice_spelling : List Bool → List ℕ
choice_spelling c = length c ∷ map bit c

-- an expression, an operator before what it stands over
abbrev pub expression_spelling : Formula ℕ → List ℕ
expression_spelling False = 0 ∷ []
expression_spelling True = 1 ∷ []
expression_spelling (On o) = 2 ∷ o ∷ []
expression_spelling (Not e) = 3 ∷ expression_spelling e
expression_spelling (And a b) = 4 ∷ (expression_spelling a ++ expression_spelling b)
expression_spelling (Or a b) = 5 ∷ (expression_spelling a ++ expression_spelling b)

-- the byte of a file and of a directory
abbrev pub kind_byte : Kind → ℕ
kind_byte File = 0
kind_byte Dir = 1

-- a reference to a node
abbrev pub node_spelling : NodeRef → List ℕ
node_spelling (nodes.Old x) = 0 ∷ to_be_bytes w32 x
node_spelling (nodes.New i) = 1 ∷ to_be_bytes w32 i

-- a reference to a line
abbrev pub line_spelling : LineRef → List ℕ
line_spelling (lines.Old x) = 0 ∷ to_be_bytes w32 x
line_spelling (lines.New i) = 1 ∷ to_be_bytes w32 i

-- a name behind its length
abbrev pub name_spelling : List ℕ → List ℕ
name_spelling name = length name ∷ name

-- a line's text behind its length
abbrev pub text_spelling : List ℕ → List ℕ
text_spelling text = to_be_bytes w16 (length text) ++ text

-- an edit: which of the six it is, and then its parts
abbrev pub edit_spelling : Edit → List ℕ
edit_spelling (edits.New kind parent name) = 1 ∷ kind_byte kind ∷ (node_spelling parent ++ name_spelling name)
edit_spelling (edits.Insert file after text) = 2 ∷ (node_spelling file ++ (line_spelling after ++ text_spelling text))
edit_spelling (edits.Delete file line) = 3 ∷ (node_spelling file ++ line_spelling line)
edit_spelling (edits.Rename node name) = 4 ∷ (node_spelling node ++ name_spelling name)
edit_spelling (edits.Move node parent) = 5 ∷ (node_spelling node ++ node_spelling parent)
edit_spelling (edits.Remove node) = 6 ∷ node_spelling node

-- edits, one behind another
abbrev pub all_edit_spelling : List Edit → List ℕ
all_edit_spelling es = run_of edit_spelling es

-- edits behind their number
abbrev pub edits_spelling : List Edit → List ℕ
edits_spelling es = to_be_bytes w32 (length es) ++ all_edit_spelling es

-- edits of one side: the side, and the edits behind their number
abbrev pub run_spelling : SideRun → List ℕ
run_spelling run = expression_spelling run.side ++ edits_spelling run.edits

-- runs behind their number
abbrev pub runs_spelling : List SideRun → List ℕ
runs_spelling runs = to_be_bytes w32 (length runs) ++ run_of run_spelling runs

-- the byte of a commit, by whether the sides of its edits are spelt
abbrev pub commit_byte : Bool → ℕ
commit_byte with_sides = cond with_sides 6 5

-- the edits of a commit: by runs of one side where their sides are spelt
abbrev pub sided_spelling : Bool → List Sided → List ℕ
sided_spelling true ss = runs_spelling (side_runs ss)
sided_spelling false ss = edits_spelling (unsided ss)

-- a commit, with the sides of its edits or without
abbrev pub commit_spelling : Bool → ℕ → List Bool → Formula ℕ → List Sided → List ℕ
commit_spelling with_sides base choice ambition ss =
    commit_byte with_sides ∷ (to_be_bytes w32 base ++ (choice_spelling choice ++ (expression_spelling ambition ++ sided_spelling with_sides ss)))

-- the payload of a command; the sides of a commit's edits are spelt where one of them isn't True
abbrev pub payload : Command → List ℕ
payload (commands.Option name) = 1 ∷ name_spelling name
payload (commands.Constraint expr) = 2 ∷ expression_spelling expr
payload (commands.Prefer expr) = 3 ∷ expression_spelling expr
payload (commands.Default option on) = 4 ∷ option ∷ bit on ∷ []
payload (commands.Commit base choice ambition ss) = commit_spelling (has_sides ss) base choice ambition ss
payload commands.Upgrade = 7 ∷ []
