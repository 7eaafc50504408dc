-- What a checkout writes.
use Rattle.std.specs.Prelude.{◌≡◌, ℕ, false, List, ◌∷◌, ◌++◌, map, Option, Some, None}
use Rattle.cov_base.specs.declared.number.Kind.{Kind}
use Rattle.cov_base.specs.declared.number.Kind.TheVariants.{Dir, File}
use Rattle.cov_loop.specs.Answers.{kind_of}
use Rattle.cov_loop.specs.declared.answer.Reply.{Reply}
use Rattle.cov_out.specs.Rows.{dir_row, out_row}
use Rattle.cov_out.specs.declared.row.OutRow.{OutRow}
use Rattle.cov_script.specs.Replies.{checkout_reply}
use Rattle.cov_view.specs.Tree.{digest_of, dirs_in, files_in}
use Rattle.cov_view.specs.declared.tree.TreeRow.{TreeRow}

-- the bytes of a file, None for a directory
abbrev pub bytes_if_file : Kind → List ℕ → Option (List ℕ)
bytes_if_file Dir bytes = None
bytes_if_file File bytes = Some bytes

-- a row of a tree, in the directory of the tree's name
abbrev pub row_in : List ℕ → TreeRow → OutRow
row_in tree r = out_row (tree ++ 47 ∷ r.path) (bytes_if_file r.kind r.bytes)

-- the rows of a tree: the directory of its name, and all that is in it
abbrev pub rows_in : List ℕ → List TreeRow → List OutRow
rows_in tree rows = dir_row tree ∷ map (row_in tree) rows

-- the reply to a checkout: the name, how many directories and files are in the tree, and its digest
abbrev pub tree_reply : List ℕ → List TreeRow → List ℕ
tree_reply tree rows = checkout_reply tree (dirs_in rows) (files_in rows) (digest_of rows)

-- a reply with its rows is that of a tree
pub record TellsTree (tree : List ℕ) (written : List TreeRow) (reply : Reply) : Type 0 where
  pub text : reply.text ≡ tree_reply tree written
  pub rows : reply.rows ≡ rows_in tree written
  pub answer : reply.answer ≡ kind_of reply.text false
