-- The file that an import makes.
use Rattle.std.proofs.Common.{◌≡◌, ℕ, ◌+◌, ◌<◌, ◌≤◌, Bool, true, false, cond, nat_eq, List, [], ◌∷◌, ◌++◌, length, append_assoc, append-nil, Option, Some, None, sym, ap, ◌∙◌, arith}
use Rattle.std.specs.List.{list_any, AllByRecursion}
use Rattle.std.proofs.lemmas.Bool.Decides.{nat_tests}
use Rattle.cov_base.specs.Rows.{Row, row_of}
use Rattle.cov_base.specs.declared.number.Kind.TheVariants as kinds
use Rattle.cov_base.specs.declared.number.NodeRef.TheVariants as nodes
use Rattle.cov_base.specs.declared.number.LineRef.TheVariants as lines
use Rattle.cov_expr.specs.Formula.{Formula}
use Rattle.cov_edit.specs.declared.edit.Edit.{Edit}
use Rattle.cov_edit.specs.declared.command.Command.{Command}
use Rattle.cov_edit.specs.declared.command.Command.TheVariants as commands
use Rattle.cov_edit.specs.Numbering.{numbers_of, line_count}
use Rattle.cov_edit.specs.Replay.{replay}
use Rattle.cov_history.specs.RowChanges.{changes_rows}
use Rattle.cov_history.proofs.CallerLemmas.{nodes-replay, rows-kept}
use Rattle.cov_cond_text.specs.Conditional.{CondLine, conjunction, runs_of}
use Rattle.cov_cond_text.specs.declared.run.Run.{Run}
use Rattle.cov_engine.specs.Meeting.{least_valid}
use Rattle.cov_cond.specs.Importing.{meant_for_all, chained, making_commit, anchor_at, with_commit, with_run, count_after, run_commits, imported}
use Rattle.cov_cond.proofs.Accepted.{chained-rows}
use Rattle.cov_cond.proofs.Legal.{made-rows}
use Rattle.cov_cond.proofs.Meant.{unsided-all}

module _ (c : List Bool) (history begun : List Command) (file before : ℕ) where
  -- the commits of runs leave the rows
  abbrev Leaves : List Command → Type 0
  Leaves done = (replay c (begun ++ done)).rows ≡ (replay c begun).rows

  run-leaves : (anchor : ℕ) (conditions : List (Formula ℕ)) (texts : List (List ℕ)) (done : List Command) → Leaves done → Leaves (with_run history file anchor conditions texts done)
  run-leaves anchor [] texts done h = h
  run-leaves anchor (e ∷ es) texts done h = at (least_valid history (conjunction (e ∷ es)))
    where
      at : (o : Option (List Bool)) → Leaves (with_commit history file anchor (conjunction (e ∷ es)) texts done o)
      at None = h
      at (Some choice) =
          let inserts : List Edit = chained (nodes.Old file) (lines.Old anchor) 0 texts in
          let k : Command = commands.Commit (length history + 1 + length done) choice (conjunction (e ∷ es)) (meant_for_all inserts) in
          ap (λ j. (replay c j).rows) (sym (append_assoc begun done (k ∷ [])))
          ∙ rows-kept c (begun ++ done) (length history + 1 + length done) choice (conjunction (e ∷ es)) (meant_for_all inserts)
          (ap (list_any changes_rows) (unsided-all inserts) ∙ chained-rows (nodes.Old file) (lines.Old anchor) 0 texts)
          ∙ h

runs-leave : (c : List Bool) (history begun : List Command) (k : ℕ) (rs : List Run) → (replay c (begun ++ run_commits history k rs)).rows ≡ (replay c begun).rows
runs-leave c history begun k [] = ap (λ j. (replay c j).rows) (append-nil begun)
runs-leave c history begun k (r ∷ rs) =
    run-leaves c history begun ((numbers_of history).nodes + 1) (line_count history) (anchor_at (line_count history) k) r.conditions r.texts (run_commits history (count_after k r.conditions r.texts) rs)
    (runs-leave c history begun (count_after k r.conditions r.texts) rs)

-- a row behind others of lesser nodes is that of its node
row-last : (count : ℕ) (rows : List Row) (r : Row) → AllByRecursion (λ s. s.node ≤ count) rows → count < r.node → row_of (rows ++ r ∷ []) r.node ≡ Some r
row-last count [] r h above =
    let own : nat_eq r.node r.node ≡ true = grind (arith, nat_tests) in
    ap (λ b. cond b (Some r) None) own
row-last count (s ∷ rows) r h above =
    let low : s.node ≤ count = h.0 in
    let other : nat_eq s.node r.node ≡ false = grind (arith, nat_tests, low, above) in
    ap (λ b. cond b (Some s) (row_of (rows ++ r ∷ []) r.node)) other ∙ row-last count rows r h.1 above

-- on each choice the new file of an import is there, in its directory and with its name
pub import-makes : (history : List Command) (parent : ℕ) (name : List ℕ) (t : List CondLine) (c : List Bool)
    → row_of (replay c (history ++ imported history parent name t)).rows ((numbers_of history).nodes + 1)
    ≡ Some (record { node = (numbers_of history).nodes + 1; kind = kinds.File; parent = parent; name = name })
import-makes history parent name t c =
    ap (λ j. row_of (replay c j).rows file) (sym (append_assoc history (making_commit history parent name (runs_of t) ∷ []) (run_commits history 0 (runs_of t))))
    ∙ ap (λ rows. row_of rows file)
    (runs-leave c history (history ++ making_commit history parent name (runs_of t) ∷ []) 0 (runs_of t)
    ∙ made-rows c history parent name (runs_of t))
    ∙ row-last (numbers_of history).nodes (replay c history).rows (record { node = file; kind = kinds.File; parent = parent; name = name }) (nodes-replay c history) (omega arith)
  where
    file : ℕ
    file = (numbers_of history).nodes + 1
