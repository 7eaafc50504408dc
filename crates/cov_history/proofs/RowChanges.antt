-- What a commit makes of the rows.
use Rattle.std.proofs.Common.{◌≡◌, ℕ, Bool, true, false, cond, List, [], ◌∷◌, ◌++◌, map, None, refl, ap, ◌∙◌}
use Rattle.std.specs.List.{fold, filter, list_any, cons_option}
use Rattle.std.proofs.lemmas.Bool.{or_parts}
use Rattle.cov_base.specs.Rows.{changed}
use Rattle.cov_expr.specs.Formula.{Formula, value}
use Rattle.cov_edit.specs.declared.edit.Edit.{Edit}
use Rattle.cov_edit.specs.declared.edit.Edit.TheVariants as edits
use Rattle.cov_edit.specs.declared.sided.Sided.{Sided}
use Rattle.cov_edit.specs.declared.command.Command.{Command}
use Rattle.cov_edit.specs.declared.command.Command.TheVariants as commands
use Rattle.cov_edit.specs.Numbering.{Numbers, NumberedEdit, OnRows, Inserted, Deleted, node_count_after, line_count_after, numbers_after, numbers_of, numbered_edit, numbered_from}
use Rattle.cov_edit.specs.Sides.{unsided, conditions}
use Rattle.cov_edit.specs.Variant.{Variant, edited}
use Rattle.cov_edit.specs.Replay.{Change, applying, the_change, applies, first_within, rest_within, changes_within, commit_changes, replay}
use Rattle.cov_edit.proofs.CallerLemmas.{replay-commit, those_that_apply}
use Rattle.cov_history.specs.RowChanges.{changes_rows, row_change, row_changes}

rows-changed : (v : Variant) (ds : List NumberedEdit) → (fold edited v ds).rows ≡ fold changed v.rows (row_changes ds)
rows-changed v [] = refl
rows-changed v (OnRows change ∷ ds) = rows-changed (edited v (OnRows change)) ds
rows-changed v (Inserted file address text ∷ ds) = rows-changed (edited v (Inserted file address text)) ds
rows-changed v (Deleted file address ∷ ds) = rows-changed (edited v (Deleted file address)) ds

-- a commit makes those of its changes of the rows that apply
pub rows-committed : (c : List Bool) (history : List Command) (base : ℕ) (choice : List Bool) (ambition : Formula ℕ) (ss : List Sided)
    → (replay c (history ++ commands.Commit base choice ambition ss ∷ [])).rows
    ≡ fold changed (replay c history).rows (row_changes (map the_change (filter (applies c) (commit_changes (numbers_of history) ambition ss))))
rows-committed c history base choice ambition ss =
    let changes : List Change = commit_changes (numbers_of history) ambition ss in
    ap (λ v. v.rows) (replay-commit c history base choice ambition ss ∙ those_that_apply c (replay c history) changes)
    ∙ rows-changed (replay c history) (map the_change (filter (applies c) changes))

-- edits of lines make no change of the rows
no-change : (ns : Numbers) (t : List (List ℕ)) (node line : ℕ) (e : Edit) → changes_rows e ≡ false → row_change (numbered_edit ns t node line e) ≡ None
no-change ns t node line (edits.New kind parent name) h = absurd (cc)
no-change ns t node line (edits.Insert file after text) h = refl
no-change ns t node line (edits.Delete file which) h = refl
no-change ns t node line (edits.Rename which name) h = absurd (cc)
no-change ns t node line (edits.Move which parent) h = absurd (cc)
no-change ns t node line (edits.Remove which) h = absurd (cc)

no-changes : (c : List Bool) (within : List (Formula ℕ)) (ns : Numbers) (t : List (List ℕ)) (node line : ℕ) (es : List Edit) → list_any changes_rows es ≡ false
    → row_changes (map the_change (filter (applies c) (changes_within within (numbered_from ns t node line es)))) ≡ []
no-changes c within ns t node line [] h = refl
no-changes c within ns t node line (e ∷ es) h =
    let parts = or_parts (changes_rows e) (list_any changes_rows es) h in
    at (value (first_within within) c) parts.0 ∙ no-changes c (rest_within within) ns t (node_count_after node e) (line_count_after line e) es parts.1
  where
    rest : List Change
    rest = filter (applies c) (changes_within (rest_within within) (numbered_from ns t (node_count_after node e) (line_count_after line e) es))

    at : (b : Bool) → changes_rows e ≡ false
        → row_changes (map the_change (cond b (applying (first_within within) (numbered_edit ns t node line e) ∷ rest) rest)) ≡ row_changes (map the_change rest)
    at true k = ap (λ o. cons_option o (row_changes (map the_change rest))) (no-change ns t node line e k)
    at false k = refl

-- so they leave the rows
pub rows-kept : (c : List Bool) (history : List Command) (base : ℕ) (choice : List Bool) (ambition : Formula ℕ) (ss : List Sided) → list_any changes_rows (unsided ss) ≡ false
    → (replay c (history ++ commands.Commit base choice ambition ss ∷ [])).rows ≡ (replay c history).rows
rows-kept c history base choice ambition ss h =
    rows-committed c history base choice ambition ss
    ∙ ap (fold changed (replay c history).rows)
    (no-changes c (conditions ambition ss) (numbers_of history) (numbers_after (numbers_of history) (unsided ss)).addresses _ _ (unsided ss) h)
