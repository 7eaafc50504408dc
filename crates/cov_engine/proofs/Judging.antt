-- From the rows with a plan to the refusal of a commit.
use Rattle.std.proofs.Common.{◌≡◌, ℕ, ◌+◌, ◌≤◌, Bool, true, false, cond, ◌&&◌, List, [], ◌∷◌, ◌++◌, length, Option, Some, None, option_map, refl, sym, ap, subst, ◌∙◌}
use Rattle.std.specs.List.{list_any}
use Rattle.cov_base.specs.Choices.{with_option}
use Rattle.cov_base.specs.Faults.{Fault, Clash, Orphan, Loop}
use Rattle.cov_base.specs.Rows.{AreOnce}
use Rattle.cov_dd.specs.declared.triple.Triple.{Triple}
use Rattle.cov_dd.specs.Diagrams.{value_in, Stands}
use Rattle.cov_expr.specs.Formula.{Formula, value}
use Rattle.cov_edit.specs.declared.edit.Edit.{Edit}
use Rattle.cov_edit.specs.declared.command.Command.{Command}
use Rattle.cov_edit.specs.declared.command.Command.TheVariants as commands
use Rattle.cov_edit.specs.declared.sided.Sided.{Sided}
use Rattle.cov_edit.specs.History.{option_count, is_valid_in}
use Rattle.cov_edit.specs.Numbering.{numbers_of, line_count}
use Rattle.cov_edit.specs.Replay.{replay}
use Rattle.cov_edit.specs.Sides.{unsided, conditions, reach_within}
use Rattle.cov_tree.specs.declared.entry.Entry.{Entry}
use Rattle.cov_tree.specs.Carried.{AreOnceWith, AreUnreadWith}
use Rattle.cov_tree.specs.Changes.{Makes}
use Rattle.cov_tree.specs.Dated.{Dated, rows_with}
use Rattle.cov_view.specs.Soundness as view
use Rattle.cov_history.specs.BadChoices.{fault_after, as_unsound, fault_refusal, unsound_refusal, refusal_by_rows}
use Rattle.cov_history.specs.RowChanges.{changes_rows}
use Rattle.cov_history.specs.declared.refusal.Refusal.{Refusal}
use Rattle.cov_history.specs.Verdict.{IsLegal}
use Rattle.cov_history.proofs.CallerLemmas.{commit-unread, lines-sound, refusal-by_rows, replay-once}
use Rattle.cov_engine.specs.Evidence.{refusal_for}
use Rattle.cov_engine.specs.Holdings.{AreEntriesOf}
use Rattle.cov_engine.specs.Staged.{StandFor}
use Rattle.cov_visible.specs.Resolved.{AreResolved}
use Rattle.cov_visible.specs.RowPlans.{row_changes}
use Rattle.cov_visible.specs.declared.file_part.FilePart.{FilePart}
use Rattle.cov_visible.specs.declared.resolved_edit.ResolvedEdit.{ResolvedEdit}
use Rattle.cov_edit.specs.Variant.{Variant}
use Rattle.cov_engine.proofs.RowPlans.{planned-rows}

-- the refusal for a fault of rows is that for the fault that a view tells
pub refusal-told : (c : List Bool) (o : Option Fault) → option_map (refusal_for c) (option_map view.as_fault o) ≡ option_map (fault_refusal c) o
refusal-told c None = refl
refusal-told c (Some (Clash low high)) = refl
refusal-told c (Some (Orphan node)) = refl
refusal-told c (Some (Loop node)) = refl

module _ (history : List Command) (ts : List Triple) (entries : Dated) (ambition : Formula ℕ) (node : ℕ) (es : List Sided) (plan : List Entry) (of_entries : AreEntriesOf history ts entries)
    (stands : Stands ts node 0 (option_count history) (value ambition)) (on : List ℕ) (applies : StandFor ts (option_count history) (conditions ambition es) on)
    (stored : List FilePart) (ss : List ResolvedEdit) (resolved : AreResolved (length history + 1) stored (numbers_of history).nodes (line_count history) on ts (unsided es) ss)
    (changes : Makes ts entries plan (row_changes ss)) where
  rows : (base : ℕ) (choice : List Bool) (c : List Bool) → rows_with ts c plan entries ≡ (replay c (history ++ commands.Commit base choice ambition es ∷ [])).rows
  rows base choice = planned-rows history base choice ambition es ts on applies entries plan of_entries stored ss resolved changes

  -- on each choice the rows with a plan of a commit are of different nodes but the root
  pub once-with : AreOnceWith ts plan entries
  once-with = λ c. subst AreOnce (sym (rows 0 [] c)) (replay-once c (history ++ commands.Commit 0 [] ambition es ∷ []))

  -- and depend on no option that isn't declared
  pub unread-with : IsLegal history → reach_within ambition es ≤ option_count history → AreUnreadWith ts plan entries (option_count history)
  unread-with legal named = λ o most c whole.
      rows 0 [] (with_option c o true)
      ∙ ap (λ (v : Variant). v.rows) (commit-unread history 0 [] ambition es legal named o most c)
      ∙ sym (rows 0 [] (with_option c o false))

  -- the refusal that is told is that of the commit, whatever its base and choice
  pub refusal-judged : (base : ℕ) (choice : List Bool) (valid : ℕ) → IsLegal history → ((c : List Bool) → value_in ts valid c ≡ is_valid_in history c)
      → cond (list_any changes_rows (unsided es)) (refusal_by_rows (λ c. rows_with ts c plan entries) (λ c. value_in ts valid c && value_in ts node c) (option_count history)) None
      ≡ unsound_refusal history ambition (commands.Commit base choice ambition es)
  refusal-judged base choice valid legal are = by (list_any changes_rows (unsided es)) refl
    where
      k : Command
      k = commands.Commit base choice ambition es

      by : (b : Bool) → list_any changes_rows (unsided es) ≡ b
          → cond b (refusal_by_rows (λ c. rows_with ts c plan entries) (λ c. value_in ts valid c && value_in ts node c) (option_count history)) None ≡ unsound_refusal history ambition k
      by true is =
          refusal-by_rows history ambition k (λ c. rows_with ts c plan entries) (λ c. value_in ts valid c && value_in ts node c) (rows base choice) (λ c i. are c i && stands.value c i)
      by false is = sym (ap (as_unsound (fault_after history k)) (lines-sound history base choice ambition es legal is))

  -- so is one that is told for as many options and the same edits
  pub told-refusal : (base : ℕ) (choice : List Bool) (valid : ℕ) → IsLegal history → ((c : List Bool) → value_in ts valid c ≡ is_valid_in history c) → (count : ℕ) (some : List Edit) (told found : Option Refusal) → count ≡ option_count history → some ≡ unsided es
      → told ≡ cond (list_any changes_rows some) (refusal_by_rows (λ c. rows_with ts c plan entries) (λ c. value_in ts valid c && value_in ts node c) count) None → told ≡ found
      → unsound_refusal history ambition (commands.Commit base choice ambition es) ≡ found
  told-refusal base choice valid legal are count some told found few same is goes =
      sym (refusal-judged base choice valid legal are)
      ∙ sym (is
      ∙ ap (λ n. cond (list_any changes_rows some) (refusal_by_rows (λ c. rows_with ts c plan entries) (λ c. value_in ts valid c && value_in ts node c) n) None) few
      ∙ ap (λ xs. cond (list_any changes_rows xs) (refusal_by_rows (λ c. rows_with ts c plan entries) (λ c. value_in ts valid c && value_in ts node c) (option_count history)) None) same)
      ∙ goes
