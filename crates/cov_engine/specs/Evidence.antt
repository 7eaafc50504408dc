-- What is found of the faults of rows with a plan.
use Rattle.std.specs.Prelude.{ℕ, ◌<◌, ◌≤◌, Bool, ◌&&◌, List, Option}
use Rattle.std.specs.List.{find}
use Rattle.cov_base.specs.Choices.{all_choices}
use Rattle.cov_base.specs.Rows.{Row}
use Rattle.cov_base.specs.declared.limits.TheConstants.{CHOICE_WIDTH}
use Rattle.cov_dd.specs.declared.triple.Triple.{Triple}
use Rattle.cov_dd.specs.Diagrams.{diagram_size, span, value_in}
use Rattle.cov_tree.specs.declared.entry.Entry.{Entry}
use Rattle.cov_tree.specs.Carried.{AreNodesWith, AreOnceWith, AreUnreadWith}
use Rattle.cov_tree.specs.Dated.{Dated, rows_with}
use Rattle.cov_view.specs.declared.fault.Fault.{Fault}
use Rattle.cov_view.specs.declared.fault.Fault.TheVariants as faults
use Rattle.cov_history.specs.BadChoices.{is_faulty, refusal_by_rows}
use Rattle.cov_history.specs.declared.refusal.Refusal.{Refusal}
use Rattle.cov_history.specs.declared.refusal.Refusal.TheVariants as refusals

-- the rows with a plan can be tested on the choices of so many options on which two nodes are true
pub record CanBeTested (ts : List Triple) (entries : Dated) (plan : List Entry) (valid ambition count : ℕ) : Type 0 where
  pub valid_within : valid < diagram_size ts
  pub ambition_within : ambition < diagram_size ts
  pub rows_within : AreNodesWith ts plan entries
  pub once : AreOnceWith ts plan entries
  pub most : count ≤ CHOICE_WIDTH
  pub valid_options : span ts valid ≤ count
  pub ambition_options : span ts ambition ≤ count
  pub unread : AreUnreadWith ts plan entries count

module _ (ts : List Triple) (entries : Dated) (plan : List Entry) (valid ambition count : ℕ) where
  -- the rows with the plan on a choice
  abbrev planned_rows : List Bool → List Row
  planned_rows c = rows_with ts c plan entries

  -- whether both nodes are true on a choice
  abbrev both_true : List Bool → Bool
  both_true c = value_in ts valid c && value_in ts ambition c

  -- the first choice on which both nodes are true and the rows have a fault
  abbrev pub first_faulty : Option (List Bool)
  first_faulty = find (is_faulty planned_rows both_true) (all_choices count)

  -- the refusal for the fault of the rows there
  abbrev pub refusal_by_plan : Option Refusal
  refusal_by_plan = refusal_by_rows planned_rows both_true count

-- the refusal for a fault that a view tells on a choice
abbrev pub refusal_for : List Bool → Fault → Refusal
refusal_for c (faults.Clash low high) = refusals.Clash low high c
refusal_for c (faults.Orphan node) = refusals.Orphan node c
refusal_for c (faults.Loop node) = refusals.Loop node c
