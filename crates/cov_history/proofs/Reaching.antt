-- The options that the changes of what is held name.
use Rattle.std.proofs.Common.{◌≡◌, ℕ, zero, suc, ◌+◌, ◌≤◌, Bool, true, false, cond, ◌||◌, not, nat_eq, nat_lt, nat_le, List, [], ◌∷◌, ◌++◌, length, length-append, append_assoc, append-nil, map, take, Option, None, refl, sym, subst, arith}
use Rattle.std.specs.List.{fold, AllByRecursion}
use Rattle.std.proofs.Math.Nat.{max-le}
use Rattle.std.proofs.lemmas.List.{take-append-le}
use Rattle.std.proofs.lemmas.Bool.{or_parts}
use Rattle.std.proofs.lemmas.Bool.Decides.{nat_tests}
use Rattle.cov_base.specs.Rows.{Row, RowChange, Created, Renamed, Moved, Removed, with_name, with_parent}
use Rattle.cov_base.proofs.CallerLemmas.{all-map, all-append, all-placed}
use Rattle.cov_expr.specs.Formula.{Formula, value, reach}
use Rattle.cov_edit.specs.declared.sided.Sided.{Sided}
use Rattle.cov_edit.specs.declared.command.Command.{Command}
use Rattle.cov_edit.specs.declared.command.Command.TheVariants as commands
use Rattle.cov_edit.specs.History.{option_count, first_false_in}
use Rattle.cov_edit.specs.Numbering.{Numbers, NumberedEdit, OnRows, Inserted, Deleted, no_numbers, numbers_after, numbers_of}
use Rattle.cov_edit.specs.Replay.{Change, commit_changes, replay}
use Rattle.cov_edit.specs.Sides.{unsided, reach_within}
use Rattle.cov_edit.proofs.CallerLemmas.{conditions-low, each_change}
use Rattle.cov_edit.specs.Variant.{Line, is_line}
use Rattle.cov_view.proofs.CallerLemmas.{none-first, none-when}
use Rattle.cov_view.specs.Refusals.{when, first_refused}
use Rattle.cov_history.specs.declared.refusal.Refusal.{Refusal}
use Rattle.cov_history.specs.declared.refusal.Refusal.TheVariants as refusals
use Rattle.cov_history.specs.BadChoices.{unsound_refusal}
use Rattle.cov_history.specs.Kept.{Kept, seen_at, new_item, hidden, taken_up, hidden_where, replaced_where, kept_address, new_line, is_row, rows_kept_after, Holding, nothing_held, held_after, held_with, held_from, held_by}
use Rattle.cov_history.specs.Reach.{IsReached, AreReached, IsHeldInReach}
use Rattle.cov_history.specs.Overtaking.{overtaken}
use Rattle.cov_history.specs.Verdict.{verdict, when_full, size_refusals, as_invalid, as_bad_record, as_overtaken, as_outside, first_outside, has_no_edits, IsLegalFrom, IsLegal}
use Rattle.cov_history.proofs.Standing.{all-mapped}

-- later, more options are declared
pub options-later : (p q : ℕ) (history : List Command) → p ≤ q → option_count (take p history) ≤ option_count (take q history)
options-later zero q history h = omega arith
options-later (suc p) zero history h = absurd (omega (arith, h))
options-later (suc p) (suc q) [] h = omega arith
options-later (suc p) (suc q) (commands.Option name ∷ history) h = let rest = options-later p q history (omega (arith, h)) in omega (arith, rest)
options-later (suc p) (suc q) (commands.Constraint expr ∷ history) h = options-later p q history (omega (arith, h))
options-later (suc p) (suc q) (commands.Prefer expr ∷ history) h = options-later p q history (omega (arith, h))
options-later (suc p) (suc q) (commands.Default option on ∷ history) h = options-later p q history (omega (arith, h))
options-later (suc p) (suc q) (commands.Commit base choice ambition ss ∷ history) h = options-later p q history (omega (arith, h))
options-later (suc p) (suc q) (commands.Upgrade ∷ history) h = options-later p q history (omega (arith, h))

module _ (history : List Command) where
  pub seen-reached : (q : ℕ) (changes : List (ℕ × Formula ℕ)) → AllByRecursion (IsReached history) changes → reach (seen_at changes q) ≤ option_count (take q history)
  seen-reached q [] h = omega arith
  seen-reached q (change ∷ changes) h = at (nat_le change.0 q) refl (seen-reached q changes h.1)
    where
      at : (b : Bool) → nat_le change.0 q ≡ b → reach (seen_at changes q) ≤ option_count (take q history) → reach (cond b change.1 (seen_at changes q)) ≤ option_count (take q history)
      at true e rest =
          let early : change.0 ≤ q = grind (arith, nat_tests, e) in
          let more = options-later change.0 q history early in
          let own = h.0.1 in
          omega (arith, more, own)
      at false e rest = rest

  module _ (q : ℕ) (within : Formula ℕ) (known : q ≤ length history) (named : reach within ≤ option_count (take q history)) where
    module _ {X : Type 0} where
      new-reached : (x : X) → AreReached history (new_item q within x)
      new-reached x = ((known, named), tt)

      hidden-reached : (k : Kept X) → AreReached history k → AreReached history (hidden q within k)
      hidden-reached k h = ((known, max-le (seen-reached q k.changes h) named), h)

      taken-reached : (other : X → X) (k : Kept X) → AreReached history k → AreReached history (taken_up q within other k)
      taken-reached other k h = ((known, max-le (seen-reached q k.changes h) named), tt)

      hidden_where-reached : (test : X → Bool) (k : Kept X) → AreReached history k → AreReached history (hidden_where test q within k)
      hidden_where-reached test k h = at (test k.item)
        where
          at : (b : Bool) → AreReached history (cond b (hidden q within k) k)
          at true = hidden-reached k h
          at false = h

      replaced-reached : (test : X → Bool) (other : X → X) (ks : List (Kept X)) → AllByRecursion (AreReached history) ks → AllByRecursion (AreReached history) (replaced_where test other q within ks)
      replaced-reached test other [] h = tt
      replaced-reached test other (k ∷ ks) h = at (test k.item) (replaced-reached test other ks h.1)
        where
          at : (b : Bool) → AllByRecursion (AreReached history) (replaced_where test other q within ks)
              → AllByRecursion (AreReached history) (cond b (hidden q within k ∷ taken_up q within other k ∷ replaced_where test other q within ks) (k ∷ replaced_where test other q within ks))
          at true rest = (hidden-reached k h.0, (taken-reached other k h.0, rest))
          at false rest = (h.0, rest)

      hide-reached : (test : X → Bool) (ks : List (Kept X)) → AllByRecursion (AreReached history) ks → AllByRecursion (AreReached history) (map (hidden_where test q within) ks)
      hide-reached test ks h = all-mapped (AreReached history) (AreReached history) (hidden_where test q within) (hidden_where-reached test) ks h

    change-reached : (ks : List (Kept Row)) (change : RowChange) → AllByRecursion (AreReached history) ks → AllByRecursion (AreReached history) (rows_kept_after q within ks change)
    change-reached ks (Created node kind parent name) h =
        all-append (AreReached history) ks (new_item q within (record { node = node; kind = kind; parent = parent; name = name }) ∷ []) h
        (new-reached {X = Row} (record { node = node; kind = kind; parent = parent; name = name }), tt)
    change-reached ks (Renamed node name) h = replaced-reached (is_row node) (with_name node name) ks h
    change-reached ks (Moved node parent) h = replaced-reached (is_row node) (with_parent node parent) ks h
    change-reached ks (Removed node) h = hide-reached (is_row node) ks h

    edit-reached : (held : Holding) (d : NumberedEdit) → IsHeldInReach history held → IsHeldInReach history (held_after q within held d)
    edit-reached held (OnRows change) h = record { of_rows = change-reached held.rows change h.of_rows; of_lines = h.of_lines }
    edit-reached held (Inserted file address text) h = record {
      of_rows = h.of_rows;
      of_lines = all-placed kept_address (AreReached history) (new_line q within file address text) held.lines (new-reached {X = Line} (record { file = file; address = address; text = text })) h.of_lines;
    }
    edit-reached held (Deleted file address) h = record { of_rows = h.of_rows; of_lines = hide-reached (is_line file address) held.lines h.of_lines }

  edits-reached : (q : ℕ) (held : Holding) (changes : List Change) → q ≤ length history → AllByRecursion (λ change. reach change.within ≤ option_count (take q history)) changes
      → IsHeldInReach history held → IsHeldInReach history (fold (held_with q) held changes)
  edits-reached q held [] known named h = h
  edits-reached q held (change ∷ changes) known named h = edits-reached q (held_with q held change) changes known named.1 (edit-reached q change.within known named.0 held change.edit h)

-- what is reached stays so when the history grows
reached-longer : (history later : List Command) (change : ℕ × Formula ℕ) → IsReached history change → IsReached (history ++ later) change
reached-longer history later change h =
    let known : change.0 ≤ length history = h.0 in
    (omega (arith, known, length-append history later), subst (λ l. reach change.1 ≤ option_count l) (sym (take-append-le change.0 history later known)) h.1)

held-longer : (history later : List Command) (held : Holding) → IsHeldInReach history held → IsHeldInReach (history ++ later) held
held-longer history later held h = record {
  of_rows = all-map (AreReached history) (AreReached (history ++ later)) (λ k j. all-map (IsReached history) (IsReached (history ++ later)) (reached-longer history later) k.changes j) held.rows h.of_rows;
  of_lines = all-map (AreReached history) (AreReached (history ++ later)) (λ k j. all-map (IsReached history) (IsReached (history ++ later)) (reached-longer history later) k.changes j) held.lines h.of_lines;
}

-- an accepted commit's base is in the history, and its ambition and sides name only options declared there
pub accepted-reach : (history : List Command) (base : ℕ) (choice : List Bool) (ambition : Formula ℕ) (ss : List Sided) → verdict history (commands.Commit base choice ambition ss) ≡ None
    → (base ≤ length history) × (reach_within ambition ss ≤ option_count (take base history))
accepted-reach history base choice ambition ss h =
    let behind_full = none-first (when_full history) (bad_base ∷ bad_option ∷ others) h in
    let behind_base = none-when (nat_lt (length history) base) refusals.BadBase (bad_option ∷ others) behind_full.1 in
    let behind_option = none-when (differs || beyond) refusals.BadOption others behind_base.1 in
    let at_base : nat_lt (length history) base ≡ false = behind_base.0 in
    let named : nat_lt (option_count (take base history)) (reach_within ambition ss) ≡ false = (or_parts differs beyond behind_option.0).1 in
    (grind (arith, nat_tests, at_base), grind (arith, nat_tests, named))
  where
    bad_base : Option Refusal
    bad_base = when (nat_lt (length history) base) refusals.BadBase

    differs : Bool
    differs = not (nat_eq (length choice) (option_count (take base history)))

    beyond : Bool
    beyond = nat_lt (option_count (take base history)) (reach_within ambition ss)

    bad_option : Option Refusal
    bad_option = when (differs || beyond) refusals.BadOption

    others : List (Option Refusal)
    others =
        size_refusals history (unsided ss) ++ as_invalid (first_false_in (take base history) choice) ∷ when (not (value ambition choice)) refusals.OutsideAmbition
        ∷ as_outside (first_outside choice ss) ∷ when (has_no_edits ss) refusals.Empty ∷ as_bad_record (first_refused (numbers_of (take base history)) (replay choice (take base history)) (unsided ss))
        ∷ as_overtaken (overtaken history base ambition ss) ∷ unsound_refusal history ambition (commands.Commit base choice ambition ss) ∷ []

commit-reached : (history : List Command) (q base : ℕ) (choice : List Bool) (ambition : Formula ℕ) (ss : List Sided) (held : Holding) (ns : Numbers)
    → q ≡ length history → verdict history (commands.Commit base choice ambition ss) ≡ None → IsHeldInReach history held
    → IsHeldInReach (history ++ commands.Commit base choice ambition ss ∷ []) (fold (held_with (q + 1)) held (commit_changes ns ambition ss))
commit-reached history q base choice ambition ss held ns e h reached =
    let accepted = accepted-reach history base choice ambition ss h in
    let within : base ≤ length history = accepted.0 in
    let grown = length-append history (commands.Commit base choice ambition ss ∷ []) in
    edits-reached longer (q + 1) held (commit_changes ns ambition ss) (omega (arith, e, grown))
    (each_change (λ w. reach w ≤ option_count (take (q + 1) longer)) ambition ns (numbers_after ns (unsided ss)).addresses ns.nodes (length ns.addresses) ss
    (conditions-low (option_count (take (q + 1) longer)) ambition ss (
    let named : reach_within ambition ss ≤ option_count (take base longer) =
    subst (λ l. reach_within ambition ss ≤ option_count l) (sym (take-append-le base history (commands.Commit base choice ambition ss ∷ []) within)) accepted.1 in
    let more = options-later base (q + 1) longer (omega (arith, within, e)) in
    omega (arith, named, more)
    )))
    (held-longer history (commands.Commit base choice ambition ss ∷ []) held reached)
  where
    longer : List Command
    longer = history ++ commands.Commit base choice ambition ss ∷ []

reached-from : (before : List Command) (q : ℕ) (held : Holding) (ns : Numbers) (history : List Command) → q ≡ length before → IsLegalFrom before history → IsHeldInReach before held
    → IsHeldInReach (before ++ history) (held_from q held ns history)
reached-from before q held ns [] e legal h = subst (λ l. IsHeldInReach l held) (sym (append-nil before)) h
reached-from before q held ns (commands.Commit base choice ambition ss ∷ history) e legal h =
    subst (λ l. IsHeldInReach l (held_from (q + 1) (fold (held_with (q + 1)) held (commit_changes ns ambition ss)) (numbers_after ns (unsided ss)) history)) (append_assoc before (commands.Commit base choice ambition ss ∷ []) history)
    (reached-from (before ++ commands.Commit base choice ambition ss ∷ []) (q + 1) (fold (held_with (q + 1)) held (commit_changes ns ambition ss)) (numbers_after ns (unsided ss)) history
    (omega (arith, e, length-append before (commands.Commit base choice ambition ss ∷ []))) legal.2
    (commit-reached before q base choice ambition ss held ns e legal.1 h))
reached-from before q held ns (commands.Option name ∷ history) e legal h =
    subst (λ l. IsHeldInReach l (held_from (q + 1) held ns history)) (append_assoc before (commands.Option name ∷ []) history)
    (reached-from (before ++ commands.Option name ∷ []) (q + 1) held ns history (omega (arith, e, length-append before (commands.Option name ∷ []))) legal.2
    (held-longer before (commands.Option name ∷ []) held h))
reached-from before q held ns (commands.Constraint expr ∷ history) e legal h =
    subst (λ l. IsHeldInReach l (held_from (q + 1) held ns history)) (append_assoc before (commands.Constraint expr ∷ []) history)
    (reached-from (before ++ commands.Constraint expr ∷ []) (q + 1) held ns history (omega (arith, e, length-append before (commands.Constraint expr ∷ []))) legal.2
    (held-longer before (commands.Constraint expr ∷ []) held h))
reached-from before q held ns (commands.Prefer expr ∷ history) e legal h =
    subst (λ l. IsHeldInReach l (held_from (q + 1) held ns history)) (append_assoc before (commands.Prefer expr ∷ []) history)
    (reached-from (before ++ commands.Prefer expr ∷ []) (q + 1) held ns history (omega (arith, e, length-append before (commands.Prefer expr ∷ []))) legal.2
    (held-longer before (commands.Prefer expr ∷ []) held h))
reached-from before q held ns (commands.Default option on ∷ history) e legal h =
    subst (λ l. IsHeldInReach l (held_from (q + 1) held ns history)) (append_assoc before (commands.Default option on ∷ []) history)
    (reached-from (before ++ commands.Default option on ∷ []) (q + 1) held ns history (omega (arith, e, length-append before (commands.Default option on ∷ []))) legal.2
    (held-longer before (commands.Default option on ∷ []) held h))
reached-from before q held ns (commands.Upgrade ∷ history) e legal h =
    subst (λ l. IsHeldInReach l (held_from (q + 1) held ns history)) (append_assoc before (commands.Upgrade ∷ []) history)
    (reached-from (before ++ commands.Upgrade ∷ []) (q + 1) held ns history (omega (arith, e, length-append before (commands.Upgrade ∷ []))) legal.2
    (held-longer before (commands.Upgrade ∷ []) held h))

pub legal-reached : (history : List Command) → IsLegal history → IsHeldInReach history (held_by history)
legal-reached history legal = reached-from [] 0 nothing_held no_numbers history refl legal (record { of_rows = tt; of_lines = tt })
