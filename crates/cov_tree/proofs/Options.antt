-- The options on which rows depend.
use Rattle.std.specs.Prelude.{Result, Ok, Err, OnOk, OnErr}
use Rattle.std.proofs.Common.{◌≡◌, ℕ, ◌≤◌, ◌&&◌, Bool, true, false, cond, List, sym, subst, ◌∙◌, arith}
use Rattle.std.specs.Option.{is_some}
use Rattle.cov_base.specs.Choices.{with_option}
use Rattle.cov_base.specs.Rows.{RowChange, changed}
use Rattle.cov_base.specs.Faults.{fault_of}
use Rattle.cov_dd.specs.declared.triple.Triple.{Triple}
use Rattle.cov_dd.specs.Diagrams.{span, value_in, Extends, IsUnread, IsNode}
use Rattle.cov_dd.proofs.CallerLemmas.{beyond_span}
use Rattle.cov_tree.specs.declared.entry.Entry.{Entry}
use Rattle.cov_tree.specs.Carried.{AreUnread}
use Rattle.cov_tree.specs.Entries.{rows_in, AllAreWithin}
use Rattle.cov_tree.specs.Shifts.{Becomes}
use Rattle.cov_tree.proofs.Carried.{unread_grown}

-- what is told of rows depends on no option on which they don't
pub unsound_unread : (t0 new : List Triple) (es : List Entry) (within r most : ℕ) → span t0 within ≤ most → AreUnread (λ c. rows_in t0 c es) most
    → IsNode new r (λ c. value_in t0 within c && is_some (fault_of (rows_in t0 c es))) → IsUnread new r most
unsound_unread t0 new es within r most narrow rows n o le c long =
    n.value (with_option c o true)
    ∙ (λ j. (at true ∙ sym (at false)) j && is_some (fault_of (rows o le c long j)))
    ∙ sym (n.value (with_option c o false))
  where
    at : (on : Bool) → value_in t0 within (with_option c o on) ≡ value_in t0 within c
    at on = beyond_span t0 within o on c (omega (arith, narrow, le))

-- a change whose ambition has no option from one on leaves rows that depend on none from it on
unread_becomes : (old new : List Triple) (before after : List Entry) (change : RowChange) (ambition count : ℕ) → span old ambition ≤ count → AreUnread (λ c. rows_in old c before) count
    → Becomes old new before after change ambition → AreUnread (λ c. rows_in new c after) count
unread_becomes old new before after change ambition count narrow h b o le c long =
    b.rows (with_option c o true)
    ∙ (λ j. cond ((at true ∙ sym (at false)) j) (changed (h o le c long j) change) (h o le c long j))
    ∙ sym (b.rows (with_option c o false))
  where
    at : (on : Bool) → value_in old ambition (with_option c o on) ≡ value_in old ambition c
    at on = beyond_span old ambition o on c (omega (arith, narrow, le))

-- after either result
pub unread_either : {A E : Type 0} (r : Result A E) (old new : List Triple) → Extends old new → (before after : List Entry) (change : RowChange) (ambition : ℕ) → AllAreWithin old before
    → OnOk r (Becomes old new before after change ambition) → OnErr r (after ≡ before)
    → (count : ℕ) → span old ambition ≤ count → AreUnread (λ c. rows_in old c before) count → AreUnread (λ c. rows_in new c after) count
unread_either (Ok a) old new grows before after change ambition within b e count narrow h = unread_becomes old new before after change ambition count narrow h b
unread_either (Err a) old new grows before after change ambition within b e count narrow h =
    subst (λ es. AreUnread (λ c. rows_in new c es) count) (sym e) (unread_grown old new grows before count count (omega arith) within h)
