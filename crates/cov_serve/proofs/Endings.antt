-- How a run ends whose lines were served.
use Rattle.std.proofs.Common.{◌≡◌, ℕ, List, [], Option, IfSome, ◌++◌, Some}
use Rattle.cov_loop.specs.Outcome.{Outcome}
use Rattle.cov_loop.specs.Turns.{HasRows, HasStored, IsWhole, ReadsOut}
use Rattle.cov_loop.specs.declared.ending.Ending.{Ending}
use Rattle.cov_loop.specs.declared.ending.Ending.TheVariants as endings
use Rattle.cov_out.specs.declared.row.OutRow.{OutRow}
use Rattle.cov_serve.specs.Program.{OnServed}
use Rattle.cov_serve.specs.Statuses.{status_of}

pub ended_status : {S : Type 0} (ending : Ending) (outcome : Outcome S) (left : Option (List ℕ)) → ReadsOut ending outcome left
    → OnServed (status_of ending) (λ refused. (outcome.is_refused ≡ refused) × (left ≡ Some []))
ended_status endings.Done outcome left h = h
ended_status endings.SomeRefused outcome left h = h
ended_status endings.NoMemory outcome left h = tt
ended_status endings.ReadFault outcome left h = tt
ended_status endings.WriteFault outcome left h = tt
ended_status endings.DiskFault outcome left h = tt
ended_status endings.TreesFault outcome left h = tt
ended_status endings.TooMuch outcome left h = tt

pub whole_status : {S : Type 0} (ending : Ending) (outcome : Outcome S) (before : List ℕ) (left written : Option (List ℕ)) → IsWhole ending outcome before left written
    → OnServed (status_of ending) (λ refused. written ≡ Some (before ++ outcome.reply))
whole_status endings.Done outcome before left written h = h.2
whole_status endings.SomeRefused outcome before left written h = h.2
whole_status endings.NoMemory outcome before left written h = tt
whole_status endings.ReadFault outcome before left written h = tt
whole_status endings.WriteFault outcome before left written h = tt
whole_status endings.DiskFault outcome before left written h = tt
whole_status endings.TreesFault outcome before left written h = tt
whole_status endings.TooMuch outcome before left written h = tt

pub rows_status : {S : Type 0} (ending : Ending) (outcome : Outcome S) (before : List OutRow) (grown : Option (List OutRow)) → HasRows ending outcome before grown
    → OnServed (status_of ending) (λ refused. grown ≡ Some (before ++ outcome.rows))
rows_status endings.Done outcome before grown h = h
rows_status endings.SomeRefused outcome before grown h = h
rows_status endings.NoMemory outcome before grown h = tt
rows_status endings.ReadFault outcome before grown h = tt
rows_status endings.WriteFault outcome before grown h = tt
rows_status endings.DiskFault outcome before grown h = tt
rows_status endings.TreesFault outcome before grown h = tt
rows_status endings.TooMuch outcome before grown h = tt

pub stored_status : {S : Type 0} (ending : Ending) (stored : S → List ℕ → Type 0) (P : List ℕ → Type 0) (outcome : Outcome S) (contents : Option (List ℕ))
    → ((o : Option (List ℕ)) → IfSome o (stored outcome.state) → IfSome o P) → HasStored ending stored outcome contents → OnServed (status_of ending) (λ refused. IfSome contents P)
stored_status endings.Done stored P outcome contents to h = to contents h
stored_status endings.SomeRefused stored P outcome contents to h = to contents h
stored_status endings.NoMemory stored P outcome contents to h = tt
stored_status endings.ReadFault stored P outcome contents to h = tt
stored_status endings.WriteFault stored P outcome contents to h = tt
stored_status endings.DiskFault stored P outcome contents to h = tt
stored_status endings.TreesFault stored P outcome contents to h = tt
stored_status endings.TooMuch stored P outcome contents to h = tt
