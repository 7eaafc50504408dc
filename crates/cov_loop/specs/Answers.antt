-- What one line comes to.
use Rattle.std.specs.Prelude.{◌≡◌, ℕ, nat_eq, nat_le, Bool, true, false, ◌&&◌, List, [], ◌∷◌, length}
use Rattle.cov_base.specs.Causes.{Rose}
use Rattle.cov_base.specs.declared.limits.TheConstants.{MOST_SCRIPT_LINE_BYTES}
use Rattle.cov_loop.specs.Outcome.{Outcome}
use Rattle.cov_loop.specs.declared.answer.Answer.{Answer}
use Rattle.cov_loop.specs.declared.answer.Answer.TheVariants.{Nothing, Refused, Accepted}
use Rattle.cov_loop.specs.declared.answer.Reply.{Reply}
use Rattle.cov_loop.specs.declared.ending.Ending.{Ending}
use Rattle.cov_loop.specs.declared.ending.Ending.TheVariants as endings

-- whether a line is empty or a comment, which begins with a hash
abbrev pub is_silent : List ℕ → Bool
is_silent [] = true
is_silent (b ∷ bs) = nat_eq b 35

-- whether it is that, and not too long to be served
abbrev pub is_passed_over : List ℕ → Bool
is_passed_over line = nat_le (length line) MOST_SCRIPT_LINE_BYTES && is_silent line

-- the kind of a reply: there is none, or it refuses, or it accepts
abbrev pub kind_of : List ℕ → Bool → Answer
kind_of [] is_refused = Nothing
kind_of (b ∷ bs) true = Refused
kind_of (b ∷ bs) false = Accepted

-- the kind of an outcome
abbrev pub answer_of : {S : Type 0} → Outcome S → Answer
answer_of outcome = kind_of outcome.reply outcome.is_refused

abbrev pub is_refusal : Answer → Bool
is_refusal Refused = true
is_refusal Accepted = false
is_refusal Nothing = false

-- a state and a reply are those of an outcome
pub record Gives {S : Type 0} (outcome : Outcome S) (state : S) (reply : Reply) : Type 0 where
  pub state_is : state ≡ outcome.state
  pub text : reply.text ≡ outcome.reply
  pub rows : reply.rows ≡ outcome.rows
  pub answer : reply.answer ≡ answer_of outcome

-- a state and an answer are those of an outcome
pub record IsServed {S : Type 0} (outcome : Outcome S) (state : S) (answer : Answer) : Type 0 where
  pub state_is : state ≡ outcome.state
  pub answer_is : answer ≡ answer_of outcome

-- why a line isn't answered, the count of faults of the disk being known before and after
abbrev pub StopsAnswer : Ending → ℕ → ℕ → Type 0
StopsAnswer endings.NoMemory disk disk' = Unit {0}
StopsAnswer endings.DiskFault disk disk' = Rose disk disk'
StopsAnswer _ disk disk' = ⊥

-- why a line ends the run, the counts of faults of the sink, the disk and the trees being known before and after
abbrev pub StopsLine : Ending → ℕ → ℕ → ℕ → ℕ → ℕ → ℕ → Type 0
StopsLine endings.NoMemory sink sink' disk disk' trees trees' = Unit {0}
StopsLine endings.WriteFault sink sink' disk disk' trees trees' = Rose sink sink'
StopsLine endings.DiskFault sink sink' disk disk' trees trees' = Rose disk disk'
StopsLine endings.TreesFault sink sink' disk disk' trees trees' = Rose trees trees'
StopsLine _ sink sink' disk disk' trees trees' = ⊥
