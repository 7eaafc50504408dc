-- What a run does that reads the bytes of a journal.
use Rattle.std.specs.Prelude.{◌≡◌, ◌⊎◌, ℕ, Bool, true, List, [], ◌++◌, Option, Some}
use Rattle.cov_base.specs.Causes.{Rose}
use Rattle.cov_io.specs.Devices.{AppendsAll, AppendsSome}
use Rattle.cov_lines.specs.States.{State}
use Rattle.cov_loop.specs.Outcome.{Outcome}
use Rattle.cov_out.specs.declared.row.OutRow.{OutRow}
use Rattle.cov_replica.specs.Taken.{taken}
use Rattle.cov_serve.specs.Jobs.{JobOutcome, OnEnd, RowsPrecede, replies, rows_of, served_status}
use Rattle.cov_serve.specs.declared.status.Status.{Status}
use Rattle.cov_serve.specs.declared.status.Status.TheVariants as statuses

-- bytes are fed: what is taken of them with what is left of a text is what is taken of those before with the text
pub record FeedsOn (text old new : List ℕ) (left : Option (List ℕ)) : Type 0 where
  pub rest : List ℕ
  pub left_is : left ≡ Some rest
  pub same : taken (new ++ rest) ≡ taken (old ++ text)

-- a piece of so many bytes is fed: none only at the end
abbrev pub FeedsPiece : List ℕ → List ℕ → List ℕ → Option (List ℕ) → ℕ → Type 0
FeedsPiece text old new left count = FeedsOn text old new left × (count ≡ 0 → left ≡ Some [])

-- all of a text is fed
abbrev pub FeedsAll : List ℕ → List ℕ → List ℕ → Option (List ℕ) → Type 0
FeedsAll text old new left = (taken new ≡ taken (old ++ text)) × (left ≡ Some [])

-- why a run ends behind its source: it has put all, or a call failed that it makes, or memory is wanting
abbrev pub StopsPutting : Bool → Status → ℕ → ℕ → ℕ → ℕ → Type 0
StopsPutting writes statuses.Done sink sink' trees trees' = Unit {0}
StopsPutting writes statuses.SomeRefused sink sink' trees trees' = Unit {0}
StopsPutting writes statuses.NotAStore sink sink' trees trees' = Unit {0}
StopsPutting writes (statuses.Damaged number cause) sink sink' trees trees' = Unit {0}
StopsPutting writes statuses.NoMemory sink sink' trees trees' = Unit {0}
StopsPutting writes statuses.WriteFault sink sink' trees trees' = Rose sink sink'
StopsPutting writes statuses.TreesFault sink sink' trees trees' = (writes ≡ true) × Rose trees trees'
StopsPutting writes status sink sink' trees trees' = ⊥

-- a run puts what it comes to, or the first of it where it doesn't come to its end
pub record Puts (all : JobOutcome) (written written' : Option (List ℕ)) (grown grown' : Option (List OutRow))
    (sink sink' trees trees' : ℕ) (status : Status) : Type 0 where
  pub front : AppendsSome (replies all.turns) written written'
  pub whole : OnEnd status (AppendsAll (replies all.turns) written written')
  pub rows : AppendsSome (rows_of all.turns) grown grown'
  pub rows_whole : OnEnd status (AppendsAll (rows_of all.turns) grown grown')
  pub rows_first : (before : List ℕ) (rows : List OutRow) → written ≡ Some before → grown ≡ Some rows
      → RowsPrecede all.turns before rows written' grown'
  pub ends : OnEnd status (status ≡ all.status)
  pub stopped : StopsPutting all.writes status sink sink' trees trees'

-- the reply to a line is put behind its rows, or the first of them where the run doesn't come to its end
pub record PutsAnswer (answered : Outcome State) (written written' : Option (List ℕ)) (grown grown' : Option (List OutRow))
    (sink sink' trees trees' : ℕ) (status : Status) : Type 0 where
  pub front : AppendsSome answered.reply written written'
  pub whole : OnEnd status (AppendsAll answered.reply written written')
  pub rows : AppendsSome answered.rows grown grown'
  pub rows_whole : OnEnd status (AppendsAll answered.rows grown grown')
  pub first : AppendsAll answered.rows grown grown' ⊎ (written' ≡ written)
  pub ends : OnEnd status (status ≡ served_status answered.is_refused)
  pub stopped : StopsPutting true status sink sink' trees trees'
