-- When the engine of a server is swept.
use Rattle.std.specs.Prelude.{◌≡◌, ℕ, Bool, true, false, cond, ◌+◌, ◌<◌, ◌%◌, List}
use Rattle.std.specs.List.{count_by}
use Rattle.std.proofs.Common.{refl, arith}
use Rattle.cov_dd.specs.Sweeps.{AreReached}
use Rattle.cov_edit.specs.declared.command.Command.{Command}
use Rattle.cov_edit.specs.declared.command.Command.TheVariants as commands
use Rattle.cov_lines.specs.States.{ServerValue}

-- whether a command is a commit
abbrev pub is_commit : Command → Bool
is_commit (commands.Commit base choice ambition es) = true
is_commit command = false

-- how many commands of a history are commits
abbrev pub commit_count : List Command → ℕ
commit_count history = count_by is_commit history

-- each entry of a server's table is reached from a node that is kept
abbrev pub IsSwept : ServerValue → Type 0
IsSwept s = AreReached s.table s.nodes

-- a server that had counted so many commits is swept where it has counted more, the last of them a 64th
abbrev pub IsSweptSince : ℕ → ServerValue → Type 0
IsSweptSince before s = before < s.commits → s.commits % 64 ≡ 0 → IsSwept s

-- a server that had counted so many commits has counted one more, if there is one
pub record HasCounted (counts : Bool) (before : ℕ) (s : ServerValue) : Type 0 where
  pub commits : s.commits ≡ before + cond counts 1 0
  pub swept : IsSweptSince before s

-- a server counts the commits by which its history grows, and is swept with each 64th
pub record GoesOn (old new : ServerValue) : Type 0 where
  pub counted : new.commits + commit_count old.state.history ≡ old.commits + commit_count new.state.history
  pub swept : IsSweptSince old.commits new

-- one that isn't asked is as it was
pub goes_on_same : (server : ServerValue) → GoesOn server server
goes_on_same server = record { counted = refl; swept = λ more due. absurd (omega (arith, more)) }
