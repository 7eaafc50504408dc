use Rattle.std.proofs.Common.{◌≡◌, ◌++◌}
use Rattle.cov_serve.specs.Program.{commit_text}
use Rattle.cov_serve.proofs.import.commit_text.Given as goal

abbrev pub invariant-lines : goal.invariant-lines
invariant-lines l = l.text ++ commit_text l.left ≡ commit_text l.fn.count

abbrev pub decreases-lines : goal.decreases-lines
decreases-lines l = l.left
