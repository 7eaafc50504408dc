use Rattle.std.proofs.Common.{◌≡◌, ◌≤◌, ◌+◌, length}
use Rattle.cov_cond.specs.Committing.{text_count}
use Rattle.cov_cond.specs.Importing.{plain_texts}
use Rattle.cov_cond.proofs.importing.committing.all_plain.Given as goal

abbrev pub invariant-loop-ahead : goal.invariant-loop-ahead
invariant-loop-ahead l = (l.count + length (plain_texts l.ahead) ≡ length (plain_texts l.runs)) × (l.count + text_count l.ahead ≤ text_count l.runs)

abbrev pub decreases-loop-ahead : goal.decreases-loop-ahead
decreases-loop-ahead l = length l.ahead
