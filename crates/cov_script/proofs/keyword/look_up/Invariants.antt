use Rattle.std.proofs.Common.{◌≡◌, map, length}
use Rattle.cov_script.specs.Lines.{looked_up}
use Rattle.cov_script.proofs.keyword.look_up.Given as goal

abbrev pub invariant-loop-words : goal.invariant-loop-words
invariant-loop-words l = looked_up (map (λ w. (w.0.now, w.1)) l.words) l.bytes ≡ looked_up (map (λ w. (w.0.now, w.1)) l.fn.words) l.bytes

abbrev pub decreases-loop-words : goal.decreases-loop-words
decreases-loop-words l = length l.words
