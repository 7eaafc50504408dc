use Rattle.std.proofs.Common.{◌≡◌, ◌++◌, take}
use Rattle.std.specs.List.{concat}
use Rattle.cov_script.proofs.reply.whole.Given as goal

-- the first line and the lines that were taken so far
abbrev pub invariant-loop-index : goal.invariant-loop-index
invariant-loop-index l = l.text ≡ l.fn.first ++ concat (take l.index l.lines)
