use Rattle.std.proofs.Common.{◌≡◌, ◌++◌, length, map}
use Rattle.std.specs.List.{concat}
use Rattle.cov_script.specs.Replies.{count_reply}
use Rattle.cov_lines.proofs.reply.lines_reply.Given as goal

abbrev pub invariant-rows : goal.invariant-rows
invariant-rows g l = l.reply ++ concat (map g.T.Told.line l.ahead) ≡ count_reply (length l.rows) ++ concat (map g.T.Told.line l.rows)

abbrev pub decreases-rows : goal.decreases-rows
decreases-rows g l = length l.ahead
