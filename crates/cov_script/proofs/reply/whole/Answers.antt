use Rattle.std.proofs.Common.{sym, ◌∙◌, arith}
use Rattle.std.proofs.lemmas.List.{append-nil}
use Rattle.cov_script.proofs.Joining.{joined_more, joined_all}
use Rattle.cov_script.proofs.reply.whole.Goals as goal

pub loop-index-init : goal.loop-index-init
loop-index-init c = c.in_ok-text.ensures ∙ sym (append-nil c.args.first.now)

pub loop-index-preserved : goal.loop-index-preserved
loop-index-preserved c =
    c.in_ok-append_line.ensures ∙ joined_more c.args.first.now c.args.lines.now c.loop-index.text c.loop-index.index (omega arith) c.loop-index.invariant

pub returns : goal.returns
returns c = joined_all c.args.first.now c.args.lines.now c.loop-index.text c.loop-index.index (omega arith) c.loop-index.invariant
