use Rattle.std.proofs.Common.{sym, subst}
use Rattle.cov_session.specs.Adding.{IsAdditionFault}
use Rattle.cov_session.specs.Refreshing.{first_lost}
use Rattle.cov_session.proofs.Refreshing.{applied-none, applied-next, room-ahead, lost-by}
use Rattle.cov_session.proofs.session.refreshing.apply_all.Goals as goal

pub loop-ahead-init : goal.loop-ahead-init
loop-ahead-init c = applied-none c.args.view.now c.args.edits.now c.requires.nodes c.requires.lines

pub apply-requires-clause-nodes : goal.apply-requires-clause-nodes
apply-requires-clause-nodes c =
    (room-ahead c.args.view.now c.loop-ahead.view c.args.edits.now c.loop-ahead.ahead.now c.loop-ahead.index c.loop-ahead.invariant c.in-len1-up.len_at_least c.requires.few).0

pub apply-requires-clause-lines : goal.apply-requires-clause-lines
apply-requires-clause-lines c =
    (room-ahead c.args.view.now c.loop-ahead.view c.args.edits.now c.loop-ahead.ahead.now c.loop-ahead.index c.loop-ahead.invariant c.in-len1-up.len_at_least c.requires.few).1

pub loop-ahead-preserved : goal.loop-ahead-preserved
loop-ahead-preserved c =
    applied-next c.args.view.now c.loop-ahead.view c.args.edits.now c.loop-ahead.ahead.now c.loop-ahead.index c.edit-item.result c.edit-item.result c.holding_stands.ensures c.replay_stands.ensures
    c.loop-ahead.invariant c.edit-item.is c.in-len1-up.len_at_least c.apply.new.self c.in-Ok.ensures.accepted c.in-Ok.ensures.applied c.in-Ok.ensures.nodes c.in-Ok.ensures.lines

pub returns-in-Err-clause-refused : goal.returns-in-Err-clause-refused
returns-in-Err-clause-refused c = λ history s here.
    subst (λ fault. IsAdditionFault fault (first_lost history s.session c.args.edits.now)) (sym c.loss.ensures)
    (lost-by c.args.view.now c.loop-ahead.view c.args.edits.now c.loop-ahead.ahead.now c.loop-ahead.index c.edit-item.result c.edit-item.result c.holding_stands.ensures c.replay_stands.ensures
    c.loop-ahead.invariant c.edit-item.is c.in-len1-up.len_at_least c.in-Err.fault c.in-Err.ensures.refused history s here)
