use Rattle.cov_dd.proofs.CallerLemmas.{extends_trans}
use Rattle.cov_engine.proofs.meeting.first_meeting.Goals as goal

pub returns-in_err-both-clause-extends : goal.returns-in_err-both-clause-extends
returns-in_err-both-clause-extends c = extends_trans c.args.table.now c.compile.new.table c.and.new.self c.in_ok-node.ensures.extends c.in_err-both.ensures.extends

pub returns-clause-extends : goal.returns-clause-extends
returns-clause-extends c = extends_trans c.args.table.now c.compile.new.table c.and.new.self c.in_ok-node.ensures.extends c.and.ensures.extends
