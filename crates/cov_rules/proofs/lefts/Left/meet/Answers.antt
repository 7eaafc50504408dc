use Rattle.cov_dd.proofs.CallerLemmas.{extends_trans}
use Rattle.cov_rules.proofs.Fixing.{met_left}
use Rattle.cov_rules.proofs.lefts.Left.meet.Goals as goal

pub returns-in_err-both-clause-extends : goal.returns-in_err-both-clause-extends
returns-in_err-both-clause-extends c = extends_trans c.args.table.now c.fix.new.table c.and.new.self c.in_ok-fixed.ensures.extends c.in_err-both.ensures.extends

pub returns-clause-extends : goal.returns-clause-extends
returns-clause-extends c = extends_trans c.args.table.now c.fix.new.table c.and.new.self c.in_ok-fixed.ensures.extends c.in_ok-both.ensures.extends

pub returns-clause-meets : goal.returns-clause-meets
returns-clause-meets c =
    met_left c.args.table.now c.fix.new.table c.and.new.self c.args.self.now c.requires.sound c.in_ok-fixed.ensures.extends c.args.node c.in_ok-fixed.fixed c.in_ok-both.both _
    c.in_ok-fixed.ensures.fixed c.requires.options c.in_ok-both.ensures.stands
