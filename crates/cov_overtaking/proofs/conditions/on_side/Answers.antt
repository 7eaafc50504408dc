use Rattle.cov_dd.proofs.CallerLemmas.{extends_trans}
use Rattle.std.proofs.lemmas.Result.{IfOk-weaker}
use Rattle.cov_overtaking.proofs.Filling.{conjoined}
use Rattle.cov_overtaking.proofs.conditions.on_side.Goals as goal

pub returns-clause-extends : goal.returns-clause-extends
returns-clause-extends c = extends_trans c.args.table.now c.compile.new.table c.and.new.self c.compile.ensures.extends c.and.ensures.extends

pub returns-clause-is : goal.returns-clause-is
returns-clause-is c =
    IfOk-weaker c.and.result _ _
    (λ n stands. conjoined c.args.table.now c.compile.new.table c.and.new.self c.args.within c.in_ok-node.node n c.args.side.now c.requires c.compile.ensures.extends c.in_ok-node.ensures.stands stands)
    c.and.ensures.stands
