use Rattle.std.proofs.Common.{subst}
use Rattle.cov_dd.specs.Memos.{IsDistinct, MemoValue}
use Rattle.cov_dd.proofs.Descent.{combined_bound}
use Rattle.cov_dd.proofs.table.Table.combine.Goals as goal

pub returns-clause-bound : goal.returns-clause-bound
returns-clause-bound g c =
    combined_bound c.args.operation c.args.self.now c.descend.new.self c.args.a c.args.b c.new-memo.result.made c.descend.new.memo.made c.args.steps.now c.descend.new.steps
    c.requires.a c.requires.b c.new-memo.ensures c.descend.ensures.runs (subst (λ (m : MemoValue). IsDistinct m.made) c.memo.view_is c.memo.invariant)
