use Rattle.std.proofs.Common.{subst}
use Rattle.cov_dd.specs.Memos.{IsDistinct, MemoValue}
use Rattle.cov_dd.proofs.Cofactors.{restricted_entries}
use Rattle.cov_dd.proofs.table.Table.restrict.Goals as goal

pub returns-clause-entries : goal.returns-clause-entries
returns-clause-entries c =
    restricted_entries c.args.option c.args.on c.args.self.now c.restrict_below.new.self c.args.a c.new-memo.result.made c.restrict_below.new.memo.made c.requires
    c.new-memo.ensures c.restrict_below.ensures.restricts (subst (λ (m : MemoValue). IsDistinct m.made) c.memo.view_is c.memo.invariant)
