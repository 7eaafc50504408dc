use Rattle.std.proofs.Common.{subst, sym}
use Rattle.cov_dd.specs.declared.operation.Operation.TheVariants.{And}
use Rattle.cov_dd.specs.Combinations.{IsRight}
use Rattle.cov_dd.proofs.Conjunctions.{table_put}
use Rattle.cov_dd.proofs.table.Table.remember.Goals as goal

pub invariant_of-self : goal.invariant_of-self
invariant_of-self c =
    table_put _ c.self.inside.conjunctions c.put.new.self c.args.pair c.args.node c.self.invariant
    (subst (λ ts. IsRight And ts (c.args.pair, c.args.node)) (sym c.self.view_is) c.requires) c.put.ensures
