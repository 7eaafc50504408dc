use Rattle.cov_dd.proofs.Conjunctions.{after_put}
use Rattle.cov_dd.proofs.results.Results.put.Goals as goal

pub returns : goal.returns
returns c = rw (← c.self.view_is) (after_put c.put.result c.self.inside.latest c.put.new.self c.args.pair c.args.node c.put.ensures.entries c.put.ensures.err)
