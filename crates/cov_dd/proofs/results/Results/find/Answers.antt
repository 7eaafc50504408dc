use Rattle.std.proofs.Common.{ℕ, ◌∙◌, subst}
use Rattle.lru.specs.LruCache.{LruCache}
use Rattle.cov_dd.specs.declared.memo.Pair.{Pair}
use Rattle.cov_dd.specs.Memos.{IsMade}
use Rattle.cov_dd.proofs.Conjunctions.{latest_some, among-promoted}
use Rattle.cov_dd.proofs.results.Results.find.Goals as goal

pub returns-clause-some : goal.returns-clause-some
returns-clause-some c = rw (← c.self.view_is) (latest_some c.self.inside.latest.entries c.args.pair c.copied.result (c.copied.ensures ∙ c.get.ensures.value))

pub returns-clause-among : goal.returns-clause-among
returns-clause-among c = rw (← c.self.view_is) (λ p r h. among-promoted c.args.pair c.self.inside.latest.entries p r (subst (λ (l : LruCache Pair ℕ). IsMade l.entries p r) c.get.follows.holds-at-none h))
