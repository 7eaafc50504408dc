use Rattle.std.proofs.Common.{subst, sym, ◌≤◌, length}
use Rattle.cov_store.specs.Stands.{IsJournalOf}
use Rattle.cov_lines.proofs.Acted.{handles-history}
use Rattle.cov_lines.specs.Step.{acted}
use Rattle.cov_lines.proofs.server.Server.act.Goals as goal

pub invariant_of-self : goal.invariant_of-self
invariant_of-self c =
    let st = c.self.inside.state.state in
    subst (λ h. IsJournalOf c.self.inside.journal h × (c.self.inside.commits ≤ length h))
    (sym (handles-history (acted st c.args.line.now) st c.act.new.self.state c.act.result c.act.ensures)) c.self.invariant
