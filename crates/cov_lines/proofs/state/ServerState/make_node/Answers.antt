use Rattle.std.proofs.Common.{sym, subst, ◌∙◌}
use Rattle.cov_lines.specs.Acting.{Acts}
use Rattle.cov_lines.proofs.Spoken.{made-at}
use Rattle.cov_lines.proofs.state.ServerState.make_node.Goals as goal

pub returns : goal.returns
returns c =
    let st = c.args.self.now.state in
    subst (λ wanted. Acts wanted st c.make_in.new.self.state c.make_in.result)
    (sym (made-at st c.args.kind c.args.name.now c.args.path.now c.in-Some.directory.now c.in-Some.own.now (sym c.as_slice.ensures ∙ c.in-Some.ensures.cases.0))) c.make_in.ensures
