use Rattle.std.proofs.Common.{◌+◌, ◌-◌, ◌≤◌, ap, arith, ◌∙◌, drop, length-take, length}
use Rattle.cov_io.proofs.LineLemmas.{range-skip}
use Rattle.cov_io.proofs.buffer.Buffer.skip.Goals as goal

pub returns : goal.returns
returns c =
    let within : c.self.inside.from + c.args.count ≤ c.self.inside.to =
    omega (arith, c.self.invariant.0, ap length c.self.view_is, length-take (c.self.inside.to - c.self.inside.from) (drop c.self.inside.from c.self.inside.bytes.items)) in
    range-skip c.self.inside.bytes.items c.self.inside.from c.self.inside.to c.args.count within ∙ ap (drop c.args.count) c.self.view_is
