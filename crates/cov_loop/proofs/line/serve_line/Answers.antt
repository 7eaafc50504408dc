use Rattle.std.proofs.Common.{inl, inr, refl}
use Rattle.cov_loop.proofs.Kept.{kept_adds_none, nothing_added}
use Rattle.cov_loop.proofs.Moments.{left_now}
use Rattle.cov_loop.proofs.line.serve_line.Goals as goal
use Rattle.cov_loop.specs.Keeping.{IsEither}

pub returns-in-Err-clause-acknowledged : goal.returns-in-Err-clause-acknowledged
returns-in-Err-clause-acknowledged g c before all was is image here =
    let step = g.V.LineServer.step (g.V.LineServer.state_of c.args.server.now) c.args.line.now in
    let either = left_now g.D.Disk.moment g.D.Disk.images_since g.D.Disk.images g.met.D.Disk.counts_now c.args.disk.now c.answer.new.disk
    (IsEither (g.V.LineServer.stored (g.V.LineServer.state_of c.args.server.now)) (g.V.LineServer.stored step.state)) (c.answer.ensures.any_moment all) image here in
    elim either [
      | inl old ↦ g.met.V.LineServer.stored_told (g.V.LineServer.state_of c.args.server.now) c.args.line.now image (nothing_added before step.reply (cc)) old
      | inr new ↦ new
    ]

pub returns-in-Ok-clause-refused : goal.returns-in-Ok-clause-refused
returns-in-Ok-clause-refused g c refused =
    let state = g.V.LineServer.state_of c.args.server.now in
    c.answer.ensures.unwritten (kept_adds_none g.V.LineServer.count state (g.V.LineServer.step state c.args.line.now) (g.met.V.LineServer.refused_kept state c.args.line.now refused))

pub returns-in-Err-clause-refused : goal.returns-in-Err-clause-refused
returns-in-Err-clause-refused g c refused =
    let state = g.V.LineServer.state_of c.args.server.now in
    c.answer.ensures.unwritten (kept_adds_none g.V.LineServer.count state (g.V.LineServer.step state c.args.line.now) (g.met.V.LineServer.refused_kept state c.args.line.now refused))

pub returns-then-is_passed_over-clause-settled : goal.returns-then-is_passed_over-clause-settled
returns-then-is_passed_over-clause-settled g c all = inr (inl refl)
