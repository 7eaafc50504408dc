use Rattle.std.proofs.Common.{◌≡◌, ◌+◌, ◌≤◌, length, drop, ap, arith, sym, ◌∙◌, length-drop}
use Rattle.std.proofs.lemmas.List.{nil_from_length}
use Rattle.cov_io.specs.InMemory.{SourceState}
use Rattle.cov_io.proofs.DeviceLemmas.{front_read}
use Rattle.cov_io.proofs.in_memory.MemorySourceSource.read.Goals as goal

pub returns-clause-bytes : goal.returns-clause-bytes
returns-clause-bytes c =
    let bytes = c.self.inside.bytes in
    let at = c.self.inside.at in
    let count = c.min-count.result in
    let left : drop at bytes ≡ c.args.self.now.left = ap (λ (s : SourceState). s.left) c.self.view_is in
    let fits : at + count ≤ length bytes = omega (arith, c.self.invariant.0) in (
      sym left ∙ rw (c.copy_from_slice.ensures.after, c.as_slice.ensures) (front_read bytes c.args.into.now at count fits),
      λ zero. sym left ∙ nil_from_length (drop at bytes) (omega (arith, zero, c.self.invariant.1, length-drop at bytes)),
    )
