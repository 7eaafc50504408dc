use Rattle.std.proofs.Common.{◌≡◌, ap, arith, sym, ◌∙◌}
use Rattle.std.proofs.lemmas.List.{nil_from_length}
use Rattle.cov_io.specs.Progress.{Progress}
use Rattle.cov_io.proofs.WalkLemmas.{consumes_zero, end_at_zero}
use Rattle.cov_io.proofs.reading.Lines.fill.Goals as goal

pub returns-in-Ok-eq0 : goal.returns-in-Ok-eq0
returns-in-Ok-eq0 g c =
    let read = c.in-Ok-eq0.ensures in
    let count = c.in-Ok-eq0.field-0 in
    let zero : count ≡ 0 = c.in-Ok-eq0.field-0-test in
    let left = g.S.Source.left c.args.source.now in
    let later = g.S.Source.left c.fill.new.source in (
      nil_from_length c.fill.new.self (sym read.count ∙ zero),
      record {
        told = consumes_zero left later count c.fill.new.self zero read.bytes;
        taken = omega (arith, ap (λ (p : Progress). p.taken) c.self.view_is);
        given = omega (arith, read.given, zero);
        later = read.cause.later;
        ended = record { later = read.ends.later; unended = λ no. absurd (cc); ended = λ before now. read.ends.at_end zero };
        bounded = record { unended = λ no. absurd (cc); fits = c.self.invariant.fits };
      },
      end_at_zero left later count c.fill.new.self zero read.bytes,
    )
