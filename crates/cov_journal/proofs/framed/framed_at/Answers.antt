use Rattle.std.proofs.Common.{rules, ◌≡◌, ◌+◌, length, drop, arith, sym, ◌∙◌, subst, IfSome, slice_range}
use Rattle.std.proofs.lemmas.List.{take_at}
use Rattle.cov_journal.proofs.Reading.{digest_known}
use Rattle.cov_journal.proofs.framed.framed_at.Goals as goal

pub returns-in-Ok-read_at-clause-digest : goal.returns-in-Ok-read_at-clause-digest
returns-in-Ok-read_at-clause-digest g c =
    let o = g.D.Disk.contents c.args.disk.now in
    let n = length c.as_mut_slice.result.now in
    let size : n ≡ c.args.count + 32 = search (rules, arith) in
    let into : length c.read_at.new.into ≡ c.in-Ok.bytes.len = search (rules, arith) in
    let bytes : c.as_slice.result.now ≡ c.read_at.new.into = c.as_slice.ensures.value ∙ take_at c.read_at.new.into (drop (length c.read_at.new.into) c.in-Ok.bytes.items) c.in-Ok.bytes.len into in
    digest_known (λ f. f.digest) c.args.at c.args.count n c.as_slice.result.now o c.parted.result size
    (subst (λ b. IfSome o (λ image. b ≡ slice_range image c.args.at (c.args.at + n))) (sym bytes) c.in-Ok-read_at.ensures.read) c.parted.ensures.digest

pub returns-in-Ok-read_at-clause-failed : goal.returns-in-Ok-read_at-clause-failed
returns-in-Ok-read_at-clause-failed g c = c.parted.ensures.failed (g.D.Disk.faults c.args.disk.now) (g.D.Disk.faults c.read_at.new.self)
