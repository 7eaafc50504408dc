use Rattle.std.proofs.Common.{◌≡◌, IfSome, ap, arith}
use Rattle.cov_journal.specs.Places.{Place}
use Rattle.cov_journal.proofs.Reading.{IsWhole, whole_known, compared_next, compared_fault}
use Rattle.cov_journal.proofs.reader.Reader.whole_record.Goals as goal

pub returns-in-Ok-clause-next : goal.returns-in-Ok-clause-next
returns-in-Ok-clause-next g c =
    let o = g.D.Disk.contents c.args.disk.now in
    let p = c.in-Ok.framed.payload in
    let d = c.in-Ok.framed.digest in
    let same : c.self.inside.at ≡ c.args.self.at = ap (λ (s : Place). s.at) c.self.view_is in
    let whole : IfSome o (IsWhole c.args.self.at p d) = whole_known c.args.self.at c.self.inside.at c.args.count p d o same c.in-Ok.ensures.length c.requires.gate c.requires.opened c.requires.whole c.in-Ok.ensures.payload c.in-Ok.ensures.digest in
    compared_next c.args.self p d o c.compared.result whole c.compared.ensures

pub returns-in-Ok-clause-fault : goal.returns-in-Ok-clause-fault
returns-in-Ok-clause-fault g c =
    let o = g.D.Disk.contents c.args.disk.now in
    let p = c.in-Ok.framed.payload in
    let d = c.in-Ok.framed.digest in
    let same : c.self.inside.at ≡ c.args.self.at = ap (λ (s : Place). s.at) c.self.view_is in
    let whole : IfSome o (IsWhole c.args.self.at p d) = whole_known c.args.self.at c.self.inside.at c.args.count p d o same c.in-Ok.ensures.length c.requires.gate c.requires.opened c.requires.whole c.in-Ok.ensures.payload c.in-Ok.ensures.digest in
    compared_fault c.args.self p d o (g.D.Disk.faults c.args.disk.now) (g.D.Disk.faults c.framed_at.new.disk) c.compared.result (omega (arith, c.in-Ok.ensures.length, c.ranges.count.fits)) whole c.compared.ensures
