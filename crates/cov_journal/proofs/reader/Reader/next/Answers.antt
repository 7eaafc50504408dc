use Rattle.std.proofs.Common.{IfOk, sym, subst}
use Rattle.cov_journal.specs.Gates.{HasGate}
use Rattle.cov_journal.specs.Reading.{HasNextGate}
use Rattle.cov_journal.proofs.Anew.{gives_on, next_gate}
use Rattle.cov_journal.proofs.reader.Reader.next.Goals as goal

pub returns-in-Ok-Whole-clause-given : goal.returns-in-Ok-Whole-clause-given
returns-in-Ok-Whole-clause-given g c payloads given =
    gives_on c.args.self payloads (g.D.Disk.contents c.front_at.new.disk) c.whole_record.result given c.whole_record.ensures.next

pub returns-in-Ok-Whole-clause-gate : goal.returns-in-Ok-Whole-clause-gate
returns-in-Ok-Whole-clause-gate g c =
    let o = g.D.Disk.contents c.front_at.new.disk in
    let gate : HasGate o c.args.self.at = subst (λ o. HasGate o c.args.self.at) (sym c.front_at.ensures.same) c.requires.gate in
    subst (λ o. IfOk c.whole_record.result (HasNextGate o)) (sym c.whole_record.ensures.same) (next_gate c.args.self o c.whole_record.result gate c.whole_record.ensures.next)
