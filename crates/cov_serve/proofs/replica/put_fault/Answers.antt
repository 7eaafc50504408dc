use Rattle.std.proofs.Common.{◌∙◌, ap, length, subst, sym, Some}
use Rattle.cov_edit.specs.History.{options_of}
use Rattle.cov_replica.specs.Laws.{as_store_damage}
use Rattle.cov_replica.specs.Taken.{taken}
use Rattle.cov_serve.specs.Jobs.{faulty_replica}
use Rattle.cov_serve.specs.Program.{IsCauseOf, not_a_store_line}
use Rattle.cov_serve.specs.Replicas.{Puts}
use Rattle.cov_serve.specs.declared.status.Status.TheVariants.{NotAStore}
use Rattle.cov_serve.proofs.Replicas.{damage_told, damaged_puts, puts_fault, puts_wanting}
use Rattle.cov_serve.proofs.replica.put_fault.Goals as goal

pub tell_damage-requires : goal.tell_damage-requires
tell_damage-requires g c =
    subst (λ k. IsCauseOf (length c.options.result.now.names) k) (sym c.as_store_damage.ensures)
    (subst (λ ns. IsCauseOf (length ns) (as_store_damage c.in-Damaged.cause)) (sym (c.options.ensures ∙ ap options_of c.engine.ensures))
    (damage_told c.args.fed.now c.in-Damaged.number c.in-Damaged.cause (c.requires ∙ ap Some c.in-Damaged.is)))

pub returns-in-NotAStore-clause-puts : goal.returns-in-NotAStore-clause-puts
returns-in-NotAStore-clause-puts g c history rows failed =
    let old = c.args.out.now in
    let new = c.put_last.new.out in
    subst (λ f. Puts (faulty_replica (taken c.args.fed.now).history f history) (g.K.Sink.written old) (g.K.Sink.written new) rows rows (g.K.Sink.faults old) (g.K.Sink.faults new) failed failed c.put_last.result) (sym c.in-NotAStore.is)
    (puts_fault NotAStore not_a_store_line history (g.K.Sink.written old) (g.K.Sink.written new) rows (g.K.Sink.faults old) (g.K.Sink.faults new) failed c.put_last.result tt c.put_last.ensures.puts)

pub returns-in-Damaged-clause-puts : goal.returns-in-Damaged-clause-puts
returns-in-Damaged-clause-puts g c history rows failed =
    let old = c.args.out.now in
    let new = c.tell_damage.new.out in
    let past = (taken c.args.fed.now).history in
    subst (λ f. Puts (faulty_replica past f history) (g.K.Sink.written old) (g.K.Sink.written new) rows rows (g.K.Sink.faults old) (g.K.Sink.faults new) failed failed c.tell_damage.result) (sym c.in-Damaged.is)
    (damaged_puts past c.in-Damaged.number c.in-Damaged.cause c.as_store_damage.result c.options.result.now.names history c.as_store_damage.ensures (c.options.ensures ∙ ap options_of c.engine.ensures) c.tell_damage.ensures.told)

pub returns-in-Memory-clause-puts : goal.returns-in-Memory-clause-puts
returns-in-Memory-clause-puts g c history rows failed =
    let out = c.args.out.now in
    subst (λ f. Puts (faulty_replica (taken c.args.fed.now).history f history) (g.K.Sink.written out) (g.K.Sink.written out) rows rows (g.K.Sink.faults out) (g.K.Sink.faults out) failed failed _) (sym c.in-Memory.is)
    (puts_wanting history (g.K.Sink.written out) rows (g.K.Sink.faults out) failed)
