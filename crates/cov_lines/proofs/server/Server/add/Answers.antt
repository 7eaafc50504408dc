use Rattle.std.proofs.Common.{◌∙◌, sym, ap, subst, ◌<◌, length, Result}
use Rattle.std.specs.Prelude.{IfOk, IfSome, OnOk}
use Rattle.std.proofs.lemmas.Result.{on_ok_weaker}
use Rattle.cov_engine.specs.declared.prepared.Receipt.{Receipt}
use Rattle.cov_loop.specs.Keeping.{AreAll}
use Rattle.cov_lines.specs.Acting.{Changes}
use Rattle.cov_lines.specs.Adding.{HasReceipt, appended_ending}
use Rattle.cov_lines.specs.States.{State}
use Rattle.cov_lines.specs.Storing.{gated, stored}
use Rattle.cov_lines.specs.Sweeping.{HasCounted}
use Rattle.cov_codes.specs.declared.stop.Stop.{Stop}
use Rattle.cov_lines.proofs.Acted.{stops-history}
use Rattle.cov_lines.proofs.Additions.{finish-gives, history-more, replied, stop-gives, stop-told}
use Rattle.cov_lines.proofs.Counting.{goes-on-more, goes-on-same}
use Rattle.cov_lines.proofs.server.Server.add.Goals as goal

pub finish-requires : goal.finish-requires
finish-requires g c =
    subst (λ (r : Result Receipt Stop). OnOk r (c.append.new.self.commits < length c.append.new.self.state.history)) c.in-Ok-added.is c.in-Ok.ensures.fewer

pub stop-requires : goal.stop-requires
stop-requires g c =
    let wanted = appended_ending c.args.self.now.state c.args.addition.command c.args.addition.ends in
    stop-told c.args.self.now.state c.append.new.self.state wanted c.in-Err-added.stop
    (subst (λ (r : Result Receipt Stop). Changes wanted c.args.self.now.state c.append.new.self.state r) c.in-Err-added.is c.in-Ok.ensures.changes)

pub returns-in-Ok-added-clause-gives : goal.returns-in-Ok-added-clause-gives
returns-in-Ok-added-clause-gives g c =
    finish-gives c.args.self.now.state c.append.new.self.state c.finish.new.self.state c.args.addition c.in-Ok-added.receipt c.finish.result
    (subst (λ (r : Result Receipt Stop). Changes (appended_ending c.args.self.now.state c.args.addition.command c.args.addition.ends) c.args.self.now.state c.append.new.self.state r)
    c.in-Ok-added.is c.in-Ok.ensures.changes)
    c.finish.ensures.state
    (subst (λ (r : Result Receipt Stop). IfOk r (HasReceipt c.args.self.now.state.history c.args.addition.command)) c.in-Ok-added.is c.in-Ok.ensures.receipt)
    c.finish.ensures.gives

pub returns-in-Ok-added-clause-goes_on : goal.returns-in-Ok-added-clause-goes_on
returns-in-Ok-added-clause-goes_on g c =
    let old = c.args.self.now in
    let kept = c.append.new.self in
    let new = c.finish.new.self in
    let k = c.args.addition.command in
    let ends = c.args.addition.ends in
    let more = history-more old.state k ends kept.state (subst (λ (r : Result Receipt Stop). Changes (appended_ending old.state k ends) old.state kept.state r) c.in-Ok-added.is c.in-Ok.ensures.changes) in
    let same = ap (λ (t : State). t.history) c.finish.ensures.state in
    on_ok_weaker c.finish.result
    (λ counted. goes-on-more old new k c.is_commit-is_commit.result c.is_commit-is_commit.ensures (same ∙ more) (subst (λ n. HasCounted c.is_commit-is_commit.result n new) c.append.ensures.commits counted)) c.finish.ensures.counted

pub returns-in-Ok-clause-goes_on : goal.returns-in-Ok-clause-goes_on
returns-in-Ok-clause-goes_on g c =
    let old = c.args.self.now in
    let kept = c.append.new.self in
    let wanted = appended_ending old.state c.args.addition.command c.args.addition.ends in
    let stops = subst (λ (r : Result Receipt Stop). Changes wanted old.state kept.state r) c.in-Err-added.is c.in-Ok.ensures.changes in
    replied c.stop.result (goes-on-same old kept c.append.ensures.commits (stops-history wanted old.state kept.state c.in-Err-added.stop stops))

pub returns-in-Ok-added-clause-gate : goal.returns-in-Ok-added-clause-gate
returns-in-Ok-added-clause-gate g c =
    replied c.finish.result
    (subst (λ (st : State). IfSome (g.D.Disk.contents c.append.new.disk) (gated st)) (sym c.finish.ensures.state) c.in-Ok.ensures.gate)

pub returns-in-Ok-added-clause-stored : goal.returns-in-Ok-added-clause-stored
returns-in-Ok-added-clause-stored g c = λ here.
    replied c.finish.result
    (subst (λ (st : State). IfSome (g.D.Disk.contents c.append.new.disk) (stored st)) (sym c.finish.ensures.state) (c.in-Ok.ensures.stored here))

pub returns-in-Ok-added-clause-durable : goal.returns-in-Ok-added-clause-durable
returns-in-Ok-added-clause-durable g c = λ all.
    replied c.finish.result
    (subst (λ (st : State). AreAll (stored st) (g.D.Disk.images c.append.new.disk)) (sym c.finish.ensures.state) (c.in-Ok.ensures.durable all))

pub returns-in-Ok-added-clause-stopped : goal.returns-in-Ok-added-clause-stopped
returns-in-Ok-added-clause-stopped g c = c.finish.ensures.stopped (g.D.Disk.faults c.args.disk.now) (g.D.Disk.faults c.append.new.disk)

pub returns-in-Ok-clause-gives : goal.returns-in-Ok-clause-gives
returns-in-Ok-clause-gives g c =
    stop-gives c.args.self.now.state c.append.new.self.state c.args.addition c.in-Err-added.stop c.stop.result
    (subst (λ (r : Result Receipt Stop). Changes (appended_ending c.args.self.now.state c.args.addition.command c.args.addition.ends) c.args.self.now.state c.append.new.self.state r)
    c.in-Err-added.is c.in-Ok.ensures.changes) c.stop.ensures.gives

pub returns-in-Ok-clause-gate : goal.returns-in-Ok-clause-gate
returns-in-Ok-clause-gate g c = replied c.stop.result c.in-Ok.ensures.gate

pub returns-in-Ok-clause-stored : goal.returns-in-Ok-clause-stored
returns-in-Ok-clause-stored g c = λ here. replied c.stop.result (c.in-Ok.ensures.stored here)

pub returns-in-Ok-clause-durable : goal.returns-in-Ok-clause-durable
returns-in-Ok-clause-durable g c = λ all. replied c.stop.result (c.in-Ok.ensures.durable all)

pub returns-in-Ok-clause-stopped : goal.returns-in-Ok-clause-stopped
returns-in-Ok-clause-stopped g c = c.stop.ensures.stopped (g.D.Disk.faults c.args.disk.now) (g.D.Disk.faults c.append.new.disk)
