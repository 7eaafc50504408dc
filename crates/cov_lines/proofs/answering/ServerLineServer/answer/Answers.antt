use Rattle.std.proofs.Common.{◌≡◌, ◌⊎◌, ◌∙◌, ◌≤◌, inl, inr, refl, sym, ap, subst, length, Ok}
use Rattle.std.specs.Prelude.{IfOk}
use Rattle.std.proofs.lemmas.Result.{on_ok_weaker}
use Rattle.cov_base.specs.Causes.{Rose}
use Rattle.cov_loop.specs.Answers.{Gives}
use Rattle.cov_loop.specs.Keeping.{AreAll}
use Rattle.cov_lines.specs.Acting.{Handles, Stops}
use Rattle.cov_lines.specs.Adding.{command_added}
use Rattle.cov_lines.specs.States.{State}
use Rattle.cov_lines.specs.Step.{acted, as_outcome, plainly, refused, step}
use Rattle.cov_lines.specs.Storing.{IsNotGrown, grown, stored}
use Rattle.cov_store.specs.Stands.{IsStored}
use Rattle.cov_lines.specs.declared.handled.Handled.{Handled}
use Rattle.cov_codes.specs.declared.stop.Stop.{Stop}
use Rattle.cov_lines.proofs.Additions.{done-gives, refused-step, replied, step-added, step-grown}
use Rattle.cov_lines.proofs.Leaving.{leaves-for}
use Rattle.cov_lines.proofs.Counting.{goes-on-from, goes-on-same}
use Rattle.cov_lines.proofs.answering.ServerLineServer.answer.Goals as goal

pub returns-in-Ok-Done-clause-gives : goal.returns-in-Ok-Done-clause-gives
returns-in-Ok-Done-clause-gives g c =
    let st = c.args.self.now.state in
    let line = c.args.line.now in
    let new = c.act.new.self.state in
    let done = subst (λ (h : Handled). Handles (acted st line) st new (Ok h)) c.in-Ok-Done.field-0-is c.in-Ok-Done.ensures.handles in
    done-gives st new line c.in-Ok-Done.reply done.0

pub returns-in-Ok-Adds-clause-gives : goal.returns-in-Ok-Adds-clause-gives
returns-in-Ok-Adds-clause-gives g c =
    let st = c.args.self.now.state in
    let line = c.args.line.now in
    let a = c.in-Ok-Adds.addition in
    let adding = subst (λ (h : Handled). Handles (acted st line) st c.act.new.self.state (Ok h)) c.in-Ok-Adds.field-0-is c.in-Ok-Adds.ensures.handles in
    subst (λ o. IfOk c.add.result (Gives o c.add.new.self.state))
    (ap (λ (t : State). as_outcome t (plainly (command_added t a))) adding.same ∙ step-added st line a adding.is) c.add.ensures.gives

pub returns-in-Ok-Done-clause-goes_on : goal.returns-in-Ok-Done-clause-goes_on
returns-in-Ok-Done-clause-goes_on g c =
    let old = c.args.self.now in
    let line = c.args.line.now in
    let new = c.act.new.self in
    let done = subst (λ (h : Handled). Handles (acted old.state line) old.state new.state (Ok h)) c.in-Ok-Done.field-0-is c.in-Ok-Done.ensures.handles in
    goes-on-same old new c.act.ensures.commits done.1

pub returns-in-Ok-Adds-clause-goes_on : goal.returns-in-Ok-Adds-clause-goes_on
returns-in-Ok-Adds-clause-goes_on g c =
    let old = c.args.self.now in
    let line = c.args.line.now in
    let kept = c.act.new.self in
    let adding = subst (λ (h : Handled). Handles (acted old.state line) old.state kept.state (Ok h)) c.in-Ok-Adds.field-0-is c.in-Ok-Adds.ensures.handles in
    on_ok_weaker c.add.result (goes-on-from old c.add.new.self kept c.act.ensures.commits (ap (λ (t : State). t.history) adding.same)) c.add.ensures.goes_on

pub returns-in-Err-Refused-clause-goes_on : goal.returns-in-Err-Refused-clause-goes_on
returns-in-Err-Refused-clause-goes_on g c =
    let old = c.args.self.now in
    let line = c.args.line.now in
    let new = c.act.new.self in
    let stops = subst (λ (s : Stop). Stops (acted old.state line) old.state new.state s) c.in-Err-Refused.field-0-is c.in-Err-Refused.ensures.handles in
    replied c.refuse.result (goes-on-same old new c.act.ensures.commits (ap (λ (t : State). t.history) stops.same))

pub returns-in-Ok-Adds-clause-any_moment : goal.returns-in-Ok-Adds-clause-any_moment
returns-in-Ok-Adds-clause-any_moment g c = λ all.
    let st = c.args.self.now.state in
    let line = c.args.line.now in
    let a = c.in-Ok-Adds.addition in
    let adding = subst (λ (h : Handled). Handles (acted st line) st c.act.new.self.state (Ok h)) c.in-Ok-Adds.field-0-is c.in-Ok-Adds.ensures.handles in
    leaves-for g.D.Disk.moment g.D.Disk.images_since c.args.disk.now c.add.new.disk st c.act.new.self.state (grown c.act.new.self.state.history a.command) (step st line).state.history
    adding.same
    (ap (λ (t : State). grown t.history a.command) adding.same ∙ sym (step-grown st a line adding.is))
    (c.add.ensures.any_moment (subst (λ (t : State). AreAll (stored t) (g.D.Disk.images c.args.disk.now)) (sym adding.same) all))

pub returns-in-Err-Refused-clause-gives : goal.returns-in-Err-Refused-clause-gives
returns-in-Err-Refused-clause-gives g c =
    let st = c.args.self.now.state in
    let line = c.args.line.now in
    let code = c.in-Err-Refused.code in
    let stops = subst (λ (s : Stop). Stops (acted st line) st c.act.new.self.state s) c.in-Err-Refused.field-0-is c.in-Err-Refused.ensures.handles in
    subst (λ o. IfOk c.refuse.result (Gives o c.act.new.self.state))
    (ap (λ (t : State). refused t code) stops.same ∙ refused-step st line code stops.is) c.refuse.ensures.gives

pub returns-in-Err-Refused-clause-stopped : goal.returns-in-Err-Refused-clause-stopped
returns-in-Err-Refused-clause-stopped g c = c.refuse.ensures.stopped (g.D.Disk.faults c.args.disk.now) (g.D.Disk.faults c.args.disk.now)

pub returns-in-Err-Refused-clause-durable : goal.returns-in-Err-Refused-clause-durable
returns-in-Err-Refused-clause-durable g c = λ all.
    let st = c.args.self.now.state in
    let line = c.args.line.now in
    let stops = subst (λ (s : Stop). Stops (acted st line) st c.act.new.self.state s) c.in-Err-Refused.field-0-is c.in-Err-Refused.ensures.handles in
    replied c.refuse.result (subst (λ (t : State). AreAll (stored t) (g.D.Disk.images c.args.disk.now)) (sym stops.same) all)

pub returns-in-Ok-Adds-clause-unwritten : goal.returns-in-Ok-Adds-clause-unwritten
returns-in-Ok-Adds-clause-unwritten g c none =
    let st = c.args.self.now.state in
    let line = c.args.line.now in
    let a = c.in-Ok-Adds.addition in
    let adding = subst (λ (h : Handled). Handles (acted st line) st c.act.new.self.state (Ok h)) c.in-Ok-Adds.field-0-is c.in-Ok-Adds.ensures.handles in
    c.add.ensures.unwritten
    (subst (λ (t : State). IsNotGrown t.history a.command) (sym adding.same) (subst (λ h. length h ≤ length st.history) (step-grown st a line adding.is) none))

pub returns-in-Ok-Adds-clause-settled : goal.returns-in-Ok-Adds-clause-settled
returns-in-Ok-Adds-clause-settled g c all =
    let st = c.args.self.now.state in
    let line = c.args.line.now in
    let a = c.in-Ok-Adds.addition in
    let old = c.args.disk.now in
    let new = c.add.new.disk in
    let adding = subst (λ (h : Handled). Handles (acted st line) st c.act.new.self.state (Ok h)) c.in-Ok-Adds.field-0-is c.in-Ok-Adds.ensures.handles in
    subst (λ h. Rose (g.D.Disk.faults old) (g.D.Disk.faults new) ⊎ (new ≡ old) ⊎ AreAll (λ image. IsStored image h) (g.D.Disk.images new))
    (ap (λ (t : State). grown t.history a.command) adding.same ∙ sym (step-grown st a line adding.is))
    (c.add.ensures.settled (subst (λ (t : State). AreAll (stored t) (g.D.Disk.images old)) (sym adding.same) all))

pub returns-in-Ok-Done-clause-settled : goal.returns-in-Ok-Done-clause-settled
returns-in-Ok-Done-clause-settled g c all = inr (inl refl)

pub returns-in-Err-Refused-clause-settled : goal.returns-in-Err-Refused-clause-settled
returns-in-Err-Refused-clause-settled g c all = inr (inl refl)

pub returns-in-Err-Memory-clause-settled : goal.returns-in-Err-Memory-clause-settled
returns-in-Err-Memory-clause-settled g c all = inr (inl refl)
