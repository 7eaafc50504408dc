use Rattle.std.proofs.Common.{◌≡◌, ◌⊎◌, ◌∙◌, ◌≤◌, sym, ap, subst, length, List}
use Rattle.cov_base.specs.Causes.{Rose}
use Rattle.cov_disk.specs.Images.{LeavesOnly}
use Rattle.cov_edit.specs.declared.command.Command.{Command}
use Rattle.cov_import.specs.Serving.{ImportValue, import_step, importing}
use Rattle.cov_lines.specs.States.{State}
use Rattle.cov_lines.specs.Storing.{IsNotGrown, grown, stored}
use Rattle.cov_loop.specs.Keeping.{AreAll, IsEither}
use Rattle.cov_store.specs.Stands.{IsStored}
use Rattle.cov_import.proofs.Asked.{asked_gives, asks_nothing, gives_nothing, history_is}
use Rattle.cov_import.proofs.importing.ImportServerLineServer.answer.Goals as goal

pub returns-in-Ok-Some-clause-gives : goal.returns-in-Ok-Some-clause-gives
returns-in-Ok-Some-clause-gives g c =
    asked_gives c.args.self.now c.args.line.now c.in-Ok-Some.command (sym c.in-Ok-Some.ensures ∙ c.in-Ok-Some.field-0-is)
    c.self.inside.server.state c.self.inside.commits.commands c.self.inside.base
    (ap (λ (v : ImportValue). v.server.state) c.self.view_is) (ap (λ (v : ImportValue). v.commits) c.self.view_is) (ap (λ (v : ImportValue). v.base) c.self.view_is)
    c.add_commit.result c.add_commit.new.self.state c.add_commit.ensures.gives

pub returns-in-Ok-Some-clause-any_moment : goal.returns-in-Ok-Some-clause-any_moment
returns-in-Ok-Some-clause-any_moment g c all =
    let v = c.args.self.now in
    let k = c.in-Ok-Some.command in
    let old = c.args.disk.now in
    let new = c.add_commit.new.disk in
    subst (λ h. LeavesOnly g.D.Disk.moment g.D.Disk.images_since old new (IsEither (stored v.server.state) (λ image. IsStored image h)))
    (history_is v c.args.line.now k (sym c.in-Ok-Some.ensures ∙ c.in-Ok-Some.field-0-is))
    (subst (λ (st : State). AreAll (stored st) (g.D.Disk.images old) → LeavesOnly g.D.Disk.moment g.D.Disk.images_since old new (IsEither (stored st) (λ image. IsStored image (grown st.history k))))
    (ap (λ (w : ImportValue). w.server.state) c.self.view_is) c.add_commit.ensures.any_moment all)

pub returns-in-Ok-Some-clause-unwritten : goal.returns-in-Ok-Some-clause-unwritten
returns-in-Ok-Some-clause-unwritten g c few =
    let v = c.args.self.now in
    let k = c.in-Ok-Some.command in
    subst (λ (st : State). IsNotGrown st.history k → c.add_commit.new.disk ≡ c.args.disk.now) (ap (λ (w : ImportValue). w.server.state) c.self.view_is) c.add_commit.ensures.unwritten
    (subst (λ (h : List Command). length h ≤ length v.server.state.history) (sym (history_is v c.args.line.now k (sym c.in-Ok-Some.ensures ∙ c.in-Ok-Some.field-0-is))) few)

pub returns-in-Ok-Some-clause-settled : goal.returns-in-Ok-Some-clause-settled
returns-in-Ok-Some-clause-settled g c all =
    let v = c.args.self.now in
    let k = c.in-Ok-Some.command in
    let old = c.args.disk.now in
    let new = c.add_commit.new.disk in
    subst (λ h. Rose (g.D.Disk.faults old) (g.D.Disk.faults new) ⊎ (new ≡ old) ⊎ AreAll (λ image. IsStored image h) (g.D.Disk.images new))
    (history_is v c.args.line.now k (sym c.in-Ok-Some.ensures ∙ c.in-Ok-Some.field-0-is))
    (subst (λ (st : State). AreAll (stored st) (g.D.Disk.images old) → Rose (g.D.Disk.faults old) (g.D.Disk.faults new) ⊎ (new ≡ old) ⊎ AreAll (λ image. IsStored image (grown st.history k)) (g.D.Disk.images new))
    (ap (λ (w : ImportValue). w.server.state) c.self.view_is) c.add_commit.ensures.settled all)

pub returns-in-Ok-None-clause-gives : goal.returns-in-Ok-None-clause-gives
returns-in-Ok-None-clause-gives g c =
    let s = importing c.args.self.now in
    gives_nothing s (import_step s c.args.line.now) c.nothing.result (asks_nothing s c.args.line.now (sym c.in-Ok-None.ensures ∙ c.in-Ok-None.field-0-is))
    c.nothing.ensures.text c.nothing.ensures.rows c.nothing.ensures.answer
