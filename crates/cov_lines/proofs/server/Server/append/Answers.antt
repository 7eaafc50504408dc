use Rattle.std.proofs.Common.{◌≡◌, ◌⊎◌, ◌∙◌, sym, ap, subst, ℕ, ◌<◌, ◌≤◌, List, length, arith}
use Rattle.std.specs.Prelude.{IfErr, IfOk, IfSome, OnOk}
use Rattle.cov_base.specs.Causes.{Rose}
use Rattle.cov_disk.specs.Images.{LeavesOnly}
use Rattle.cov_loop.specs.Answers.{StopsAnswer}
use Rattle.cov_loop.specs.Keeping.{AreAll, IsEither}
use Rattle.cov_store.specs.Stands.{IsStored, gate_of}
use Rattle.cov_lines.specs.Acting.{Changes}
use Rattle.cov_lines.specs.Adding.{HasReceipt, added_as, appended_ending}
use Rattle.cov_lines.specs.States.{Serving, ServerValue, State}
use Rattle.cov_lines.specs.Storing.{IsNotGrown, gated, grown, stored}
use Rattle.cov_lines.proofs.Appended.{appends, carried, fewer-commits, has-receipt, moments, no-shorter, settled, state_of, still-open, unwritten, write-stops}
use Rattle.cov_lines.proofs.server.Server.append.Goals as goal

pub invariant_of-state : goal.invariant_of-state
invariant_of-state g c =
    still-open c.state.inside.engine.history c.append.new.engine.history c.args.command c.state.inside.sessions c.append.new.holders c.args.ends.now
    c.open_sessions_stay.ensures c.append.result c.append.ensures.history c.append.ensures.holders c.state.invariant

pub invariant_of-self : goal.invariant_of-self
invariant_of-self g c =
    let h = c.state.inside.engine.history in
    let k = c.args.command in
    let now = c.append.new.engine.history in
    let few : c.self.inside.commits ≤ length h = subst (λ (v : Serving). c.self.inside.commits ≤ length v.state.history) (sym c.state.view_is) c.self.invariant.1 in
    let more : length h ≤ length now = no-shorter h k now c.append.result c.append.ensures.history in
    (c.append.ensures.journal, omega (arith, few, more))

pub returns-clause-changes : goal.returns-clause-changes
returns-clause-changes g c =
    let st = state_of c.state.inside.engine.history c.state.inside.sessions c.state.inside.trees in
    let is : st ≡ c.args.self.now.state = ap (λ (v : Serving). v.state) c.state.view_is ∙ ap (λ (v : ServerValue). v.state) c.self.view_is in
    let k = c.args.command in
    let ends = c.args.ends.now in
    let next = state_of c.append.new.engine.history c.append.new.holders c.state.inside.trees in
    let r = c.append.result in
    subst (λ res. IfOk res (Changes (appended_ending c.args.self.now.state k ends) c.args.self.now.state next)) (sym c.as_added.ensures)
    (subst (λ (t : State). IfOk (added_as r) (Changes (appended_ending t k ends) t next)) is
    (appends c.state.inside.engine.history c.append.new.engine.history k c.state.inside.sessions c.append.new.holders ends
    c.state.inside.trees r c.append.ensures.history c.append.ensures.holders c.append.ensures.accepted c.append.ensures.refused))

pub returns-clause-receipt : goal.returns-clause-receipt
returns-clause-receipt g c =
    let st = state_of c.state.inside.engine.history c.state.inside.sessions c.state.inside.trees in
    let is : st ≡ c.args.self.now.state = ap (λ (v : Serving). v.state) c.state.view_is ∙ ap (λ (v : ServerValue). v.state) c.self.view_is in
    let k = c.args.command in
    let now = c.append.new.engine.history in
    let r = c.append.result in
    subst (λ res. IfOk res (λ added. IfOk added (HasReceipt c.args.self.now.state.history k))) (sym c.as_added.ensures)
    (subst (λ (t : State). IfOk (added_as r) (λ added. IfOk added (HasReceipt t.history k))) is
    (has-receipt st k now r c.append.ensures.number c.append.ensures.position))

pub returns-clause-fewer : goal.returns-clause-fewer
returns-clause-fewer g c =
    let k = c.args.command in
    let now = c.append.new.engine.history in
    let r = c.append.result in
    subst (λ res. IfOk res (λ added. OnOk added (c.self.inside.commits < length now))) (sym c.as_added.ensures)
    (fewer-commits c.state.inside.engine.history k now c.self.inside.commits r c.append.ensures.history (subst (λ (v : Serving). c.self.inside.commits ≤ length v.state.history) (sym c.state.view_is) c.self.invariant.1))

pub returns-clause-gate : goal.returns-clause-gate
returns-clause-gate g c =
    let st = state_of c.state.inside.engine.history c.state.inside.sessions c.state.inside.trees in
    let is : st ≡ c.args.self.now.state = ap (λ (v : Serving). v.state) c.state.view_is ∙ ap (λ (v : ServerValue). v.state) c.self.view_is in
    let k = c.args.command in
    let now = c.append.new.engine.history in
    let r = c.append.result in
    let old = c.args.disk.now in
    let new = c.append.new.disk in
    subst (λ res. OnOk res (IfSome (g.D.Disk.contents new) (λ image. gate_of now < length image))) (sym c.as_added.ensures)
    (carried st k now old new (λ d l. IfSome (g.D.Disk.contents d) (λ image. gate_of l < length image)) r c.append.ensures.history
    (subst (λ (t : State). IfSome (g.D.Disk.contents old) (gated t)) (sym is) c.requires.gate) c.append.ensures.gate c.append.ensures.same)

pub returns-clause-stored : goal.returns-clause-stored
returns-clause-stored g c here =
    let st = state_of c.state.inside.engine.history c.state.inside.sessions c.state.inside.trees in
    let is : st ≡ c.args.self.now.state = ap (λ (v : Serving). v.state) c.state.view_is ∙ ap (λ (v : ServerValue). v.state) c.self.view_is in
    let k = c.args.command in
    let now = c.append.new.engine.history in
    let r = c.append.result in
    let old = c.args.disk.now in
    let new = c.append.new.disk in
    subst (λ res. OnOk res (IfSome (g.D.Disk.contents new) (λ image. IsStored image now))) (sym c.as_added.ensures)
    (let was = subst (λ (t : State). IfSome (g.D.Disk.contents old) (stored t)) (sym is) here in
    carried st k now old new (λ d l. IfSome (g.D.Disk.contents d) (λ image. IsStored image l)) r c.append.ensures.history was (c.append.ensures.written was) c.append.ensures.same)

pub returns-clause-durable : goal.returns-clause-durable
returns-clause-durable g c all =
    let st = state_of c.state.inside.engine.history c.state.inside.sessions c.state.inside.trees in
    let is : st ≡ c.args.self.now.state = ap (λ (v : Serving). v.state) c.state.view_is ∙ ap (λ (v : ServerValue). v.state) c.self.view_is in
    let k = c.args.command in
    let now = c.append.new.engine.history in
    let r = c.append.result in
    let old = c.args.disk.now in
    let new = c.append.new.disk in
    subst (λ res. OnOk res ((image : List ℕ) → g.D.Disk.images new image → IsStored image now)) (sym c.as_added.ensures)
    (let was = subst (λ (t : State). AreAll (stored t) (g.D.Disk.images old)) (sym is) all in
    carried st k now old new (λ d l. (image : List ℕ) → g.D.Disk.images d image → IsStored image l) r c.append.ensures.history was (c.append.ensures.stored was) c.append.ensures.same)

pub returns-clause-any_moment : goal.returns-clause-any_moment
returns-clause-any_moment g c all =
    let st = state_of c.state.inside.engine.history c.state.inside.sessions c.state.inside.trees in
    let is : st ≡ c.args.self.now.state = ap (λ (v : Serving). v.state) c.state.view_is ∙ ap (λ (v : ServerValue). v.state) c.self.view_is in
    let k = c.args.command in
    let now = c.append.new.engine.history in
    let r = c.append.result in
    let old = c.args.disk.now in
    let new = c.append.new.disk in
    subst (λ (t : State). LeavesOnly g.D.Disk.moment g.D.Disk.images_since old new (IsEither (stored t) (λ image. IsStored image (grown t.history k)))) is
    (let was = subst (λ (t : State). AreAll (stored t) (g.D.Disk.images old)) (sym is) all in
    moments st k now g.D.Disk.moment g.D.Disk.images_since g.D.Disk.images old new (g.met.D.Disk.only_now old) r
    c.append.ensures.accepted c.append.ensures.refused c.append.ensures.same was (c.append.ensures.any_moment was))

pub returns-clause-stopped : goal.returns-clause-stopped
returns-clause-stopped g c =
    let r = c.append.result in
    let old = c.args.disk.now in
    let new = c.append.new.disk in
    subst (λ res. IfErr res (λ ending. StopsAnswer ending (g.D.Disk.faults old) (g.D.Disk.faults new))) (sym c.as_added.ensures)
    (write-stops (g.D.Disk.faults old) (g.D.Disk.faults new) r c.append.ensures.failed)

pub returns-clause-unwritten : goal.returns-clause-unwritten
returns-clause-unwritten g c none =
    let st = state_of c.state.inside.engine.history c.state.inside.sessions c.state.inside.trees in
    let is : st ≡ c.args.self.now.state = ap (λ (v : Serving). v.state) c.state.view_is ∙ ap (λ (v : ServerValue). v.state) c.self.view_is in
    let k = c.args.command in
    unwritten st.history k c.args.disk.now c.append.new.disk c.append.result c.append.ensures.accepted c.append.ensures.refused c.append.ensures.same
    (subst (λ (t : State). IsNotGrown t.history k) (sym is) none)

pub returns-clause-settled : goal.returns-clause-settled
returns-clause-settled g c all =
    let st = state_of c.state.inside.engine.history c.state.inside.sessions c.state.inside.trees in
    let is : st ≡ c.args.self.now.state = ap (λ (v : Serving). v.state) c.state.view_is ∙ ap (λ (v : ServerValue). v.state) c.self.view_is in
    let k = c.args.command in
    let old = c.args.disk.now in
    let new = c.append.new.disk in
    subst (λ (t : State). Rose (g.D.Disk.faults old) (g.D.Disk.faults new) ⊎ (new ≡ old) ⊎ AreAll (λ image. IsStored image (grown t.history k)) (g.D.Disk.images new)) is
    (settled st.history k old new g.D.Disk.images (g.D.Disk.faults old) (g.D.Disk.faults new) c.append.result c.append.ensures.accepted c.append.ensures.same c.append.ensures.failed
    (c.append.ensures.stored (subst (λ (t : State). AreAll (stored t) (g.D.Disk.images old)) (sym is) all)))
