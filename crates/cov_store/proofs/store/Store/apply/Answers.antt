use Rattle.std.proofs.Common.{[], ◌∷◌, ◌++◌, ap, subst, sym}
use Rattle.cov_engine.specs.States.{EngineValue}
use Rattle.cov_store.specs.Stands.{IsStored}
use Rattle.cov_store.proofs.Applies.{moments_as}
use Rattle.cov_store.proofs.store.Store.apply.Goals as goal

pub returns-in-Ok-clause-any_moment : goal.returns-in-Ok-clause-any_moment
returns-in-Ok-clause-any_moment g c =
    moments_as g.D.Disk.moment g.D.Disk.images_since c.args.disk.now c.append.new.disk (g.D.Disk.images c.args.disk.now)
    c.self.inside.engine.history c.args.self.history c.args.command (ap (λ (e : EngineValue). e.history) c.self.view_is) c.append.ensures.any_moment

pub returns-in-Err-DiskFault-clause-any_moment : goal.returns-in-Err-DiskFault-clause-any_moment
returns-in-Err-DiskFault-clause-any_moment g c =
    moments_as g.D.Disk.moment g.D.Disk.images_since c.args.disk.now c.append.new.disk (g.D.Disk.images c.args.disk.now)
    c.self.inside.engine.history c.args.self.history c.args.command (ap (λ (e : EngineValue). e.history) c.self.view_is) c.append.ensures.any_moment

pub returns-in-Err-Refused-clause-any_moment : goal.returns-in-Err-Refused-clause-any_moment
returns-in-Err-Refused-clause-any_moment g c =
    moments_as g.D.Disk.moment g.D.Disk.images_since c.args.disk.now c.append.new.disk (g.D.Disk.images c.args.disk.now)
    c.self.inside.engine.history c.args.self.history c.args.command (ap (λ (e : EngineValue). e.history) c.self.view_is) c.append.ensures.any_moment

pub returns-in-Ok-clause-stored : goal.returns-in-Ok-clause-stored
returns-in-Ok-clause-stored g c all image now =
    let same = ap (λ (e : EngineValue). e.history) c.self.view_is in
    subst (λ history. IsStored image (history ++ c.args.command ∷ [])) same
    (c.in-Ok.ensures.stored (λ before was. subst (IsStored before) (sym same) (all before was)) image now)
