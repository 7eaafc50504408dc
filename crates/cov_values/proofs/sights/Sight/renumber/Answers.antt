use Rattle.std.proofs.Common.{◌≡◌, subst, sym}
use Rattle.std.specs.Option.{IfSome}
use Rattle.cov_values.proofs.sights.Sight.renumber.Goals as goal

pub returns-in-Some : goal.returns-in-Some
returns-in-Some g c = λ before after same right f agrees.
    let old = c.in-Some.ensures f agrees in
    subst (λ y. IfSome c.args.self.now.shown (λ x. y ≡ x)) (sym (same f old.0 old.1.1)) (right old.0 old.1.0)
