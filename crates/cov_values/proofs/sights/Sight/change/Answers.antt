use Rattle.std.proofs.Common.{◌≡◌, ◌∙◌, subst, sym}
use Rattle.std.specs.Option.{IfSome}
use Rattle.std.proofs.lemmas.Option.{IfSome_then}
use Rattle.cov_values.proofs.sights.Sight.change.Goals as goal

pub returns-in-Some : goal.returns-in-Some
returns-in-Some g c = λ before after brought right f agrees.
    IfSome_then c.after.result c.after.ensures
    (λ y brings. brought f c.args.self.now.values c.in-Some.shown y brings agrees
    (subst (λ o. IfSome o (λ x. before f ≡ x)) (sym c.take.ensures.value ∙ c.in-Some.is) (right f agrees)))
