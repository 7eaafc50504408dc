use Rattle.std.proofs.lemmas.Option.{IfSome_then}
use Rattle.cov_values.specs.Values.{on_choice}
use Rattle.cov_values.proofs.Keeping.{sight_found}
use Rattle.cov_values.proofs.sights.Sights.find.Goals as goal

pub returns-in-Some : goal.returns-in-Some
returns-in-Some g c =
    IfSome_then c.share.result c.share.ensures
    (λ shown is. sight_found (on_choice c.args.table.now c.args.choice) c.args.self.now c.in-Some.at shown is c.in-Some.ensures.agrees)
