use Rattle.std.proofs.Common.{◌∙◌, sym, ap}
use Rattle.std.specs.List.{find}
use Rattle.cov_session.proofs.Changing.{find-none}
use Rattle.cov_session.proofs.Keeping.{has_name, led, find-kept}
use Rattle.cov_session.proofs.sessions.Sessions.session.Goals as goal

pub returns-in-Some : goal.returns-in-Some
returns-in-Some c =
    c.get.ensures
    ∙ sym (find-kept c.self.inside.sessions c.args.name.now c.self.inside.keys.entries c.self.invariant.lead ∙ ap (led c.self.inside.sessions) (sym c.in-Some.ensures))
    ∙ ap (find (has_name c.args.name.now)) c.self.view_is

pub returns-in-None : goal.returns-in-None
returns-in-None c =
    sym (find-none c.self.inside.keys.entries c.self.inside.sessions c.args.name.now c.self.invariant (sym c.in-None.ensures)) ∙ ap (find (has_name c.args.name.now)) c.self.view_is
