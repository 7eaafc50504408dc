use Rattle.std.proofs.Common.{◌∙◌, sym, ap, Some, option_map}
use Rattle.cov_history.specs.Sessions.{commit_of}
use Rattle.cov_session.specs.Open.{NamedSession}
use Rattle.cov_session.proofs.Naming.{named-none, named-some}
use Rattle.cov_session.proofs.sessions.Sessions.command.Goals as goal

pub returns-in_ok-command-in-Some-clause-command : goal.returns-in_ok-command-in-Some-clause-command
returns-in_ok-command-in-Some-clause-command c =
    ap (option_map (λ (s : NamedSession). commit_of s.session)) (named-some c.args.name.now c.args.self.now c.in-Some.session.now (sym c.in-Some.ensures)) ∙ ap Some (sym c.in_ok-command-in-Some.ensures)

pub returns-in-None-clause-none : goal.returns-in-None-clause-none
returns-in-None-clause-none c _ = named-none c.args.name.now c.args.self.now (sym c.in-None.ensures)
