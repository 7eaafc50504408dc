use Rattle.std.proofs.Common.{◌≡◌, subst, Some, option_map, ap}
use Rattle.cov_history.specs.Sessions.{commit_of}
use Rattle.cov_session.specs.Named.{named}
use Rattle.cov_session.specs.Open.{NamedSession}
use Rattle.cov_lines.specs.States.{Serving, State}
use Rattle.cov_lines.proofs.Ended.{commit-adds}
use Rattle.cov_lines.proofs.state.ServerState.commit.Goals as goal

pub returns : goal.returns
returns c =
    let name = c.args.name in
    let command = c.in_ok-command.command in
    commit-adds c.args.self.now.state name command
    (subst (λ (st : State). option_map (λ (s : NamedSession). commit_of s.session) (named st.sessions name) ≡ Some command) (ap (λ (v : Serving). v.state) c.self.view_is) c.in_ok-command.ensures.command)
