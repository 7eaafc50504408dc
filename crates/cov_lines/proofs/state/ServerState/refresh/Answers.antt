use Rattle.std.proofs.Common.{◌≡◌, ◌∙◌, ap, length, map, arith}
use Rattle.cov_edit.specs.History.{option_count}
use Rattle.cov_session.specs.Open.{as_named}
use Rattle.cov_lines.proofs.Opened.{refreshed-whole}
use Rattle.cov_lines.proofs.state.ServerState.refresh.Goals as goal

pub reply_refresh-requires : goal.reply_refresh-requires
reply_refresh-requires c =
    let history = c.self.inside.engine.history in
    let made = c.in_ok-opened.ensures.refreshed in
    let whole : length c.in_ok-opened.opened.choice ≡ option_count history =
    ap length made.choice ∙ refreshed-whole history made.session (map as_named c.self.inside.sessions) c.args.name.now made.made in
    let names : length c.options-options.result.now.names ≡ option_count history = ap length c.options-options.ensures ∙ ap option_count c.in_ok-opened.ensures.history in
    omega (arith, whole, names)
