use Rattle.std.proofs.Common.{◌≡◌, ◌∙◌, ap, sym, subst, false}
use Rattle.cov_engine.specs.Visibility.{is_no_line, presence_of}
use Rattle.cov_edit.specs.History.{options_of}
use Rattle.cov_lines.specs.States.{Serving}
use Rattle.cov_lines.proofs.Entries.{presence-is}
use Rattle.cov_lines.proofs.state.ServerState.presence.Goals as goal

pub returns : goal.returns
returns c =
    let now = ap (λ (v : Serving). v.state.history) c.self.view_is in
    presence-is c.args.self.now.state c.args.line c.options.result.now.names c.in_ok-listing.listing c.in_ok-presence_reply.field-0
    (subst (λ history. is_no_line history c.args.line ≡ false) now (sym c.in_ok-listing.ensures.none))
    (c.in_ok-listing.ensures.listing ∙ ap (λ history. presence_of history c.args.line) now)
    (c.options.ensures ∙ ap options_of now) c.in_ok-presence_reply.ensures
