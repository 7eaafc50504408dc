use Rattle.std.proofs.Common.{true, ◌≡◌, sym, ap, subst, ◌∙◌}
use Rattle.std.specs.Prelude.{is_none, IfSome}
use Rattle.std.specs.Option.{option_copied}
use Rattle.cov_engine.specs.States.{EngineValue}
use Rattle.cov_engine.specs.Visibility.{IsVisibilityOf, is_no_line}
use Rattle.cov_engine.proofs.Visibilities.{answer, no-answer}
use Rattle.cov_engine.proofs.Wholes.{held-rise}
use Rattle.cov_engine.proofs.engine.Engine.vis.Goals as goal

pub file_of-requires : goal.file_of-requires
file_of-requires c = record { rising = held-rise c.self.inside.state.commands.commands c.self.inside.state.visible.table c.self.inside.state.index.commits.items c.self.inside.state.index.file_of_line.items c.self.inside.state.visible.entries c.self.inside.state.visible.files c.self.invariant.1 }

pub returns-in-Some-clause-none : goal.returns-in-Some-clause-none
returns-in-Some-clause-none c =
    let state = c.self.inside.state in
    subst (λ (e : EngineValue). is_none c.vis.result ≡ is_no_line e.history c.args.line) c.self.view_is
    (answer state.commands.commands state.visible.table state.index.commits.items state.index.file_of_line.items state.visible.entries state.visible.files c.self.invariant.0.0.legal c.self.invariant.1
    c.args.line c.in-Some.part.now c.vis.result (sym c.file_of.ensures ∙ ap option_copied c.in-Some.is) c.vis.ensures.latest).none

pub returns-in-Some-clause-stands : goal.returns-in-Some-clause-stands
returns-in-Some-clause-stands c =
    let state = c.self.inside.state in
    subst (λ (e : EngineValue). IfSome c.vis.result (IsVisibilityOf e.history e.table c.args.line)) c.self.view_is
    (answer state.commands.commands state.visible.table state.index.commits.items state.index.file_of_line.items state.visible.entries state.visible.files c.self.invariant.0.0.legal c.self.invariant.1
    c.args.line c.in-Some.part.now c.vis.result (sym c.file_of.ensures ∙ ap option_copied c.in-Some.is) c.vis.ensures.latest).stands

pub returns-in-None-clause-none : goal.returns-in-None-clause-none
returns-in-None-clause-none c =
    let state = c.self.inside.state in
    subst (λ (e : EngineValue). true ≡ is_no_line e.history c.args.line) c.self.view_is
    (sym (no-answer state.commands.commands state.visible.table state.index.commits.items state.index.file_of_line.items state.visible.entries state.visible.files c.self.invariant.0.0.legal c.self.invariant.1
    c.args.line (sym c.file_of.ensures ∙ ap option_copied c.in-None.is)))
