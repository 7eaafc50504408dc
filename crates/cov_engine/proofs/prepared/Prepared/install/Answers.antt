use Rattle.std.proofs.Common.{◌++◌, [], ◌∷◌, arith, sym, ap, subst, ◌∙◌}
use Rattle.cov_dd.specs.Diagrams.{Extends}
use Rattle.cov_dd.proofs.CallerLemmas.{extends_none}
use Rattle.cov_edit.specs.Numbering.{line_count}
use Rattle.cov_edit.specs.Recorded.{Recorded}
use Rattle.cov_engine.specs.States.{history_of, EngineValue, Pending, receipt_number}
use Rattle.cov_engine.proofs.Refused.{accepted-low}
use Rattle.cov_engine.proofs.prepared.Prepared.install.Goals as goal

pub push-requires-clause-reach : goal.push-requires-clause-reach
push-requires-clause-reach c =
    let low = accepted-low (history_of c.self.inside.state) c.self.inside.command c.self.invariant.0.accepted in
    let few = c.self.invariant.1.0.0.rules.below.few in
    omega (arith, low, few)

pub push-requires-clause-lines : goal.push-requires-clause-lines
push-requires-clause-lines c =
    c.add-number.ensures.kept.0.0.counted.lines
    ∙ ap (λ (r : Recorded). line_count (r.commands ++ c.self.inside.command ∷ [])) (sym c.add-number.ensures.commands)

pub returns-clause-extends : goal.returns-clause-extends
returns-clause-extends c =
    subst (Extends c.args.self.table)
    (sym (ap (λ (p : Pending). p.table) c.self.view_is) ∙ sym c.add-number.ensures.table ∙ sym (ap (λ (e : EngineValue). e.table) c.of_state.ensures))
    (extends_none c.args.self.table)

pub returns-clause-number : goal.returns-clause-number
returns-clause-number c = c.add-number.ensures.number ∙ ap (λ (p : Pending). receipt_number p.history p.command) c.self.view_is
