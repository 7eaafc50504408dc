use Rattle.std.proofs.Common.{◌≡◌, true, nat_lt, ◌∙◌, ap, subst, sym, IfOk, IfErr}
use Rattle.std.specs.List.{list_all}
use Rattle.cov_edit.specs.History.{constraints_of, option_count}
use Rattle.cov_history.specs.Completing.{completed_in}
use Rattle.cov_rules.specs.Completion.{Complete, IsCompletion, IsRefusalBy}
use Rattle.cov_replica.specs.Taken.{taken}
use Rattle.cov_replica.proofs.Steps.{history_taken}
use Rattle.cov_replica.proofs.replica.Replica.complete.Goals as goal

pub complete-requires : goal.complete-requires
complete-requires c =
    let r = c.self.inside.reading in
    let history = history_taken r.bytes.items r.at r.digest r.engine.history c.self.inside.fault c.self.invariant ∙ ap (λ bytes. (taken bytes).history) c.self.view_is in
    subst (λ h. list_all (λ b. nat_lt b.0 (option_count h)) c.args.partial.now ≡ true) (sym history) c.requires

pub returns-clause-complete : goal.returns-clause-complete
returns-clause-complete c =
    let r = c.self.inside.reading in
    let history = history_taken r.bytes.items r.at r.digest r.engine.history c.self.inside.fault c.self.invariant ∙ ap (λ bytes. (taken bytes).history) c.self.view_is in
    subst (λ h. IfOk c.complete.result (λ choice. completed_in h c.args.partial.now ≡ Complete choice)) history c.complete.ensures.complete

pub returns-clause-answer : goal.returns-clause-answer
returns-clause-answer c =
    let r = c.self.inside.reading in
    let history = history_taken r.bytes.items r.at r.digest r.engine.history c.self.inside.fault c.self.invariant ∙ ap (λ bytes. (taken bytes).history) c.self.view_is in
    subst (λ h. IfOk c.complete.result (IsCompletion (option_count h) (constraints_of h) c.args.partial.now)) history c.complete.ensures.answer

pub returns-clause-refused : goal.returns-clause-refused
returns-clause-refused c =
    let r = c.self.inside.reading in
    let history = history_taken r.bytes.items r.at r.digest r.engine.history c.self.inside.fault c.self.invariant ∙ ap (λ bytes. (taken bytes).history) c.self.view_is in
    subst (λ h. IfErr c.complete.result (IsRefusalBy (completed_in h c.args.partial.now))) history c.complete.ensures.refused
