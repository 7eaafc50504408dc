use Rattle.std.proofs.Common.{◌≡◌, sym, subst, ◌∙◌}
use Rattle.std.specs.List.{fold}
use Rattle.cov_edit.specs.Variant.{edited}
use Rattle.cov_view.specs.Refusals.{refusal}
use Rattle.cov_view.specs.Seen.{Seen, seen_fault, seen_after}
use Rattle.cov_view.specs.Views.{Shows, table_after, next_by_number}
use Rattle.cov_view.proofs.Applying.{shows-after}
use Rattle.cov_view.proofs.Refusing.{refused-as, fault-by}
use Rattle.cov_view.proofs.view.View.apply.Goals as goal

pub returns-in-Some-clause-refused : goal.returns-in-Some-clause-refused
returns-in-Some-clause-refused c = λ ns table v shows.
    fault-by c.in-Some.fault (refusal ns v c.args.edit.now) (refused-as ns table c.args.self.now v shows c.args.edit.now ∙ sym c.fault.ensures.fault ∙ c.in-Some.is)

pub returns-in-Some-clause-refused_seen : goal.returns-in-Some-clause-refused_seen
returns-in-Some-clause-refused_seen c =
    fault-by c.in-Some.fault (seen_fault c.args.self.now.rows c.args.edit.now) (sym c.fault.ensures.fault ∙ c.in-Some.is)

pub returns-in-Ok-clause-accepted : goal.returns-in-Ok-clause-accepted
returns-in-Ok-clause-accepted c = λ ns table v shows.
    refused-as ns table c.args.self.now v shows c.args.edit.now ∙ sym c.fault.ensures.fault ∙ c.in-None.is

pub returns-in-Ok-clause-applied : goal.returns-in-Ok-clause-applied
returns-in-Ok-clause-applied c = λ ns table v tab shows.
    let s = c.args.self.now in
    let e = c.args.edit.now in
    let after : c.act.new.self ≡ seen_after s e =
    (λ i. record { rows = c.in-Ok.ensures.rows i; nodes_made = c.in-Ok.ensures.nodes_made i; lines_made = c.in-Ok.ensures.lines_made i }) in
    subst (λ (t : Seen). Shows ns (table_after ns table e) t (fold edited v (next_by_number ns table s e))) (sym after)
    (shows-after ns table s v shows e tab c.fault.ensures.once (sym c.fault.ensures.fault ∙ c.in-None.is))
