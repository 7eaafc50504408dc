use Rattle.std.proofs.Common.{ℕ, Bool, cond, ◌∷◌, sym, ap, ◌∙◌}
use Rattle.cov_base.proofs.CallerLemmas.{insert_behind, insert_last}
use Rattle.cov_base.specs.Addresses.{after_first}
use Rattle.cov_view.specs.AtPlaces.{joined, line_at}
use Rattle.cov_view.specs.References.{same_line}
use Rattle.cov_view.proofs.placed_lines.index_behind.Goals as goal

pub returns-in-Some-clause-place : goal.returns-in-Some-clause-place
returns-in-Some-clause-place c = λ new.
    let test : ℕ → Bool = λ p. same_line (line_at (joined c.args.rows.now c.args.own.now) p).line c.args.after.now in
    insert_behind test c.args.places.now new c.in-Some.at (sym c.find.ensures.place ∙ c.in-Some.is)
    ∙ sym (ap (λ b. cond b (new ∷ c.args.places.now) (after_first test new c.args.places.now)) (sym c.is_head.ensures ∙ c.if-is_head.false))

pub returns-in-None-clause-place : goal.returns-in-None-clause-place
returns-in-None-clause-place c = λ new.
    let test : ℕ → Bool = λ p. same_line (line_at (joined c.args.rows.now c.args.own.now) p).line c.args.after.now in
    insert_last test c.args.places.now new (sym c.find.ensures.place ∙ c.in-None.is)
    ∙ sym (ap (λ b. cond b (new ∷ c.args.places.now) (after_first test new c.args.places.now)) (sym c.is_head.ensures ∙ c.if-is_head.false))
