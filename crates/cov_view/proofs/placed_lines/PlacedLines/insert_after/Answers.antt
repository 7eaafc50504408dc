use Rattle.std.proofs.Common.{◌≡◌, ◌+◌, ◌++◌, ◌∷◌, [], length, Result, Ok, Err, OnErr, sym, ap, subst, ◌∙◌}
use Rattle.std.specs.List.{insert}
use Rattle.cov_view.specs.AtPlaces.{joined, at_places, after_place, AreWithin}
use Rattle.cov_view.specs.Lines.{after_ref}
use Rattle.cov_view.proofs.AtPlaces.{nothing_shown, shown_after, within_after}
use Rattle.cov_view.proofs.placed_lines.PlacedLines.insert_after.Goals as goal

at_err : {A F P : Type 0} (q : Result A F) → P → OnErr q P
at_err (Ok x) p = tt
at_err (Err e) p = p

pub returns-in_err-insert-clause-err : goal.returns-in_err-insert-clause-err
returns-in_err-insert-clause-err c =
    at_err c.from_residual-in_err-insert.result (
    (λ j. at_places (joined c.self.inside.rows (c.in_ok-push.ensures.ok j)) (c.in_err-insert.ensures.items j))
    ∙ nothing_shown c.self.inside.rows c.self.inside.own c.args.line c.self.inside.places.items c.self.invariant
    ∙ c.self.view_is)

pub invariant_of-self-2 : goal.invariant_of-self-2
invariant_of-self-2 c =
    let rows : c.as_slice-rows.result.now ≡ c.self.inside.rows = c.as_slice-rows.ensures ∙ c.lend.ensures in
    let is : c.in-Some.place ≡ length c.self.inside.rows + length c.self.inside.own = c.in-Some.ensures ∙ (λ j. length (rows j) + c.len.ensures j) in
    let behind : c.insert.new.self.items ≡ after_place (joined c.self.inside.rows c.self.inside.own) c.args.after.now c.in-Some.place c.self.inside.places.items =
    c.in_ok-insert.ensures.items
    ∙ (λ j. insert (sym c.as_slice-2.ensures.value j) c.index_behind-at.result c.in-Some.place)
    ∙ c.index_behind-at.ensures.place c.in-Some.place
    ∙ (λ j. after_place (joined (rows j) (c.as_slice.ensures j)) c.args.after.now c.in-Some.place (c.as_slice-2.ensures.value j)) in
    subst (λ own. AreWithin (joined c.self.inside.rows own) c.insert.new.self.items) (sym c.in_ok-push.ensures.ok)
    (subst (AreWithin (joined c.self.inside.rows (c.self.inside.own ++ c.args.line ∷ []))) (sym behind)
    (within_after c.self.inside.rows c.self.inside.own c.args.line c.self.inside.places.items c.self.invariant c.in-Some.place c.args.after.now is))

pub returns-clause-ok : goal.returns-clause-ok
returns-clause-ok c =
    let rows : c.as_slice-rows.result.now ≡ c.self.inside.rows = c.as_slice-rows.ensures ∙ c.lend.ensures in
    let is : c.in-Some.place ≡ length c.self.inside.rows + length c.self.inside.own = c.in-Some.ensures ∙ (λ j. length (rows j) + c.len.ensures j) in
    (λ j. at_places (joined c.self.inside.rows (c.in_ok-push.ensures.ok j)) (c.in_ok-insert.ensures.items j))
    ∙ ap (at_places (joined c.self.inside.rows (c.self.inside.own ++ c.args.line ∷ [])))
    ((λ j. insert (sym c.as_slice-2.ensures.value j) c.index_behind-at.result c.in-Some.place)
    ∙ c.index_behind-at.ensures.place c.in-Some.place
    ∙ (λ j. after_place (joined (rows j) (c.as_slice.ensures j)) c.args.after.now c.in-Some.place (c.as_slice-2.ensures.value j)))
    ∙ shown_after c.self.inside.rows c.self.inside.own c.args.line c.self.inside.places.items c.self.invariant c.in-Some.place c.args.after.now is
    ∙ ap (after_ref c.args.after.now c.args.line) c.self.view_is
