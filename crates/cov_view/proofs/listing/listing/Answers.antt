use Rattle.std.proofs.Common.{◌≡◌, List, [], ◌∷◌, ◌++◌, filter, map, rules, IsPermutation, refl, sym, ap, subst, ◌∙◌}
use Rattle.std.proofs.lemmas.Iterator.Adapters.{YieldsList-from_vec}
use Rattle.std.proofs.lemmas.Iterator.Consumers.{YieldsList-end}
use Rattle.std.proofs.lemmas.List.Sorted.{answers_always}
use Rattle.std.specs.Ordering.{is_lt}
use Rattle.cov_view.specs.Listing.{comes_before, dir_row}
use Rattle.cov_view.specs.References.{same_node}
use Rattle.cov_view.specs.declared.listing.DirRow.{DirRow}
use Rattle.cov_view.proofs.Sorted.{sorted-is, weak}
use Rattle.cov_view.proofs.listing.listing.Goals as goal

pub children-init : goal.children-init
children-init c = c.new-listing.ensures

pub children-preserved : goal.children-preserved
children-preserved c = c.in_ok-push.ensures.ok ∙ ap (λ (l : List DirRow). l ++ c.in-Some.child ∷ []) c.children.invariant

same : (rows : List DirRow) → map (λ r. r) rows ≡ rows
same [] = refl
same (r ∷ rows) = ap (λ l. r ∷ l) (same rows)

pub returns : goal.returns
returns c =
    let sorted = c.sort_unstable_by.new.self.items in
    let seen = YieldsList-end (YieldsList-from_vec sorted c.into_iter-child-iterator.ensures.into_iter_gives.0 (cc)) c.children.yielded c.children.child-iterator c.children.yielded_by c.next.result c.next.new.self c.in-None.is c.next.ensures.steps in
    let all : sorted ≡ c.children.listing = sym seen.0 ∙ same c.children.yielded ∙ sym c.children.invariant in
    sym all
    ∙ sorted-is (map dir_row (filter (λ r. same_node r.parent c.args.dir.now) c.args.rows.now)) sorted
    (subst (λ (l : List DirRow). IsPermutation l sorted) c.in_ok-children.ensures c.sort_unstable_by.ensures.permutation)
    (c.sort_unstable_by.ensures.sorted comes_before weak (answers_always _ (λ a r. is_lt r ≡ comes_before a.0.now a.1.0.now) _ (λ f a r g k. search rules)))
