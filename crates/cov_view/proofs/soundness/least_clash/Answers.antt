use Rattle.std.proofs.Common.{◌≡◌, ℕ, suc, ◌-◌, ◌<◌, List, ◌∷◌, drop, get_or, length, option_map, sym, ap, subst, ◌∙◌, arith}
use Rattle.std.proofs.Math.Seq.{drop-cons}
use Rattle.std.proofs.lemmas.List.{drop_all}
use Rattle.std.specs.List.{find}
use Rattle.std.specs.Map.{lookup}
use Rattle.std.specs.Option.{option_or}
use Rattle.cov_view.specs.Keys.{is_child_key}
use Rattle.cov_view.specs.Ordering.{share_place, clash_among, ArePlaces}
use Rattle.cov_view.specs.declared.fault.Fault.TheVariants as faults
use Rattle.cov_view.proofs.soundness.least_clash.Goals as goal

pub nodes-init : goal.nodes-init
nodes-init c =
    let rows = c.args.rows.now in
    let order = c.args.order.now in
    let none = drop_all (length order) order (omega arith) in (
      (omega arith),
      sym (ap (clash_among rows) none),
      λ x r at. ap (lookup (is_child_key r.parent r.name)) c.new-places.ensures.empty ∙ sym (ap (find (share_place rows x)) none),
    )

pub nodes-preserved : goal.nodes-preserved
nodes-preserved c =
    let rows = c.args.rows.now in
    let order = c.args.order.now in
    let at = c.nodes.at in
    let low = get_or order (at - 1) 0 in
    let positive = c.nodes-test.true in
    let within = c.nodes.invariant.0 in
    let below : at - 1 < length order = omega (arith, positive, within) in
    let back : suc (at - 1) ≡ at = omega (arith, positive) in
    let dropped : drop (at - 1) order ≡ low ∷ drop at order = drop-cons order (at - 1) 0 below ∙ ap (λ n. low ∷ drop n order) back in
    let put = c.in_ok-put.ensures (drop at order) c.nodes.invariant.2 in (
      (omega (arith, below)),
      c.clash_with-found.ensures
          ∙ (λ i. option_or (option_map (λ y. faults.Clash low y) (put.0 i)) (c.nodes.invariant.1 i))
          ∙ sym (ap (clash_among rows) dropped),
      subst (λ (done : List ℕ). ArePlaces rows done c.put.new.places.entries) (sym dropped) put.1,
    )

pub returns : goal.returns
returns c =
    let rest = c.nodes-test.false in
    let none : c.nodes.at ≡ 0 = omega (arith, rest) in
    c.nodes.invariant.1 ∙ ap (λ n. clash_among c.args.rows.now (drop n c.args.order.now)) none
