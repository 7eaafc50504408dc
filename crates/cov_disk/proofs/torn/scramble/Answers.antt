use Rattle.std.proofs.Common.{rules, refl, ⊎_elim, ◌≡◌, ◌≤◌, ◌<◌, ◌+◌, ◌-◌, ◌++◌, length, take, drop, slice_set, arith, ap, ◌∙◌, le_refl}
use Rattle.std.proofs.lemmas.List.{length-set, get_or-set_other}
use Rattle.cov_disk.specs.Generated.{next_state, byte_of, state_after, bytes_from, places}
use Rattle.cov_disk.proofs.Generated.{none_after, none_drawn, next_after, set_next}
use Rattle.cov_disk.proofs.torn.scramble.Goals as goal

pub loop-i-init : goal.loop-i-init
loop-i-init c = record {
  size = refl;
  from = le_refl c.args.at;
  most = omega arith;
  image = none_drawn c.args.at c.args.state c.args.image.now.items;
  state = none_after c.args.at c.args.state;
  outside = λ j out. refl;
}

pub loop-i-preserved : goal.loop-i-preserved
loop-i-preserved c =
    let inv = c.loop-i.invariant in
    let i = c.loop-i.i in
    let at = c.args.at in
    let x = c.args.state in
    let small : i < length c.args.image.now.items = search (rules, arith) in
    let inside : i < at + c.args.count = search (rules, arith) in
    let byte_is : c.byte_of.result ≡ byte_of (next_state (state_after (i - at) x)) = c.byte_of.ensures ∙ ap byte_of (c.next_state-state.ensures ∙ ap next_state inv.state) in
    record {
      size = length-set c.loop-i.image.items i c.byte_of.result ∙ inv.size;
      from = omega (arith, inv.from);
      most = search (rules, arith);
      image = ap (slice_set c.loop-i.image.items i) byte_is ∙ set_next at i x c.args.image.now.items c.loop-i.image.items inv.from small inv.image;
      state = c.next_state-state.ensures ∙ ap next_state inv.state ∙ next_after at i x inv.from;
      outside = λ j out. get_or-set_other c.loop-i.image.items i j c.byte_of.result 0
          (λ e. ⊎_elim (λ low. omega (arith, e, low, inv.from)) (λ high. omega (arith, e, high, inside)) out) ∙ inv.outside j out;
    }

pub returns-clause-scrambled : goal.returns-clause-scrambled
returns-clause-scrambled c =
    let at = c.args.at in
    let old = c.args.image.now.items in
    let reached : places at c.args.count (length old) ≤ c.loop-i.i - at = search (rules, arith) in
    let all : c.loop-i.i - at ≡ places at c.args.count (length old) = omega (arith, reached, c.loop-i.invariant.most) in
    c.loop-i.invariant.image ∙ ap (λ k. take at old ++ bytes_from k c.args.state ++ drop (at + k) old) all

pub returns-clause-state : goal.returns-clause-state
returns-clause-state c =
    let reached : places c.args.at c.args.count (length c.args.image.now.items) ≤ c.loop-i.i - c.args.at = search (rules, arith) in
    let all : c.loop-i.i - c.args.at ≡ places c.args.at c.args.count (length c.args.image.now.items) = omega (arith, reached, c.loop-i.invariant.most) in
    c.loop-i.invariant.state ∙ ap (λ k. state_after k c.args.state) all
