use Rattle.std.proofs.Common.{rules, ◌≡◌, ◌-◌, [], ◌∷◌, ◌++◌, length, take, slice_index, arith, ap, sym, ◌∙◌, length-take}
use Rattle.std.proofs.lemmas.List.{get_or_append_left, length_push}
use Rattle.cov_disk.specs.Generated.{next_state, byte_of, state_after, bytes_from}
use Rattle.cov_disk.proofs.Generated.{none_pushed, next_after, pushed}
use Rattle.cov_disk.proofs.torn.resized.Goals as goal

pub loop-at-init : goal.loop-at-init
loop-at-init c =
    let front = take c.args.wanted c.args.image.items in
    let items_are : c.truncate.new.self.items ≡ front = search rules in
    let size : length c.truncate.new.self.items ≡ c.len-at.result = search rules in
    let start : c.len-at.result ≡ length front = search rules in
    let none : c.len-at.result - length front ≡ 0 = omega (arith, start) in
    record {
      size = size;
      from = omega (arith, start);
      image = items_are ∙ none_pushed front c.len-at.result c.args.state start;
      state = ap (λ k. state_after k c.args.state) (sym none);
      longer = omega (arith, ap length items_are, length-take c.args.wanted c.args.image.items);
      same = λ j low small. search rules;
    }

pub loop-at-preserved : goal.loop-at-preserved
loop-at-preserved c =
    let inv = c.loop-at.invariant in
    let front = take c.args.wanted c.args.image.items in
    let x = c.args.state in
    let n = c.loop-at._at in
    let before = c.loop-at.image.items in
    let byte_is : c.byte_of.result ≡ byte_of (next_state (state_after (n - length front) x)) = c.byte_of.ensures ∙ ap byte_of (c.next_state-state.ensures ∙ ap next_state inv.state) in
    let items_are : c.push.new.self.items ≡ before ++ c.byte_of.result ∷ [] = search rules in
    record {
      size = omega (arith, ap length items_are, length_push before c.byte_of.result, inv.size);
      from = omega (arith, inv.from);
      image = items_are ∙ ap (λ l. l ++ c.byte_of.result ∷ []) inv.image ∙ ap (λ b. front ++ bytes_from (n - length front) x ++ b ∷ []) byte_is ∙ pushed front (length front) n x inv.from;
      state = c.next_state-state.ensures ∙ ap next_state inv.state ∙ next_after (length front) n x inv.from;
      longer = omega (arith, ap length items_are, length_push before c.byte_of.result, inv.longer);
      same = λ j low small. ap (λ l. slice_index l j) items_are ∙ get_or_append_left before (c.byte_of.result ∷ []) 0 j (omega (arith, low, small, inv.longer)) ∙ inv.same j low small;
    }
