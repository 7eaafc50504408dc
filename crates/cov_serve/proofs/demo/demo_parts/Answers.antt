use Rattle.std.proofs.Common.{◌∙◌, ◌-◌, ◌≤◌, sym, ap, subst, length, take, drop}
use Rattle.cov_serve.proofs.DemoParts.{has_checkouts, made_is, told_is}
use Rattle.cov_serve.proofs.demo.demo_parts.Goals as goal

pub overflow_sub-len : goal.overflow_sub-len
overflow_sub-len c = subst (λ n. 147 ≤ n) (sym c.len.ensures) (has_checkouts c.args.number c.in_ok-text.text c.in_ok-text.ensures.script)

pub returns-clause-made : goal.returns-clause-made
returns-clause-made c =
    let text = c.in_ok-text.text in
    c.in_ok-from_slice.ensures
    ∙ c.split_at.ensures.front
    ∙ ap (λ n. take (n - 147) c.as_slice.result.now) c.len.ensures
    ∙ ap (take (length text - 147)) c.as_slice.ensures
    ∙ made_is c.args.number text c.in_ok-text.ensures.script

pub returns-clause-told : goal.returns-clause-told
returns-clause-told c =
    let text = c.in_ok-text.text in
    c.in_ok-from_slice-2.ensures
    ∙ c.split_at.ensures.back
    ∙ ap (λ n. drop (n - 147) c.as_slice.result.now) c.len.ensures
    ∙ ap (drop (length text - 147)) c.as_slice.ensures
    ∙ told_is c.args.number text c.in_ok-text.ensures.script
