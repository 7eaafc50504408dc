use Rattle.std.proofs.Common.{◌∙◌, ◌<◌, ◌≡◌, ◌≢◌, ℕ, sym, ap, length, arith, ◌==◌}
use Rattle.std.proofs.lemmas.Nat.Bits.{bit_at_above}
use Rattle.std.specs.Int.{bit_at}
use Rattle.cov_base.specs.Bits.{length-bits_of, bits_of-with, below_from_bits}
use Rattle.cov_base.specs.Choices.{with_option}
use Rattle.cov_base.proofs.choice.Choice.with.Goals as goal
use Rattle.cov_base.specs.declared.limits.TheConstants.{CHOICE_WIDTH}

-- the option is below the count of options
within : (c : goal.After-with_bit) → c.args.option < c.self.inside.count
within c =
    let count : length c.args.self.now ≡ c.self.inside.count = ap length (sym c.self.view_is) ∙ length-bits_of c.self.inside.count c.self.inside.bits in
    omega (arith, count, c.requires)

-- the other bits are as before
others : (c : goal.After-with_bit) → (i : ℕ) → i < CHOICE_WIDTH → i ≢ c.args.option → bit_at c.with_bit.result i ≡ bit_at c.self.inside.bits i
others c i lt ne = c.with_bit.ensures.others i lt (λ e. ne (e ∙ c.number.ensures.number))

pub invariant_of-result : goal.invariant_of-result
invariant_of-result c =
    let option : c.args.option < c.self.inside.count = within c in (
      c.self.invariant.0,
      below_from_bits CHOICE_WIDTH c.self.inside.count c.with_bit.result c.with_bit.type_inv
          (λ i lt above.
          let ne : i ≢ c.args.option = λ e. absurd (omega (arith, e, above, option)) in
          others c i lt ne ∙ bit_at_above c.self.inside.bits c.self.inside.count i c.self.invariant.1 above),
    )

pub returns : goal.returns
returns c =
    let option : c.args.option < c.self.inside.count = within c in
    bits_of-with c.self.inside.count c.self.inside.bits c.with_bit.result c.args.option c.args.on
    (ap (λ o. bit_at c.with_bit.result o == 1) (sym c.number.ensures.number) ∙ c.with_bit.ensures.set)
    (λ i lt ne. others c i (omega (arith, lt, c.self.invariant.0)) ne)
    ∙ ap (λ v. with_option v c.args.option c.args.on) c.self.view_is
