use Rattle.std.proofs.Common.{◌∙◌, ◌<◌, ◌≡◌, sym, ap, length, arith, nat_eq}
use Rattle.std.proofs.lemmas.Nat.Bits.{shr_and_one}
use Rattle.std.specs.Int.{bit_at}
use Rattle.cov_base.specs.Bits.{length-bits_of, is_on-bits_of}
use Rattle.cov_base.specs.Choices.{is_on}
use Rattle.cov_base.proofs.choice.Choice.get.Goals as goal

pub returns : goal.returns
returns c =
    let count : length c.args.self.now ≡ c.self.inside.count = ap length (sym c.self.view_is) ∙ length-bits_of c.self.inside.count c.self.inside.bits in
    let within : c.args.option < c.self.inside.count = omega (arith, count, c.requires) in
    ap (λ n. nat_eq n 1) (shr_and_one c.self.inside.bits c.number.result ∙ ap (bit_at c.self.inside.bits) c.number.ensures.number)
    ∙ sym (is_on-bits_of c.self.inside.count c.self.inside.bits c.args.option within)
    ∙ ap (λ v. is_on v c.args.option) c.self.view_is
