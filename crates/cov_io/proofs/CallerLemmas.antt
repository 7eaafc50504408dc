-- What is known of the end over two steps.
use Rattle.std.proofs.Common.{ℕ, Bool, true, false, ◌∙◌, refl, arith}
use Rattle.cov_base.specs.Causes.{Rose}
use Rattle.cov_io.specs.Progress.{TracksEnd}

-- the end is known over two steps
pub tracks_both : (a b c : Bool) (p q r : ℕ) → TracksEnd a b p q → TracksEnd b c q r → TracksEnd a c p r
tracks_both a true c p q r one two = record {
  later = omega (arith, one.later, two.later);
  unended = λ no. ((one.unended (two.unended no).0).0, (two.unended no).1 ∙ (one.unended (two.unended no).0).1);
  ended = λ before now. let rose : Rose p q = one.ended before refl in omega (arith, rose, two.later);
}
tracks_both a false c p q r one two = record {
  later = omega (arith, one.later, two.later);
  unended = λ no. ((one.unended (two.unended no).0).0, (two.unended no).1 ∙ (one.unended (two.unended no).0).1);
  ended = λ before now. let rose : Rose q r = two.ended refl now in omega (arith, rose, one.later);
}
