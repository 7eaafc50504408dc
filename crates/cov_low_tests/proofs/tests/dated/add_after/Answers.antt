use Rattle.std.proofs.Common.{◌≡◌, ◌∙◌, ◌+◌, ◌&&◌, ◌||◌, ℕ, Bool, true, false, nat_lt, nat_le, nat_eq, List, refl, ap, arith}
use Rattle.std.proofs.lemmas.Bool.Decides.{nat_tests}
use Rattle.cov_base.specs.Addresses.{after_anchor}
use Rattle.cov_order.specs.Orders.{has_line}
use Rattle.cov_file.specs.Dated.{DatedLine, line_numbers_of}
use Rattle.cov_file.proofs.CallerLemmas.{has_after}
use Rattle.cov_low_tests.proofs.tests.dated.add_after.Goals as goal

-- the numbers up to one, and the next
next : (n anchor : ℕ) → (nat_eq (anchor + 1) n || (nat_lt 0 n && nat_le n anchor)) ≡ (nat_lt 0 n && nat_le n (anchor + 1))
next n anchor = by (nat_eq (anchor + 1) n) (nat_lt 0 n) (nat_le n anchor) (nat_le n (anchor + 1)) refl refl refl refl
  where
    by : (a b c d : Bool) → nat_eq (anchor + 1) n ≡ a → nat_lt 0 n ≡ b → nat_le n anchor ≡ c → nat_le n (anchor + 1) ≡ d → (a || (b && c)) ≡ (b && d)
    by true true c true e f g h = refl
    by true true c false e f g h = absurd (grind (arith, nat_tests, e, f, g, h))
    by true false c d e f g h = absurd (grind (arith, nat_tests, e, f, g, h))
    by false true true true e f g h = refl
    by false true true false e f g h = absurd (grind (arith, nat_tests, e, f, g, h))
    by false true false true e f g h = absurd (grind (arith, nat_tests, e, f, g, h))
    by false true false false e f g h = refl
    by false false c d e f g h = refl

pub returns-clause-numbers : goal.returns-clause-numbers
returns-clause-numbers c = λ n.
    ap (has_line n) c.insert.ensures.numbers
    ∙ ap (λ (ls : List DatedLine). has_line n (after_anchor c.new-before.result c.new-line.result (line_numbers_of ls))) c.prepare-2.ensures.lines
    ∙ has_after n c.new-before.result c.new-line.result (line_numbers_of c.args.file.now.lines)
    ∙ (λ j. nat_eq (c.new-line.ensures j) n || c.requires.numbers n j)
    ∙ next n c.args.anchor
