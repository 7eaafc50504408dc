-- Texts of expressions with what they mean.
use Rattle.std.proofs.Common.{◌≡◌, ℕ, List, [], ◌∷◌, ◌++◌, map, replicate, true, false, refl}
use Rattle.std.specs.Prelude.{codes, Result, Ok, Err, is_ok}
use Rattle.cov_expr.specs.ExpressionText.{text_of}
use Rattle.cov_expr.specs.Formula.{Formula, False, True, On, Not, And, Or, value, reach, part_count}
use Rattle.cov_expr.specs.Naming.{bound_expression}
use Rattle.cov_expr.specs.Options.{option_name}
use Rattle.cov_expr.specs.Reading.{parsed}
use Rattle.cov_expr.specs.Tokens.{Tokens, BadByte, tokens_of}
use Rattle.cov_expr.specs.declared.naming.NameFault.{NameFault}
use Rattle.cov_expr.specs.declared.naming.NameFault.TheVariants.{UnknownOption}
use Rattle.cov_expr.specs.declared.spelling.ExprFault.{ExprFault}
use Rattle.cov_expr.specs.declared.spelling.ExprFault.TheVariants.{Syntax, TooLong}
use Rattle.cov_expr.specs.declared.token.Token.TheVariants.{Word, Bang, Amp, Bar, Open, Close}

-- words are as long as fits, and spaces are no tokens
lex_all : tokens_of (codes "ab & !(c9|_) ")
    ≡ Tokens ((0, Word (codes "ab")) ∷ (3, Amp) ∷ (5, Bang) ∷ (6, Open) ∷ (7, Word (codes "c9")) ∷ (9, Bar) ∷ (10, Word (codes "_")) ∷ (11, Close) ∷ [])
lex_all = refl

lex_digit : tokens_of (codes " a_1&!(9b)") ≡ BadByte 7
lex_digit = refl

abbrev name : List ℕ → Formula (List ℕ)
name bytes = On bytes

abbrev a : Formula (List ℕ)
a = name (codes "a")

abbrev b : Formula (List ℕ)
b = name (codes "b")

abbrev c : Formula (List ℕ)
c = name (codes "c")

abbrev Answer : Type 0
Answer = Result (Formula (List ℕ)) ExprFault

abbrev spelt : Formula (List ℕ) → Answer
spelt e = Ok e

abbrev refused : ExprFault → Answer
refused fault = Err fault

-- an & binds tighter than an |, a ! tighter than both, and both group to the left
groups : map parsed (codes "a | b & !c" ∷ codes "a | b | c" ∷ codes "a & b & c" ∷ codes "(a | b) & c" ∷ codes "!a & b" ∷ [])
    ≡ spelt (Or a (And b (Not c))) ∷ spelt (Or (Or a b) c) ∷ spelt (And (And a b) c) ∷ spelt (And (Or a b) c) ∷ spelt (And (Not a) b) ∷ []
groups = refl

words : map parsed (codes "true&false" ∷ codes "a1 | _2" ∷ codes "truex" ∷ [])
    ≡ spelt (And True False) ∷ spelt (Or (name (codes "a1")) (name (codes "_2"))) ∷ spelt (name (codes "truex")) ∷ []
words = refl

-- a byte that begins no token comes before all else; then the first token with which none goes on, or the end
places : map parsed (codes "a b" ∷ codes "a & " ∷ [] ∷ codes "   " ∷ codes "(a" ∷ codes "a)" ∷ codes "a & | b" ∷ codes "!" ∷ codes "()" ∷ codes "a & $" ∷ codes "a $ b )" ∷ codes "1a" ∷ [])
    ≡ map (λ at. refused (Syntax at)) (2 ∷ 4 ∷ 0 ∷ 3 ∷ 2 ∷ 1 ∷ 4 ∷ 1 ∷ 1 ∷ 4 ∷ 2 ∷ 0 ∷ [])
places = refl

-- 256 tokens are an expression, 257 are too many, unless a byte begins none
most_tokens : is_ok (parsed (replicate 255 33 ++ codes "a")) ≡ true
most_tokens = refl

too_many_tokens : map parsed ((replicate 256 33 ++ codes "a") ∷ (replicate 300 40 ++ codes " $") ∷ []) ≡ refused TooLong ∷ refused (Syntax 301) ∷ []
too_many_tokens = refl

abbrev either_not : Formula ℕ
either_not = Or (On 0) (And (On 1) (Not (On 4)))

-- an option at or above the count of a choice is off
values : map (value either_not) ((false ∷ false ∷ []) ∷ (false ∷ true ∷ []) ∷ (true ∷ false ∷ []) ∷ (false ∷ true ∷ false ∷ false ∷ true ∷ []) ∷ [])
    ≡ false ∷ true ∷ true ∷ false ∷ []
values = refl

sizes : (part_count either_not ∷ reach either_not ∷ []) ≡ 6 ∷ 5 ∷ []
sizes = refl

abbrev names : List (List ℕ)
names = codes "a" ∷ codes "c" ∷ []

abbrev Bound : Type 0
Bound = Result (Formula ℕ) NameFault

abbrev bound : Formula ℕ → Bound
bound e = Ok e

abbrev unknown : List ℕ → Bound
unknown name = Err (UnknownOption name)

-- the first name from the left that is no option's
bindings : map (bound_expression names) (And (Not c) (Or a True) ∷ Or (And c b) (name (codes "on")) ∷ [])
    ≡ bound (And (Not (On 1)) (Or (On 0) True)) ∷ unknown (codes "b") ∷ []
bindings = refl

abbrev letters : List (List ℕ)
letters = codes "a" ∷ codes "b" ∷ codes "c" ∷ []

abbrev text_if_bound : Bound → List ℕ
text_if_bound (Ok e) = text_of (option_name letters) e
text_if_bound (Err fault) = []

abbrev text_if_parsed : Answer → List ℕ
text_if_parsed (Ok e) = text_if_bound (bound_expression letters e)
text_if_parsed (Err fault) = []

-- a text that is read, bound and printed keeps the parentheses that it needs, and one space on each side of & and |
printed : map (λ text. text_if_parsed (parsed text)) (codes "a&(b|c)" ∷ codes "((a))" ∷ codes "a & b & c" ∷ codes "a & (b & c)" ∷ codes "! !a | false" ∷ [])
    ≡ codes "a & (b | c)" ∷ codes "a" ∷ codes "a & b & c" ∷ codes "a & (b & c)" ∷ codes "!!a | false" ∷ []
printed = refl

-- an | keeps its parentheses below an & and at the right of an |, an & at the right of an & alone, and both below a !
needed : map (λ text. text_if_parsed (parsed text)) (codes "(a|b)&c" ∷ codes "(a|b)|c" ∷ codes "a|(b|c)" ∷ codes "(a&b)&c" ∷ codes "(a&b)|(b&c)" ∷ codes "!(a&b)|!(a|b)&(!c)" ∷ [])
    ≡ codes "(a | b) & c" ∷ codes "a | b | c" ∷ codes "a | (b | c)" ∷ codes "a & b & c" ∷ codes "a & b | b & c" ∷ codes "!(a & b) | !(a | b) & !c" ∷ []
needed = refl
