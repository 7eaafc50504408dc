-- Worked conditional texts, and lines that are none.
use Rattle.std.proofs.Common.{◌≡◌, ℕ, true, false, List, [], ◌∷◌, ◌++◌, map, replicate, refl}
use Rattle.std.specs.Prelude.{codes, Result, Ok, Err, is_ok}
use Rattle.cov_expr.specs.Formula.{Formula, On, Not, And}
use Rattle.cov_cond_text.specs.Conditional.{CondLine, conjunction, projection}
use Rattle.cov_cond_text.specs.Reading.{read_text}
use Rattle.cov_cond_text.specs.declared.fault.CondFault.{CondFault}
use Rattle.cov_cond_text.specs.declared.fault.CondFault.TheVariants as faults

abbrev names : List (List ℕ)
names = codes "d" ∷ codes "e" ∷ []

abbrev Answer : Type 0
Answer = Result (List CondLine) CondFault

abbrev gives : List CondLine → Answer
gives t = Ok t

abbrev fault : CondFault → Answer
fault f = Err f

abbrev line : List (Formula ℕ) → List ℕ → ℕ → CondLine
line conditions text group = record { conditions = conditions; text = text; group = group }

abbrev opened : List ℕ
opened = codes "#if d"

abbrev closed : List ℕ
closed = codes "#endif"

abbrev other : List ℕ
other = codes "#else"

-- both sides of a block, and a text that begins with #
abbrev spelt : List (List ℕ)
spelt = codes "A" ∷ opened ∷ codes "B" ∷ other ∷ codes "##b" ∷ closed ∷ codes "C" ∷ []

abbrev text : List CondLine
text = line [] (codes "A") 0 ∷ line (On 0 ∷ []) (codes "B") 1 ∷ line (Not (On 0) ∷ []) (codes "#b") 2 ∷ line [] (codes "C") 3 ∷ []

sides : read_text names spelt ≡ gives text
sides = refl

with_d : projection text (true ∷ false ∷ []) ≡ codes "A" ∷ codes "B" ∷ codes "C" ∷ []
with_d = refl

without_d : projection text (false ∷ false ∷ []) ≡ codes "A" ∷ codes "#b" ∷ codes "C" ∷ []
without_d = refl

-- a block within the other side of a block, with its conditions from outside inwards
nested : read_text names (opened ∷ other ∷ codes "#if e" ∷ codes "x" ∷ closed ∷ codes "y" ∷ closed ∷ [])
    ≡ gives (line (Not (On 0) ∷ On 1 ∷ []) (codes "x") 3 ∷ line (Not (On 0) ∷ []) (codes "y") 4 ∷ [])
nested = refl

-- a line has the conjunction of its conditions, grouped to the left
to_the_left : conjunction (On 0 ∷ On 1 ∷ Not (On 0) ∷ []) ≡ And (And (On 0) (On 1)) (Not (On 0))
to_the_left = refl

-- no lines, an empty line, and a carriage return that belongs to its text
plain : map (read_text names) ([] ∷ ([] ∷ []) ∷ ((codes "A" ++ 13 ∷ []) ∷ []) ∷ []) ≡ gives [] ∷ gives (line [] [] 0 ∷ []) ∷ gives (line [] (codes "A" ++ 13 ∷ []) 0 ∷ []) ∷ []
plain = refl

-- a line that is none of the format
no_forms : map (λ l. read_text names (codes "A" ∷ opened ∷ l ∷ closed ∷ []))
    (codes "#elif e" ∷ codes "# if e" ∷ codes "#ifdef e" ∷ codes "#if" ∷ codes "#if " ∷ codes "#if d &" ∷ codes "#" ∷ codes "#endif " ∷ (closed ++ 13 ∷ []) ∷ codes "#else e" ∷ [])
    ≡ replicate 10 (fault (faults.Syntax 3))
no_forms = refl

-- the end or the other side of no block, and a second other side
unopened : map (read_text names) ((closed ∷ []) ∷ (other ∷ []) ∷ (codes "A" ∷ opened ∷ closed ∷ closed ∷ []) ∷ (opened ∷ other ∷ other ∷ closed ∷ []) ∷ [])
    ≡ fault (faults.Syntax 1) ∷ fault (faults.Syntax 1) ∷ fault (faults.Syntax 4) ∷ fault (faults.Syntax 3) ∷ []
unopened = refl

-- a block that is open at the end
still_open : map (read_text names) ((opened ∷ []) ∷ (codes "A" ∷ opened ∷ codes "B" ∷ other ∷ codes "##b" ∷ []) ∷ (opened ∷ opened ∷ closed ∷ []) ∷ [])
    ≡ fault (faults.Syntax 2) ∷ fault (faults.Syntax 6) ∷ fault (faults.Syntax 4) ∷ []
still_open = refl

-- the first name of no option, and the first line at fault
unknown : map (read_text names) ((codes "#if d & f | g" ∷ []) ∷ (codes "#if f" ∷ codes "#elif" ∷ []) ∷ (opened ∷ closed ∷ closed ∷ codes "#if f" ∷ []) ∷ [])
    ≡ fault (faults.UnknownOption 1 (codes "f")) ∷ fault (faults.UnknownOption 1 (codes "f")) ∷ fault (faults.Syntax 3) ∷ []
unknown = refl

-- an expression of so many signs that aren't, and then a name
abbrev negations : ℕ → List ℕ → List ℕ
negations n name = codes "#if " ++ (replicate n 33 ++ name)

-- an expression of too many tokens, also of a name of no option
too_many_tokens : map (read_text names) ((negations 256 (codes "d") ∷ []) ∷ (negations 256 (codes "f") ∷ []) ∷ []) ≡ fault (faults.TooLong 1) ∷ fault (faults.TooLong 1) ∷ []
too_many_tokens = refl

-- conditions of 256 parts with the operator between them, and of 257, which come before a name of no option
most_parts : is_ok (read_text names (negations 127 (codes "d") ∷ negations 126 (codes "e") ∷ closed ∷ closed ∷ [])) ≡ true
most_parts = refl

too_many_parts : map (λ name. read_text names (negations 127 (codes "d") ∷ codes "A" ∷ negations 127 name ∷ closed ∷ closed ∷ [])) (codes "e" ∷ codes "f" ∷ [])
    ≡ fault (faults.TooLong 3) ∷ fault (faults.TooLong 3) ∷ []
too_many_parts = refl

-- the other side has one part more
too_many_after_else : map (read_text names) ((negations 255 (codes "d") ∷ other ∷ closed ∷ []) ∷ (opened ∷ negations 253 (codes "e") ∷ other ∷ closed ∷ closed ∷ []) ∷ [])
    ≡ fault (faults.TooLong 2) ∷ fault (faults.TooLong 3) ∷ []
too_many_after_else = refl

-- a text of 4,096 bytes and one of one byte more, also behind a second #
long_texts : map (λ l. is_ok (read_text names (l ∷ []))) (replicate 4096 65 ∷ replicate 4097 65 ∷ (35 ∷ replicate 4096 35) ∷ (35 ∷ replicate 4097 35) ∷ [])
    ≡ true ∷ false ∷ true ∷ false ∷ []
long_texts = refl
