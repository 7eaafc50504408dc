-- Worked conditional texts.
use Rattle.std.proofs.Common.{◌≡◌, ℕ, Bool, true, false, List, [], ◌∷◌, ◌++◌, map, Ok, Err, refl}
use Rattle.std.specs.Prelude.{codes}
use Rattle.cov_base.specs.Addresses.{line_of}
use Rattle.cov_expr.specs.Formula.{On, Not}
use Rattle.cov_edit.specs.declared.command.Command.{Command}
use Rattle.cov_edit.specs.declared.command.Command.TheVariants as commands
use Rattle.cov_edit.specs.Replay.{replay}
use Rattle.cov_edit.specs.Variant.{lines_of}
use Rattle.cov_edit.proofs.CallerLemmas.{absent_anchor as history}
use Rattle.cov_cond_text.specs.Conditional.{CondLine, projection}
use Rattle.cov_cond.specs.Exporting.{conditional_text}
use Rattle.cov_cond.specs.Importing.{imported}
use Rattle.cov_cond_text.specs.Reading.{read_text}
use Rattle.cov_cond_text.specs.declared.fault.CondFault.TheVariants as faults

-- B is there where d is on alone
exported : conditional_text history 1 ≡ codes "A" ∷ codes "X" ∷ codes "#if d" ∷ codes "B" ∷ codes "#endif" ∷ codes "C" ∷ []
exported = refl

abbrev names : List (List ℕ)
names = codes "d" ∷ []

abbrev one_option : List Command
one_option = commands.Option (codes "d") ∷ []

abbrev spelt : List (List ℕ)
spelt = codes "A" ∷ codes "#if d" ∷ codes "B" ∷ codes "#else" ∷ codes "##b" ∷ codes "#endif" ∷ codes "C" ∷ []

abbrev text : List CondLine
text =
    record { conditions = []; text = codes "A"; group = 0 }
    ∷ record { conditions = On 0 ∷ []; text = codes "B"; group = 1 }
    ∷ record { conditions = Not (On 0) ∷ []; text = codes "#b"; group = 2 }
    ∷ record { conditions = []; text = codes "C"; group = 3 }
    ∷ []

read_back : read_text names spelt ≡ Ok text
read_back = refl

with_d : projection text (true ∷ []) ≡ codes "A" ∷ codes "B" ∷ codes "C" ∷ []
with_d = refl

abbrev after : List Command
after = one_option ++ imported one_option 0 (codes "m") text

abbrev numbered_on : List Bool → List (ℕ × List ℕ)
numbered_on c = map (λ l. (line_of l.address, l.text)) (lines_of (replay c after) 1)

imported_with_d : numbered_on (true ∷ []) ≡ (1, codes "A") ∷ (4, codes "B") ∷ (2, codes "C") ∷ []
imported_with_d = refl

imported_without_d : numbered_on (false ∷ []) ≡ (1, codes "A") ∷ (3, codes "#b") ∷ (2, codes "C") ∷ []
imported_without_d = refl

-- a block that is open at the end
still_open : read_text names (codes "A" ∷ codes "#if d" ∷ codes "B" ∷ codes "#else" ∷ codes "##b" ∷ []) ≡ Err (faults.Syntax 6)
still_open = refl

unknown : read_text names (codes "#if d & e" ∷ []) ≡ Err (faults.UnknownOption 1 (codes "e"))
unknown = refl
