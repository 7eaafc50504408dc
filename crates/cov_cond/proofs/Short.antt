-- What is exported has no expression that is too long.
use Rattle.std.proofs.Common.{◌≡◌, ℕ, ◌≤◌, Bool, true, false, cond, not, List, [], ◌∷◌, map, length, Option, Some, None, Result, Ok, Err, refl, subst, arith}
use Rattle.std.specs.List.{find, AllByRecursion}
use Rattle.std.proofs.lemmas.Bool.Decides.{nat_tests}
use Rattle.cov_base.specs.declared.limits.TheConstants.{MOST_TOKENS}
use Rattle.cov_edit.specs.declared.command.Command.{Command}
use Rattle.cov_edit.specs.History.{options_of, option_count}
use Rattle.cov_edit.specs.Replay.{replay}
use Rattle.cov_edit.specs.Variant.{lines_of}
use Rattle.cov_history.specs.Laws.{text_of}
use Rattle.cov_cond_text.specs.Conditional.{CondLine, projection}
use Rattle.cov_cond_text.specs.Reading.{read_text}
use Rattle.cov_cond.specs.Exporting.{is_few, is_short, Listed, listed, present_lines, conditional_text, unless_long, exported, IsShort, AreShort}
use Rattle.cov_cond.specs.Laws.{ExportGivesText, ExportedIsRead}

few-is : (counted : Result ℕ ℕ) → is_few counted ≡ true → (count : ℕ) × (counted ≡ Ok count) × (count ≤ MOST_TOKENS)
few-is (Ok count) h = let few : count ≤ MOST_TOKENS = grind (arith, nat_tests, h) in (count, refl, few)
few-is (Err at) h = absurd (cc)

all-short : (names : List (List ℕ)) (rs : List Listed) → find (λ r. not (is_short names r.first.listing)) rs ≡ None → AllByRecursion (λ r. IsShort names r.first.listing) rs
all-short names [] h = tt
all-short names (r ∷ rs) h = at (is_short names r.first.listing) refl h (all-short names rs)
  where
    at : (b : Bool) → is_short names r.first.listing ≡ b → cond (not b) (Some r) (find (λ q. not (is_short names q.first.listing)) rs) ≡ None
        → (find (λ q. not (is_short names q.first.listing)) rs ≡ None → AllByRecursion (λ q. IsShort names q.first.listing) rs) → AllByRecursion (λ q. IsShort names q.first.listing) (r ∷ rs)
    at true e none rest = (few-is _ e, rest none)
    at false e none rest = absurd (cc)

exported-is : (history : List Command) (file : ℕ) (lines : List (List ℕ)) → exported history file ≡ Ok lines → AreShort history file × (conditional_text history file ≡ lines)
unfolding exported
exported-is history file lines h = at (find (λ r. not (is_short (options_of history) r.first.listing)) (listed (present_lines history file))) refl h
  where
    at : (o : Option Listed) → find (λ r. not (is_short (options_of history) r.first.listing)) (listed (present_lines history file)) ≡ o → unless_long o (conditional_text history file) ≡ Ok lines
        → AreShort history file × (conditional_text history file ≡ lines)
    at None e is = (all-short (options_of history) (listed (present_lines history file)) e, cc)
    at (Some r) e is = absurd (cc)

-- so the law of conditional texts holds of it
pub exported-read : ExportGivesText → ExportedIsRead
exported-read gives history file lines legal h =
    let is = exported-is history file lines h in
    subst (λ ls. (t : List CondLine) × (read_text (options_of history) ls ≡ Ok t)
    × ((c : List Bool) → length c ≡ option_count history → projection t c ≡ map text_of (lines_of (replay c history) file))) is.1 (gives history file legal is.0)
