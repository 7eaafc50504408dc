-- Worked lines with rows of trees, and with what is stored.
use Rattle.std.proofs.Common.{◌≡◌, refl, ap, subst, ℕ, ◌≤◌, arith, false, List, [], ◌∷◌, ◌++◌, length, Some}
use Rattle.cov_loop.specs.Keeping.{KeepsAnswered}
use Rattle.cov_loop.specs.Outcome.{Outcome, answers}
use Rattle.cov_loop.specs.Turns.{RowsComeFirst}
use Rattle.cov_out.specs.Rows.{dir_row}

-- a line that isn't empty is answered by itself, and writes the directory that it names
abbrev echoed : List ℕ → List ℕ → Outcome (List ℕ)
echoed last [] = record { state = last; reply = []; rows = []; is_refused = false }
echoed last (b ∷ bs) = record { state = b ∷ bs; reply = b ∷ bs; rows = dir_row (b ∷ bs) ∷ []; is_refused = false }

-- the rows of three lines, in order
in_order : (answers echoed [] ((97 ∷ []) ∷ [] ∷ (98 ∷ 99 ∷ []) ∷ [])).rows ≡ dir_row (97 ∷ []) ∷ dir_row (98 ∷ 99 ∷ []) ∷ []
in_order = refl

-- a reply without the row that comes before it isn't written
reply_alone : RowsComeFirst echoed [] ((97 ∷ []) ∷ []) [] [] (Some (97 ∷ [])) (Some []) → ⊥
reply_alone r =
    let bytes : 97 ∷ [] ≡ r.bytes = cc in
    let rows : [] ≡ r.rows = cc in
    omega (arith, ap length rows, r.first ((97 ∷ []) ∷ []) [] refl (omega (arith, ap length bytes)))

-- the bytes stored for a state are those of its last line
abbrev is_last : List ℕ → List ℕ → Type 0
is_last last image = image ≡ last

-- a line with its reply written is lost where what is stored is that of before
answered_lost : KeepsAnswered echoed is_last length [] ((97 ∷ []) ∷ []) (97 ∷ []) [] → ⊥
answered_lost k = omega (arith, ap length k.stands, k.answered ((97 ∷ []) ∷ []) [] refl (omega arith))

-- and may be where none of its reply is
unanswered_lost : KeepsAnswered echoed is_last length [] ((97 ∷ []) ∷ []) [] []
unanswered_lost = record {
  first = [];
  rest = (97 ∷ []) ∷ [];
  front = refl;
  stands = refl;
  answered = each;
}
  where
    each : (ls ms : List (List ℕ)) → (97 ∷ []) ∷ [] ≡ ls ++ ms → length (answers echoed [] ls).reply ≤ 0 → length (answers echoed [] ls).state ≤ 0
    each [] ms e short = omega arith
    each (l ∷ ls) ms e short =
        let is : 97 ∷ [] ≡ l = cc in
        subst (λ x. length (answers echoed [] (x ∷ ls)).reply ≤ 0 → length (answers echoed [] (x ∷ ls)).state ≤ 0) is
        (λ none. absurd (omega (arith, none))) short
