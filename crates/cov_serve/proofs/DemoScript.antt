-- What a number's script comes to is what its whole text is answered.
use Rattle.std.proofs.Common.{◌≡◌, ◌∙◌, refl, sym, ap, subst, ℕ, suc, Bool, true, false, List, [], ◌∷◌, ◌++◌, append_assoc}
use Rattle.std.specs.Prelude.{codes, get_or, nat_eq, if◌then◌else◌}
use Rattle.cov_base.specs.Lines.{lines_of, onto_first_line}
use Rattle.cov_loop.specs.Outcome.{answers}
use Rattle.cov_script.specs.Commits.{after_commits, commit_lines, delete_line, each_below, insert_lines, opening_line, plan_of}
use Rattle.cov_script.specs.Demonstration.{checkout_lines, default_line, demo_text, each_commit, first_commit_lines, made_lines, option_line, rule_lines}
use Rattle.cov_script.specs.Draws.{state_after}
use Rattle.cov_serve.specs.Laws.{DemosAreScripts}
use Rattle.cov_serve.specs.Program.{demo_line}
use Rattle.cov_lines.specs.States.{State, starting}
use Rattle.cov_lines.specs.Step.{step}
use Rattle.cov_serve.proofs.DemoParts.{parts_are}
use Rattle.cov_serve.proofs.TurnsAfter.{last_are, replies_are, rows_are}

-- lines behind others
module _ (ms : List (List ℕ)) where
  state_joined : (st : State) (ls : List (List ℕ)) → (answers step st (ls ++ ms)).state ≡ (answers step (answers step st ls).state ms).state
  state_joined st [] = refl
  state_joined st (l ∷ ls) = state_joined (step st l).state ls

  reply_joined : (st : State) (ls : List (List ℕ)) → (answers step st (ls ++ ms)).reply ≡ (answers step st ls).reply ++ (answers step (answers step st ls).state ms).reply
  reply_joined st [] = refl
  reply_joined st (l ∷ ls) =
      let next = (step st l).state in
      ap (λ r. (step st l).reply ++ r) (reply_joined next ls)
      ∙ sym (append_assoc (step st l).reply (answers step next ls).reply (answers step (answers step next ls).state ms).reply)

  rows_joined : (st : State) (ls : List (List ℕ)) → (answers step st (ls ++ ms)).rows ≡ (answers step st ls).rows ++ (answers step (answers step st ls).state ms).rows
  rows_joined st [] = refl
  rows_joined st (l ∷ ls) =
      let next = (step st l).state in
      ap (λ r. (step st l).rows ++ r) (rows_joined next ls)
      ∙ sym (append_assoc (step st l).rows (answers step next ls).rows (answers step (answers step next ls).state ms).rows)

-- a text that ends with byte 10 has a line
record Begins (ls : List (List ℕ)) : Type 0 where
  first : List ℕ
  rest : List (List ℕ)
  is : ls ≡ first ∷ rest

ended_begins : (front : List ℕ) → Begins (lines_of (front ++ 10 ∷ []))
ended_begins [] = record { first = []; rest = []; is = refl }
ended_begins (b ∷ bs) = at (nat_eq b 10) (ended_begins bs)
  where
    at : (ends : Bool) → Begins (lines_of (bs ++ 10 ∷ [])) → Begins (if ends then [] ∷ lines_of (bs ++ 10 ∷ []) else onto_first_line b (lines_of (bs ++ 10 ∷ [])))
    at true on = record { first = []; rest = lines_of (bs ++ 10 ∷ []); is = refl }
    at false on = record { first = b ∷ on.first; rest = on.rest; is = ap (onto_first_line b) on.is }

-- the lines of what follows it come behind its own
lines_joined : (front rest : List ℕ) → lines_of ((front ++ 10 ∷ []) ++ rest) ≡ lines_of (front ++ 10 ∷ []) ++ lines_of rest
lines_joined [] rest = refl
lines_joined (b ∷ bs) rest = at (nat_eq b 10) (lines_joined bs rest)
  where
    own : List (List ℕ)
    own = lines_of (bs ++ 10 ∷ [])

    onto : Begins own → onto_first_line b (own ++ lines_of rest) ≡ onto_first_line b own ++ lines_of rest
    onto on = subst (λ ls. onto_first_line b (ls ++ lines_of rest) ≡ onto_first_line b ls ++ lines_of rest) (sym on.is) refl

    at : (ends : Bool) → lines_of ((bs ++ 10 ∷ []) ++ rest) ≡ own ++ lines_of rest
        → (if ends then [] ∷ lines_of ((bs ++ 10 ∷ []) ++ rest) else onto_first_line b (lines_of ((bs ++ 10 ∷ []) ++ rest))) ≡ (if ends then [] ∷ own else onto_first_line b own) ++ lines_of rest
    at true e = ap (λ ls. [] ∷ ls) e
    at false e = ap (onto_first_line b) e ∙ onto (ended_begins bs)

-- what comes before the checkouts ends with byte 10
record Ended (text : List ℕ) : Type 0 where
  front : List ℕ
  is : text ≡ front ++ 10 ∷ []

ended_behind : (xs ys : List ℕ) → Ended ys → Ended (xs ++ ys)
ended_behind xs ys on = record { front = xs ++ on.front; is = ap (λ y. xs ++ y) on.is ∙ sym (append_assoc xs on.front (10 ∷ [])) }

commit_ended : (index number : ℕ) → Ended (commit_lines (suc index) (after_commits index number))
commit_ended index number =
    let before = after_commits index number in
    let plan = plan_of before.draws in
    ended_behind (opening_line plan.on plan.other plan.ambition ++ insert_lines plan.file (suc index) (state_after 4 before.draws) ++ delete_line plan.file (get_or before.marks plan.file 0))
    (codes "commit s\n") (record { front = codes "commit s"; is = refl })

each_ended : (count : ℕ) (text : ℕ → List ℕ) → ((index : ℕ) → Ended (text index)) → Ended (each_below (suc count) text)
unfolding each_below
each_ended count text each = ended_behind (each_below count text) (text count) (each count)

made_ended : (number : ℕ) → Ended (made_lines number)
made_ended number =
    ended_behind (each_below 64 option_line ++ rule_lines ++ each_below 64 default_line ++ first_commit_lines) (each_commit number)
    (each_ended 399 (λ index. commit_lines (suc index) (after_commits index number)) (λ index. commit_ended index number))

lines_are : (number : ℕ) → lines_of (demo_text number) ≡ lines_of (made_lines number) ++ lines_of checkout_lines
lines_are number =
    let on = made_ended number in
    ap lines_of (parts_are number)
    ∙ subst (λ made. lines_of (made ++ checkout_lines) ≡ lines_of made ++ lines_of checkout_lines) (sym on.is) (lines_joined on.front checkout_lines)

pub demos-are-scripts : DemosAreScripts
demos-are-scripts history number =
    let start = starting history in
    let made = made_lines number in
    let line = demo_line number in (
      ap (λ ls. (answers step start ls).reply) (lines_are number) ∙ reply_joined (lines_of checkout_lines) start (lines_of made),
      replies_are history made checkout_lines line,
      rows_are history made checkout_lines line ∙ sym (ap (λ ls. (answers step start ls).rows) (lines_are number) ∙ rows_joined (lines_of checkout_lines) start (lines_of made)),
      last_are history made checkout_lines line ∙ sym (ap (λ ls. (answers step start ls).state.history) (lines_are number) ∙ ap (λ (s : State). s.history) (state_joined (lines_of checkout_lines) start (lines_of made))),
    )
