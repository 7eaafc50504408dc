-- Lines that are appended for one number after another.
use Rattle.std.proofs.Common.{◌≡◌, ℕ, suc, ◌+◌, ◌%◌, List, ◌++◌, ap, sym, ◌∙◌, append_assoc, subst, refl, arith}
use Rattle.std.proofs.lemmas.List.{append-nil}
use Rattle.cov_script.specs.Commits.{each_below, insert_line, drawn_line, after_commit, after_commits}
use Rattle.cov_script.specs.Draws.{next_state, drawn, state_after}
use Rattle.cov_script.specs.declared.commits.Commits.{Commits}
use Rattle.cov_script.specs.declared.line.LineField.TheVariants as fields

module _ (start : List ℕ) (line : ℕ → List ℕ) where
  -- no number has a line yet
  pub none_below : start ≡ start ++ each_below 0 line
  unfolding each_below
  none_below = sym (append-nil start)

  -- one number more has its line
  more_below : (text : List ℕ) (count : ℕ) → text ≡ start ++ each_below count line → text ++ line count ≡ start ++ each_below (suc count) line
  unfolding each_below
  more_below text count h = ap (λ t. t ++ line count) h ∙ append_assoc start (each_below count line) (line count)

  pub one_more_below : (text : List ℕ) (count : ℕ) → text ≡ start ++ each_below count line → text ++ line count ≡ start ++ each_below (count + 1) line
  one_more_below text count h =
      let next : suc count ≡ count + 1 = omega arith in
      subst (λ n. text ++ line count ≡ start ++ each_below n line) next (more_below text count h)

-- what is appended last is joined to what was appended before
pub joined : (start before last text more : List ℕ) → text ≡ start ++ before → more ≡ text ++ last → more ≡ start ++ (before ++ last)
joined start before last text more h is = is ∙ ap (λ t. t ++ last) h ∙ append_assoc start before last

-- nothing is drawn yet
pub none_drawn : (x : ℕ) → x ≡ state_after 0 x
unfolding state_after
none_drawn x = refl

state_more : (x count state : ℕ) → state ≡ state_after count x → next_state state ≡ state_after (suc count) x
unfolding state_after
state_more x count state h = ap next_state h

-- one number more is drawn
pub one_more_drawn : (x count state after : ℕ) → state ≡ state_after count x → after ≡ next_state state → after ≡ state_after (count + 1) x
one_more_drawn x count state after h is =
    let next : suc count ≡ count + 1 = omega arith in
    is ∙ subst (λ n. next_state state ≡ state_after n x) next (state_more x count state h)

made_more : (n count : ℕ) (commits : Commits) → commits ≡ after_commits count n → after_commit count commits ≡ after_commits (suc count) n
unfolding after_commits
made_more n count commits h = ap (after_commit count) h

-- one commit more is made
pub one_more_made : (n count : ℕ) (commits after : Commits) → commits ≡ after_commits count n → after ≡ after_commit count commits → after ≡ after_commits (count + 1) n
one_more_made n count commits after h is =
    let next : suc count ≡ count + 1 = omega arith in
    is ∙ subst (λ m. after_commit count commits ≡ after_commits m n) next (made_more n count commits h)

-- one line more is inserted
pub one_more_inserted : (file commit x : ℕ) (start text more : List ℕ) (others after anchor : ℕ)
    → after ≡ state_after (others + 1) x
    → anchor ≡ drawn after % (others + 1)
    → more ≡ text ++ insert_line file commit (fields.Own anchor) (others + 1)
    → text ≡ start ++ each_below others (λ i. drawn_line file commit x (suc i))
    → more ≡ start ++ each_below (others + 1) (λ i. drawn_line file commit x (suc i))
one_more_inserted file commit x start text more others after anchor state anchor-is more-is h =
    let next : others + 1 ≡ suc others = omega arith in
    let line : insert_line file commit (fields.Own anchor) (others + 1) ≡ drawn_line file commit x (others + 1) =
    ap (λ a. insert_line file commit (fields.Own a) (others + 1)) (anchor-is ∙ ap (λ s. drawn s % (others + 1)) state) in
    more-is ∙ ap (λ l. text ++ l) (line ∙ ap (λ n. drawn_line file commit x n) next)
    ∙ one_more_below start (λ i. drawn_line file commit x (suc i)) text others h
