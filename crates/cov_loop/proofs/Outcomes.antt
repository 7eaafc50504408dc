-- What lines give, in parts.
use Rattle.std.proofs.Common.{◌≡◌, ◌∙◌, refl, sym, ap, ℕ, ◌⊎◌, inl, inr, Bool, false, ◌||◌, List, [], ◌∷◌, ◌++◌, append-nil, append_assoc}
use mathlib.Core.Bool.{or_assoc, or-false}
use Rattle.cov_loop.specs.Outcome.{Outcome, answers, followed_by}
use Rattle.cov_out.specs.declared.row.OutRow.{OutRow}

-- an outcome by its parts
abbrev outcome_of : {S : Type 0} → S → List ℕ → List OutRow → Bool → Outcome S
outcome_of state reply rows is_refused = record { state = state; reply = reply; rows = rows; is_refused = is_refused }

followed_assoc : {S : Type 0} (a b c : Outcome S) → followed_by a (followed_by b c) ≡ followed_by (followed_by a b) c
followed_assoc a b c =
    ap (λ bytes. outcome_of c.state bytes (a.rows ++ (b.rows ++ c.rows)) (a.is_refused || (b.is_refused || c.is_refused))) (sym (append_assoc a.reply b.reply c.reply))
    ∙ ap (λ rows. outcome_of c.state ((a.reply ++ b.reply) ++ c.reply) rows (a.is_refused || (b.is_refused || c.is_refused))) (sym (append_assoc a.rows b.rows c.rows))
    ∙ ap (outcome_of c.state ((a.reply ++ b.reply) ++ c.reply) ((a.rows ++ b.rows) ++ c.rows)) (sym (or_assoc a.is_refused b.is_refused c.is_refused))

-- an outcome after which nothing came
followed_none : {S : Type 0} (step : S → List ℕ → Outcome S) (o : Outcome S) → followed_by o (answers step o.state []) ≡ o
followed_none step o =
    ap (λ bytes. outcome_of o.state bytes (o.rows ++ []) (o.is_refused || false)) (append-nil o.reply)
    ∙ ap (λ rows. outcome_of o.state o.reply rows (o.is_refused || false)) (append-nil o.rows)
    ∙ ap (outcome_of o.state o.reply o.rows) (or-false o.is_refused)

-- some lines, and then others
pub answers_append : {S : Type 0} (step : S → List ℕ → Outcome S) (s : S) (ls ms : List (List ℕ))
    → answers step s (ls ++ ms) ≡ followed_by (answers step s ls) (answers step (answers step s ls).state ms)
answers_append step s [] ms = refl
answers_append step s (l ∷ ls) ms =
    let o = step s l in
    let rest = answers step o.state ls in
    ap (followed_by o) (answers_append step o.state ls ms) ∙ followed_assoc o rest (answers step rest.state ms)

-- some lines, and then one
pub answers_last : {S : Type 0} (step : S → List ℕ → Outcome S) (s : S) (ls : List (List ℕ)) (line : List ℕ)
    → answers step s (ls ++ line ∷ []) ≡ followed_by (answers step s ls) (step (answers step s ls).state line)
answers_last step s ls line =
    let first = answers step s ls in
    answers_append step s ls (line ∷ []) ∙ ap (followed_by first) (followed_none step (step first.state line))

pub nothing_first : {X : Type 0} (xs ys : List X) → xs ++ ys ≡ [] → xs ≡ []
nothing_first [] ys e = refl
nothing_first (x ∷ xs) ys e = absurd (cc)

pub nothing_next : {X : Type 0} (xs ys : List X) → xs ++ ys ≡ [] → ys ≡ []
nothing_next [] ys e = e
nothing_next (x ∷ xs) ys e = absurd (cc)

-- lines without a reply write no row, if each of them does so
pub silent : {S : Type 0} (step : S → List ℕ → Outcome S) → ((s : S) (line : List ℕ) → (step s line).reply ≡ [] → (step s line).rows ≡ [])
    → (s : S) (ls : List (List ℕ)) → (answers step s ls).reply ≡ [] → (answers step s ls).rows ≡ []
silent step told s [] e = refl
silent step told s (l ∷ ls) e =
    let o = step s l in
    let rest = answers step o.state ls in
    ap (λ rows. rows ++ rest.rows) (told s l (nothing_first o.reply rest.reply e)) ∙ silent step told o.state ls (nothing_next o.reply rest.reply e)

-- what two ways of cutting lines have in common: one of them goes further
pub cut_twice : {X : Type 0} (xs ys ls ms : List X) → xs ++ ys ≡ ls ++ ms
    → ((more : List X) × (xs ≡ ls ++ more)) ⊎ ((more : List X) × (ls ≡ xs ++ more) × (ys ≡ more ++ ms))
cut_twice [] ys ls ms e = inr (ls, refl, e)
cut_twice (x ∷ xs) ys [] ms e = inl (x ∷ xs, refl)
cut_twice (x ∷ xs) ys (l ∷ ls) ms e =
    let is : x ≡ l = cc in
    elim (cut_twice xs ys ls ms (cc)) [
      | inl c ↦ inl (c.0, ap (λ rest. x ∷ rest) c.1 ∙ ap (λ y. y ∷ (ls ++ c.0)) is)
      | inr c ↦ inr (c.0, ap (λ rest. l ∷ rest) c.1 ∙ ap (λ y. y ∷ (xs ++ c.0)) (sym is), c.2)
    ]
