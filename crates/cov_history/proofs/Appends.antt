-- What longer histories hold.
use Rattle.std.proofs.Common.{◌≡◌, ℕ, ◌+◌, Bool, List, [], ◌∷◌, ◌++◌, length, refl, ap, ◌∙◌, arith}
use Rattle.std.specs.List.{fold}
use Rattle.cov_expr.specs.Formula.{Formula}
use Rattle.cov_edit.specs.declared.sided.Sided.{Sided}
use Rattle.cov_edit.specs.declared.command.Command.{Command}
use Rattle.cov_edit.specs.declared.command.Command.TheVariants as commands
use Rattle.cov_edit.specs.Numbering.{Numbers, no_numbers, numbers_after, numbers_from, numbers_of}
use Rattle.cov_edit.specs.Replay.{Change, commit_changes}
use Rattle.cov_edit.specs.Sides.{unsided}
use Rattle.cov_history.specs.Kept.{kept_with, entries_with, Holding, nothing_held, held_with, held_from, held_by, kept_of, entries_of}

held_from-append : (p q : ℕ) (held : Holding) (ns : Numbers) (history later : List Command) → p ≡ q + length history
    → held_from q held ns (history ++ later) ≡ held_from p (held_from q held ns history) (numbers_from ns history) later
held_from-append p q held ns [] later e =
    let same : q ≡ p = omega (arith, e) in
    ap (λ k. held_from k held ns later) same
held_from-append p q held ns (commands.Commit base choice ambition ss ∷ history) later e =
    held_from-append p (q + 1) (fold (held_with (q + 1)) held (commit_changes ns ambition ss)) (numbers_after ns (unsided ss)) history later (omega (arith, e))
held_from-append p q held ns (commands.Option name ∷ history) later e = held_from-append p (q + 1) held ns history later (omega (arith, e))
held_from-append p q held ns (commands.Constraint expr ∷ history) later e = held_from-append p (q + 1) held ns history later (omega (arith, e))
held_from-append p q held ns (commands.Prefer expr ∷ history) later e = held_from-append p (q + 1) held ns history later (omega (arith, e))
held_from-append p q held ns (commands.Default option on ∷ history) later e = held_from-append p (q + 1) held ns history later (omega (arith, e))
held_from-append p q held ns (commands.Upgrade ∷ history) later e = held_from-append p (q + 1) held ns history later (omega (arith, e))

pub holding-goes_on : (history later : List Command) → held_by (history ++ later) ≡ held_from (length history) (held_by history) (numbers_of history) later
holding-goes_on history later = held_from-append (length history) 0 nothing_held no_numbers history later (omega arith)

pub lines-edits : (q : ℕ) (held : Holding) (changes : List Change) → (fold (held_with q) held changes).lines ≡ fold (kept_with q) held.lines changes
lines-edits q held [] = refl
lines-edits q held (change ∷ changes) = lines-edits q (held_with q held change) changes

pub rows-edits : (q : ℕ) (held : Holding) (changes : List Change) → (fold (held_with q) held changes).rows ≡ fold (entries_with q) held.rows changes
rows-edits q held [] = refl
rows-edits q held (change ∷ changes) = rows-edits q (held_with q held change) changes

pub commit-lines : (history : List Command) (base : ℕ) (choice : List Bool) (ambition : Formula ℕ) (ss : List Sided)
    → kept_of (history ++ commands.Commit base choice ambition ss ∷ []) ≡ fold (kept_with (length history + 1)) (kept_of history) (commit_changes (numbers_of history) ambition ss)
commit-lines history base choice ambition ss =
    ap (λ (held : Holding). held.lines) (holding-goes_on history (commands.Commit base choice ambition ss ∷ []))
    ∙ lines-edits (length history + 1) (held_by history) (commit_changes (numbers_of history) ambition ss)

pub commit-rows : (history : List Command) (base : ℕ) (choice : List Bool) (ambition : Formula ℕ) (ss : List Sided)
    → entries_of (history ++ commands.Commit base choice ambition ss ∷ []) ≡ fold (entries_with (length history + 1)) (entries_of history) (commit_changes (numbers_of history) ambition ss)
commit-rows history base choice ambition ss =
    ap (λ (held : Holding). held.rows) (holding-goes_on history (commands.Commit base choice ambition ss ∷ []))
    ∙ rows-edits (length history + 1) (held_by history) (commit_changes (numbers_of history) ambition ss)
