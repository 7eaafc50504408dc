-- Each valid variant of a legal history is sound.
use Rattle.std.proofs.Common.{◌≡◌, ℕ, ◌≤◌, Bool, true, false, ◌&&◌, nat_lt, List, [], ◌∷◌, ◌++◌, length, length-append, take, append_assoc, append-nil, None, is_some, refl, sym, ap, subst, ◌∙◌, arith}
use Rattle.std.specs.List.{list_any, AllByRecursion}
use Rattle.std.proofs.Math.Seq.{take-length}
use Rattle.std.proofs.lemmas.Bool.{and_parts}
use Rattle.std.proofs.lemmas.Bool.Decides.{nat_tests}
use Rattle.std.proofs.lemmas.List.{length-take, take-append-le}
use Rattle.cov_base.specs.Choices.{all_choices}
use Rattle.cov_base.specs.Faults.{fault_of}
use Rattle.cov_base.proofs.CallerLemmas.{is_some-find, none-is}
use Rattle.cov_expr.specs.Formula.{Formula, value, reach}
use Rattle.cov_expr.specs.Validity.{is_valid}
use Rattle.cov_edit.specs.declared.sided.Sided.{Sided}
use Rattle.cov_edit.specs.declared.command.Command.{Command}
use Rattle.cov_edit.specs.declared.command.Command.TheVariants as commands
use Rattle.cov_edit.specs.History.{option_count, constraints_of, is_valid_in}
use Rattle.cov_edit.specs.Replay.{replay}
use Rattle.cov_edit.specs.Sides.{unsided, reach_within}
use Rattle.cov_edit.proofs.CallerLemmas.{ambition-low, nothing_outside, outside-ambition, replay-append}
use Rattle.cov_rules.proofs.CallerLemmas.{none_passes, value_by_first_options}
use Rattle.cov_view.proofs.CallerLemmas.{none-first, none-when}
use Rattle.cov_history.specs.BadChoices.{fault_after, is_bad, bad_choice}
use Rattle.cov_history.specs.RowChanges.{changes_rows}
use Rattle.cov_history.specs.Verdict.{verdict, when_full, refusals_of, IsLegalFrom, IsLegal}
use Rattle.cov_history.specs.declared.refusal.Refusal.TheVariants as refusals
use Rattle.cov_history.proofs.BadChoices.{no-bad, none-bad}
use Rattle.cov_history.proofs.Naming.{sound-accepted}
use Rattle.cov_history.proofs.Older.{legal-take}
use Rattle.cov_history.proofs.Reaching.{options-later, accepted-reach}
use Rattle.cov_history.proofs.RowChanges.{rows-kept}
use Rattle.cov_history.proofs.Unread.{commit-front}

take-front : (before later : List Command) → take (length before) (before ++ later) ≡ before
take-front before later = take-append-le (length before) before later (omega arith) ∙ take-length before

-- a longer history declares no fewer options
pub options-grow : (before later : List Command) → option_count before ≤ option_count (before ++ later)
options-grow before later =
    let more = options-later (length before) (length (before ++ later)) (before ++ later) (omega (arith, length-append before later)) in
    let front = ap option_count (take-front before later) in
    let whole = ap option_count (take-length (before ++ later)) in
    omega (arith, more, front, whole)

-- a choice that is valid was so before
valid-earlier : (c : List Bool) (before later : List Command) → is_valid_in (before ++ later) c ≡ true → is_valid_in before c ≡ true
valid-earlier c [] later h = refl
valid-earlier c (commands.Option name ∷ before) later h = valid-earlier c before later h
valid-earlier c (commands.Constraint expr ∷ before) later h =
    let parts = and_parts (value expr c) (is_valid_in (before ++ later) c) h in
    λ i. parts.0 i && valid-earlier c before later parts.1 i
valid-earlier c (commands.Prefer expr ∷ before) later h = valid-earlier c before later h
valid-earlier c (commands.Default option on ∷ before) later h = valid-earlier c before later h
valid-earlier c (commands.Commit base choice ambition ss ∷ before) later h = valid-earlier c before later h
valid-earlier c (commands.Upgrade ∷ before) later h = valid-earlier c before later h

-- the options of an accepted constraint are declared
rule-low : (history : List Command) (e : Formula ℕ) → verdict history (commands.Constraint e) ≡ None → reach e ≤ option_count history
rule-low history e h =
    let named : nat_lt (option_count history) (reach e) ≡ false =
    (none-when (nat_lt (option_count history) (reach e)) refusals.BadOption _ (none-first (when_full history) (refusals_of history (commands.Constraint e)) h).1).0 in
    grind (arith, nat_tests, named)

-- expressions that have only the options that a history declares
abbrev pub AreLow : List Command → List (Formula ℕ) → Type 0
AreLow history es = AllByRecursion (λ e. reach e ≤ option_count history) es

low-next : (before : List Command) (k : Command) (later : List Command) → AreLow ((before ++ k ∷ []) ++ later) (constraints_of later) → AreLow (before ++ k ∷ later) (constraints_of later)
low-next before k later h = subst (λ history. AreLow history (constraints_of later)) (append_assoc before (k ∷ []) later) h

-- so do all constraints of a legal history
pub rules-low : (before later : List Command) → IsLegalFrom before later → AreLow (before ++ later) (constraints_of later)
rules-low before [] legal = tt
rules-low before (commands.Option name ∷ later) legal = low-next before (commands.Option name) later (rules-low (before ++ commands.Option name ∷ []) later legal.2)
rules-low before (commands.Constraint e ∷ later) legal =
    let low = rule-low before e legal.1 in
    let more = options-grow before (commands.Constraint e ∷ later) in
    (omega (arith, low, more), low-next before (commands.Constraint e) later (rules-low (before ++ commands.Constraint e ∷ []) later legal.2))
rules-low before (commands.Prefer e ∷ later) legal = low-next before (commands.Prefer e) later (rules-low (before ++ commands.Prefer e ∷ []) later legal.2)
rules-low before (commands.Default option on ∷ later) legal = low-next before (commands.Default option on) later (rules-low (before ++ commands.Default option on ∷ []) later legal.2)
rules-low before (commands.Commit base choice ambition ss ∷ later) legal =
    low-next before (commands.Commit base choice ambition ss) later (rules-low (before ++ commands.Commit base choice ambition ss ∷ []) later legal.2)
rules-low before (commands.Upgrade ∷ later) legal = low-next before commands.Upgrade later (rules-low (before ++ commands.Upgrade ∷ []) later legal.2)

-- so only these options count in whether a choice is valid
valid-front : (history : List Command) (c : List Bool) → IsLegal history → is_valid_in history c ≡ is_valid_in history (take (option_count history) c)
valid-front history c legal = same (constraints_of history) (rules-low [] history legal)
  where
    same : (es : List (Formula ℕ)) → AreLow history es → is_valid es c ≡ is_valid es (take (option_count history) c)
    same [] h = refl
    same (e ∷ es) h = λ i. sym (value_by_first_options (option_count history) e c h.0) i && same es h.1 i

-- each valid variant of a history is sound
abbrev IsSoundOn : List Command → Type 0
IsSoundOn history = (c : List Bool) → option_count history ≤ length c → is_valid_in history c ≡ true → fault_of (replay c history).rows ≡ None

-- a command that is no commit leaves each variant as it is
declared-sound : (history : List Command) (k : Command) → ((c : List Bool) → replay c (history ++ k ∷ []) ≡ replay c history) → IsSoundOn history → IsSoundOn (history ++ k ∷ [])
declared-sound history k same sound c long valid =
    let more = options-grow history (k ∷ []) in
    ap (λ v. fault_of v.rows) (same c) ∙ sound c (omega (arith, more, long)) (valid-earlier c history (k ∷ []) valid)

-- an accepted commit leaves them sound, as it has no bad choice
commit-sound : (history : List Command) (base : ℕ) (choice : List Bool) (ambition : Formula ℕ) (ss : List Sided) → IsLegal history → verdict history (commands.Commit base choice ambition ss) ≡ None
    → IsSoundOn history → IsSoundOn (history ++ commands.Commit base choice ambition ss ∷ [])
commit-sound history base choice ambition ss legal accepted sound c long valid = at (value ambition c) refl
  where
    k : Command
    k = commands.Commit base choice ambition ss

    n : ℕ
    n = option_count history

    none : bad_choice history ambition k ≡ None
    none = no-bad history ambition k (sound-accepted history base choice ambition ss accepted)

    low : reach_within ambition ss ≤ n
    low =
        let reached = accepted-reach history base choice ambition ss accepted in
        let named : reach_within ambition ss ≤ option_count (take base history) = reached.1 in
        let more = options-later base (length history) history reached.0 in
        let whole = ap option_count (take-length history) in
        omega (arith, named, more, whole)

    enough : n ≤ length c
    enough = let more = options-grow history (k ∷ []) in omega (arith, more, long)

    earlier : is_valid_in history c ≡ true
    earlier = valid-earlier c history (k ∷ []) valid

    at : (b : Bool) → value ambition c ≡ b → fault_of (replay c (history ++ k ∷ [])).rows ≡ None
    at true e =
        ap (λ v. fault_of v.rows) (commit-front history base choice ambition ss legal low c)
        ∙ none-bad history ambition k none (take n c) (let some = enough in let front = length-take n c in omega (arith, some, front))
        (sym (valid-front history c legal) ∙ earlier) (value_by_first_options n ambition c (ambition-low n ambition ss low) ∙ e)
    at false e =
        ap (λ v. fault_of v.rows) (nothing_outside c history base choice ambition ss (outside-ambition c ambition ss e))
        ∙ sound c enough earlier

next-sound : (history : List Command) (k : Command) → IsLegal history → verdict history k ≡ None → IsSoundOn history → IsSoundOn (history ++ k ∷ [])
next-sound history (commands.Option name) legal accepted sound = declared-sound history (commands.Option name) (λ c. replay-append c history (commands.Option name ∷ [])) sound
next-sound history (commands.Constraint e) legal accepted sound = declared-sound history (commands.Constraint e) (λ c. replay-append c history (commands.Constraint e ∷ [])) sound
next-sound history (commands.Prefer e) legal accepted sound = declared-sound history (commands.Prefer e) (λ c. replay-append c history (commands.Prefer e ∷ [])) sound
next-sound history (commands.Default option on) legal accepted sound = declared-sound history (commands.Default option on) (λ c. replay-append c history (commands.Default option on ∷ [])) sound
next-sound history (commands.Commit base choice ambition ss) legal accepted sound = commit-sound history base choice ambition ss legal accepted sound
next-sound history commands.Upgrade legal accepted sound = declared-sound history commands.Upgrade (λ c. replay-append c history (commands.Upgrade ∷ [])) sound

sound-along : (before later : List Command) → IsLegal (before ++ later) → IsLegalFrom before later → IsSoundOn before → IsSoundOn (before ++ later)
sound-along before [] whole legal sound = subst IsSoundOn (sym (append-nil before)) sound
sound-along before (k ∷ later) whole legal sound =
    let start : IsLegal before = subst IsLegal (take-front before (k ∷ later)) (legal-take (length before) [] (before ++ k ∷ later) whole) in
    subst IsSoundOn (append_assoc before (k ∷ []) later)
    (sound-along (before ++ k ∷ []) later (subst IsLegal (sym (append_assoc before (k ∷ []) later)) whole) legal.2 (next-sound before k start legal.1 sound))

pub legal-sound : (history : List Command) (c : List Bool) → IsLegal history → option_count history ≤ length c → is_valid_in history c ≡ true → fault_of (replay c history).rows ≡ None
legal-sound history c legal long valid = sound-along [] history legal legal (λ d h i. refl) c long valid

-- so edits of lines alone have no bad choice
pub lines-sound : (history : List Command) (base : ℕ) (choice : List Bool) (ambition : Formula ℕ) (ss : List Sided) → IsLegal history → list_any changes_rows (unsided ss) ≡ false
    → bad_choice history ambition (commands.Commit base choice ambition ss) ≡ None
lines-sound history base choice ambition ss legal h =
    none-is (bad_choice history ambition k) (is_some-find (is_bad history ambition k) (all_choices (option_count history)) ∙ none_passes (option_count history) (is_bad history ambition k) each)
  where
    k : Command
    k = commands.Commit base choice ambition ss

    last : (b : Bool) → (b && false) ≡ false
    last true = refl
    last false = refl

    each : (c : List Bool) → length c ≡ option_count history → is_bad history ambition k c ≡ false
    each c whole = at (is_valid_in history c) refl
      where
        at : (b : Bool) → is_valid_in history c ≡ b → (b && (value ambition c && is_some (fault_after history k c))) ≡ false
        at true e =
            ap (λ o. value ambition c && is_some o) (ap fault_of (rows-kept c history base choice ambition ss h) ∙ legal-sound history c legal (omega (arith, whole)) e) ∙ last (value ambition c)
        at false e = refl
