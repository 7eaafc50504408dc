-- Good sessions.
use Rattle.std.proofs.Common.{◌≡◌, ℕ, suc, ◌+◌, ◌≤◌, Bool, true, false, cond, ◌||◌, ◌&&◌, not, nat_eq, nat_lt, List, [], ◌∷◌, ◌++◌, length, length-append, take, drop, Option, Some, None, option_map, refl, sym, ap, subst, ◌∙◌, arith}
use Rattle.std.specs.List.{fold, list_all, list_any, position_or_len, AllByRecursion}
use Rattle.std.proofs.lemmas.List.{take-append-drop, take-append-le}
use Rattle.std.proofs.lemmas.Bool.{and_parts}
use Rattle.std.proofs.lemmas.Bool.Decides.{nat_tests}
use Rattle.cov_base.proofs.CallerLemmas.{any-filter}
use Rattle.cov_base.specs.Addresses.{line_of}
use Rattle.cov_base.specs.declared.number.LineRef.{LineRef}
use Rattle.cov_expr.specs.Formula.{Formula, value}
use Rattle.cov_expr.specs.Validity.{is_valid, first_false}
use Rattle.cov_edit.specs.declared.edit.Edit.{Edit}
use Rattle.cov_edit.specs.declared.command.Command.{Command}
use Rattle.cov_edit.specs.declared.command.Command.TheVariants as commands
use Rattle.cov_edit.specs.History.{option_count, constraints_of, is_valid_in}
use Rattle.cov_edit.specs.Numbering.{Numbers, no_numbers, node_count_after, line_count_after, line_number, numbers_from, numbers_of, numbered_edit, numbered_from, numbered}
use Rattle.cov_edit.specs.Variant.{Variant, edited}
use Rattle.cov_edit.specs.Replay.{changes_from, applied, replay}
use Rattle.cov_edit.specs.Sides.{conditions, reach_within}
use Rattle.cov_edit.specs.declared.sided.Sided.{Sided}
use Rattle.cov_edit.proofs.CallerLemmas.{numbers_from-append, replay-append, replay-commit, all-apply}
use Rattle.cov_view.proofs.CallerLemmas.{first-not_when}
use Rattle.cov_view.specs.References.{is_known_line}
use Rattle.cov_view.specs.Refusals.{when, first_of, shows_line, refusal, refused_at, refused_from, first_refused}
use Rattle.cov_view.specs.declared.fault.EditFault.{EditFault}
use Rattle.cov_history.specs.declared.refusal.Refusal.{Refusal}
use Rattle.cov_history.specs.declared.refusal.Refusal.TheVariants as refusals
use Rattle.cov_history.specs.BadChoices.{unsound_refusal}
use Rattle.cov_history.specs.Kept.{Holding, variant_seen, kept_number, file_kept}
use Rattle.cov_history.specs.Verdict.{as_invalid, as_bad_record, as_overtaken, as_outside, first_outside, has_no_edits, size_refusals, when_full}
use Rattle.cov_history.specs.Laws.{GoodCommitsPass}
use Rattle.cov_history.specs.Overtaking.{overtaken}
use Rattle.cov_history.specs.Sessions.{Session, edits_of, IsGood, seen, commit_of, has_commit}
use Rattle.cov_history.proofs.Files.{any-seen}

pub good-stays : (history later : List Command) (s : Session) → IsGood history s → IsGood (history ++ later) s
good-stays history later s good =
    let within : s.base ≤ length history = good.within in
    let e : take s.base history ≡ take s.base (history ++ later) = sym (take-append-le s.base history later within) in
    record {
      within = omega (arith, within, length-append history later);
      of_all_options = subst (λ h. length s.choice ≡ option_count h) e good.of_all_options;
      valid = subst (λ h. is_valid_in h s.choice ≡ true) e good.valid;
      in_ambition = good.in_ambition;
      in_sides = good.in_sides;
      in_reach = subst (λ h. reach_within s.ambition s.edits ≤ option_count h) e good.in_reach;
      accepted = subst (λ h. first_refused (numbers_of h) (replay s.choice h) (edits_of s) ≡ None) e good.accepted;
    }

-- refusals
module _ {F : Type 0} where
  first-skip : (o : Option F) (os : List (Option F)) → o ≡ None → first_of (o ∷ os) ≡ first_of os
  first-skip o os e = ap (λ p. first_of (p ∷ os)) e

  first-cons : (o : Option F) (os ps : List (Option F)) → first_of os ≡ first_of ps → first_of (o ∷ os) ≡ first_of (o ∷ ps)
  first-cons None os ps e = e
  first-cons (Some f) os ps e = refl

  first-behind : (xs os ps : List (Option F)) → first_of os ≡ first_of ps → first_of (xs ++ os) ≡ first_of (xs ++ ps)
  first-behind [] os ps e = e
  first-behind (x ∷ xs) os ps e = first-cons x (xs ++ os) (xs ++ ps) (first-behind xs os ps e)

all_pass : (c : List Bool) (es : List (Formula ℕ)) → list_all (λ e. value e c) es ≡ true → position_or_len (λ e. not (value e c)) es ≡ length es
all_pass c [] h = refl
all_pass c (e ∷ es) h = at (value e c) h (λ k. all_pass c es k)
  where
    at : (b : Bool) → (b && list_all (λ f. value f c) es) ≡ true → (list_all (λ f. value f c) es ≡ true → position_or_len (λ f. not (value f c)) es ≡ length es)
        → cond (not (not b)) (1 + position_or_len (λ f. not (value f c)) es) 0 ≡ suc (length es)
    at true k rest = let all = rest k in omega (arith, all)
    at false k rest = absurd (cc)

none-false : (c : List Bool) (es : List (Formula ℕ)) → is_valid es c ≡ true → as_invalid (first_false es c) ≡ None
none-false c es h =
    let all = all_pass c es h in
    let e : nat_lt (position_or_len (λ f. not (value f c)) es) (length es) ≡ false = grind (arith, nat_tests, all) in
    ap (λ b. as_invalid (option_map (λ n. n + 1) (cond b (Some (position_or_len (λ f. not (value f c)) es)) None))) e

-- where each side is true, none is the first that isn't
all-inside : (c : List Bool) (ss : List Sided) → AllByRecursion (λ s. value s.side c ≡ true) ss → position_or_len (λ s. not (value s.side c)) ss ≡ length ss
all-inside c [] h = refl
all-inside c (s ∷ ss) h = ap (λ b. cond (not (not b)) (1 + position_or_len (λ t. not (value t.side c)) ss) 0) h.0 ∙ (let all = all-inside c ss h.1 in omega (arith, all))

none-outside : (c : List Bool) (ss : List Sided) → AllByRecursion (λ s. value s.side c ≡ true) ss → first_outside c ss ≡ None
none-outside c ss h =
    let all = all-inside c ss h in
    let e : nat_lt (position_or_len (λ s. not (value s.side c)) ss) (length ss) ≡ false = grind (arith, nat_tests, all) in
    ap (λ b. cond b (Some (position_or_len (λ s. not (value s.side c)) ss)) None) e

-- on the choice of a good session, all its edits apply
pub sides-true : (c : List Bool) (ambition : Formula ℕ) (ss : List Sided) → value ambition c ≡ true → AllByRecursion (λ s. value s.side c ≡ true) ss → AllByRecursion (λ w. value w c ≡ true) (conditions ambition ss)
sides-true c ambition [] own h = tt
sides-true c ambition (s ∷ ss) own h = ((λ i. own i && h.0 i), sides-true c ambition ss own h.1)

pub good-passes : GoodCommitsPass
good-passes history s good =
    let within : s.base ≤ length history = good.within in
    let count : length s.choice ≡ option_count (take s.base history) = good.of_all_options in
    let below : reach_within s.ambition s.edits ≤ option_count (take s.base history) = good.in_reach in
    let at_base : nat_lt (length history) s.base ≡ false = grind (arith, nat_tests, within) in
    let counted : nat_eq (length s.choice) (option_count (take s.base history)) ≡ true = grind (arith, nat_tests, count) in
    let reached : nat_lt (option_count (take s.base history)) (reach_within s.ambition s.edits) ≡ false = grind (arith, nat_tests, below) in
    first-cons (when_full history) (bad_base ∷ bad_option ∷ sizes ++ ends) (sizes ++ empty ∷ last)
    (first-not_when (nat_lt (length history) s.base) refusals.BadBase (bad_option ∷ sizes ++ ends) at_base
    ∙ first-not_when (not (nat_eq (length s.choice) (option_count (take s.base history))) || nat_lt (option_count (take s.base history)) (reach_within s.ambition s.edits)) refusals.BadOption (sizes ++ ends)
    (ap (λ b. not b || nat_lt (option_count (take s.base history)) (reach_within s.ambition s.edits)) counted ∙ reached)
    ∙ first-behind sizes ends (empty ∷ last)
    (first-skip invalid (outside ∷ outside_side ∷ empty ∷ bad_record ∷ last) (none-false s.choice (constraints_of (take s.base history)) good.valid)
    ∙ first-not_when (not (value s.ambition s.choice)) refusals.OutsideAmbition (outside_side ∷ empty ∷ bad_record ∷ last) (ap not good.in_ambition)
    ∙ first-skip outside_side (empty ∷ bad_record ∷ last) (ap as_outside (none-outside s.choice s.edits good.in_sides))
    ∙ first-cons empty (bad_record ∷ last) last (first-skip bad_record last (ap as_bad_record good.accepted))))
  where
    sizes : List (Option Refusal)
    sizes = size_refusals history (edits_of s)

    bad_base : Option Refusal
    bad_base = when (nat_lt (length history) s.base) refusals.BadBase

    bad_option : Option Refusal
    bad_option = when (not (nat_eq (length s.choice) (option_count (take s.base history))) || nat_lt (option_count (take s.base history)) (reach_within s.ambition s.edits)) refusals.BadOption

    invalid : Option Refusal
    invalid = as_invalid (first_false (constraints_of (take s.base history)) s.choice)

    outside : Option Refusal
    outside = when (not (value s.ambition s.choice)) refusals.OutsideAmbition

    outside_side : Option Refusal
    outside_side = as_outside (first_outside s.choice s.edits)

    empty : Option Refusal
    empty = when (has_no_edits s.edits) refusals.Empty

    bad_record : Option Refusal
    bad_record = as_bad_record (first_refused (numbers_of (take s.base history)) (replay s.choice (take s.base history)) (edits_of s))

    last : List (Option Refusal)
    last = as_overtaken (overtaken history s.base s.ambition s.edits) ∷ unsound_refusal history s.ambition (commit_of s) ∷ []

    ends : List (Option Refusal)
    ends = invalid ∷ outside ∷ outside_side ∷ empty ∷ bad_record ∷ last

-- commands without commits draw no numbers and change nothing
no-commit : (ns : Numbers) (history : List Command) → has_commit history ≡ false → (numbers_from ns history ≡ ns) × (changes_from ns history ≡ [])
no-commit ns [] h = (refl, refl)
no-commit ns (commands.Commit base choice ambition ss ∷ history) h = absurd (cc)
no-commit ns (commands.Option name ∷ history) h = no-commit ns history h
no-commit ns (commands.Constraint expr ∷ history) h = no-commit ns history h
no-commit ns (commands.Prefer expr ∷ history) h = no-commit ns history h
no-commit ns (commands.Default option on ∷ history) h = no-commit ns history h
no-commit ns (commands.Upgrade ∷ history) h = no-commit ns history h

numbers-since : (base : ℕ) (history : List Command) → has_commit (drop base history) ≡ false → numbers_of history ≡ numbers_of (take base history)
numbers-since base history h =
    ap numbers_of (sym (take-append-drop base history)) ∙ numbers_from-append no_numbers (take base history) (drop base history)
    ∙ (no-commit (numbers_of (take base history)) (drop base history) h).0

replay-since : (c : List Bool) (base : ℕ) (history : List Command) → has_commit (drop base history) ≡ false → replay c history ≡ replay c (take base history)
replay-since c base history h =
    ap (replay c) (sym (take-append-drop base history)) ∙ replay-append c (take base history) (drop base history)
    ∙ ap (fold (applied c) (replay c (take base history))) (no-commit (numbers_of (take base history)) (drop base history) h).1

pub commit-shows : (history : List Command) (s : Session) → IsGood history s → has_commit (drop s.base history) ≡ false → replay s.choice (history ++ commit_of s ∷ []) ≡ seen s history
commit-shows history s good h =
    replay-commit s.choice history s.base s.choice s.ambition s.edits
    ∙ all-apply s.choice (replay s.choice history) (numbers_of history) s.ambition s.edits (sides-true s.choice s.ambition s.edits good.in_ambition good.in_sides)
    ∙ ap (λ v. fold edited v (numbered (numbers_of history) (edits_of s))) (replay-since s.choice s.base history h)
    ∙ ap (λ ns. fold edited (replay s.choice (take s.base history)) (numbered ns (edits_of s))) (numbers-since s.base history h)

-- an accepted edit is accepted on the variant with those before it
pub edit-accepted : (k : ℕ) (o : Option EditFault) (later : Option (ℕ × EditFault)) → refused_at k o later ≡ None → o ≡ None
edit-accepted k None later h = refl
edit-accepted k (Some f) later h = absurd (cc)

pub rest-accepted : (k : ℕ) (o : Option EditFault) (later : Option (ℕ × EditFault)) → refused_at k o later ≡ None → later ≡ None
rest-accepted k None later h = h
rest-accepted k (Some f) later h = absurd (cc)

pub turn-accepted : (ns : Numbers) (t : List (List ℕ)) (node line k : ℕ) (v : Variant) (begun : List Edit) (e : Edit) (later : List Edit)
    → refused_from ns v k (begun ++ e ∷ later) (numbered_from ns t node line (begun ++ e ∷ later)) ≡ None → refusal ns (fold edited v (numbered_from ns t node line begun)) e ≡ None
turn-accepted ns t node line k v [] e later h = edit-accepted k (refusal ns v e) _ h
turn-accepted ns t node line k v (d ∷ begun) e later h =
    turn-accepted ns t (node_count_after node d) (line_count_after line d) (k + 1) (edited v (numbered_edit ns t node line d)) begun e later
    (rest-accepted k (refusal ns v d) _ h)

-- a line that a choice shows is kept
pub line-shown : (c : List Bool) (p : ℕ) (held : Holding) (v : Variant) (ns : Numbers) (file : ℕ) (line : LineRef) → variant_seen c p held ≡ v → shows_line ns v file line ≡ true
    → list_any (λ k. nat_eq (kept_number k) (line_number (length ns.addresses) line)) (file_kept file held.lines) ≡ true
line-shown c p held v ns file line shown h =
    any-filter (λ k. nat_eq k.item.file file) (λ k. nat_eq (kept_number k) number) held.lines
    ∙ any-seen c p (λ l. nat_eq l.file file && nat_eq (line_of l.address) number) held.lines
    (ap (λ (w : Variant). list_any (λ l. nat_eq l.file file && nat_eq (line_of l.address) number) w.lines) shown
    ∙ (and_parts (is_known_line (length ns.addresses) line) (list_any (λ l. nat_eq l.file file && nat_eq (line_of l.address) number) v.lines) h).1)
  where
    number : ℕ
    number = line_number (length ns.addresses) line
