-- What a legal history declares and inserts is well spelt.
use Rattle.std.proofs.Common.{◌≡◌, ℕ, ◌+◌, ◌<◌, ◌≤◌, Bool, true, false, cond, ◌&&◌, nat_le, List, [], ◌∷◌, ◌++◌, length, length-append, append_assoc, append-nil, None, refl, sym, ap, subst, ◌∙◌, arith}
use Rattle.std.specs.List.{fold, list_all, AllByRecursion, IsDistinct}
use Rattle.std.specs.Str.{bytes_eq}
use Rattle.std.proofs.lemmas.Bool.{and_parts}
use Rattle.std.proofs.lemmas.Bool.Decides.{nat_tests}
use Rattle.std.proofs.lemmas.Cmp.{nat_list_eq_equiv}
use Rattle.std.proofs.lemmas.Map.Keys.{IsDistinct-push}
use Rattle.cov_base.specs.Spelling.{is_line_text, is_option_name}
use Rattle.cov_base.specs.declared.limits.TheConstants.{CHOICE_WIDTH, LIMITS}
use Rattle.cov_base.proofs.CallerLemmas.{all-placed}
use Rattle.cov_expr.specs.Formula.{Formula}
use Rattle.cov_expr.specs.Options.{is_declared}
use Rattle.cov_edit.specs.declared.edit.Edit.{Edit}
use Rattle.cov_edit.specs.declared.edit.Edit.TheVariants as edits
use Rattle.cov_edit.specs.declared.command.Command.{Command}
use Rattle.cov_edit.specs.declared.command.Command.TheVariants as commands
use Rattle.cov_edit.specs.EditFits.{fits_edit}
use Rattle.cov_edit.specs.Fits.{fits_expr, fits_with_side}
use Rattle.cov_edit.specs.History.{options_of}
use Rattle.cov_edit.specs.Limits.{limits_of}
use Rattle.cov_edit.specs.Numbering.{Numbers, no_numbers, node_number, node_count_after, line_count_after, numbers_after, numbered_edit, numbered_from}
use Rattle.cov_edit.specs.Replay.{first_within, rest_within, changes_within, commit_changes}
use Rattle.cov_edit.specs.Sides.{unsided, conditions}
use Rattle.cov_edit.proofs.CallerLemmas.{edits-fit, limits-most}
use Rattle.cov_edit.specs.Variant.{Line, is_line}
use Rattle.cov_view.specs.Refusals.{when, first_of}
use Rattle.cov_view.proofs.CallerLemmas.{none-when}
use Rattle.cov_history.specs.Kept.{Kept, kept_address, kept_after, kept_with, hidden, hidden_where, Holding, nothing_held, held_with, held_from, kept_of}
use Rattle.cov_history.specs.Verdict.{IsLegal, IsLegalFrom, verdict, refusals_of}
use Rattle.cov_history.specs.declared.refusal.Refusal.TheVariants as refusals
use Rattle.cov_history.proofs.CallerLemmas.{all-mapped, lines-edits}

-- a kept line has a text that a line can have
abbrev pub IsSpelt : Kept Line → Type 0
IsSpelt k = is_line_text k.item.text ≡ true

hidden-spelt : (test : Line → Bool) (q : ℕ) (within : Formula ℕ) (k : Kept Line) → IsSpelt k → IsSpelt (hidden_where test q within k)
hidden-spelt test q within k h = at (test k.item)
  where
    at : (b : Bool) → IsSpelt (cond b (hidden q within k) k)
    at true = h
    at false = h

edit-spelt : (q : ℕ) (within : Formula ℕ) (ns : Numbers) (t : List (List ℕ)) (node line : ℕ) (e : Edit) (ks : List (Kept Line)) → fits_edit e ≡ true → AllByRecursion IsSpelt ks
    → AllByRecursion IsSpelt (kept_after q within ks (numbered_edit ns t node line e))
edit-spelt q within ns t node line (edits.New kind parent name) ks fits h = h
edit-spelt q within ns t node line (edits.Insert file after text) ks fits h = all-placed kept_address IsSpelt _ ks fits h
edit-spelt q within ns t node line (edits.Delete file which) ks fits h =
    let test : Line → Bool = is_line (node_number ns.nodes file) _ in
    all-mapped IsSpelt IsSpelt (hidden_where test q within) (hidden-spelt test q within) ks h
edit-spelt q within ns t node line (edits.Rename which name) ks fits h = h
edit-spelt q within ns t node line (edits.Move which parent) ks fits h = h
edit-spelt q within ns t node line (edits.Remove which) ks fits h = h

edits-spelt : (q : ℕ) (within : List (Formula ℕ)) (ns : Numbers) (t : List (List ℕ)) (node line : ℕ) (es : List Edit) (ks : List (Kept Line)) → list_all fits_edit es ≡ true → AllByRecursion IsSpelt ks
    → AllByRecursion IsSpelt (fold (kept_with q) ks (changes_within within (numbered_from ns t node line es)))
edits-spelt q within ns t node line [] ks fits h = h
edits-spelt q within ns t node line (e ∷ es) ks fits h =
    let own = and_parts (fits_edit e) (list_all fits_edit es) fits in
    edits-spelt q (rest_within within) ns t (node_count_after node e) (line_count_after line e) es (kept_after q (first_within within) ks (numbered_edit ns t node line e)) own.1
    (edit-spelt q (first_within within) ns t node line e ks own.0 h)

held-spelt : (q : ℕ) (held : Holding) (ns : Numbers) (before later : List Command) → IsLegalFrom before later → AllByRecursion IsSpelt held.lines → AllByRecursion IsSpelt (held_from q held ns later).lines
held-spelt q held ns before [] legal h = h
held-spelt q held ns before (commands.Commit base choice ambition ss ∷ later) legal h =
    held-spelt (q + 1) (fold (held_with (q + 1)) held (commit_changes ns ambition ss)) (numbers_after ns (unsided ss)) (before ++ commands.Commit base choice ambition ss ∷ []) later legal.2
    (subst (AllByRecursion IsSpelt) (sym (lines-edits (q + 1) held (commit_changes ns ambition ss)))
    (edits-spelt (q + 1) (conditions ambition ss) ns (numbers_after ns (unsided ss)).addresses ns.nodes (length ns.addresses) (unsided ss) held.lines
    (edits-fit ss (and_parts (fits_expr ambition) (list_all fits_with_side ss) legal.0).1) h))
held-spelt q held ns before (commands.Option name ∷ later) legal h = held-spelt (q + 1) held ns (before ++ commands.Option name ∷ []) later legal.2 h
held-spelt q held ns before (commands.Constraint expr ∷ later) legal h = held-spelt (q + 1) held ns (before ++ commands.Constraint expr ∷ []) later legal.2 h
held-spelt q held ns before (commands.Prefer expr ∷ later) legal h = held-spelt (q + 1) held ns (before ++ commands.Prefer expr ∷ []) later legal.2 h
held-spelt q held ns before (commands.Default option on ∷ later) legal h = held-spelt (q + 1) held ns (before ++ commands.Default option on ∷ []) later legal.2 h
held-spelt q held ns before (commands.Upgrade ∷ later) legal h = held-spelt (q + 1) held ns (before ++ commands.Upgrade ∷ []) later legal.2 h

-- the texts of a legal history's lines are those that lines can have
pub legal-texts : (history : List Command) → IsLegal history → AllByRecursion IsSpelt (kept_of history)
legal-texts history legal = held-spelt 0 nothing_held no_numbers [] history legal tt

-- names that a history can declare: well spelt, no two the same, and not too many
pub record AreNames (names : List (List ℕ)) : Type 0 where
  pub spelt : list_all is_option_name names ≡ true
  pub distinct : IsDistinct bytes_eq names
  pub most : length names ≤ CHOICE_WIDTH

options-append : (history later : List Command) → options_of (history ++ later) ≡ options_of history ++ options_of later
options-append [] later = refl
options-append (commands.Option name ∷ history) later = ap (λ names. name ∷ names) (options-append history later)
options-append (commands.Constraint expr ∷ history) later = options-append history later
options-append (commands.Prefer expr ∷ history) later = options-append history later
options-append (commands.Default option on ∷ history) later = options-append history later
options-append (commands.Commit b c a ss ∷ history) later = options-append history later
options-append (commands.Upgrade ∷ history) later = options-append history later

name-more : (history : List Command) (name : List ℕ) → is_option_name name ≡ true → verdict history (commands.Option name) ≡ None → AreNames (options_of history) → AreNames (options_of history ++ name ∷ [])
name-more history name fits accepted names = record {
  spelt = every (options_of history) names.spelt;
  distinct = IsDistinct-push nat_list_eq_equiv (options_of history) name names.distinct new;
  most = omega (arith, less (limits_of history).options (length (options_of history)) room.0, (limits-most history).options, length-append (options_of history) (name ∷ []));
}
  where
    early : first_of (refusals_of history (commands.Option name)) ≡ None
    early = (none-when (nat_le LIMITS.commands (length history)) refusals.Full (refusals_of history (commands.Option name)) accepted).1

    room : (nat_le (limits_of history).options (length (options_of history)) ≡ false) × (first_of (when (is_declared (options_of history) name) refusals.Exists ∷ []) ≡ None)
    room = none-when (nat_le (limits_of history).options (length (options_of history))) refusals.Full (when (is_declared (options_of history) name) refusals.Exists ∷ []) early

    new : is_declared (options_of history) name ≡ false
    new = (none-when (is_declared (options_of history) name) refusals.Exists [] room.1).0

    less : (most n : ℕ) → nat_le most n ≡ false → n < most
    less most n h = grind (arith, nat_tests, h)

    every : (ns : List (List ℕ)) → list_all is_option_name ns ≡ true → list_all is_option_name (ns ++ name ∷ []) ≡ true
    every [] h = λ j. fits j && true
    every (n ∷ ns) h = let parts = and_parts (is_option_name n) (list_all is_option_name ns) h in λ j. parts.0 j && every ns parts.1 j

names-along : (before later : List Command) → IsLegalFrom before later → AreNames (options_of before) → AreNames (options_of (before ++ later))
names-along before [] legal names = subst (λ h. AreNames (options_of h)) (sym (append-nil before)) names
names-along before (commands.Option name ∷ later) legal names =
    subst (λ h. AreNames (options_of h)) (append_assoc before (commands.Option name ∷ []) later)
    (names-along (before ++ commands.Option name ∷ []) later legal.2 (subst AreNames (sym (options-append before (commands.Option name ∷ []))) (name-more before name legal.0 legal.1 names)))
names-along before (commands.Constraint expr ∷ later) legal names =
    subst (λ h. AreNames (options_of h)) (append_assoc before (commands.Constraint expr ∷ []) later)
    (names-along (before ++ commands.Constraint expr ∷ []) later legal.2 (subst AreNames (sym (options-append before (commands.Constraint expr ∷ []) ∙ append-nil (options_of before))) names))
names-along before (commands.Prefer expr ∷ later) legal names =
    subst (λ h. AreNames (options_of h)) (append_assoc before (commands.Prefer expr ∷ []) later)
    (names-along (before ++ commands.Prefer expr ∷ []) later legal.2 (subst AreNames (sym (options-append before (commands.Prefer expr ∷ []) ∙ append-nil (options_of before))) names))
names-along before (commands.Default option on ∷ later) legal names =
    subst (λ h. AreNames (options_of h)) (append_assoc before (commands.Default option on ∷ []) later)
    (names-along (before ++ commands.Default option on ∷ []) later legal.2 (subst AreNames (sym (options-append before (commands.Default option on ∷ []) ∙ append-nil (options_of before))) names))
names-along before (commands.Commit b c a ss ∷ later) legal names =
    subst (λ h. AreNames (options_of h)) (append_assoc before (commands.Commit b c a ss ∷ []) later)
    (names-along (before ++ commands.Commit b c a ss ∷ []) later legal.2 (subst AreNames (sym (options-append before (commands.Commit b c a ss ∷ []) ∙ append-nil (options_of before))) names))
names-along before (commands.Upgrade ∷ later) legal names =
    subst (λ h. AreNames (options_of h)) (append_assoc before (commands.Upgrade ∷ []) later)
    (names-along (before ++ commands.Upgrade ∷ []) later legal.2 (subst AreNames (sym (options-append before (commands.Upgrade ∷ []) ∙ append-nil (options_of before))) names))

no-names : AreNames []
unfolding IsDistinct
no-names = record { spelt = refl; distinct = tt; most = omega arith }

-- the names that a legal history declares
pub legal-names : (history : List Command) → IsLegal history → AreNames (options_of history)
legal-names history legal = names-along [] history legal no-names
