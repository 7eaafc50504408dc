-- Replays of longer histories.
use Rattle.std.proofs.Common.{◌≡◌, ℕ, Bool, true, false, cond, ◌&&◌, List, [], ◌∷◌, ◌++◌, length, map, append_assoc, append-nil, refl, sym, ap, ◌∙◌}
use Rattle.std.specs.List.{fold, filter, AllByRecursion}
pub use Rattle.std.proofs.lemmas.List.Sums.{fold-append}
use Rattle.cov_expr.specs.Formula.{Formula, value}
use Rattle.cov_edit.specs.declared.edit.Edit.{Edit}
use Rattle.cov_edit.specs.declared.sided.Sided.{Sided}
use Rattle.cov_edit.specs.declared.command.Command.{Command}
use Rattle.cov_edit.specs.declared.command.Command.TheVariants as commands
use Rattle.cov_edit.specs.Numbering.{Numbers, NumberedEdit, node_count_after, line_count_after, numbers_from, numbers_after, numbered_from, numbered, no_numbers, numbers_of}
use Rattle.cov_edit.specs.Sides.{unsided, conditions}
use Rattle.cov_edit.specs.Variant.{Variant, bare, edited}
use Rattle.cov_edit.specs.Replay.{Change, applying, the_change, applies, first_within, rest_within, within_behind, changes_within, commit_changes, changes_from, changes_of, applied, committed, replay}

pub numbers_from-append : (ns : Numbers) (history later : List Command) → numbers_from ns (history ++ later) ≡ numbers_from (numbers_from ns history) later
numbers_from-append ns [] later = refl
numbers_from-append ns (commands.Commit base choice ambition ss ∷ history) later = numbers_from-append (numbers_after ns (unsided ss)) history later
numbers_from-append ns (commands.Option name ∷ history) later = numbers_from-append ns history later
numbers_from-append ns (commands.Constraint e ∷ history) later = numbers_from-append ns history later
numbers_from-append ns (commands.Prefer e ∷ history) later = numbers_from-append ns history later
numbers_from-append ns (commands.Default option on ∷ history) later = numbers_from-append ns history later
numbers_from-append ns (commands.Upgrade ∷ history) later = numbers_from-append ns history later

pub changes_from-append : (ns : Numbers) (history later : List Command) → changes_from ns (history ++ later) ≡ changes_from ns history ++ changes_from (numbers_from ns history) later
changes_from-append ns [] later = refl
changes_from-append ns (commands.Commit base choice ambition ss ∷ history) later =
    ap (λ cs. commit_changes ns ambition ss ++ cs) (changes_from-append (numbers_after ns (unsided ss)) history later)
    ∙ sym (append_assoc (commit_changes ns ambition ss) (changes_from (numbers_after ns (unsided ss)) history) (changes_from (numbers_from (numbers_after ns (unsided ss)) history) later))
changes_from-append ns (commands.Option name ∷ history) later = changes_from-append ns history later
changes_from-append ns (commands.Constraint e ∷ history) later = changes_from-append ns history later
changes_from-append ns (commands.Prefer e ∷ history) later = changes_from-append ns history later
changes_from-append ns (commands.Default option on ∷ history) later = changes_from-append ns history later
changes_from-append ns (commands.Upgrade ∷ history) later = changes_from-append ns history later

-- the replay of a longer history goes on from that of the shorter
pub replay-append : (c : List Bool) (history later : List Command) → replay c (history ++ later) ≡ fold (applied c) (replay c history) (changes_from (numbers_of history) later)
replay-append c history later =
    ap (fold (applied c) bare) (changes_from-append no_numbers history later)
    ∙ fold-append (applied c) bare (changes_of history) (changes_from (numbers_of history) later)

-- the replay with one commit more
pub replay-commit : (c : List Bool) (history : List Command) (base : ℕ) (choice : List Bool) (ambition : Formula ℕ) (ss : List Sided)
    → replay c (history ++ commands.Commit base choice ambition ss ∷ []) ≡ committed c (replay c history) (numbers_of history) ambition ss
replay-commit c history base choice ambition ss = replay-append c history (commands.Commit base choice ambition ss ∷ []) ∙ ap (fold (applied c) (replay c history)) (append-nil (commit_changes (numbers_of history) ambition ss))

-- what applies of edits are those whose condition is true
pub those_that_apply : (c : List Bool) (v : Variant) (changes : List Change) → fold (applied c) v changes ≡ fold edited v (map the_change (filter (applies c) changes))
those_that_apply c v [] = refl
those_that_apply c v (change ∷ changes) = those_that_apply c (applied c v change) changes ∙ at (applies c change)
  where
    rest : List NumberedEdit
    rest = map the_change (filter (applies c) changes)

    at : (b : Bool) → fold edited (cond b (edited v change.edit) v) rest ≡ fold edited v (map the_change (cond b (change ∷ filter (applies c) changes) (filter (applies c) changes)))
    at true = refl
    at false = refl

applied_where : (c : List Bool) (v : Variant) (within : Formula ℕ) (d : NumberedEdit) (b : Bool) → value within c ≡ b → applied c v (applying within d) ≡ cond b (edited v d) v
applied_where c v within d b h = ap (λ t. cond t (edited v d) v) h

-- where the condition of each edit is true, all edits apply
pub all_within : (c : List Bool) (v : Variant) (within : List (Formula ℕ)) (ds : List NumberedEdit) → AllByRecursion (λ change. applies c change ≡ true) (changes_within within ds)
    → fold (applied c) v (changes_within within ds) ≡ fold edited v ds
all_within c v within [] h = refl
all_within c v within (d ∷ ds) h =
    ap (λ w. fold (applied c) w (changes_within (rest_within within) ds)) (applied_where c v (first_within within) d true h.0) ∙ all_within c (edited v d) (rest_within within) ds h.1

-- where it is false, none applies
pub none_outside : (c : List Bool) (v : Variant) (changes : List Change) → AllByRecursion (λ change. applies c change ≡ false) changes → fold (applied c) v changes ≡ v
none_outside c v [] h = refl
none_outside c v (change ∷ changes) h =
    ap (λ w. fold (applied c) w changes) (applied_where c v change.within change.edit false h.0) ∙ none_outside c v changes h.1

-- edits behind others apply within the expressions at their places
pub changes_within-append : (within : List (Formula ℕ)) (ds es : List NumberedEdit) → changes_within within (ds ++ es) ≡ changes_within within ds ++ changes_within (within_behind ds within) es
changes_within-append within [] es = refl
changes_within-append within (d ∷ ds) es = ap (λ cs. applying (first_within within) d ∷ cs) (changes_within-append (rest_within within) ds es)

pub behind-numbered : (ns : Numbers) (t : List (List ℕ)) (node line : ℕ) (es : List Edit) (within : List (Formula ℕ)) → within_behind (numbered_from ns t node line es) within ≡ within_behind es within
behind-numbered ns t node line [] within = refl
behind-numbered ns t node line (e ∷ es) within = behind-numbered ns t (node_count_after node e) (line_count_after line e) es (rest_within within)

-- what holds of the condition of each edit of a commit holds of each change
module _ (P : Formula ℕ → Type 0) (ambition : Formula ℕ) (ns : Numbers) (t : List (List ℕ)) where
  pub each_change : (node line : ℕ) (ss : List Sided) → AllByRecursion P (conditions ambition ss)
      → AllByRecursion (λ change. P change.within) (changes_within (conditions ambition ss) (numbered_from ns t node line (unsided ss)))
  each_change node line [] h = tt
  each_change node line (s ∷ ss) h = (h.0, each_change (node_count_after node s.edit) (line_count_after line s.edit) ss h.1)

-- where the ambition and each side are true, all edits of a commit apply
pub all-apply : (c : List Bool) (v : Variant) (ns : Numbers) (ambition : Formula ℕ) (ss : List Sided) → AllByRecursion (λ w. value w c ≡ true) (conditions ambition ss)
    → fold (applied c) v (commit_changes ns ambition ss) ≡ fold edited v (numbered ns (unsided ss))
all-apply c v ns ambition ss h =
    all_within c v (conditions ambition ss) (numbered ns (unsided ss))
    (each_change (λ w. value w c ≡ true) ambition ns (numbers_after ns (unsided ss)).addresses ns.nodes (length ns.addresses) ss h)

-- where for each edit the ambition or its side is false, none applies
pub none-apply : (c : List Bool) (v : Variant) (ns : Numbers) (ambition : Formula ℕ) (ss : List Sided) → AllByRecursion (λ w. value w c ≡ false) (conditions ambition ss)
    → fold (applied c) v (commit_changes ns ambition ss) ≡ v
none-apply c v ns ambition ss h =
    none_outside c v (commit_changes ns ambition ss)
    (each_change (λ w. value w c ≡ false) ambition ns (numbers_after ns (unsided ss)).addresses ns.nodes (length ns.addresses) ss h)

sides_as_conditions : (c : List Bool) (ambition : Formula ℕ) (b : Bool) (ss : List Sided) → AllByRecursion (λ s. (value ambition c && value s.side c) ≡ b) ss
    → AllByRecursion (λ w. value w c ≡ b) (conditions ambition ss)
sides_as_conditions c ambition b [] h = tt
sides_as_conditions c ambition b (s ∷ ss) h = (h.0, sides_as_conditions c ambition b ss h.1)

-- so it changes nothing
pub nothing_outside : (c : List Bool) (history : List Command) (base : ℕ) (choice : List Bool) (ambition : Formula ℕ) (ss : List Sided)
    → AllByRecursion (λ s. (value ambition c && value s.side c) ≡ false) ss
    → replay c (history ++ commands.Commit base choice ambition ss ∷ []) ≡ replay c history
nothing_outside c history base choice ambition ss outside =
    replay-commit c history base choice ambition ss
    ∙ none-apply c (replay c history) (numbers_of history) ambition ss (sides_as_conditions c ambition false ss outside)

pub sides_within : (c : List Bool) (history : List Command) (base : ℕ) (choice : List Bool) (ambition : Formula ℕ) (ss : List Sided)
    → replay c (history ++ commands.Commit base choice ambition ss ∷ []) ≡ fold edited (replay c history) (map the_change (filter (applies c) (commit_changes (numbers_of history) ambition ss)))
sides_within c history base choice ambition ss = replay-commit c history base choice ambition ss ∙ those_that_apply c (replay c history) (commit_changes (numbers_of history) ambition ss)
