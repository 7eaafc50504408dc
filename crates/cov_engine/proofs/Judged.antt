-- Worked verdicts.
use Rattle.std.proofs.Common.{◌≡◌, true, false, List, [], ◌∷◌, ◌++◌, Some, None, refl}
use Rattle.std.specs.Prelude.{codes}
use Rattle.std.specs.Str.{is_utf8, chars}
use lib.Utf8.{encode}
use Rattle.cov_base.specs.declared.number.Kind.TheVariants as kinds
use Rattle.cov_base.specs.declared.number.NodeRef.TheVariants as nodes
use Rattle.cov_base.specs.declared.number.LineRef.TheVariants as lines
use Rattle.cov_expr.specs.Formula.{False, True, On, Not}
use Rattle.cov_edit.specs.declared.edit.Edit.{Edit}
use Rattle.cov_edit.specs.declared.edit.Edit.TheVariants as edits
use Rattle.cov_edit.specs.declared.command.Command.{Command}
use Rattle.cov_edit.specs.declared.command.Command.TheVariants as commands
use Rattle.cov_edit.specs.Sides.{sided}
use Rattle.cov_edit.proofs.CallerLemmas.{commit}
use Rattle.cov_rules.specs.Completion.{Complete, Invalid, Incomplete}
use Rattle.cov_history.specs.declared.refusal.Refusal.TheVariants as refusals
use Rattle.cov_history.specs.Completing.{completed_in}
use Rattle.cov_history.specs.Verdict.{verdict, IsLegal}

-- a file with a line, the options d and e, and a constraint that d is on
abbrev history : List Command
history =
    commands.Option (codes "d")
    ∷ commit 1 (true ∷ []) True (edits.New kinds.File (nodes.Old 0) (codes "m") ∷ edits.Insert (nodes.New 0) (lines.Old 0) (codes "A") ∷ [])
    ∷ commands.Option (codes "e")
    ∷ commands.Constraint (On 0)
    ∷ []

is_legal : IsLegal history
unfolding is_utf8 chars encode
is_legal = (refl, refl, (refl, refl, (refl, refl, (refl, refl, tt))))

exists : verdict history (commands.Option (codes "d")) ≡ Some refusals.Exists
exists = refl

another_option : verdict history (commands.Option (codes "f")) ≡ None
another_option = refl

undeclared : verdict history (commands.Constraint (On 2)) ≡ Some refusals.BadOption
undeclared = refl

false_everywhere : verdict history (commands.Constraint False) ≡ Some refusals.NoVariantLeft
false_everywhere = refl

-- the new constraint can hold, but not beside the one that stands
false_beside_others : verdict history (commands.Constraint (Not (On 0))) ≡ Some refusals.NoVariantLeft
false_beside_others = refl

true_beside_others : verdict history (commands.Constraint (Not (On 1))) ≡ None
true_beside_others = refl

-- preferences and defaults that can't hold change nothing, so they are accepted
preferred_anyway : verdict history (commands.Prefer False) ≡ None
preferred_anyway = refl

undeclared_default : verdict history (commands.Default 2 true) ≡ Some refusals.BadOption
undeclared_default = refl

-- the default comes to nothing beside the constraint on d, and a preference comes before it
abbrev wishing : List Command
wishing = history ++ commands.Prefer (On 1) ∷ commands.Default 0 false ∷ commands.Default 1 false ∷ []

all_completed : completed_in wishing [] ≡ Complete (true ∷ true ∷ [])
all_completed = refl

invalid_with : completed_in wishing ((0, false) ∷ []) ≡ Invalid 1
invalid_with = refl

left_open : completed_in history [] ≡ Incomplete (Some 1)
left_open = refl

abbrev insert_B : Edit
insert_B = edits.Insert (nodes.Old 1) (lines.Old 1) (codes "B")

abbrev no_line : Edit
no_line = edits.Insert (nodes.Old 1) (lines.Old 2) (codes "C")

accepted : verdict history (commit 4 (true ∷ false ∷ []) (On 0) (insert_B ∷ [])) ≡ None
accepted = refl

-- before the constraint the choice was valid
at_an_older_base : verdict history (commit 3 (false ∷ false ∷ []) True (insert_B ∷ [])) ≡ None
at_an_older_base = refl

invalid : verdict history (commit 4 (false ∷ false ∷ []) False []) ≡ Some (refusals.Invalid 1)
invalid = refl

outside_ambition : verdict history (commit 4 (true ∷ false ∷ []) (On 1) []) ≡ Some refusals.OutsideAmbition
outside_ambition = refl

-- of the sides, that of the second edit is false on the choice
outside_side : verdict history (commands.Commit 4 (true ∷ false ∷ []) True (sided (On 0) insert_B ∷ sided (On 1) insert_B ∷ sided False insert_B ∷ [])) ≡ Some (refusals.OutsideSide 1)
outside_side = refl

-- the ambition is looked at before the sides, and these before the edits
outside_both : verdict history (commands.Commit 4 (true ∷ false ∷ []) (On 1) (sided (On 1) insert_B ∷ [])) ≡ Some refusals.OutsideAmbition
outside_both = refl

outside_before_bad : verdict history (commands.Commit 4 (true ∷ false ∷ []) True (sided (On 1) no_line ∷ [])) ≡ Some (refusals.OutsideSide 0)
outside_before_bad = refl

inside_each_side : verdict history (commands.Commit 4 (true ∷ false ∷ []) True (sided (On 0) insert_B ∷ sided (Not (On 1)) insert_B ∷ [])) ≡ None
inside_each_side = refl

empty : verdict history (commit 4 (true ∷ false ∷ []) True []) ≡ Some refusals.Empty
empty = refl

beyond_history : verdict history (commit 5 [] True []) ≡ Some refusals.BadBase
beyond_history = refl

choice_too_short : verdict history (commit 4 (true ∷ []) True []) ≡ Some refusals.BadOption
choice_too_short = refl

ambition_beyond : verdict history (commit 2 (true ∷ []) (Not (On 1)) []) ≡ Some refusals.BadOption
ambition_beyond = refl

side_beyond : verdict history (commands.Commit 2 (true ∷ []) True (sided (Not (On 1)) insert_B ∷ [])) ≡ Some refusals.BadOption
side_beyond = refl

-- the second edit puts its line after one that isn't there
no_such_line : verdict history (commit 4 (true ∷ false ∷ []) True (insert_B ∷ no_line ∷ [])) ≡ Some (refusals.BadRecord 1)
no_such_line = refl
