use Rattle.std.proofs.Common.{◌≡◌, ◌≤◌, ℕ, Bool, List, None, true, length, take, sym, ap, subst, ◌∙◌, arith}
use Rattle.cov_edit.specs.History.{constraints_of, first_false_in}
use Rattle.cov_edit.proofs.CallerLemmas.{ambition-low, sides-low}
use Rattle.cov_edit.specs.declared.command.Command.{Command}
use Rattle.cov_expr.specs.Validity.{first_false, is_valid}
use Rattle.cov_rules.specs.declared.rules.Installed.{Installed}
use Rattle.cov_rules.specs.Installing.{expressions_at, reach_of}
use Rattle.cov_rules.proofs.CallerLemmas.{allowed}
use Rattle.cov_engine.proofs.Refused.{choice-inside, choice-outside, rules-within}
use Rattle.cov_engine.proofs.refusing.choice_refusal.Goals as goal

pub valid-requires : goal.valid-requires
valid-requires c =
    subst (λ es. reach_of es ≤ length c.args.choice) (sym (c.requires.kept.0.0.rules.at c.args.base))
    (let low = rules-within c.args.state.now.commands.commands c.args.base c.requires.kept.0.0.legal in let count = c.requires.count in omega (arith, low, count))

none-false : (base : ℕ) (history : List Command) (choice : List Bool) (rules : List Installed) → expressions_at base rules ≡ constraints_of (take base history) → is_valid (expressions_at base rules) choice ≡ true
    → first_false_in (take base history) choice ≡ None
none-false base history choice rules same valid = ap (λ es. first_false es choice) (sym same) ∙ allowed choice (expressions_at base rules) valid

pub value-requires : goal.value-requires
value-requires c = ambition-low (length c.args.choice) c.args.ambition.now c.args.edits.now c.requires.reach

pub side_refusal-requires-clause-reach : goal.side_refusal-requires-clause-reach
side_refusal-requires-clause-reach c = sides-low (length c.args.choice) c.args.ambition.now c.args.edits.now c.requires.reach

pub returns-in-true : goal.returns-in-true
returns-in-true c =
    c.side_refusal.ensures
    ∙ choice-inside (take c.args.base c.args.state.now.commands.commands) c.args.choice c.args.ambition.now c.args.edits.now
    (none-false c.args.base c.args.state.now.commands.commands c.args.choice c.args.state.now.rules.standing.constraints (c.requires.kept.0.0.rules.at c.args.base) c.in-Ok.ensures.ok) (sym c.value.ensures ∙ c.in-true.is)

pub returns-in-false : goal.returns-in-false
returns-in-false c =
    choice-outside (take c.args.base c.args.state.now.commands.commands) c.args.choice c.args.ambition.now c.args.edits.now
    (none-false c.args.base c.args.state.now.commands.commands c.args.choice c.args.state.now.rules.standing.constraints (c.requires.kept.0.0.rules.at c.args.base) c.in-Ok.ensures.ok) (sym c.value.ensures ∙ c.in-false.is)
