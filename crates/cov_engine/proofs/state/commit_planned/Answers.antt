use Rattle.std.proofs.Common.{◌≡◌, ℕ, ◌+◌, ◌<◌, ◌≤◌, cond, Option, Some, None, Bool, List, length, refl, sym, ap, subst, ◌∙◌, arith}
use Rattle.std.specs.List.{AllByRecursion}
use Rattle.cov_dd.proofs.CallerLemmas.{extends_trans, stands_later, stands_weaker}
use Rattle.cov_dd.specs.Diagrams.{diagram_size, span, value_in, Extends, Stands}
use Rattle.cov_dd.specs.declared.triple.Triple.{Triple}
use Rattle.cov_edit.specs.History.{option_count}
use Rattle.cov_edit.specs.Sides.{unsided, conditions}
use Rattle.cov_edit.specs.declared.command.Command.TheVariants as commands
use Rattle.cov_edit.proofs.CallerLemmas.{ambition-low, unsided-length}
use Rattle.cov_expr.specs.Formula.{value}
use Rattle.cov_history.specs.BadChoices.{unsound_refusal}
use Rattle.cov_history.specs.declared.refusal.Refusal.{Refusal}
use Rattle.cov_overtaking.specs.Marks.{within_of, IsMark}
use Rattle.cov_overtaking.specs.Touches.{have_node_on, touched_in}
use Rattle.cov_overtaking.proofs.CallerLemmas.{conditions-count, conditions-known, conditions-stand, mark-grown, mark-made}
use Rattle.cov_engine.specs.Evidence.{refusal_by_plan}
use Rattle.cov_engine.specs.Staged.{StandFor, IsCommitPlan}
use Rattle.cov_engine.specs.States.{history_of, table_of}
use Rattle.cov_engine.specs.declared.summary.EditSummary.{EditSummary}
use Rattle.cov_engine.proofs.Conditions.{stand-later, stands-of_table}
use Rattle.cov_engine.proofs.Holdings.{entries-grown}
use Rattle.cov_engine.proofs.Judging.{told-refusal}
use Rattle.cov_engine.proofs.Keeping.{kept-grown}
use Rattle.cov_engine.proofs.Planned.{files-rising, files-within, edits-near-now, changes-new, changes-within, commit-plan, entries-now, plan-grown, can-be-tested}
use Rattle.cov_engine.proofs.Readied.{conjunction-later, conjunction-stands}
use Rattle.cov_engine.proofs.Ruling.{refused-by}
use Rattle.cov_engine.proofs.state.commit_planned.Goals as goal
use Rattle.cov_engine.proofs.state.commit_planned.Goals.{After-context_of-context, After-conditions_of, After-mark_of, After-resolve, After-plan_rows, After-refusal_left, In_ok-node, In_ok-conditions, In_ok-mark, In_ok-plan_rows, In_ok-refusal}

-- the position of the commit
at-position : (c : After-context_of-context) → c.new-position.result ≡ length (history_of c.args.state.now) + 1
at-position c = let a = c.new-position.ensures in let b = c.len.ensures in let most = c.requires.kept.0.0.most in omega (arith, a, b, most)

-- the table of each step is longer than that of the state
by-conditions : (c : After-conditions_of) → Extends (table_of c.args.state.now) c.conditions_of.new.table
by-conditions c = extends_trans (table_of c.args.state.now) c.compile.new.table c.conditions_of.new.table c.compile.ensures.extends c.conditions_of.ensures.extends

by-mark : (c : After-mark_of) → Extends (table_of c.args.state.now) c.mark_of.new.table
by-mark c =
    extends_trans (table_of c.args.state.now) c.conditions_of.new.table c.mark_of.new.table
    (extends_trans (table_of c.args.state.now) c.compile.new.table c.conditions_of.new.table c.compile.ensures.extends c.conditions_of.ensures.extends)
    c.mark_of.ensures.extends

by-resolve : (c : After-resolve) → Extends (table_of c.args.state.now) c.resolve.new.table
by-resolve c =
    extends_trans (table_of c.args.state.now) c.compile.new.table c.resolve.new.table c.compile.ensures.extends
    (extends_trans c.compile.new.table c.conditions_of.new.table c.resolve.new.table c.conditions_of.ensures.extends
    (extends_trans c.conditions_of.new.table c.mark_of.new.table c.resolve.new.table c.mark_of.ensures.extends c.resolve.ensures.extends))

by-own : (c : After-resolve) → Extends c.conditions_of.new.table c.resolve.new.table
by-own c = extends_trans c.conditions_of.new.table c.mark_of.new.table c.resolve.new.table c.mark_of.ensures.extends c.resolve.ensures.extends

by-refusal : (c : After-refusal_left) → Extends (table_of c.args.state.now) c.refusal_left.new.table
by-refusal c =
    extends_trans (table_of c.args.state.now) c.compile.new.table c.refusal_left.new.table c.compile.ensures.extends
    (extends_trans c.compile.new.table c.conditions_of.new.table c.refusal_left.new.table c.conditions_of.ensures.extends
    (extends_trans c.conditions_of.new.table c.mark_of.new.table c.refusal_left.new.table c.mark_of.ensures.extends
    (extends_trans c.mark_of.new.table c.resolve.new.table c.refusal_left.new.table c.resolve.ensures.extends
    (extends_trans c.resolve.new.table c.plan_rows.new.table c.refusal_left.new.table c.plan_rows.ensures.extends c.refusal_left.ensures.extends))))

by-node : (c : After-plan_rows) → Extends c.compile.new.table c.plan_rows.new.table
by-node c =
    extends_trans c.compile.new.table c.conditions_of.new.table c.plan_rows.new.table c.conditions_of.ensures.extends
    (extends_trans c.conditions_of.new.table c.mark_of.new.table c.plan_rows.new.table c.mark_of.ensures.extends
    (extends_trans c.mark_of.new.table c.resolve.new.table c.plan_rows.new.table c.resolve.ensures.extends c.plan_rows.ensures.extends))

by-rows : (c : After-plan_rows) → Extends (table_of c.args.state.now) c.plan_rows.new.table
by-rows c =
    extends_trans (table_of c.args.state.now) c.compile.new.table c.plan_rows.new.table c.compile.ensures.extends
    (extends_trans c.compile.new.table c.conditions_of.new.table c.plan_rows.new.table c.conditions_of.ensures.extends
    (extends_trans c.conditions_of.new.table c.mark_of.new.table c.plan_rows.new.table c.mark_of.ensures.extends
    (extends_trans c.mark_of.new.table c.resolve.new.table c.plan_rows.new.table c.resolve.ensures.extends c.plan_rows.ensures.extends)))

-- the node of the ambition stands for it, and those of the edits for where they apply
node-stands : (c : In_ok-node) → Stands c.compile.new.table c.in_ok-node.node 0 (option_count (history_of c.args.state.now)) (value c.args.ambition.now)
node-stands c =
    stands_weaker 0 (option_count (history_of c.args.state.now)) (value c.args.ambition.now) (omega arith)
    (ambition-low (option_count (history_of c.args.state.now)) c.args.ambition.now c.args.edits.now c.requires.reach) (λ d. refl) c.in_ok-node.ensures.stands

nodes-stand : (c : In_ok-conditions) → Stands c.compile.new.table c.in_ok-node.node 0 (option_count (history_of c.args.state.now)) (value c.args.ambition.now) → (us : List Triple) → Extends c.conditions_of.new.table us
    → (on : List ℕ) → on ≡ c.in_ok-conditions.conditions.items → StandFor us (option_count (history_of c.args.state.now)) (conditions c.args.ambition.now c.args.edits.now) on
nodes-stand c stands us x on e =
    let count = option_count (history_of c.args.state.now) in
    let all = conditions c.args.ambition.now c.args.edits.now in
    subst (StandFor us count all) (sym e)
    (stand-later c.conditions_of.new.table count us all c.in_ok-conditions.conditions.items x
    (conditions-stand c.compile.new.table c.conditions_of.new.table c.in_ok-node.node count c.args.ambition.now c.in_ok-conditions.conditions.items c.args.edits.now stands c.requires.reach c.in_ok-conditions.ensures.are))

-- the mark is the commit's
marked : (c : In_ok-mark) → c.new-position.result ≡ length (history_of c.args.state.now) + 1
    → IsMark c.mark_of.new.table (option_count (history_of c.args.state.now)) (length (history_of c.args.state.now) + 1) c.args.ambition.now c.args.edits.now c.in_ok-mark.mark
marked c at =
    mark-made c.compile.new.table c.conditions_of.new.table c.mark_of.new.table (option_count (history_of c.args.state.now)) (length (history_of c.args.state.now) + 1) c.in_ok-node.node c.in_ok-conditions.conditions.items c.args.ambition.now
    c.args.edits.now c.in_ok-mark.mark c.in_ok-node.ensures.stands.value c.in_ok-conditions.ensures.are (c.in_ok-mark.ensures.position ∙ at)
    (c.in_ok-mark.ensures.touched ∙ ap (λ (s : EditSummary). s.touched) c.requires.summary) c.in_ok-mark.ensures.of_table c.in_ok-mark.ensures.long
    (subst (λ ns. (x : ℕ) (d : List _) → have_node_on c.mark_of.new.table c.in_ok-mark.mark.touched (within_of c.in_ok-mark.mark) x d ≡ touched_in c.conditions_of.new.table ns (unsided c.args.edits.now) x d) c.as_slice.ensures.value
    c.in_ok-mark.ensures.are)
    c.requires.reach

-- the commit is planned
planned : (c : In_ok-plan_rows) → c.new-position.result ≡ length (history_of c.args.state.now) + 1
    → StandFor c.resolve.new.table (option_count (history_of c.args.state.now)) (conditions c.args.ambition.now c.args.edits.now) c.as_slice-3.result.now
    → IsMark c.mark_of.new.table (option_count (history_of c.args.state.now)) (length (history_of c.args.state.now) + 1) c.args.ambition.now c.args.edits.now c.in_ok-mark.mark
    → Extends (table_of c.args.state.now) c.resolve.new.table
    → IsCommitPlan (history_of c.args.state.now) c.plan_rows.new.table c.args.state.now.visible.entries c.args.state.now.visible.files c.args.ambition.now c.args.edits.now c.in_ok-mark.mark c.in_ok-resolved.resolved.items c.plan_rows.new.plan
planned c at applies is grown =
    commit-plan c.args.state.now.commands.commands c.args.state.now.visible.table c.args.state.now.counts c.args.state.now.index.commits.items c.args.state.now.index.file_of_line.items c.args.state.now.visible.entries c.args.state.now.visible.files c.requires.kept.0.0.counted c.requires.kept.1 c.args.edits.now c.requires.fits c.new-position.result c.context_of-context.result at c.context_of-context.ensures
    c.resolve.new.table c.as_slice-2.result.now c.as_slice-3.result.now c.as_slice-4.result.now c.in_ok-resolved.resolved.items c.as_slice-2.ensures c.as_slice-4.ensures.items c.in_ok-resolved.ensures.resolved
    c.args.ambition.now applies c.as_slice-5.result.now c.as_slice-5.ensures.value grown c.plan_rows.new.table c.plan_rows.ensures.extends c.in_ok-mark.mark
    (mark-grown c.mark_of.new.table c.resolve.new.table (option_count (history_of c.args.state.now)) (option_count (history_of c.args.state.now)) c.resolve.ensures.extends (omega arith) (length (history_of c.args.state.now) + 1) c.args.ambition.now
    c.args.edits.now c.in_ok-mark.mark is)
    c.new-rows.result c.plan_rows.new.plan (c.new-rows.ensures.nodes c.args.state.now.visible.entries) (c.new-rows.ensures.kinds c.args.state.now.visible.entries)
    (c.new-rows.ensures.makes c.resolve.new.table c.args.state.now.visible.entries
    (entries-now c.args.state.now.commands.commands c.args.state.now.visible.table c.resolve.new.table c.args.state.now.index.commits.items c.args.state.now.index.file_of_line.items c.args.state.now.visible.entries
    c.args.state.now.visible.files c.requires.kept.1 grown).0)
    c.in_ok-plan_rows.ensures.makes c.in_ok-plan_rows.ensures.nodes c.in_ok-plan_rows.ensures.kinds

-- what it told of the variants is the refusal that its history wants
told : (c : In_ok-refusal) → Stands c.compile.new.table c.in_ok-node.node 0 (option_count (history_of c.args.state.now)) (value c.args.ambition.now)
    → IsCommitPlan (history_of c.args.state.now) c.plan_rows.new.table c.args.state.now.visible.entries c.args.state.now.visible.files c.args.ambition.now c.args.edits.now c.in_ok-mark.mark c.in_ok-resolved.resolved.items c.plan_rows.new.plan
    → Extends (table_of c.args.state.now) c.plan_rows.new.table → Extends c.compile.new.table c.plan_rows.new.table
    → (base : ℕ) (choice : List Bool) (found : Option Refusal) → c.in_ok-refusal.field-0 ≡ found
    → unsound_refusal (history_of c.args.state.now) c.args.ambition.now (commands.Commit base choice c.args.ambition.now c.args.edits.now) ≡ found
told c stands plan grown more base choice found is =
    told-refusal c.args.state.now.commands.commands c.plan_rows.new.table c.args.state.now.visible.entries c.args.ambition.now c.in_ok-node.node c.args.edits.now c.plan_rows.new.plan
    (entries-grown c.args.state.now.commands.commands c.args.state.now.visible.table c.plan_rows.new.table c.args.state.now.visible.entries c.requires.kept.1.of_entries grown)
    (stands_later more stands) plan.on plan.applies c.args.state.now.visible.files c.in_ok-resolved.resolved.items plan.resolved plan.changes base choice c.conjunction.result c.requires.kept.0.0.legal
    (λ d. ap (λ a. value_in c.plan_rows.new.table a d) c.conjunction.ensures ∙ conjunction-later c.plan_rows.new.table c.requires.kept.0.0 grown d)
    c.count.result (unsided c.args.edits.now) c.in_ok-refusal.field-0 found (c.count.ensures.count ∙ ap length c.requires.kept.0.0.options) refl
    (subst (λ (s : EditSummary). c.in_ok-refusal.field-0 ≡ cond s.changes_rows (refusal_by_plan c.plan_rows.new.table c.args.state.now.visible.entries c.plan_rows.new.plan c.conjunction.result c.in_ok-node.node c.count.result) None)
    c.requires.summary c.in_ok-refusal.ensures.found)
    is

pub returns-in_err-node-clause-kept : goal.returns-in_err-node-clause-kept
returns-in_err-node-clause-kept c = kept-grown c.args.state.now c.compile.new.table c.requires.kept c.compile.ensures.extends

pub returns-in_err-conditions-clause-extends : goal.returns-in_err-conditions-clause-extends
returns-in_err-conditions-clause-extends c = by-conditions (goal.at.returns-in_err-conditions-clause-extends c).After-conditions_of

pub returns-in_err-conditions-clause-kept : goal.returns-in_err-conditions-clause-kept
returns-in_err-conditions-clause-kept c = kept-grown c.args.state.now c.conditions_of.new.table c.requires.kept (by-conditions (goal.at.returns-in_err-conditions-clause-kept c).After-conditions_of)

pub mark_of-requires-clause-count : goal.mark_of-requires-clause-count
mark_of-requires-clause-count c = ap length c.as_slice.ensures.value ∙ conditions-count c.compile.new.table c.conditions_of.new.table c.in_ok-node.node c.in_ok-conditions.conditions.items c.args.edits.now c.in_ok-conditions.ensures.are

pub mark_of-requires-clause-conditions : goal.mark_of-requires-clause-conditions
mark_of-requires-clause-conditions c =
    subst (AllByRecursion (λ n. n < diagram_size c.conditions_of.new.table)) (sym c.as_slice.ensures.value)
    (conditions-known c.compile.new.table c.conditions_of.new.table c.in_ok-node.node c.in_ok-conditions.conditions.items c.args.edits.now c.in_ok-conditions.ensures.are)

pub returns-in_err-mark-clause-extends : goal.returns-in_err-mark-clause-extends
returns-in_err-mark-clause-extends c = by-mark (goal.at.returns-in_err-mark-clause-extends c).After-mark_of

pub returns-in_err-mark-clause-kept : goal.returns-in_err-mark-clause-kept
returns-in_err-mark-clause-kept c = kept-grown c.args.state.now c.mark_of.new.table c.requires.kept (by-mark (goal.at.returns-in_err-mark-clause-kept c).After-mark_of)

pub resolve-requires-clause-rising : goal.resolve-requires-clause-rising
resolve-requires-clause-rising c =
    files-rising c.args.state.now.commands.commands c.args.state.now.visible.table c.args.state.now.counts c.args.state.now.index.commits.items c.args.state.now.index.file_of_line.items c.args.state.now.visible.entries c.args.state.now.visible.files c.requires.kept.0.0.counted c.requires.kept.1 c.args.edits.now c.requires.fits c.new-position.result c.context_of-context.result (at-position (goal.at.resolve-requires-clause-rising c).After-context_of-context) c.context_of-context.ensures
    c.as_slice-2.result.now c.as_slice-2.ensures

pub resolve-requires-clause-nodes : goal.resolve-requires-clause-nodes
resolve-requires-clause-nodes c =
    files-within c.args.state.now.commands.commands c.args.state.now.visible.table c.args.state.now.counts c.args.state.now.index.commits.items c.args.state.now.index.file_of_line.items c.args.state.now.visible.entries c.args.state.now.visible.files c.requires.kept.0.0.counted c.requires.kept.1 c.args.edits.now c.requires.fits c.new-position.result c.context_of-context.result (at-position (goal.at.resolve-requires-clause-nodes c).After-context_of-context) c.context_of-context.ensures
    c.mark_of.new.table (by-mark (goal.at.resolve-requires-clause-nodes c).After-mark_of) c.as_slice-2.result.now c.as_slice-2.ensures

pub resolve-requires-clause-each : goal.resolve-requires-clause-each
resolve-requires-clause-each c =
    ap length c.as_slice-3.ensures.value ∙ conditions-count c.compile.new.table c.conditions_of.new.table c.in_ok-node.node c.in_ok-conditions.conditions.items c.args.edits.now c.in_ok-conditions.ensures.are
    ∙ sym (unsided-length c.args.edits.now) ∙ ap length (sym c.as_slice-4.ensures.items)

pub resolve-requires-clause-conditions : goal.resolve-requires-clause-conditions
resolve-requires-clause-conditions c =
    stands-of_table c.mark_of.new.table (option_count (history_of c.args.state.now)) (conditions c.args.ambition.now c.args.edits.now) c.as_slice-3.result.now
    (nodes-stand (goal.at.resolve-requires-clause-conditions c).In_ok-conditions (node-stands (goal.at.resolve-requires-clause-conditions c).In_ok-node) c.mark_of.new.table c.mark_of.ensures.extends c.as_slice-3.result.now c.as_slice-3.ensures.value)

pub resolve-requires-clause-near : goal.resolve-requires-clause-near
resolve-requires-clause-near c =
    edits-near-now c.args.state.now.commands.commands c.args.state.now.visible.table c.args.state.now.counts c.args.state.now.index.commits.items c.args.state.now.index.file_of_line.items c.args.state.now.visible.entries c.args.state.now.visible.files c.requires.kept.0.0.counted c.requires.kept.1 c.args.edits.now c.requires.fits c.new-position.result c.context_of-context.result (at-position (goal.at.resolve-requires-clause-near c).After-context_of-context) c.context_of-context.ensures
    c.as_slice-4.result.now c.as_slice-4.ensures.items

pub returns-in_err-resolved-clause-extends : goal.returns-in_err-resolved-clause-extends
returns-in_err-resolved-clause-extends c =
    by-resolve (goal.at.returns-in_err-resolved-clause-extends c).After-resolve

pub returns-in_err-resolved-clause-kept : goal.returns-in_err-resolved-clause-kept
returns-in_err-resolved-clause-kept c =
    kept-grown c.args.state.now c.resolve.new.table c.requires.kept (by-resolve (goal.at.returns-in_err-resolved-clause-kept c).After-resolve)

pub plan_rows-requires-clause-within : goal.plan_rows-requires-clause-within
plan_rows-requires-clause-within c =
    c.new-rows.ensures.within c.resolve.new.table c.args.state.now.visible.entries
    (entries-now c.args.state.now.commands.commands c.args.state.now.visible.table c.resolve.new.table c.args.state.now.index.commits.items c.args.state.now.index.file_of_line.items c.args.state.now.visible.entries c.args.state.now.visible.files c.requires.kept.1 (by-resolve (goal.at.plan_rows-requires-clause-within c).After-resolve)).0

pub plan_rows-requires-clause-once : goal.plan_rows-requires-clause-once
plan_rows-requires-clause-once c =
    c.new-rows.ensures.once c.resolve.new.table c.args.state.now.visible.entries
    (entries-now c.args.state.now.commands.commands c.args.state.now.visible.table c.resolve.new.table c.args.state.now.index.commits.items c.args.state.now.index.file_of_line.items c.args.state.now.visible.entries c.args.state.now.visible.files c.requires.kept.1 (by-resolve (goal.at.plan_rows-requires-clause-once c).After-resolve)).1

pub plan_rows-requires-clause-new : goal.plan_rows-requires-clause-new
plan_rows-requires-clause-new c =
    changes-new c.args.state.now.commands.commands c.args.state.now.visible.table c.args.state.now.counts c.args.state.now.index.commits.items c.args.state.now.index.file_of_line.items c.args.state.now.visible.entries c.args.state.now.visible.files c.requires.kept.0.0.counted c.requires.kept.1 c.args.edits.now c.requires.fits c.new-position.result c.context_of-context.result (at-position (goal.at.plan_rows-requires-clause-new c).After-context_of-context) c.context_of-context.ensures
    c.resolve.new.table c.as_slice-2.result.now c.as_slice-3.result.now c.as_slice-4.result.now c.in_ok-resolved.resolved.items c.as_slice-2.ensures c.as_slice-4.ensures.items c.in_ok-resolved.ensures.resolved
    c.args.ambition.now (nodes-stand (goal.at.plan_rows-requires-clause-new c).In_ok-conditions (node-stands (goal.at.plan_rows-requires-clause-new c).In_ok-node) c.resolve.new.table (by-own (goal.at.plan_rows-requires-clause-new c).After-resolve) c.as_slice-3.result.now c.as_slice-3.ensures.value)
    c.as_slice-5.result.now c.as_slice-5.ensures.value
    c.new-rows.result (c.new-rows.ensures.nodes c.args.state.now.visible.entries)

pub plan_rows-requires-clause-on : goal.plan_rows-requires-clause-on
plan_rows-requires-clause-on c =
    changes-within c.args.state.now.commands.commands c.args.state.now.visible.table c.args.state.now.counts c.args.state.now.index.commits.items c.args.state.now.index.file_of_line.items c.args.state.now.visible.entries c.args.state.now.visible.files c.requires.kept.0.0.counted c.requires.kept.1 c.args.edits.now c.requires.fits c.new-position.result c.context_of-context.result (at-position (goal.at.plan_rows-requires-clause-on c).After-context_of-context) c.context_of-context.ensures
    c.resolve.new.table c.as_slice-2.result.now c.as_slice-3.result.now c.as_slice-4.result.now c.in_ok-resolved.resolved.items c.as_slice-2.ensures c.as_slice-4.ensures.items c.in_ok-resolved.ensures.resolved
    c.args.ambition.now (nodes-stand (goal.at.plan_rows-requires-clause-on c).In_ok-conditions (node-stands (goal.at.plan_rows-requires-clause-on c).In_ok-node) c.resolve.new.table (by-own (goal.at.plan_rows-requires-clause-on c).After-resolve) c.as_slice-3.result.now c.as_slice-3.ensures.value)
    c.as_slice-5.result.now c.as_slice-5.ensures.value

pub returns-in_err-plan_rows-clause-extends : goal.returns-in_err-plan_rows-clause-extends
returns-in_err-plan_rows-clause-extends c =
    by-rows (goal.at.returns-in_err-plan_rows-clause-extends c).After-plan_rows

pub returns-in_err-plan_rows-clause-kept : goal.returns-in_err-plan_rows-clause-kept
returns-in_err-plan_rows-clause-kept c =
    kept-grown c.args.state.now c.plan_rows.new.table c.requires.kept (by-rows (goal.at.returns-in_err-plan_rows-clause-kept c).After-plan_rows)

pub refusal_left-requires : goal.refusal_left-requires
refusal_left-requires c =
    let stands = stands_later (by-node (goal.at.refusal_left-requires c).After-plan_rows) (node-stands (goal.at.refusal_left-requires c).In_ok-node) in
    let valid = conjunction-stands c.plan_rows.new.table c.requires.kept.0.0 (by-rows (goal.at.refusal_left-requires c).After-plan_rows) in
    can-be-tested c.args.state.now.commands.commands c.args.state.now.visible.table c.plan_rows.new.table c.args.state.now.index.commits.items c.args.state.now.index.file_of_line.items c.args.state.now.visible.entries
    c.args.state.now.visible.files c.requires.kept.1 (by-rows (goal.at.refusal_left-requires c).After-plan_rows) c.args.ambition.now c.args.edits.now c.in_ok-mark.mark c.in_ok-resolved.resolved.items c.plan_rows.new.plan
    (planned (goal.at.refusal_left-requires c).In_ok-plan_rows (at-position (goal.at.refusal_left-requires c).After-context_of-context)
    (nodes-stand (goal.at.refusal_left-requires c).In_ok-conditions (node-stands (goal.at.refusal_left-requires c).In_ok-node) c.resolve.new.table (by-own (goal.at.refusal_left-requires c).After-resolve) c.as_slice-3.result.now c.as_slice-3.ensures.value)
    (marked (goal.at.refusal_left-requires c).In_ok-mark (at-position (goal.at.refusal_left-requires c).After-context_of-context)) (by-resolve (goal.at.refusal_left-requires c).After-resolve))
    c.conjunction.result c.in_ok-node.node c.count.result c.requires.kept.0.0.legal (c.count.ensures.count ∙ ap length c.requires.kept.0.0.options) c.count.ensures.most
    (subst (λ a. a < diagram_size c.plan_rows.new.table) (sym c.conjunction.ensures) valid.within)
    (subst (λ a. span c.plan_rows.new.table a ≤ option_count (history_of c.args.state.now)) (sym c.conjunction.ensures) valid.below) stands

pub returns-in_err-refusal-clause-extends : goal.returns-in_err-refusal-clause-extends
returns-in_err-refusal-clause-extends c =
    by-refusal (goal.at.returns-in_err-refusal-clause-extends c).After-refusal_left

pub returns-in_err-refusal-clause-kept : goal.returns-in_err-refusal-clause-kept
returns-in_err-refusal-clause-kept c =
    kept-grown c.args.state.now c.refusal_left.new.table c.requires.kept (by-refusal (goal.at.returns-in_err-refusal-clause-kept c).After-refusal_left)

pub returns-in-Some-clause-extends : goal.returns-in-Some-clause-extends
returns-in-Some-clause-extends c =
    by-refusal (goal.at.returns-in-Some-clause-extends c).After-refusal_left

pub returns-clause-extends : goal.returns-clause-extends
returns-clause-extends c =
    by-refusal (goal.at.returns-clause-extends c).After-refusal_left

pub returns-in-Some-clause-kept : goal.returns-in-Some-clause-kept
returns-in-Some-clause-kept c =
    kept-grown c.args.state.now c.refusal_left.new.table c.requires.kept (by-refusal (goal.at.returns-in-Some-clause-kept c).After-refusal_left)

pub returns-clause-kept : goal.returns-clause-kept
returns-clause-kept c =
    kept-grown c.args.state.now c.refusal_left.new.table c.requires.kept (by-refusal (goal.at.returns-clause-kept c).After-refusal_left)

pub returns-in-Some-clause-refused : goal.returns-in-Some-clause-refused
returns-in-Some-clause-refused c = λ base choice.
    refused-by c.in-Some.refusal (unsound_refusal c.args.state.now.commands.commands c.args.ambition.now (commands.Commit base choice c.args.ambition.now c.args.edits.now))
    (told (goal.at.returns-in-Some-clause-refused c).In_ok-refusal (node-stands (goal.at.returns-in-Some-clause-refused c).In_ok-node)
    (planned (goal.at.returns-in-Some-clause-refused c).In_ok-plan_rows (at-position (goal.at.returns-in-Some-clause-refused c).After-context_of-context)
    (nodes-stand (goal.at.returns-in-Some-clause-refused c).In_ok-conditions (node-stands (goal.at.returns-in-Some-clause-refused c).In_ok-node) c.resolve.new.table (by-own (goal.at.returns-in-Some-clause-refused c).After-resolve) c.as_slice-3.result.now c.as_slice-3.ensures.value)
    (marked (goal.at.returns-in-Some-clause-refused c).In_ok-mark (at-position (goal.at.returns-in-Some-clause-refused c).After-context_of-context)) (by-resolve (goal.at.returns-in-Some-clause-refused c).After-resolve))
    (by-rows (goal.at.returns-in-Some-clause-refused c).After-plan_rows) (by-node (goal.at.returns-in-Some-clause-refused c).After-plan_rows) base choice (Some c.in-Some.refusal) c.in-Some.is)

pub returns-clause-sound : goal.returns-clause-sound
returns-clause-sound c = λ base choice.
    told (goal.at.returns-clause-sound c).In_ok-refusal (node-stands (goal.at.returns-clause-sound c).In_ok-node)
    (planned (goal.at.returns-clause-sound c).In_ok-plan_rows (at-position (goal.at.returns-clause-sound c).After-context_of-context)
    (nodes-stand (goal.at.returns-clause-sound c).In_ok-conditions (node-stands (goal.at.returns-clause-sound c).In_ok-node) c.resolve.new.table (by-own (goal.at.returns-clause-sound c).After-resolve) c.as_slice-3.result.now c.as_slice-3.ensures.value)
    (marked (goal.at.returns-clause-sound c).In_ok-mark (at-position (goal.at.returns-clause-sound c).After-context_of-context)) (by-resolve (goal.at.returns-clause-sound c).After-resolve))
    (by-rows (goal.at.returns-clause-sound c).After-plan_rows) (by-node (goal.at.returns-clause-sound c).After-plan_rows) base choice None c.in-None.is

pub returns-clause-planned : goal.returns-clause-planned
returns-clause-planned c = (
  c.requires.fits,
  plan-grown c.args.state.now.commands.commands c.args.state.now.visible.table c.plan_rows.new.table c.args.state.now.index.commits.items c.args.state.now.index.file_of_line.items c.args.state.now.visible.entries
      c.args.state.now.visible.files c.requires.kept.1 (by-rows (goal.at.returns-clause-planned c).After-plan_rows) c.args.ambition.now c.args.edits.now c.in_ok-mark.mark c.in_ok-resolved.resolved.items c.plan_rows.new.plan
      (planned (goal.at.returns-clause-planned c).In_ok-plan_rows (at-position (goal.at.returns-clause-planned c).After-context_of-context)
      (nodes-stand (goal.at.returns-clause-planned c).In_ok-conditions (node-stands (goal.at.returns-clause-planned c).In_ok-node) c.resolve.new.table (by-own (goal.at.returns-clause-planned c).After-resolve) c.as_slice-3.result.now c.as_slice-3.ensures.value)
      (marked (goal.at.returns-clause-planned c).In_ok-mark (at-position (goal.at.returns-clause-planned c).After-context_of-context)) (by-resolve (goal.at.returns-clause-planned c).After-resolve))
      c.refusal_left.new.table c.refusal_left.ensures.extends,
)
