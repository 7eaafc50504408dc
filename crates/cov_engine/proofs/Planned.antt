-- A commit whose edits are resolved and whose rows are planned.
use Rattle.std.proofs.Common.{◌≡◌, ℕ, ◌+◌, ◌-◌, ◌<◌, ◌≤◌, List, [], length, map, sym, ap, subst, ◌∙◌, arith}
use Rattle.std.specs.List.{AllByRecursion}
use Rattle.cov_base.specs.declared.limits.TheConstants.{CHOICE_WIDTH}
use Rattle.cov_dd.specs.declared.triple.Triple.{Triple}
use Rattle.cov_dd.specs.Diagrams.{diagram_size, span, Extends, Stands}
use Rattle.cov_expr.specs.Formula.{Formula, value}
use Rattle.cov_edit.specs.declared.edit.Edit.{Edit}
use Rattle.cov_edit.specs.declared.command.Command.{Command}
use Rattle.cov_edit.specs.declared.sided.Sided.{Sided}
use Rattle.cov_edit.specs.History.{option_count}
use Rattle.cov_edit.proofs.CallerLemmas.{limits-most}
use Rattle.cov_edit.specs.Numbering.{numbers_of, line_count}
use Rattle.cov_edit.specs.Sides.{unsided, conditions}
use Rattle.cov_edit.specs.Touched.{AreRising}
use Rattle.cov_history.specs.Verdict.{IsLegal}
use Rattle.cov_history.proofs.CallerLemmas.{files-rise}
use Rattle.cov_tree.specs.declared.entry.Entry.{Entry}
use Rattle.cov_tree.specs.Carried.{AreNodesAt, AreOnceAt, AreUnreadWith}
use Rattle.cov_tree.specs.Changes.{Makes}
use Rattle.cov_tree.specs.Dated.{Dated, nodes_in, kinds_in, nodes_with, kinds_with}
use Rattle.cov_tree.proofs.CallerLemmas.{plans_grow}
use Rattle.cov_engine.specs.Evidence.{CanBeTested}
use Rattle.cov_engine.specs.Holdings.{AreRowsAndLinesOf}
use Rattle.cov_visible.specs.Nodes.{HasNodesIn, IsTaken}
use Rattle.cov_visible.specs.Parts.{part_node}
use Rattle.cov_engine.specs.Ready.{IsInBounds}
use Rattle.cov_visible.specs.Resolved.{insert_nodes, HaveNumbers, AreResolved, AreResolvedIn}
use Rattle.cov_visible.specs.RowPlans.{row_changes, AlsoMakes, AreWithin, MakeNewNodes, nodes_after_all, kinds_after_all}
use Rattle.cov_engine.specs.Staged.{StandFor, IsCommitPlan}
use Rattle.cov_visible.specs.Staging.{AreNear, AreLow}
use Rattle.cov_engine.specs.States.{AreCountsOf}
use Rattle.cov_engine.specs.declared.counts.Counts.{Counts}
use Rattle.cov_visible.specs.declared.file_part.FilePart.{FilePart}
use Rattle.cov_overtaking.specs.declared.mark.CommitMark.{CommitMark}
use Rattle.cov_overtaking.specs.Marks.{IsMark}
use Rattle.cov_overtaking.proofs.CallerLemmas.{mark-grown}
use Rattle.cov_visible.specs.declared.resolved_edit.ResolvedEdit.{ResolvedEdit}
use Rattle.cov_visible.specs.declared.resolving.CommitContext.{CommitContext}
use Rattle.cov_engine.proofs.Conditions.{stands-of_table, stand-later}
use Rattle.cov_engine.proofs.Holdings.{entries-grown}
use Rattle.cov_engine.proofs.Judging.{once-with, unread-with}
use Rattle.cov_engine.proofs.Readied.{first-nodes, held-within}
use Rattle.cov_visible.proofs.CallerLemmas.{nodes-later, resolved-grown, resolved-new, resolved-within}
use Rattle.cov_engine.proofs.RowPlans.{entries-once, up-to-made}

-- the position after a commit and the context of its edits, after a history with these counts
module _ (history : List Command) (ts : List Triple) (counts : Counts) (commits : List CommitMark) (file_of_line : List ℕ) (entries : Dated) (stored : List FilePart)
    (are : AreCountsOf history counts) (held : AreRowsAndLinesOf history ts commits file_of_line entries stored)
    (es : List Sided) (fits : IsInBounds history (unsided es)) (position : ℕ) (context : CommitContext) (at : position ≡ length history + 1)
    (is : context ≡ record { at = position; nodes = counts.nodes - 1; lines = counts.lines }) where
  abbrev n : ℕ
  n = (numbers_of history).nodes

  nodes-before : context.nodes ≡ n
  nodes-before = ap (λ (k : CommitContext). k.nodes) is ∙ first-nodes history counts are

  lines-before : context.lines ≡ line_count history
  lines-before = ap (λ (k : CommitContext). k.lines) is ∙ are.lines

  place : context.at ≡ length history + 1
  place = ap (λ (k : CommitContext). k.at) is ∙ at

  -- what its edits want to be resolved
  pub files-rising : (own : List FilePart) → own ≡ stored → AreRising (map part_node own)
  files-rising own same = subst (λ xs. AreRising (map part_node xs)) (sym same) (subst AreRising (sym held.parts) (files-rise history).0)

  pub files-within : (us : List Triple) → Extends ts us → (own : List FilePart) → own ≡ stored → AllByRecursion (HasNodesIn us context.at) own
  files-within us grown own same =
      subst (AllByRecursion (HasNodesIn us context.at)) (sym same)
      (nodes-later ts us context.at stored grown (held-within history ts context.at stored (let p = place in omega (arith, p)) held.files))

  pub edits-near-now : (some : List Edit) → some ≡ unsided es → AreNear context.nodes some
  edits-near-now some e = subst (AreNear context.nodes) (sym e) (subst (λ k. AreNear k (unsided es)) (sym nodes-before) fits.near)

  pub edits-low-now : (some : List Edit) → some ≡ unsided es → AreLow context.lines some
  edits-low-now some e = subst (AreLow context.lines) (sym e) (subst (λ m. AreLow m (unsided es)) (sym lines-before) fits.low)

  pub edits-few-now : (some : List Edit) → some ≡ unsided es → HaveNumbers (record { nodes = context.nodes; lines = context.lines }) some
  edits-few-now some e =
      let nodes = fits.nodes in
      let lines = fits.lines in
      let most = limits-most history in
      let most_nodes = most.nodes in
      let most_lines = most.lines in
      let m = nodes-before in
      let l = lines-before in
      subst (HaveNumbers (record { nodes = context.nodes; lines = context.lines })) (sym e) (record { nodes = omega (arith, nodes, most_nodes, m); lines = omega (arith, lines, most_lines, l) })

  -- resolved in their context, its edits are resolved after the history
  resolved-now : (us : List Triple) (own : List FilePart) (on : List ℕ) (some : List Edit) (ss : List ResolvedEdit) → own ≡ stored → some ≡ unsided es → AreResolvedIn context own us on some ss
      → AreResolved (length history + 1) stored n (line_count history) on us (unsided es) ss
  resolved-now us own on some ss same e h =
      subst (λ x. AreResolved (length history + 1) stored n (line_count history) on us x ss) e
      (subst (λ m. AreResolved (length history + 1) stored n m on us some ss) lines-before
      (subst (λ k. AreResolved (length history + 1) stored k context.lines on us some ss) nodes-before
      (subst (λ p. AreResolved p stored context.nodes context.lines on us some ss) place
      (subst (λ xs. AreResolved context.at xs context.nodes context.lines on us some ss) same h))))

  module _ (us : List Triple) (own : List FilePart) (on : List ℕ) (some : List Edit) (ss : List ResolvedEdit) (same : own ≡ stored) (e : some ≡ unsided es) (given : AreResolvedIn context own us on some ss)
      (ambition : Formula ℕ) (applies : StandFor us (option_count history) (conditions ambition es) on) (list : List ResolvedEdit) (listed : list ≡ ss) where
    abbrev Taken : ℕ → ℕ → ℕ → ℕ → Type 0
    Taken = IsTaken us (length history + 1) stored (line_count history) (insert_nodes on (unsided es))

    -- what their changes of rows want to be planned behind a plan that makes none
    pub changes-new : (before : List Entry) → nodes_with before entries ≡ nodes_in entries → MakeNewNodes (nodes_with before entries) (row_changes list)
    changes-new before none =
        subst (λ xs. MakeNewNodes (nodes_with before entries) (row_changes xs)) (sym listed)
        (resolved-new Taken n (line_count history) on n (line_count history) (unsided es) ss (nodes_with before entries)
        (up-to-made history ts commits file_of_line entries stored counts n before are none held (sym (first-nodes history counts are)))
        (resolved-now us own on some ss same e given))

    pub changes-within : AreWithin us (row_changes list)
    changes-within =
        subst (λ xs. AreWithin us (row_changes xs)) (sym listed)
        (resolved-within Taken n (line_count history) us on n (line_count history) (unsided es) ss (stands-of_table us (option_count history) (conditions ambition es) on applies)
        (resolved-now us own on some ss same e given))

    -- once they are planned, the commit is
    pub commit-plan : Extends ts us → (vs : List Triple) → Extends us vs → (mark : CommitMark) → IsMark us (option_count history) (length history + 1) ambition es mark → (before plan : List Entry) → nodes_with before entries ≡ nodes_in entries → kinds_with before entries ≡ kinds_in entries → Makes us entries before []
        → AlsoMakes us vs entries before plan (row_changes list)
        → nodes_with plan entries ≡ nodes_after_all (row_changes list) (nodes_with before entries)
        → kinds_with plan entries ≡ kinds_after_all (row_changes list) (kinds_with before entries)
        → IsCommitPlan history vs entries stored ambition es mark ss plan
    commit-plan grown vs more mark marked before plan nodes_none kinds_none none makes nodes kinds = record {
      marked = mark-grown us vs (option_count history) (option_count history) more (omega arith) (length history + 1) ambition es mark marked;
      on = on;
      applies = stand-later us (option_count history) vs (conditions ambition es) on more applies;
      resolved = resolved-grown (length history + 1) stored n (line_count history) on us vs (unsided es) ss more
          (nodes-later ts us (length history + 1) stored grown (held-within history ts (length history + 1) stored (omega arith) held.files))
          (stands-of_table us (option_count history) (conditions ambition es) on applies) (resolved-now us own on some ss same e given);
      changes = subst (λ xs. Makes vs entries plan (row_changes xs)) listed (makes [] none);
      nodes = nodes ∙ ap (nodes_after_all (row_changes list)) nodes_none ∙ ap (λ xs. nodes_after_all (row_changes xs) (nodes_in entries)) listed;
      kinds = kinds ∙ ap (kinds_after_all (row_changes list)) kinds_none ∙ ap (λ xs. kinds_after_all (row_changes xs) (kinds_in entries)) listed;
    }

-- the entries of a history are within each longer table, and of different nodes but the root
pub entries-now : (history : List Command) (ts us : List Triple) (commits : List CommitMark) (file_of_line : List ℕ) (entries : Dated) (stored : List FilePart) → AreRowsAndLinesOf history ts commits file_of_line entries stored → Extends ts us
    → AreNodesAt us entries × AreOnceAt us entries
entries-now history ts us commits file_of_line entries stored held grown =
    let own = entries-grown history ts us entries held.of_entries grown in (own.within, entries-once history us entries own)

-- a commit that is planned
module _ (history : List Command) (old ts : List Triple) (commits : List CommitMark) (file_of_line : List ℕ) (entries : Dated) (stored : List FilePart)
    (held : AreRowsAndLinesOf history old commits file_of_line entries stored) (grown : Extends old ts)
    (ambition : Formula ℕ) (es : List Sided) (mark : CommitMark) (ss : List ResolvedEdit) (plan : List Entry) (planned : IsCommitPlan history ts entries stored ambition es mark ss plan) where
  -- it is so in a longer table
  pub plan-grown : (us : List Triple) → Extends ts us → IsCommitPlan history us entries stored ambition es mark ss plan
  plan-grown us more = record {
    marked = mark-grown ts us (option_count history) (option_count history) more (omega arith) (length history + 1) ambition es mark planned.marked;
    on = planned.on;
    applies = stand-later ts (option_count history) us (conditions ambition es) planned.on more planned.applies;
    resolved = resolved-grown (length history + 1) stored (numbers_of history).nodes (line_count history) planned.on ts us (unsided es) ss more
        (nodes-later old ts (length history + 1) stored grown (held-within history old (length history + 1) stored (omega arith) held.files))
        (stands-of_table ts (option_count history) (conditions ambition es) planned.on planned.applies) planned.resolved;
    changes = plans_grow ts us entries plan (row_changes ss) more planned.changes;
    nodes = planned.nodes;
    kinds = planned.kinds;
  }

  -- its rows can be tested, where a node stands for the ambition
  pub can-be-tested : (valid node count : ℕ) → IsLegal history → count ≡ option_count history → count ≤ CHOICE_WIDTH → valid < diagram_size ts → span ts valid ≤ option_count history → Stands ts node 0 (option_count history) (value ambition)
      → CanBeTested ts entries plan valid node count
  can-be-tested valid node count legal few most within below stands =
      let own = entries-grown history old ts entries held.of_entries grown in
      let low = stands.below in
      record {
        valid_within = within;
        ambition_within = stands.within;
        rows_within = planned.changes.within;
        once = once-with history ts entries ambition node es plan own stands planned.on planned.applies stored ss planned.resolved planned.changes;
        most = most;
        valid_options = omega (arith, below, few);
        ambition_options = omega (arith, low, few);
        unread = subst (AreUnreadWith ts plan entries) (sym few) (unread-with history ts entries ambition node es plan own stands planned.on planned.applies stored ss planned.resolved planned.changes legal planned.marked.named);
      }
