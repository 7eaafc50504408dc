-- The changes of rows that a commit's edits make.
use Rattle.std.proofs.Common.{◌≡◌, ℕ, ◌+◌, ◌-◌, ◌<◌, ◌≤◌, Bool, true, false, cond, nat_le, List, [], ◌∷◌, ◌++◌, length, take, refl, sym, ap, subst, ◌∙◌, arith}
use Rattle.std.specs.List.{fold, AllByRecursion}
use Rattle.std.proofs.lemmas.Bool.Decides.{nat_tests}
use Rattle.std.proofs.lemmas.List.{length_push, take-append-le, take_all}
use Rattle.cov_base.specs.Rows.{RowChange, Created, Renamed, Moved, Removed, changed, AreOnce}
use Rattle.cov_base.proofs.CallerLemmas.{all-map}
use Rattle.cov_dd.specs.declared.triple.Triple.{Triple}
use Rattle.cov_dd.specs.Diagrams.{value_in}
use Rattle.cov_expr.specs.Formula.{Formula, value}
use Rattle.cov_edit.specs.declared.edit.Edit.{Edit}
use Rattle.cov_edit.specs.declared.edit.Edit.TheVariants as edits
use Rattle.cov_edit.specs.declared.command.Command.{Command}
use Rattle.cov_edit.specs.declared.command.Command.TheVariants as commands
use Rattle.cov_edit.specs.declared.sided.Sided.{Sided}
use Rattle.cov_edit.specs.Numbering.{Numbers, NumberedEdit, OnRows, node_number, node_count_after, line_count_after, line_count, numbers_after, numbers_of, numbered_edit, numbered_from}
use Rattle.cov_edit.specs.Variant.{Variant, edited}
use Rattle.cov_edit.specs.History.{option_count}
use Rattle.cov_edit.specs.Replay.{applying, applied, first_within, rest_within, changes_within, replay}
use Rattle.cov_edit.specs.Sides.{unsided, conditions}
use Rattle.cov_edit.proofs.CallerLemmas.{replay-commit}
use Rattle.cov_history.proofs.CallerLemmas.{replay-once}
use Rattle.cov_tree.specs.declared.entry.Entry.{Entry}
use Rattle.cov_tree.specs.Carried.{AreOnceAt}
use Rattle.cov_tree.specs.Changes.{all_changed, Makes}
use Rattle.cov_tree.specs.Dated.{Dated, rows_at, rows_with, planned, nodes_in, nodes_with, without_room}
use Rattle.cov_tree.specs.Entries.{rows_in, AllAreWithin}
use Rattle.cov_tree.specs.Renumbered.{AreNodes}
use Rattle.cov_tree.proofs.CallerLemmas.{newest_but_room, nodes_but_room, visibilities_but_room}
use Rattle.cov_engine.specs.declared.counts.Counts.{Counts}
use Rattle.cov_overtaking.specs.declared.mark.CommitMark.{CommitMark}
use Rattle.cov_visible.specs.declared.file_part.FilePart.{FilePart}
use Rattle.cov_engine.specs.States.{AreCountsOf}
use Rattle.cov_engine.specs.Holdings.{AreEntriesOf, AreRowsAndLinesOf}
use Rattle.cov_visible.specs.Nodes.{IsTaken}
use Rattle.cov_visible.specs.Resolved.{first_node, rest_nodes, insert_nodes, IsResolvedBy, AreResolvedBy, AreResolved}
use Rattle.cov_visible.specs.RowPlans.{row_changes, IsSet}
use Rattle.cov_visible.specs.declared.resolved_edit.ResolvedEdit.{ResolvedEdit}
use Rattle.cov_engine.specs.Staged.{StandFor}
use Rattle.cov_engine.proofs.Conditions.{stands-first, stands-rest}

-- the changes of a commit's edits are those of its numbered edits on rows
module _ (ts : List Triple) (count : ℕ) (c : List Bool) (ns : Numbers) (t : List (List ℕ)) where
  module _ (node : ℕ) (within : Formula ℕ) (is : value_in ts node c ≡ value within c) where
    on-rows : (v : Variant) (change : RowChange) → cond (value_in ts node c) (changed v.rows change) v.rows ≡ (applied c v (applying within (OnRows change))).rows
    on-rows v change = ap (λ b. cond b (changed v.rows change) v.rows) is ∙ at (value within c)
      where
        at : (b : Bool) → cond b (changed v.rows change) v.rows ≡ (cond b (edited v (OnRows change)) v).rows
        at true = refl
        at false = refl

    off-rows : (v : Variant) (d : NumberedEdit) → (edited v d).rows ≡ v.rows → v.rows ≡ (applied c v (applying within d)).rows
    off-rows v d same = at (value within c)
      where
        at : (b : Bool) → v.rows ≡ (cond b (edited v d) v).rows
        at true = sym same
        at false = refl

  -- where edits have their numbers
  module _ (P : ℕ → ℕ → ℕ → ℕ → Type 0) (m : ℕ) where
    one-edited : (node : ℕ) (within : Formula ℕ) → value_in ts node c ≡ value within c → (made line : ℕ) (v : Variant) (e : Edit) (s : ResolvedEdit) (ss : List ResolvedEdit) → IsResolvedBy P ns.nodes m node made line e s
        → all_changed ts c (row_changes (s ∷ ss)) v.rows ≡ all_changed ts c (row_changes ss) (applied c v (applying within (numbered_edit ns t made line e))).rows
    one-edited node within is made line v (edits.New kind parent name) s ss h =
        ap (λ x. all_changed ts c (row_changes (x ∷ ss)) v.rows) h
        ∙ ap (all_changed ts c (row_changes ss)) (on-rows node within is v (Created (made + 1) kind (node_number ns.nodes parent) name))
    one-edited node within is made line v (edits.Insert file after text) s ss h =
        ap (λ x. all_changed ts c (row_changes (x ∷ ss)) v.rows) h
        ∙ ap (all_changed ts c (row_changes ss)) (off-rows node within is v (numbered_edit ns t made line (edits.Insert file after text)) refl)
    one-edited node within is made line v (edits.Delete file which) s ss h =
        ap (λ x. all_changed ts c (row_changes (x ∷ ss)) v.rows) h.1
        ∙ ap (all_changed ts c (row_changes ss)) (off-rows node within is v (numbered_edit ns t made line (edits.Delete file which)) refl)
    one-edited node within is made line v (edits.Rename which name) s ss h =
        ap (λ x. all_changed ts c (row_changes (x ∷ ss)) v.rows) h
        ∙ ap (all_changed ts c (row_changes ss)) (on-rows node within is v (Renamed (node_number ns.nodes which) name))
    one-edited node within is made line v (edits.Move which parent) s ss h =
        ap (λ x. all_changed ts c (row_changes (x ∷ ss)) v.rows) h
        ∙ ap (all_changed ts c (row_changes ss)) (on-rows node within is v (Moved (node_number ns.nodes which) (node_number ns.nodes parent)))
    one-edited node within is made line v (edits.Remove which) s ss h =
        ap (λ x. all_changed ts c (row_changes (x ∷ ss)) v.rows) h
        ∙ ap (all_changed ts c (row_changes ss)) (on-rows node within is v (Removed (node_number ns.nodes which)))

    rows-edited : (on : List ℕ) (within : List (Formula ℕ)) → StandFor ts count within on → (made line : ℕ) (v : Variant) (es : List Edit) (ss : List ResolvedEdit) → AreResolvedBy P ns.nodes m on made line es ss
        → all_changed ts c (row_changes ss) v.rows ≡ (fold (applied c) v (changes_within within (numbered_from ns t made line es))).rows
    rows-edited on within stand made line v [] [] h = refl
    rows-edited on within stand made line v [] (s ∷ ss) h = absurd h
    rows-edited on within stand made line v (e ∷ es) [] h = absurd h
    rows-edited on within stand made line v (e ∷ es) (s ∷ ss) h =
        one-edited (first_node on) (first_within within) ((stands-first ts count within on stand).value c) made line v e s ss h.0
        ∙ rows-edited (rest_nodes on) (rest_within within) (stands-rest ts count within on stand) (node_count_after made e) (line_count_after line e)
        (applied c v (applying (first_within within) (numbered_edit ns t made line e))) es ss h.1

module _ (history : List Command) (base : ℕ) (choice : List Bool) (ambition : Formula ℕ) (es : List Sided) (ts : List Triple) (on : List ℕ) (stand : StandFor ts (option_count history) (conditions ambition es) on)
    (entries : Dated) (plan : List Entry) (of_entries : AreEntriesOf history ts entries)
    (stored : List FilePart) (ss : List ResolvedEdit) (resolved_edits : AreResolved (length history + 1) stored (numbers_of history).nodes (line_count history) on ts (unsided es) ss)
    (makes : Makes ts entries plan (row_changes ss)) where
  abbrev commit : Command
  commit = commands.Commit base choice ambition es

  -- the rows with a plan of a commit's edits are those of the replay with the commit
  pub planned-rows : (c : List Bool) → rows_with ts c plan entries ≡ (replay c (history ++ commit ∷ [])).rows
  planned-rows c =
      let ns = numbers_of history in
      makes.rows c (length history) of_entries.from
      ∙ ap (all_changed ts c (row_changes ss)) (of_entries.rows c (length history) ∙ ap (λ h. (replay c h).rows) (take_all (length history) history (omega arith)))
      ∙ rows-edited ts (option_count history) c ns (numbers_after ns (unsided es)).addresses (IsTaken ts (length history + 1) stored (line_count history) (insert_nodes on (unsided es))) (line_count history)
      on (conditions ambition es) stand ns.nodes (length ns.addresses) (replay c history) (unsided es) ss resolved_edits
      ∙ sym (ap (λ (v : Variant). v.rows) (replay-commit c history base choice ambition es))

  -- once the plan is installed, the entries are those of the history with the commit
  pub entries-committed : (later : Dated) → IsSet (length history + 1) plan entries later → AreEntriesOf (history ++ commit ∷ []) ts later
  entries-committed later set = record {
    rows = λ c p. by c p (nat_le p (length history)) refl;
    within = set.within ts makes.over makes.within;
    kept = set.kept ts of_entries.kept makes.within;
    from = let one = length_push history commit in let from = set.from in omega (arith, one, from);
  }
    where
      by : (c : List Bool) (p : ℕ) (b : Bool) → nat_le p (length history) ≡ b → rows_at ts c p later ≡ (replay c (take p (history ++ commit ∷ []))).rows
      by c p true e =
          let low : p ≤ length history = grind (arith, nat_tests, e) in
          set.before ts c p (omega (arith, low)) ∙ of_entries.rows c p ∙ ap (λ h. (replay c h).rows) (sym (take-append-le p history (commit ∷ []) low))
      by c p false e =
          let high : length history < p = grind (arith, nat_tests, e) in
          let one = length_push history commit in
          set.planned ts c p (omega (arith, high)) ∙ planned-rows c ∙ ap (λ h. (replay c h).rows) (sym (take_all p (history ++ commit ∷ []) (omega (arith, high, one))))

-- entries are those of a history whatever room they have
pub entries-room : (history : List Command) (ts : List Triple) (old new : Dated) → without_room new ≡ without_room old → AreEntriesOf history ts old → AreEntriesOf history ts new
entries-room history ts old new same held = record {
  rows = λ c p. ap (rows_in ts c) (nodes_but_room old new same p) ∙ held.rows c p;
  within = λ p. subst (AllAreWithin ts) (sym (nodes_but_room old new same p)) (held.within p);
  kept = subst (AreNodes ts) (sym (visibilities_but_room old new same)) held.kept;
  from = let is : new.from ≡ old.from = ap (λ (d : Dated). d.from) same in let low = held.from in omega (arith, is, low);
}

-- a plan makes the same changes over entries with other room
pub makes-room : (ts : List Triple) (old new : Dated) (plan : List Entry) (changes : List (RowChange × ℕ)) → without_room new ≡ without_room old → Makes ts old plan changes → Makes ts new plan changes
makes-room ts old new plan changes same makes = record {
  rows = λ c p le.
      let is : new.from ≡ old.from = ap (λ (d : Dated). d.from) same in
      ap (λ es. rows_in ts c (planned plan es)) (newest_but_room old new same)
      ∙ makes.rows c p (omega (arith, is, le))
      ∙ ap (λ es. all_changed ts c changes (rows_in ts c es)) (sym (nodes_but_room old new same p));
  over = λ p. subst (AllAreWithin ts) (sym (nodes_but_room old new same p)) (makes.over p);
  within = subst (λ es. AllAreWithin ts (planned plan es)) (sym (newest_but_room old new same)) makes.within;
  ambitions = makes.ambitions;
}

-- on each choice, the entries of a history are of different nodes but the root
pub entries-once : (history : List Command) (ts : List Triple) (entries : Dated) → AreEntriesOf history ts entries → AreOnceAt ts entries
entries-once history ts entries held = λ p c. subst AreOnce (sym (held.rows c p)) (replay-once c (take p history))

-- the nodes of a plan that makes no change are those made before
pub up-to-made : (history : List Command) (ts : List Triple) (commits : List CommitMark) (file_of_line : List ℕ) (entries : Dated) (stored : List FilePart) (counts : Counts) (before : ℕ) (plan : List Entry) → AreCountsOf history counts
    → nodes_with plan entries ≡ nodes_in entries → AreRowsAndLinesOf history ts commits file_of_line entries stored → before ≡ counts.nodes - 1 → AllByRecursion (λ n. n ≤ before) (nodes_with plan entries)
up-to-made history ts commits file_of_line entries stored counts before plan are same held is =
    let nodes = are.nodes in
    subst (AllByRecursion (λ n. n ≤ before)) (sym same) (all-map (λ n. n ≤ (numbers_of history).nodes) (λ n. n ≤ before) (λ n low. omega (arith, low, nodes, is)) (nodes_in entries) held.below)
