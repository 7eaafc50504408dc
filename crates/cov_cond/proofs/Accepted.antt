-- A commit of inserts into one file is accepted.
use Rattle.std.proofs.Common.{◌≡◌, ℕ, zero, suc, ◌+◌, ◌<◌, ◌≤◌, Bool, true, false, cond, ◌||◌, ◌&&◌, not, nat_eq, nat_lt, nat_le, List, [], ◌∷◌, ◌++◌, length, take, Some, None, refl, sym, ap, subst, ◌∙◌, arith}
use Rattle.std.specs.List.{find, list_any, list_all, sum_by, AllByRecursion}
use Rattle.std.proofs.Math.Seq.{take-length, drop-length}
use Rattle.std.proofs.lemmas.Bool.{and_parts}
use Rattle.std.proofs.lemmas.Bool.Decides.{nat_tests}
use Rattle.std.proofs.lemmas.List.Sums.{sum_by-append, sum_by-cons}
use Rattle.cov_base.specs.Choices.{all_choices}
use Rattle.cov_base.specs.Rows.{Row, is_present, row_of, has_node}
use Rattle.cov_base.specs.Spelling.{is_line_text}
use Rattle.cov_base.specs.declared.limits.TheConstants.{LIMITS}
use Rattle.cov_base.specs.declared.number.NodeRef.{NodeRef}
use Rattle.cov_base.specs.declared.number.NodeRef.TheVariants as nodes
use Rattle.cov_base.specs.declared.number.LineRef.{LineRef}
use Rattle.cov_base.specs.declared.number.LineRef.TheVariants as lines
use Rattle.cov_base.proofs.CallerLemmas.{length-with_lines}
use Rattle.cov_expr.specs.Formula.{Formula, value, reach}
use Rattle.cov_edit.specs.declared.edit.Edit.{Edit}
use Rattle.cov_edit.specs.declared.edit.Edit.TheVariants as edits
use Rattle.cov_edit.specs.declared.command.Command.{Command}
use Rattle.cov_edit.specs.declared.command.Command.TheVariants as commands
use Rattle.cov_edit.specs.EditFits.{fits_edit}
use Rattle.cov_edit.specs.History.{options_of, option_count, constraints_of, is_valid_in, edit_bytes, text_bytes, byte_count, command_bytes}
use Rattle.cov_edit.specs.Limits.{limits_of, is_upgraded}
use Rattle.cov_edit.specs.Sides.{reach_within}
use Rattle.cov_edit.specs.declared.sided.Sided.{Sided}
use Rattle.cov_edit.specs.Numbering.{no_numbers, numbers_of, nodes_made, anchors_of, line_count, node_count}
use Rattle.cov_edit.specs.Replay.{replay}
use Rattle.cov_edit.proofs.CallerLemmas.{numbers_from-append, upgraded-append}
use Rattle.cov_rules.proofs.CallerLemmas.{all_whole}
use Rattle.cov_view.specs.References.{is_head, is_dir_kind}
use Rattle.cov_view.specs.Refusals.{when, first_of, shows_node, shows_line, is_dir, row_is_dir, first_refused}
use Rattle.cov_view.proofs.CallerLemmas.{first-not_when}
use Rattle.cov_history.specs.BadChoices.{fault_after, as_unsound, unsound_refusal}
use Rattle.cov_history.specs.FileNodes.{files_of}
use Rattle.cov_history.specs.Overtaking.{overtaken, overtaken_from}
use Rattle.cov_history.specs.RowChanges.{changes_rows}
use Rattle.cov_history.specs.Sessions.{Session, IsGood, session_of}
use Rattle.cov_history.specs.Verdict.{IsLegal, verdict, has_no_edits, size_refusals, when_full, as_overtaken}
use Rattle.cov_history.specs.declared.refusal.Refusal.TheVariants as refusals
use Rattle.cov_history.proofs.CallerLemmas.{good-passes, is_table-of, lines-sound, rows-tell}
use Rattle.cov_engine.specs.Meeting.{least_valid}
use Rattle.cov_cond.specs.Importing.{meant_for_all, chained}
use Rattle.cov_cond.proofs.Chained.{anchors-chained}
use Rattle.cov_cond.proofs.Meant.{in-all, reach_all, unsided-all}
use Rattle.cov_cond.proofs.Trying.{chain-taken}

within : (most n : ℕ) → n ≤ most → nat_lt most n ≡ false
within most n h = grind (arith, nat_tests, h)

beyond : (most n : ℕ) → n < most → nat_le most n ≡ false
beyond most n h = grind (arith, nat_tests, h)

-- what is found passes the test, and what holds of all items holds of it
pub found-passes : {X : Type 0} (p : X → Bool) (P : X → Type 0) (xs : List X) (x : X) → find p xs ≡ Some x → AllByRecursion P xs → (p x ≡ true) × P x
found-passes p P [] x h all = absurd (cc)
found-passes p P (y ∷ ys) x h all = at (p y) refl h (λ k. found-passes p P ys x k all.1)
  where
    at : (b : Bool) → p y ≡ b → cond b (Some y) (find p ys) ≡ Some x → (find p ys ≡ Some x → (p x ≡ true) × P x) → (p x ≡ true) × P x
    at true e k rest = let same : y ≡ x = cc in subst (λ z. (p z ≡ true) × P z) same (e, all.0)
    at false e k rest = rest k

-- inserts into a file, of which each text is one of a line
module _ (file : NodeRef) where
  pub chained-bytes : (after : LineRef) (i : ℕ) (texts : List (List ℕ)) → text_bytes (chained file after i texts) ≡ sum_by length texts
  chained-bytes after i [] = refl
  chained-bytes after i (text ∷ texts) =
      sum_by-cons edit_bytes (edits.Insert file after text) (chained file (lines.New i) (i + 1) texts) ∙ ap (λ n. length text + n) (chained-bytes (lines.New i) (i + 1) texts) ∙ sym (sum_by-cons length text texts)

  pub chained-nodes : (after : LineRef) (i : ℕ) (texts : List (List ℕ)) → nodes_made (chained file after i texts) ≡ 0
  chained-nodes after i [] = refl
  chained-nodes after i (text ∷ texts) = chained-nodes (lines.New i) (i + 1) texts

  pub length-chained : (after : LineRef) (i : ℕ) (texts : List (List ℕ)) → length (chained file after i texts) ≡ length texts
  length-chained after i [] = refl
  length-chained after i (text ∷ texts) = ap suc (length-chained (lines.New i) (i + 1) texts)

  pub chained-rows : (after : LineRef) (i : ℕ) (texts : List (List ℕ)) → list_any changes_rows (chained file after i texts) ≡ false
  chained-rows after i [] = refl
  chained-rows after i (text ∷ texts) = chained-rows (lines.New i) (i + 1) texts

  pub chained-fits : (after : LineRef) (i : ℕ) (texts : List (List ℕ)) → list_all is_line_text texts ≡ true → list_all fits_edit (chained file after i texts) ≡ true
  chained-fits after i [] h = refl
  chained-fits after i (text ∷ texts) h =
      let parts = and_parts (is_line_text text) (list_all is_line_text texts) h in
      λ j. parts.0 j && chained-fits (lines.New i) (i + 1) texts parts.1 j

-- commits declare nothing
pub same-options : (history : List Command) (base : ℕ) (choice : List Bool) (ambition : Formula ℕ) (ss : List Sided) → options_of (history ++ commands.Commit base choice ambition ss ∷ []) ≡ options_of history
same-options [] base choice ambition ss = refl
same-options (commands.Option name ∷ history) base choice ambition ss = ap (λ names. name ∷ names) (same-options history base choice ambition ss)
same-options (commands.Constraint expr ∷ history) base choice ambition ss = same-options history base choice ambition ss
same-options (commands.Prefer expr ∷ history) base choice ambition ss = same-options history base choice ambition ss
same-options (commands.Default option on ∷ history) base choice ambition ss = same-options history base choice ambition ss
same-options (commands.Commit b c a ts ∷ history) base choice ambition ss = same-options history base choice ambition ss
same-options (commands.Upgrade ∷ history) base choice ambition ss = same-options history base choice ambition ss

pub same-constraints : (history : List Command) (base : ℕ) (choice : List Bool) (ambition : Formula ℕ) (ss : List Sided) → constraints_of (history ++ commands.Commit base choice ambition ss ∷ []) ≡ constraints_of history
same-constraints [] base choice ambition ss = refl
same-constraints (commands.Option name ∷ history) base choice ambition ss = same-constraints history base choice ambition ss
same-constraints (commands.Constraint expr ∷ history) base choice ambition ss = ap (λ rules. expr ∷ rules) (same-constraints history base choice ambition ss)
same-constraints (commands.Prefer expr ∷ history) base choice ambition ss = same-constraints history base choice ambition ss
same-constraints (commands.Default option on ∷ history) base choice ambition ss = same-constraints history base choice ambition ss
same-constraints (commands.Commit b c a ts ∷ history) base choice ambition ss = same-constraints history base choice ambition ss
same-constraints (commands.Upgrade ∷ history) base choice ambition ss = same-constraints history base choice ambition ss

-- nor do they raise the limits
pub same-upgrade : (history : List Command) (base : ℕ) (choice : List Bool) (ambition : Formula ℕ) (ss : List Sided) → is_upgraded (history ++ commands.Commit base choice ambition ss ∷ []) ≡ is_upgraded history
same-upgrade history base choice ambition ss = upgraded-append history (commands.Commit base choice ambition ss ∷ []) ∙ nothing (is_upgraded history)
  where
    nothing : (b : Bool) → (b || false) ≡ b
    nothing true = refl
    nothing false = refl

pub nodes-commit : (history : List Command) (base : ℕ) (choice : List Bool) (ambition : Formula ℕ) (es : List Edit)
    → (numbers_of (history ++ commands.Commit base choice ambition (meant_for_all es) ∷ [])).nodes ≡ (numbers_of history).nodes + nodes_made es
nodes-commit history base choice ambition es =
    ap (λ ns. ns.nodes) (numbers_from-append no_numbers history (commands.Commit base choice ambition (meant_for_all es) ∷ []))
    ∙ ap (λ fs. (numbers_of history).nodes + nodes_made fs) (unsided-all es)

pub bytes-commit : (history : List Command) (base : ℕ) (choice : List Bool) (ambition : Formula ℕ) (es : List Edit)
    → byte_count (history ++ commands.Commit base choice ambition (meant_for_all es) ∷ []) ≡ byte_count history + text_bytes es
bytes-commit history base choice ambition es =
    let all = sum_by-append command_bytes history (commands.Commit base choice ambition (meant_for_all es) ∷ []) in
    let one = sum_by-cons command_bytes (commands.Commit base choice ambition (meant_for_all es)) [] in
    let same = ap text_bytes (unsided-all es) in
    omega (arith, all, one, same)

-- a node that a history made as a file is no directory
pub file-no_dir : (history : List Command) (c : List Bool) (file : ℕ) → 0 < file → has_node file (files_of history) ≡ true → is_dir (replay c history).rows file ≡ false
file-no_dir history c zero some h = absurd (omega (arith, some))
file-no_dir history c (suc node) some h = at (replay c history).rows (rows-tell c history)
  where
    files : List ℕ
    files = files_of history

    kind : (r : Row) → (has_node r.node files ≡ not (is_dir_kind r.kind)) → r.node ≡ suc node → is_dir_kind r.kind ≡ false
    kind r tells same = by (is_dir_kind r.kind) (sym tells ∙ ap (λ n. has_node n files) same ∙ h)
      where
        by : (b : Bool) → not b ≡ true → b ≡ false
        by true e = absurd (cc)
        by false e = refl

    at : (rows : List Row) → AllByRecursion (λ r. has_node r.node files ≡ not (is_dir_kind r.kind)) rows → row_is_dir (row_of rows (suc node)) ≡ false
    at [] tells = refl
    at (r ∷ rows) tells = by (nat_eq r.node (suc node)) refl (at rows tells.1)
      where
        by : (b : Bool) → nat_eq r.node (suc node) ≡ b → row_is_dir (row_of rows (suc node)) ≡ false → row_is_dir (cond b (Some r) (row_of rows (suc node))) ≡ false
        by true e rest = kind r tells.0 (grind (arith, nat_tests, e))
        by false e rest = rest

-- inserts behind a line that the variant of a choice shows, within an expression that is true on that choice
pub record MayInsert (now : List Command) (file anchor : ℕ) (e : Formula ℕ) (choice : List Bool) (texts : List (List ℕ)) : Type 0 where
  pub legal : IsLegal now
  pub known : file ≤ (numbers_of now).nodes
  pub there : is_present (replay choice now).rows file ≡ true
  pub a_file : is_dir (replay choice now).rows file ≡ false
  pub anchored : (is_head (lines.Old anchor) || shows_line (numbers_of now) (replay choice now) file (lines.Old anchor)) ≡ true
  pub least : least_valid now e ≡ Some choice
  pub declared : reach e ≤ option_count now
  pub some : 0 < length texts
  pub few : length texts ≤ LIMITS.edits
  pub lines : line_count now + length texts ≤ (limits_of now).lines
  pub nodes : node_count now ≤ (limits_of now).nodes
  pub commit_bytes : sum_by length texts ≤ LIMITS.commit_bytes
  pub bytes : byte_count now + sum_by length texts ≤ LIMITS.bytes
  pub commands : length now < LIMITS.commands

module _ (now : List Command) (file anchor : ℕ) (e : Formula ℕ) (choice : List Bool) (texts : List (List ℕ)) (may : MayInsert now file anchor e choice texts) where
  abbrev pub es : List Edit
  es = chained (nodes.Old file) (lines.Old anchor) 0 texts

  abbrev s : Session
  s = session_of (length now) choice e (meant_for_all es)

  passes : ((is_valid_in now choice && value e choice) ≡ true) × (length choice ≡ option_count now)
  passes = found-passes (λ c. is_valid_in now c && value e c) (λ c. length c ≡ option_count now) (all_choices (option_count now)) choice may.least (all_whole (option_count now))

  whole : take (length now) now ≡ now
  whole = take-length now

  taken : first_refused (numbers_of now) (replay choice now) es ≡ None
  taken =
      chain-taken (numbers_of now) file _ (is_table-of now es) (numbers_of now).nodes 0 (replay choice now) (line_count now) 0 (lines.Old anchor) texts
      (let e = length-with_lines (numbers_of now).addresses (anchors_of (line_count now) es) in let f = anchors-chained (line_count now) (nodes.Old file) (lines.Old anchor) 0 texts in omega (arith, e, f))
      (omega arith) shown may.a_file may.anchored
    where
      shown : shows_node (numbers_of now) (replay choice now) (nodes.Old file) ≡ true
      shown = let known : nat_le file (numbers_of now).nodes ≡ true = grind (arith, nat_tests, may.known) in λ j. known j && may.there j

  good : IsGood now s
  good = record {
    within = omega arith;
    of_all_options = passes.1 ∙ ap option_count (sym whole);
    valid = ap (λ h. is_valid_in h choice) whole ∙ (and_parts (is_valid_in now choice) (value e choice) passes.0).0;
    in_ambition = (and_parts (is_valid_in now choice) (value e choice) passes.0).1;
    in_sides = in-all choice es;
    in_reach = subst (λ h. reach_within e (meant_for_all es) ≤ option_count h) (sym whole) (reach_all (option_count now) e es may.declared);
    accepted = subst (λ (x : List Command × List Edit). first_refused (numbers_of x.0) (replay choice x.0) x.1 ≡ None) (λ j. (sym whole j, sym (unsided-all es) j)) taken;
  }

  pub insert-accepted : verdict now (commands.Commit (length now) choice e (meant_for_all es)) ≡ None
  insert-accepted =
      good-passes now s good
      ∙ ap (λ fs. first_of (when_full now ∷ (size_refusals now fs ++ when (has_no_edits (meant_for_all es)) refusals.Empty ∷ as_overtaken (overtaken now (length now) e (meant_for_all es)) ∷ unsound_refusal now e k ∷ []))) (unsided-all es)
      ∙ first-not_when (nat_le LIMITS.commands (length now)) refusals.Full _ (beyond LIMITS.commands (length now) may.commands)
      ∙ first-not_when (nat_lt LIMITS.edits (length es)) refusals.TooManyEdits _ (within LIMITS.edits (length es) (subst (λ n. n ≤ LIMITS.edits) (sym (length-chained (nodes.Old file) (lines.Old anchor) 0 texts)) may.few))
      ∙ first-not_when (nat_lt (limits_of now).lines (line_count now + length (anchors_of 0 es))) refusals.TooManyLines _ (within (limits_of now).lines (line_count now + length (anchors_of 0 es)) (subst (λ n. line_count now + n ≤ (limits_of now).lines) (sym (anchors-chained 0 (nodes.Old file) (lines.Old anchor) 0 texts)) may.lines))
      ∙ first-not_when (nat_lt (limits_of now).nodes (node_count now + nodes_made es)) refusals.TooManyNodes _ (within (limits_of now).nodes (node_count now + nodes_made es) (subst (λ n. n ≤ (limits_of now).nodes) no_more may.nodes))
      ∙ first-not_when (nat_lt LIMITS.commit_bytes (text_bytes es) || nat_lt LIMITS.bytes (byte_count now + text_bytes es)) refusals.TooManyBytes _ (λ j. small j || small_too j)
      ∙ first-not_when (has_no_edits (meant_for_all es)) refusals.Empty (as_overtaken (overtaken now (length now) e (meant_for_all es)) ∷ unsound_refusal now e k ∷ []) (has_some texts may.some)
      ∙ ap (λ later. first_of (as_overtaken (overtaken_from now e (meant_for_all es) (length now) later) ∷ unsound_refusal now e k ∷ [])) (drop-length now)
      ∙ ap (λ bad. first_of (as_unsound (fault_after now k) bad ∷ []))
      (lines-sound now (length now) choice e (meant_for_all es) may.legal (ap (list_any changes_rows) (unsided-all es) ∙ chained-rows (nodes.Old file) (lines.Old anchor) 0 texts))
    where
      k : Command
      k = commands.Commit (length now) choice e (meant_for_all es)

      size : text_bytes es ≡ sum_by length texts
      size = chained-bytes (nodes.Old file) (lines.Old anchor) 0 texts

      small : nat_lt LIMITS.commit_bytes (text_bytes es) ≡ false
      small = within LIMITS.commit_bytes (text_bytes es) (subst (λ n. n ≤ LIMITS.commit_bytes) (sym size) may.commit_bytes)

      small_too : nat_lt LIMITS.bytes (byte_count now + text_bytes es) ≡ false
      small_too = within LIMITS.bytes (byte_count now + text_bytes es) (subst (λ n. byte_count now + n ≤ LIMITS.bytes) (sym size) may.bytes)

      no_more : node_count now ≡ node_count now + nodes_made es
      no_more = let n = chained-nodes (nodes.Old file) (lines.Old anchor) 0 texts in omega (arith, n)

      has_some : (ts : List (List ℕ)) → 0 < length ts → has_no_edits (meant_for_all (chained (nodes.Old file) (lines.Old anchor) 0 ts)) ≡ false
      has_some [] h = absurd (omega (arith, h))
      has_some (t ∷ ts) h = refl
