-- A commit that is staged, and then installed.
use Rattle.std.proofs.Common.{◌≡◌, ℕ, ◌+◌, ◌<◌, ◌≤◌, ◌^◌, Bool, true, false, nat_eq, List, [], ◌∷◌, ◌++◌, length, map, take, append-nil, Option, Some, None, refl, sym, ap, subst, ◌∙◌, arith}
use Rattle.std.specs.List.{AllByRecursion}
use Rattle.std.specs.Option.{option_map_or}
use Rattle.std.proofs.lemmas.List.{length_push}
use Rattle.cov_base.proofs.CallerLemmas.{all-map, all-both, all-append}
use Rattle.cov_expr.specs.Formula.{Formula}
use Rattle.cov_edit.specs.declared.edit.Edit.{Edit}
use Rattle.cov_edit.specs.declared.command.Command.{Command}
use Rattle.cov_edit.specs.declared.command.Command.TheVariants as commands
use Rattle.cov_edit.specs.declared.sided.Sided.{Sided}
use Rattle.cov_edit.specs.History.{options_of, option_count}
use Rattle.cov_edit.specs.Limits.{limits_of}
use Rattle.cov_edit.specs.Numbering.{Numbers, nodes_made, anchors_of, no_numbers, numbers_of, line_count, node_count}
use Rattle.cov_overtaking.specs.declared.mark.CommitMark.{CommitMark}
use Rattle.cov_visible.specs.declared.file_part.FilePart.{FilePart}
use Rattle.cov_overtaking.specs.Marks.{AreMarks}
use Rattle.cov_history.specs.Kept.{held_by, kept_of}
use Rattle.cov_history.specs.Files.{dated, file_dated}
use Rattle.cov_tree.specs.declared.entry.Entry.{Entry}
use Rattle.cov_tree.specs.Dated.{Dated, nodes_in, kinds_in}
use Rattle.cov_tree.specs.Renumbered.{AreNodes}
use Rattle.cov_visible.specs.RowPlans.{IsSet}
use Rattle.cov_engine.specs.Holdings.{IsFileOf, AreRowsAndLinesOf}
use Rattle.cov_visible.specs.Parts.{part_node, files_among}
use Rattle.cov_edit.specs.Touched.{AreRising}
use Rattle.cov_history.specs.FileNodes.{files_made, files_of}
use Rattle.cov_history.specs.Sessions.{IsGood, session_of}
use Rattle.cov_edit.specs.Replay.{changes_within, replay}
use Rattle.cov_edit.specs.Sides.{unsided, conditions}
use Rattle.cov_view.specs.Refusals.{first_refused}
use Rattle.cov_history.specs.Verdict.{IsLegal, verdict}
use Rattle.cov_history.specs.FileOfLine.{new_file_of_line, AreFilesOfLines}
use Rattle.cov_visible.specs.Staging.{Contents, contents, new_files, AreNear, AreLow, HasRoom, named_line}
use Rattle.cov_engine.specs.Staged.{IsStaged}
use Rattle.cov_history.specs.Insertions.{numbered_amid, held_amid}
use Rattle.cov_visible.specs.Nodes.{AreDated, IsTaken}
use Rattle.cov_visible.specs.Resolved.{insert_nodes}
use Rattle.cov_file.specs.Dated.{DatedLine as FileLine}
use Rattle.cov_dd.specs.declared.triple.Triple.{Triple}
use Rattle.cov_visible.specs.Carrying.{IsChangedIn, IsCarriedOut, AreCarriedOut, CanCarryOutAll, AreAllCarriedOut, AreInstalled, edited_node, with_other_lines}
use Rattle.cov_visible.specs.declared.resolved_edit.ResolvedEdit.{ResolvedEdit}
use Rattle.cov_visible.specs.declared.resolved_edit.ResolvedEdit.TheVariants as resolved
use Rattle.cov_history.proofs.CallerLemmas.{commit-lines, files-commit, files-rise, lines-edits, all-mapped, base-nodes, new-files_of_lines-count}
use Rattle.cov_engine.proofs.FileLines.{all-unmapped}
use Rattle.cov_edit.proofs.CallerLemmas.{limits-most, numbers_from-append}
use Rattle.cov_engine.proofs.RowPlans.{entries-committed}
use Rattle.cov_engine.proofs.States.{options-append}
use Rattle.cov_overtaking.proofs.CallerLemmas.{marks-committed}
use Rattle.cov_engine.proofs.Named.{edits-named, named-near, legal-files}
use Rattle.cov_engine.proofs.MidCommit.{IsHere, AreHere, carried, line-files-along, named-low}
use Rattle.cov_engine.proofs.Started.{resolved-right}
use Rattle.cov_visible.proofs.CallerLemmas.{resolved-kinds, resolved-most, staged-nodes}
use Rattle.cov_engine.proofs.Committed.{new-files-all, line-files-after, file-empty}

-- the nodes that its edits name have small numbers
pub edits-near : (history : List Command) (base : ℕ) (choice : List Bool) (es : List Edit) → node_count history + nodes_made es ≤ (limits_of history).nodes
    → first_refused (numbers_of (take base history)) (replay choice (take base history)) es ≡ None → AreNear (numbers_of history).nodes es
edits-near history base choice es few accepted =
    let most = limits-most history in
    let nodes = most.nodes in
    named-near (numbers_of (take base history)).nodes (numbers_of history).nodes 0 es (base-nodes base history) (omega (arith, few, nodes)) (edits-named history base choice es accepted)

-- and the lines that they name
pub edits-low : (history : List Command) (base : ℕ) (choice : List Bool) (ambition : Formula ℕ) (es : List Sided) → line_count history + length (anchors_of 0 (unsided es)) ≤ (limits_of history).lines
    → IsGood history (session_of base choice ambition es) → IsLegal history → AreLow (line_count history) (unsided es)
edits-low history base choice ambition es few good legal =
    let most = limits-most history in
    let lines = most.lines in
    all-map (λ e. named_line (line_count history) e ≤ (limits_of history).lines) (λ e. named_line (line_count history) e < 2 ^ 32) (λ e low. omega (arith, low, lines)) (unsided es)
    (named-low history base choice ambition es good legal (limits_of history).lines (unsided es) [] refl
    (let same = sym (new-files_of_lines-count 0 (line_count history) (unsided es)) ∙ new-files_of_lines-count 0 0 (unsided es) in omega (arith, few, same)))

-- stored files that are the same but for their room have the same files
pub files-contents : (history : List Command) (ts : List Triple) (old now : List FilePart) → map contents now ≡ map contents old → AllByRecursion (IsFileOf history ts) old → AllByRecursion (IsFileOf history ts) now
files-contents history ts old now same files =
    all-map (λ e. HasFile (contents e)) (IsFileOf history ts) (λ e h. record { lines = h.0; newest = h.1; nodes = h.2 }) now
    (all-unmapped HasFile contents now (subst (AllByRecursion HasFile) (sym same) (all-mapped (IsFileOf history ts) HasFile contents (λ e h. (h.lines, h.newest, h.nodes)) old files)))
  where
    HasFile : Contents → Type 0
    HasFile s = AreDated ts (option_count history) (file_dated s.node (kept_of history)) s.lines × (s.newest ≤ length history) × AreNodes ts s.nodes

-- stored files before and after an edit are of the same rows
module _ {X : Type 0} (row : FilePart → X) (same : (e f : FilePart) → contents e ≡ contents f → row e ≡ row f)
    (kept : (e : FilePart) (ls : List FileLine) (newest : ℕ) (ns : List ℕ) (f : FilePart) → contents f ≡ with_other_lines e ls newest ns → row f ≡ row e) where
  plan-row : (q : ℕ) (s : ResolvedEdit) (e f : FilePart) → IsChangedIn (edited_node s) (IsCarriedOut q s) e f → row f ≡ row e
  plan-row q s e f h = by (nat_eq e.node (edited_node s)) refl
    where
      own : (s : ResolvedEdit) → IsCarriedOut q s e f → row f ≡ row e
      own (resolved.New node kind parent name on) k = ap row k
      own (resolved.Insert file anchor line text vis) k = kept e f.lines.lines q f.lines.nodes f k.row
      own (resolved.Delete file line vis) k = kept e f.lines.lines q f.lines.nodes f k.row
      own (resolved.Rename node name on) k = ap row k
      own (resolved.Move node parent on) k = ap row k
      own (resolved.Remove node on) k = ap row k

      by : (b : Bool) → nat_eq e.node (edited_node s) ≡ b → row f ≡ row e
      by true is = own s (h.here is)
      by false is = ap row (h.elsewhere is)

  plan-rows : (q : ℕ) (s : ResolvedEdit) (es fs : List FilePart) → AreCarriedOut q s es fs → map row fs ≡ map row es
  plan-rows q s [] [] h = refl
  plan-rows q s [] (f ∷ fs) h = absurd h
  plan-rows q s (e ∷ es) [] h = absurd h
  plan-rows q s (e ∷ es) (f ∷ fs) h = ap (λ x. x ∷ map row fs) (plan-row q s e f h.0) ∙ ap (λ xs. row e ∷ xs) (plan-rows q s es fs h.1)

  plans-rows : (q : ℕ) (ss : List ResolvedEdit) (es fs : List FilePart) → AreAllCarriedOut q ss es fs → map row fs ≡ map row es
  plans-rows q [] es fs h = ap (map row) h
  plans-rows q (s ∷ ss) es fs h = plans-rows q ss h.0 fs h.2 ∙ plan-rows q s es h.0 h.1

  same-rows : (es fs : List FilePart) → map contents fs ≡ map contents es → map row fs ≡ map row es
  same-rows [] [] h = refl
  same-rows [] (f ∷ fs) h = absurd (cc)
  same-rows (e ∷ es) [] h = absurd (cc)
  same-rows (e ∷ es) (f ∷ fs) h = ap (λ x. x ∷ map row fs) (same f e (head-of h)) ∙ ap (λ xs. row e ∷ xs) (same-rows es fs (tail-of h))
    where
      head-of : contents f ∷ map contents fs ≡ contents e ∷ map contents es → contents f ≡ contents e
      head-of h = cc

      tail-of : contents f ∷ map contents fs ≡ contents e ∷ map contents es → map contents fs ≡ map contents es
      tail-of h = cc

  pub installed-rows : (q : ℕ) (ss : List ResolvedEdit) (es fs : List FilePart) → AreInstalled q ss es fs → map row fs ≡ map row es
  installed-rows q ss es fs h = same-rows h.0 fs h.2 ∙ plans-rows q ss es h.0 h.1

any-position : (q : ℕ) (o : Option ℕ) → o ≡ None → option_map_or (λ p. nat_eq q p) o true ≡ true
any-position q None h = refl
any-position q (Some p) h = absurd (cc)

module _ (history : List Command) (base : ℕ) (choice : List Bool) (ambition : Formula ℕ) (es : List Sided) (legal : IsLegal history)
    (good : IsGood history (session_of base choice ambition es))
    (accepted : verdict history (commands.Commit base choice ambition es) ≡ None)
    (ts : List Triple) (commits : List CommitMark) (mark : CommitMark) (ss : List ResolvedEdit) (plan : List Entry) (file_of_line : List ℕ) (entries : Dated) (stored : List FilePart)
    (staged : IsStaged history ts ambition es commits mark ss plan file_of_line entries stored) where
  abbrev n : ℕ
  n = (numbers_of history).nodes

  abbrev q : ℕ
  q = length history + 1

  abbrev commit : Command
  commit = commands.Commit base choice ambition es

  abbrev all_commits : List CommitMark
  all_commits = commits ++ mark ∷ []

  abbrev within : List (Formula ℕ)
  within = conditions ambition es

  abbrev Taken : ℕ → ℕ → ℕ → ℕ → Type 0
  Taken = IsTaken ts q staged.old_stored (line_count history) (insert_nodes staged.on (unsided es))

  -- what is stored with the commit is of the files before it and of those that it makes
  pub staged-files : map part_node stored ≡ files_of (history ++ commit ∷ [])
  staged-files = staged-nodes staged.old_stored stored (files_made n (unsided es)) staged.files ∙ ap (λ files. files ++ files_made n (unsided es)) staged.held.parts ∙ sym (files-commit history base choice ambition es)

  pub staged-rise : AreRising (map part_node stored)
  staged-rise = subst AreRising (sym staged-files) (files-rise (history ++ commit ∷ [])).0

  abbrev IsKeptFile : Contents → Type 0
  IsKeptFile s = AreDated ts (option_count history) (file_dated s.node (kept_of history)) s.lines × (s.newest ≤ q) × AreNodes ts s.nodes

  kept-files : AllByRecursion IsKeptFile (map contents stored)
  kept-files =
      subst (AllByRecursion IsKeptFile) (sym staged.files)
      (all-append IsKeptFile (map contents staged.old_stored) (new_files n (unsided es))
      (all-mapped (IsFileOf history ts) IsKeptFile contents (λ e h. (h.lines, let low = h.newest in omega (arith, low), h.nodes)) staged.old_stored staged.held.files)
      (new-files-all IsKeptFile n (unsided es) (λ node h.
      (subst (λ ks. AreDated ts (option_count history) (map dated ks) []) (sym (file-empty n node (kept_of history) h (legal-files history legal))) tt, omega arith, tt))))

  above-zero : AllByRecursion (λ (e : FilePart). 0 < e.node) stored
  above-zero =
      all-unmapped (λ file. 0 < file) part_node stored
      (subst (AllByRecursion (λ file. 0 < file)) (sym staged-files)
      (all-map (λ file. (0 < file) × (file ≤ (numbers_of (history ++ commit ∷ [])).nodes)) (λ file. 0 < file) (λ file h. h.0) (files_of (history ++ commit ∷ [])) (files-rise (history ++ commit ∷ [])).1))

  abbrev AreHereNow : List Edit → List ResolvedEdit → List FilePart → Type 0
  AreHereNow begun left xs = AreHere history base choice ambition es good legal ts staged.on staged.applies begun left xs

  start : AreHereNow [] ss stored
  start =
      all-both (λ e. (0 < e.node) × HasRoom ss e) (λ e. IsKeptFile (contents e)) (λ e. IsHere history base choice ambition es good legal ts staged.on staged.applies e.node [] ss e.lines)
      (λ e h file. record {
        above = h.0;
        are_dated = file.0;
        newest = file.1;
        nodes = file.2;
        inserts = h.1.inserts;
        changes = h.1.changes;
        position = λ t. any-position q e.lines.room.position (h.1.position t);
      }) stored
      (all-both (λ e. 0 < e.node) (HasRoom ss) (λ e. (0 < e.node) × HasRoom ss e) (λ e a r. (a, r)) stored above-zero staged.room)
      (all-unmapped IsKeptFile contents stored kept-files)

  all-carried : CanCarryOutAll q ss stored × ((after : List FilePart) → AreAllCarriedOut q ss stored after → AreHereNow (unsided es) [] after)
  all-carried =
      carried history base choice ambition es good legal ts staged.on staged.applies (unsided es) [] n (line_count history) stored ss refl (omega arith)
      (resolved-right history base choice ambition es good legal ts staged.on staged.applies staged.old_stored staged.held.parts staged.held.files ss staged.resolved)
      start

  pub staged-plans : CanCarryOutAll q ss stored
  staged-plans = all-carried.0

  lines-now : (held_amid history within (unsided es) (unsided es)).lines ≡ kept_of (history ++ commit ∷ [])
  lines-now = lines-edits (length history + 1) (held_by history) (changes_within within (numbered_amid history (unsided es) (unsided es))) ∙ sym (commit-lines history base choice ambition es)

  options-now : option_count (history ++ commit ∷ []) ≡ option_count history
  options-now = ap length (options-append history (commit ∷ []) ∙ append-nil (options_of history))

  nodes-now : (numbers_of (history ++ commit ∷ [])).nodes ≡ n + nodes_made (unsided es)
  nodes-now = ap (λ (ms : Numbers). ms.nodes) (numbers_from-append no_numbers history (commit ∷ []))

  pub row-later : entries.from ≤ q
  row-later = let from = staged.held.of_entries.from in omega (arith, from)

  -- after the commit, the stored files with its lines are what is held
  pub held-committed : (later : Dated) (after : List FilePart) → IsSet q plan entries later → AreInstalled q ss stored after → AreRowsAndLinesOf (history ++ commit ∷ []) ts all_commits file_of_line later after
  held-committed later after set installed =
      let same : map part_node after ≡ map part_node stored =
      installed-rows part_node (λ e f same. ap (λ (s : Contents). s.node) same) (λ e ls newest ns f same. ap (λ (s : Contents). s.node) same) q ss stored after installed in
      let one = length_push commits mark in
      let longer = length_push history commit in
      let count : length commits + 1 ≡ length all_commits = sym one in
      record {
        of_entries = entries-committed history base choice ambition es ts staged.on staged.applies entries plan staged.held.of_entries staged.old_stored ss staged.resolved staged.changes later set;
        below = let now = nodes-now in
            subst (AllByRecursion (λ node. node ≤ (numbers_of (history ++ commit ∷ [])).nodes)) (sym (set.nodes ∙ staged.nodes)) (resolved-most Taken n (line_count history) staged.on (numbers_of (history ++ commit ∷ [])).nodes n (line_count history) (unsided es) ss (nodes_in entries) (omega (arith, now)) staged.held.below staged.resolved);
        made = ap files_among (set.kinds ∙ staged.kinds) ∙ resolved-kinds Taken n (line_count history) staged.on n (line_count history) (unsided es) ss (kinds_in entries) staged.resolved ∙ ap (λ files. files ++ files_made n (unsided es)) staged.held.made ∙ sym (files-commit history base choice ambition es);
        parts = same ∙ staged-files;
        files = files-contents (history ++ commit ∷ []) ts installed.0 after installed.2
            (all-map (λ e. IsHere history base choice ambition es good legal ts staged.on staged.applies e.node (unsided es) [] e.lines) (IsFileOf (history ++ commit ∷ []) ts)
            (λ e h. record {
              lines = subst (λ ks. AreDated ts (option_count (history ++ commit ∷ [])) (file_dated e.node ks) e.lines.lines) lines-now
                  (subst (λ c. AreDated ts c (file_dated e.node (held_amid history within (unsided es) (unsided es)).lines) e.lines.lines) (sym options-now) h.are_dated);
              newest = let low = h.newest in omega (arith, low, longer);
              nodes = h.nodes;
            }) installed.0 (all-carried.1 installed.0 installed.1));
        lines = ap length staged.file_of_line_is ∙ line-files-after history base choice ambition es staged.old_file_of_line n staged.held.lines;
        in_files = subst (AreFilesOfLines (kept_of (history ++ commit ∷ [])) 0) (sym staged.file_of_line_is)
            (subst (λ ks. AreFilesOfLines ks 0 (staged.old_file_of_line ++ new_file_of_line n (unsided es))) lines-now
            (line-files-along history base choice ambition es good legal (unsided es) [] staged.old_file_of_line refl (let old = staged.held.lines in omega (arith, old)) staged.held.in_files));
        few = let old = staged.held.few in omega (arith, old, longer, one);
        marks = subst (λ c. AreMarks ts c 0 (history ++ commit ∷ []) all_commits) (sym options-now)
            (marks-committed ts (option_count history) (length history + 1) 0 base history choice ambition es mark commits (omega arith) staged.marked staged.held.marks);
      }
