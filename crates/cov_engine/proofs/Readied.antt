-- What is ready for a command, staged, installed or given up.
use Rattle.std.proofs.Common.{◌≡◌, ℕ, ◌+◌, ◌-◌, ◌<◌, ◌≤◌, Bool, true, false, List, [], Option, ◌∷◌, ◌++◌, length, map, take, None, Result, Ok, Err, OnErr, append-nil, refl, sym, ap, subst, ◌∙◌, arith}
use Rattle.std.specs.List.{AllByRecursion}
use Rattle.std.proofs.lemmas.List.{length_push, take-map, length-map, take-append-le, take_all}
use Rattle.cov_base.proofs.CallerLemmas.{length-with_lines, all-map}
use Rattle.cov_dd.specs.declared.triple.Triple.{Triple}
use Rattle.cov_base.specs.declared.limits.TheConstants.{LIMITS}
use Rattle.cov_expr.specs.Formula.{Formula, False}
use Rattle.cov_expr.specs.Validity.{is_valid}
use Rattle.cov_edit.specs.declared.edit.Edit.{Edit}
use Rattle.cov_edit.specs.declared.command.Command.{Command}
use Rattle.cov_edit.specs.declared.command.Command.TheVariants as commands
use Rattle.cov_edit.specs.declared.sided.Sided.{Sided}
use Rattle.cov_edit.specs.Fits.{fits_command}
use Rattle.cov_edit.specs.History.{options_of, option_count, text_bytes, command_bytes}
use Rattle.cov_edit.specs.Limits.{is_upgraded}
use Rattle.cov_edit.specs.Numbering.{Numbers, nodes_made, anchors_of, no_numbers, numbers_after, numbers_of, line_count}
use Rattle.cov_edit.specs.Sides.{unsided, reach_within}
use Rattle.cov_edit.proofs.CallerLemmas.{numbers_from-append}
use Rattle.cov_rules.specs.Installing.{RulesValue, Standing, expressions, reach_of}
use Rattle.cov_view.specs.Refusals.{first_of}
use Rattle.cov_view.proofs.CallerLemmas.{none-when}
use Rattle.cov_engine.specs.Summaries.{summary_of, IsSummaryOf}
use Rattle.cov_engine.specs.declared.summary.EditSummary.{EditSummary}
use Rattle.cov_engine.specs.declared.counts.Counts.{Counts}
use Rattle.cov_visible.specs.declared.file_part.FilePart.{FilePart}
use Rattle.cov_overtaking.specs.declared.mark.CommitMark.{CommitMark}
use Rattle.cov_visible.specs.declared.resolved_edit.ResolvedEdit.{ResolvedEdit}
use Rattle.cov_engine.specs.declared.sizes.Sizes.{Sizes}
use Rattle.cov_history.specs.declared.refusal.Refusal.{Refusal}
use Rattle.cov_history.specs.declared.refusal.Refusal.TheVariants as refusals
use Rattle.cov_history.specs.Kept.{kept_of}
use Rattle.cov_history.specs.Files.{file_dated}
use Rattle.cov_visible.specs.Nodes.{HasNodesIn, IsTaken}
use Rattle.cov_visible.specs.Resolved.{insert_nodes}
use Rattle.cov_engine.proofs.Dating.{dated-nodes}
use Rattle.cov_tree.specs.declared.entry.Entry.{Entry}
use Rattle.cov_tree.specs.Dated.{Dated, HasRoom as HasRowRoom, planned as entries_planned, without_room}
use Rattle.cov_visible.specs.RowPlans.{row_changes, nodes_after_all, kinds_after_all, IsSet}
use Rattle.cov_engine.specs.Holdings.{IsFileOf, AreRowsAndLinesOf}
use Rattle.cov_visible.specs.Parts.{part_node, count_below, files_among}
use Rattle.cov_edit.specs.Touched.{AreRising}
use Rattle.cov_history.specs.FileNodes.{files_made, files_of}
use Rattle.cov_history.specs.Sessions.{IsGood, session_of}
use Rattle.cov_engine.specs.States.{AreCountsOf, AreDeclarationsOf}
use Rattle.cov_overtaking.specs.Overtakers.{IsOvertaker}
use Rattle.cov_history.specs.Overtaking.{overtaken}
use Rattle.cov_history.specs.Verdict.{IsLegal, as_overtaken, verdict, refusals_of, size_refusals}
use Rattle.cov_history.specs.FileOfLine.{new_file_of_line}
use Rattle.cov_visible.specs.Staging.{contents, new_contents, made_files, files_of_lines, new_files, HasRoom}
use Rattle.cov_engine.specs.Sizes.{sizes_of}
use Rattle.cov_engine.specs.Staged.{IsCommitPlan, IsStaged}
use Rattle.cov_edit.specs.History.{is_valid_in}
use Rattle.cov_dd.specs.Diagrams.{Extends}
use Rattle.cov_dd.proofs.CallerLemmas.{stands_later, stands_weaker}
use Rattle.cov_tree.specs.Entries.{nodes_of, kinds_of}
use Rattle.cov_tree.proofs.CallerLemmas.{newest_but_room}
use Rattle.cov_visible.specs.Carrying.{CanCarryOutAll, AreInstalled}
use Rattle.cov_dd.specs.Diagrams.{value_in, Stands}
use Rattle.cov_edit.specs.History.{edits_in}
use Rattle.cov_engine.specs.Ready.{IsNext, IsInBounds, AreCountsWith, IsCommitReady, IsStagedReady, IsReady}
use Rattle.cov_history.proofs.CallerLemmas.{files-commit, files-rise, legal-one, made-within, new-files_of_lines-count}
use Rattle.cov_history.specs.BadChoices.{unsound_refusal}
use Rattle.cov_engine.specs.declared.addition.Addition.{Addition}
use Rattle.cov_engine.specs.declared.addition.Addition.TheVariants as additions
use Rattle.cov_engine.proofs.States.{sum-one, options-append, below}
use Rattle.cov_engine.proofs.RowPlans.{entries-room, makes-room}
use Rattle.cov_engine.proofs.Refused.{bytes-few, commit-good, commit-sizes, commit-verdict, declared-less, edits-few, lines-few, nodes-few}
use Rattle.cov_engine.proofs.Ruling.{rules-same}
use Rattle.cov_engine.specs.Refusing.{choice_refusals, commit_refusals, early_refusal, edit_refusals}
use Rattle.cov_visible.proofs.CallerLemmas.{count-front, resolved-files, resolved-files_of_lines, resolved-length, same-nodes, staged-nodes}
use Rattle.cov_engine.proofs.Installed.{edits-near, edits-low, staged-rise, staged-plans, row-later, held-committed, files-contents}

-- what is found among the commits is what overtakes in the history
overtaken-found : (history : List Command) (names : List (List ℕ)) (ts : List Triple) (standing : Standing) (counts : Counts) (commits : List CommitMark) (file_of_line : List ℕ) (entries : Dated) (stored : List FilePart) (valid base : ℕ)
    (ambition : Formula ℕ) (es : List Sided) (found : Option ℕ) → AreDeclarationsOf history names ts standing counts → AreRowsAndLinesOf history ts commits file_of_line entries stored → reach_within ambition es ≤ option_count history
    → valid ≡ standing.conjunction → IsOvertaker ts valid commits base ambition es found → found ≡ overtaken history base ambition es
overtaken-found history names ts standing counts commits file_of_line entries stored valid base ambition es found state held low is first =
    first history state.rules.below.few (subst (λ fs. reach_of fs ≤ option_count history) state.rules.constraints state.rules.below.constraints) low
    held.marks
    (λ c. ap (λ a. value_in ts a c) is ∙ state.rules.holds.conjunction.value c ∙ ap (λ fs. is_valid fs c) state.rules.constraints)

-- a command that isn't refused early, and that is a commit
module _ (history : List Command) (k : Command) (base : ℕ) (choice : List Bool) (ambition : Formula ℕ) (es : List Sided) (is : k ≡ commands.Commit base choice ambition es) (passes : early_refusal history k ≡ None) where
  commit-passes : first_of (commit_refusals history base choice ambition es) ≡ None
  commit-passes = ap (early_refusal history) (sym is) ∙ passes

  good : IsGood history (session_of base choice ambition es)
  good = commit-good history base choice ambition es commit-passes

  pub reach-declared : reach_within ambition es ≤ option_count history
  reach-declared = let own = good.in_reach in let all = declared-less base history in omega (arith, own, all)

  -- it is within the limits
  pub in-bounds : IsLegal history → IsInBounds history (unsided es)
  in-bounds legal =
      let others : List (Option Refusal) = choice_refusals (take base history) choice ambition es ++ edit_refusals (take base history) choice es in
      let sized : first_of (size_refusals history (unsided es) ++ others) ≡ None = commit-sizes history base choice ambition es commit-passes in
      record {
        near = edits-near history base choice (unsided es) (nodes-few history (unsided es) others sized) good.accepted;
        low = edits-low history base choice ambition es (lines-few history (unsided es) others sized) good legal;
        edits = edits-few history (unsided es) others sized;
        lines = lines-few history (unsided es) others sized;
        nodes = nodes-few history (unsided es) others sized;
        bytes = bytes-few history (unsided es) others sized;
      }

  -- what is counted of its edits is theirs
  pub commit-summary : IsLegal history → (summary : EditSummary) → IsSummaryOf (unsided (edits_in k)) summary → summary ≡ summary_of (unsided es)
  commit-summary legal summary own = subst (λ j. IsSummaryOf (unsided (edits_in j)) summary) is own (in-bounds legal).edits

  -- the verdict on it is that of what is found to overtake it, or else of a variant left unsound
  pub late-verdict : (names : List (List ℕ)) (ts : List Triple) (standing : Standing) (counts : Counts) (commits : List CommitMark) (file_of_line : List ℕ) (entries : Dated) (stored : List FilePart) (valid : ℕ) (found : Option ℕ)
      → length history < LIMITS.commands → AreDeclarationsOf history names ts standing counts → AreRowsAndLinesOf history ts commits file_of_line entries stored → valid ≡ standing.conjunction
      → IsOvertaker ts valid commits base ambition es found → verdict history k ≡ first_of (as_overtaken found ∷ unsound_refusal history ambition (commands.Commit base choice ambition es) ∷ [])
  late-verdict names ts standing counts commits file_of_line entries stored valid found few state held conjunction first =
      ap (verdict history) is
      ∙ commit-verdict history base choice ambition es few commit-passes
      ∙ ap (λ o. first_of (as_overtaken o ∷ unsound_refusal history ambition (commands.Commit base choice ambition es) ∷ []))
      (sym (overtaken-found history names ts standing counts commits file_of_line entries stored valid base ambition es found state held reach-declared conjunction first))

  -- what is staged for a commit is what its command wants
  module _ (os : ℕ) (ts : List Triple) (rules : RulesValue) (spare : ℕ) (commits : List CommitMark) (file_of_line : List ℕ) (entries : Dated) (stored : List FilePart) where
    pub as-staged : (r : Addition) → IsStagedReady history ts ambition es spare commits file_of_line entries stored r → IsReady history k os ts rules spare commits file_of_line entries stored r
    as-staged (additions.Option name) h = absurd h
    as-staged (additions.Rule rule plan) h = absurd h
    as-staged additions.Upgrade h = absurd h
    as-staged (additions.Commit mark counts ss rows) h =
        subst (λ c. IsCommitReady history ts c spare commits file_of_line entries stored mark counts ss.items rows) (sym is) (good, h.0, h.1, h.2)

-- what is the same but for rooms holds the same
pub held-contents : (history : List Command) (ts : List Triple) (commits : List CommitMark) (file_of_line : List ℕ) (before after : Dated) (old now : List FilePart) → without_room after ≡ without_room before → map contents now ≡ map contents old
    → AreRowsAndLinesOf history ts commits file_of_line before old → AreRowsAndLinesOf history ts commits file_of_line after now
held-contents history ts commits file_of_line before after old now rows same held =
    record {
      of_entries = entries-room history ts before after rows held.of_entries;
      below = subst (AllByRecursion (λ node. node ≤ (numbers_of history).nodes)) (sym (ap nodes_of (newest_but_room before after rows))) held.below;
      made = ap (λ es. files_among (kinds_of es)) (newest_but_room before after rows) ∙ held.made;
      parts = same-nodes old now same ∙ held.parts;
      files = files-contents history ts old now same held.files;
      lines = held.lines;
      in_files = held.in_files;
      few = held.few;
      marks = held.marks;
    }

take-front : {X : Type 0} (n : ℕ) (xs ys : List X) → n ≡ length xs → take n (xs ++ ys) ≡ xs
take-front n xs ys e = take-append-le n xs ys (omega (arith, e)) ∙ take_all n xs (omega (arith, e))

-- what is staged is cut off again
pub given-up : (history : List Command) (ts : List Triple) (ambition : Formula ℕ) (es : List Sided) (counts : Counts) (commits : List CommitMark) (mark : CommitMark) (ss : List ResolvedEdit) (plan : List Entry) (file_of_line : List ℕ) (entries : Dated) (stored : List FilePart)
    (commits' : List CommitMark) (file_of_line' : List ℕ) (entries' : Dated) (stored' : List FilePart) → AreCountsOf history counts → IsStaged history ts ambition es commits mark ss plan file_of_line entries stored
    → commits' ≡ commits → file_of_line' ≡ take counts.lines file_of_line → entries' ≡ entries → map contents stored' ≡ map contents (take (count_below counts.nodes (map part_node stored)) stored) → AreRowsAndLinesOf history ts commits' file_of_line' entries' stored'
given-up history ts ambition es counts commits mark ss plan file_of_line entries stored commits' file_of_line' entries' stored' are staged ce he xe ee =
    let lines = are.lines in
    let held_lines = staged.held.lines in
    subst (λ cs. AreRowsAndLinesOf history ts cs file_of_line' entries' stored') (sym ce)
    (subst (λ xs. AreRowsAndLinesOf history ts commits xs entries' stored')
    (sym (he ∙ ap (take counts.lines) staged.file_of_line_is ∙ take-front counts.lines staged.old_file_of_line (new_file_of_line (numbers_of history).nodes (unsided es)) (omega (arith, lines, held_lines))))
    (held-contents history ts commits staged.old_file_of_line entries entries' staged.old_stored stored' (ap without_room xe)
    (ee ∙ sym (take-map contents (count_below counts.nodes (map part_node stored)) stored) ∙ ap (take (count_below counts.nodes (map part_node stored))) staged.files
    ∙ take-front (count_below counts.nodes (map part_node stored)) (map contents staged.old_stored) (new_files (numbers_of history).nodes (unsided es)) few)
    staged.held))
  where
    n : ℕ
    n = (numbers_of history).nodes

    low : AllByRecursion (λ node. node < counts.nodes) (map part_node staged.old_stored)
    low =
        let nodes = are.nodes in
        subst (AllByRecursion (λ node. node < counts.nodes)) (sym staged.held.parts)
        (all-map (λ file. (0 < file) × (file ≤ n)) (λ node. node < counts.nodes) (λ file h. let most = h.1 in omega (arith, most, nodes)) (files_of history) (files-rise history).1)

    high : AllByRecursion (λ node. counts.nodes ≤ node) (files_made n (unsided es))
    high =
        let nodes = are.nodes in
        all-map (λ file. (n < file) × (file ≤ n + nodes_made (unsided es))) (λ node. counts.nodes ≤ node) (λ file h. let above = h.0 in omega (arith, above, nodes)) (files_made n (unsided es)) (made-within n (unsided es))

    few : count_below counts.nodes (map part_node stored) ≡ length (map contents staged.old_stored)
    few =
        ap (count_below counts.nodes) (staged-nodes staged.old_stored stored (files_made n (unsided es)) staged.files)
        ∙ count-front counts.nodes (map part_node staged.old_stored) (files_made n (unsided es)) low high
        ∙ length-map staged.old_stored part_node ∙ sym (length-map staged.old_stored contents)

module _ (history : List Command) (base : ℕ) (choice : List Bool) (ambition : Formula ℕ) (es : List Sided) where
  abbrev commit : Command
  commit = commands.Commit base choice ambition es

  numbers-with : numbers_of (history ++ commit ∷ []) ≡ numbers_after (numbers_of history) (unsided es)
  numbers-with = numbers_from-append no_numbers history (commit ∷ [])

  -- the counts with a commit
  pub counts-with : (counts : Counts) → AreCountsWith history (unsided es) counts → AreCountsOf (history ++ commit ∷ []) counts
  counts-with counts with =
      let ns = numbers_of history in
      let grown = length-with_lines ns.addresses (anchors_of (length ns.addresses) (unsided es)) in
      let more = ap (λ (ms : Numbers). length ms.addresses) numbers-with in
      let mark = ap (λ (ms : Numbers). ms.nodes) numbers-with in
      let same = sym (new-files_of_lines-count 0 (length ns.addresses) (unsided es)) ∙ new-files_of_lines-count 0 0 (unsided es) in
      let sum = sum-one command_bytes history commit in
      let lines = with.lines in
      let nodes = with.nodes in
      let bytes = with.bytes in
      record {
        lines = omega (arith, grown, more, same, lines);
        nodes = omega (arith, mark, nodes);
        bytes = omega (arith, sum, bytes);
      }

  options-same : options_of (history ++ commit ∷ []) ≡ options_of history
  options-same = options-append history (commit ∷ []) ∙ append-nil (options_of history)

  -- the state with a commit
  pub state-with : (names : List (List ℕ)) (ts : List Triple) (standing : Standing) (counts new : Counts) → fits_command commit ≡ true → verdict history commit ≡ None → AreCountsWith history (unsided es) new
      → AreDeclarationsOf history names ts standing counts → AreDeclarationsOf (history ++ commit ∷ []) names ts standing new
  state-with names ts standing counts new fits accepted with old = record {
    legal = legal-one [] history commit old.legal fits accepted;
    options = old.options ∙ sym options-same;
    rules =
        let same : option_count (history ++ commit ∷ []) ≡ option_count history = ap length options-same in
        let few = old.rules.below.few in
        rules-same history commit ts standing refl (omega (arith, same)) (omega (arith, same, few)) old.rules;
    most =
        let less : length history < LIMITS.commands = below LIMITS.commands (length history) (none-when _ refusals.Full (refusals_of history commit) accepted).0 in
        let more = length_push history commit in
        omega (arith, less, more);
    counted = counts-with new with;
  }

pub first-nodes : (history : List Command) (counts : Counts) → AreCountsOf history counts → counts.nodes - 1 ≡ (numbers_of history).nodes
first-nodes history counts are = let nodes = are.nodes in omega (arith, nodes)

-- a command for which a commit is ready
module _ (history : List Command) (names : List (List ℕ)) (ts : List Triple) (standing : Standing) (old new : Counts) (ks : ℕ) (commits : List CommitMark) (mark : CommitMark) (ss : List ResolvedEdit) (plan : List Entry) (file_of_line : List ℕ) (entries : Dated) (stored : List FilePart)
    (state : AreDeclarationsOf history names ts standing old) where
  abbrev IsThat : Command → Type 0
  IsThat command = IsCommitReady history ts command ks commits file_of_line entries stored mark new ss plan

  pub ready-rising : (command : Command) (spare : ℕ) → IsNext history command spare → IsThat command → AreRising (map part_node stored)
  ready-rising (commands.Option name) spare next r = absurd r
  ready-rising (commands.Constraint expr) spare next r = absurd r
  ready-rising (commands.Prefer expr) spare next r = absurd r
  ready-rising (commands.Default option on) spare next r = absurd r
  ready-rising (commands.Commit base choice ambition es) spare next r =
      staged-rise history base choice ambition es state.legal r.0 next.accepted ts commits mark ss plan file_of_line entries stored r.1
  ready-rising commands.Upgrade spare next r = absurd r

  pub ready-plans : (command : Command) (spare : ℕ) → IsNext history command spare → IsThat command → CanCarryOutAll mark.position ss stored
  ready-plans (commands.Option name) spare next r = absurd r
  ready-plans (commands.Constraint expr) spare next r = absurd r
  ready-plans (commands.Prefer expr) spare next r = absurd r
  ready-plans (commands.Default option on) spare next r = absurd r
  ready-plans (commands.Commit base choice ambition es) spare next r =
      subst (λ q. CanCarryOutAll q ss stored) (sym r.1.marked.position)
      (staged-plans history base choice ambition es state.legal r.0 next.accepted ts commits mark ss plan file_of_line entries stored r.1)
  ready-plans commands.Upgrade spare next r = absurd r

  pub ready-state : (command : Command) (spare : ℕ) → IsNext history command spare → IsThat command → AreDeclarationsOf (history ++ command ∷ []) names ts standing new
  ready-state (commands.Option name) spare next r = absurd r
  ready-state (commands.Constraint expr) spare next r = absurd r
  ready-state (commands.Prefer expr) spare next r = absurd r
  ready-state (commands.Default option on) spare next r = absurd r
  ready-state (commands.Commit base choice ambition es) spare next r = state-with history base choice ambition es names ts standing old new next.fits next.accepted r.2 state
  ready-state commands.Upgrade spare next r = absurd r

  -- it declares no option
  pub ready-options : (command : Command) → IsThat command → options_of (command ∷ []) ≡ []
  ready-options (commands.Option name) r = absurd r
  ready-options (commands.Constraint expr) r = refl
  ready-options (commands.Prefer expr) r = refl
  ready-options (commands.Default option on) r = refl
  ready-options (commands.Commit base choice ambition es) r = refl
  ready-options commands.Upgrade r = refl

  -- and is no upgrade
  pub ready-raises_none : (command : Command) → IsThat command → is_upgraded (command ∷ []) ≡ false
  ready-raises_none (commands.Option name) r = absurd r
  ready-raises_none (commands.Constraint expr) r = refl
  ready-raises_none (commands.Prefer expr) r = refl
  ready-raises_none (commands.Default option on) r = refl
  ready-raises_none (commands.Commit base choice ambition es) r = refl
  ready-raises_none commands.Upgrade r = absurd r

  pub ready-rows : (command : Command) (spare : ℕ) → IsNext history command spare → IsThat command → (entries.from ≤ mark.position) × HasRowRoom plan entries
  ready-rows (commands.Option name) spare next r = absurd r
  ready-rows (commands.Constraint expr) spare next r = absurd r
  ready-rows (commands.Prefer expr) spare next r = absurd r
  ready-rows (commands.Default option on) spare next r = absurd r
  ready-rows (commands.Commit base choice ambition es) spare next r = (
    subst (λ q. entries.from ≤ q) (sym r.1.marked.position) (row-later history base choice ambition es state.legal r.0 next.accepted ts commits mark ss plan file_of_line entries stored r.1),
    r.1.row_room,
  )
  ready-rows commands.Upgrade spare next r = absurd r

  pub ready-held : (command : Command) (spare : ℕ) (commits' : List CommitMark) (file_of_line' : List ℕ) (entries' : Dated) (stored' : List FilePart) → IsNext history command spare → IsThat command
      → commits' ≡ commits ++ mark ∷ [] → file_of_line' ≡ file_of_line → IsSet mark.position plan entries entries' → AreInstalled mark.position ss stored stored'
      → AreRowsAndLinesOf (history ++ command ∷ []) ts commits' file_of_line' entries' stored'
  ready-held (commands.Option name) spare commits' file_of_line' entries' stored' next r ce he set installed = absurd r
  ready-held (commands.Constraint expr) spare commits' file_of_line' entries' stored' next r ce he set installed = absurd r
  ready-held (commands.Prefer expr) spare commits' file_of_line' entries' stored' next r ce he set installed = absurd r
  ready-held (commands.Default option on) spare commits' file_of_line' entries' stored' next r ce he set installed = absurd r
  ready-held (commands.Commit base choice ambition es) spare commits' file_of_line' entries' stored' next r ce he set installed =
      subst (λ cs. AreRowsAndLinesOf (history ++ commands.Commit base choice ambition es ∷ []) ts cs file_of_line' entries' stored') (sym ce)
      (subst (λ xs. AreRowsAndLinesOf (history ++ commands.Commit base choice ambition es ∷ []) ts (commits ++ mark ∷ []) xs entries' stored') (sym he)
      (held-committed history base choice ambition es state.legal r.0 next.accepted ts commits mark ss plan file_of_line entries stored r.1 entries' stored'
      (subst (λ q. IsSet q plan entries entries') r.1.marked.position set) (subst (λ q. AreInstalled q ss stored stored') r.1.marked.position installed)))
  ready-held commands.Upgrade spare commits' file_of_line' entries' stored' next r ce he set installed = absurd r

  -- given up, it leaves what is held
  pub ready-given-up : (command : Command) (commits' : List CommitMark) (file_of_line' : List ℕ) (entries' : Dated) (stored' : List FilePart) → IsThat command
      → commits' ≡ commits → file_of_line' ≡ take old.lines file_of_line → entries' ≡ entries → map contents stored' ≡ map contents (take (count_below old.nodes (map part_node stored)) stored) → AreRowsAndLinesOf history ts commits' file_of_line' entries' stored'
  ready-given-up (commands.Option name) commits' file_of_line' entries' stored' r ce he xe ee = absurd r
  ready-given-up (commands.Constraint expr) commits' file_of_line' entries' stored' r ce he xe ee = absurd r
  ready-given-up (commands.Prefer expr) commits' file_of_line' entries' stored' r ce he xe ee = absurd r
  ready-given-up (commands.Default option on) commits' file_of_line' entries' stored' r ce he xe ee = absurd r
  ready-given-up (commands.Commit base choice ambition es) commits' file_of_line' entries' stored' r ce he xe ee =
      given-up history ts ambition es old commits mark ss plan file_of_line entries stored commits' file_of_line' entries' stored' state.counted r.1 ce he xe ee
  ready-given-up commands.Upgrade commits' file_of_line' entries' stored' r ce he xe ee = absurd r

-- the node of the constraints is one of each table that goes on, and names only declared options
pub conjunction-stands : {history : List Command} {names : List (List ℕ)} {ts : List Triple} {standing : Standing} {counts : Counts} (new : List Triple) → AreDeclarationsOf history names ts standing counts → Extends ts new
    → Stands new standing.conjunction 0 (option_count history) (is_valid (expressions standing.constraints))
conjunction-stands {history} {names} {ts} {standing} new state grown =
    stands_weaker 0 (option_count history) (is_valid (expressions standing.constraints)) (omega arith) state.rules.below.constraints (λ c. refl) (stands_later grown state.rules.holds.conjunction)

-- the node of the constraints is true on exactly the valid choices, in each table that goes on
pub conjunction-later : {history : List Command} {names : List (List ℕ)} {ts : List Triple} {standing : Standing} {counts : Counts} (new : List Triple) → AreDeclarationsOf history names ts standing counts → Extends ts new
    → (c : List Bool) → value_in new standing.conjunction c ≡ is_valid_in history c
conjunction-later new state grown c =
    grown.value _ state.rules.holds.conjunction.within c ∙ state.rules.holds.conjunction.value c ∙ ap (λ fs. is_valid fs c) state.rules.constraints

-- a history with edits that are within its limits, which have their numbers
module _ (history : List Command) (es : List Sided) (counts : Counts) (ts : List Triple) (commits : List CommitMark) (file_of_line : List ℕ) (entries : Dated) (stored : List FilePart)
    (are : AreCountsOf history counts) (held : AreRowsAndLinesOf history ts commits file_of_line entries stored) (within : IsInBounds history (unsided es))
    (ambition : Formula ℕ) (mark : CommitMark) (ss some : List ResolvedEdit) (plan : List Entry) (planned : IsCommitPlan history ts entries stored ambition es mark ss plan) (e : some ≡ ss) where
  abbrev n : ℕ
  n = (numbers_of history).nodes

  abbrev Taken : ℕ → ℕ → ℕ → ℕ → Type 0
  Taken = IsTaken ts (length history + 1) stored (line_count history) (insert_nodes planned.on (unsided es))

  files-are : made_files some ≡ files_made n (unsided es)
  files-are = ap made_files e ∙ resolved-files Taken n (line_count history) planned.on n (line_count history) (unsided es) ss planned.resolved

  pub held-rising : AreRising (map part_node stored ++ made_files some)
  held-rising =
      subst AreRising
      (files-commit history 0 [] False es ∙ (λ j. sym held.parts j ++ sym files-are j))
      (files-rise (history ++ commands.Commit 0 [] False es ∷ [])).0

  pub held-few : length some ≤ LIMITS.edits
  held-few =
      let few = within.edits in
      let same = ap length e ∙ resolved-length Taken n (line_count history) planned.on n (line_count history) (unsided es) ss planned.resolved in
      omega (arith, few, same)

  pub held-lines : counts.lines ≡ length file_of_line
  held-lines = are.lines ∙ sym held.lines

  -- what is staged of them is ready
  pub is-ready : (spare : ℕ) (new : Counts) (commits' : List CommitMark) (file_of_line' : List ℕ) (entries' : Dated) (stored' : List FilePart)
      → new ≡ record { lines = counts.lines + length (anchors_of 0 (unsided es)); nodes = counts.nodes + nodes_made (unsided es); bytes = counts.bytes + text_bytes (unsided es) }
      → commits' ≡ commits → without_room entries' ≡ without_room entries → file_of_line' ≡ file_of_line ++ files_of_lines some
      → map contents stored' ≡ map contents stored ++ map new_contents (made_files some) → AllByRecursion (HasRoom some) stored' → HasRowRoom plan entries' → 0 < spare
      → IsStaged history ts ambition es commits' mark ss plan file_of_line' entries' stored' × AreCountsWith history (unsided es) new × (0 < spare)
  is-ready spare new commits' file_of_line' entries' stored' ne ce xe he ee room row_room free = (
    record {
      old_file_of_line = file_of_line;
      old_stored = stored;
      held = subst (λ cs. AreRowsAndLinesOf history ts cs file_of_line entries' stored) (sym ce) (held-contents history ts commits file_of_line entries entries' stored stored xe refl held);
      marked = planned.marked;
      file_of_line_is = he
          ∙ ap (λ x. file_of_line ++ files_of_lines x) e
          ∙ ap (λ files. file_of_line ++ files) (resolved-files_of_lines Taken n (line_count history) planned.on n (line_count history) (unsided es) ss planned.resolved);
      files = ee ∙ ap (λ files. map contents stored ++ map new_contents files) files-are;
      room = subst (λ x. AllByRecursion (HasRoom x) stored') e room;
      changes = makes-room ts entries entries' plan _ xe planned.changes;
      nodes =
          ap (λ xs. nodes_of (entries_planned plan xs)) (newest_but_room entries entries' xe)
          ∙ planned.nodes
          ∙ ap (λ xs. nodes_after_all (row_changes ss) (nodes_of xs)) (sym (newest_but_room entries entries' xe));
      kinds =
          ap (λ xs. kinds_of (entries_planned plan xs)) (newest_but_room entries entries' xe)
          ∙ planned.kinds
          ∙ ap (λ xs. kinds_after_all (row_changes ss) (kinds_of xs)) (sym (newest_but_room entries entries' xe));
      row_room = row_room;
      on = planned.on;
      applies = planned.applies;
      resolved = planned.resolved;
    },
    record {
      lines = ap (λ (k : Counts). k.lines) ne ∙ ap (λ n. n + length (anchors_of 0 (unsided es))) are.lines;
      nodes = ap (λ (k : Counts). k.nodes) ne ∙ ap (λ n. n + nodes_made (unsided es)) are.nodes;
      bytes = ap (λ (k : Counts). k.bytes) ne ∙ ap (λ n. n + text_bytes (unsided es)) are.bytes;
    },
    free,
  )

pub held-again : (history : List Command) (ts : List Triple) (commits commits' : List CommitMark) (file_of_line file_of_line' : List ℕ) (entries entries' : Dated) (stored stored' : List FilePart) → AreRowsAndLinesOf history ts commits file_of_line entries stored
    → commits' ≡ commits → file_of_line' ≡ file_of_line → without_room entries' ≡ without_room entries → map contents stored' ≡ map contents stored → AreRowsAndLinesOf history ts commits' file_of_line' entries' stored'
held-again history ts commits commits' file_of_line file_of_line' entries entries' stored stored' held ce he xe ee =
    subst (λ cs. AreRowsAndLinesOf history ts cs file_of_line' entries' stored') (sym ce)
    (subst (λ xs. AreRowsAndLinesOf history ts commits xs entries' stored') (sym he) (held-contents history ts commits file_of_line entries entries' stored stored' xe ee held))

-- the nodes of what is held are of the table
pub held-within : (history : List Command) (ts : List Triple) (q : ℕ) (stored : List FilePart) → length history ≤ q → AllByRecursion (IsFileOf history ts) stored → AllByRecursion (HasNodesIn ts q) stored
held-within history ts q stored le files =
    all-map (IsFileOf history ts) (HasNodesIn ts q)
    (λ e h. record { nodes = dated-nodes ts (option_count history) q (file_dated e.node (kept_of history)) e.lines.lines h.lines; newest = let low = h.newest in omega (arith, low, le) }) stored files

pub on-any : {A E : Type 0} (r : Result A E) (P : Type 0) → P → OnErr r P
on-any (Ok a) P p = tt
on-any (Err e) P p = p

-- counts with the sizes of edits
pub counted : (counts : Counts) (sizes : Sizes) (some es : List Edit) (new : Counts)
    → new ≡ record { lines = counts.lines + sizes.lines; nodes = counts.nodes + sizes.nodes; bytes = counts.bytes + sizes.bytes } → sizes ≡ sizes_of some → some ≡ es
    → new ≡ record { lines = counts.lines + length (anchors_of 0 es); nodes = counts.nodes + nodes_made es; bytes = counts.bytes + text_bytes es }
counted counts sizes some es new is measured same = is ∙ ap (with counts) (measured ∙ ap sizes_of same)
  where
    with : Counts → Sizes → Counts
    with counts s = record { lines = counts.lines + s.lines; nodes = counts.nodes + s.nodes; bytes = counts.bytes + s.bytes }
