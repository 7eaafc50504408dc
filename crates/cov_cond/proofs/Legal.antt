-- The commits of an import after the first are accepted.
use Rattle.std.proofs.Common.{◌≡◌, ℕ, zero, suc, ◌+◌, ◌<◌, ◌≤◌, Bool, true, false, cond, ◌||◌, ◌&&◌, not, nat_eq, nat_le, nat_lt, List, [], ◌∷◌, ◌++◌, length, length-append, map, take, append_assoc, append-nil, Option, Some, None, unwrap_or, if◌then◌else◌, refl, sym, ap, subst, ◌∙◌, arith}
use Rattle.std.specs.List.{fold, filter, find, list_any, list_all, sum_by, AllByRecursion}
use Rattle.std.proofs.lemmas.Bool.{or_right}
use Rattle.std.proofs.lemmas.Bool.Decides.{nat_tests}
use Rattle.std.proofs.lemmas.List.{map-append}
use Rattle.std.proofs.lemmas.List.Elements.{filter-append}
use Rattle.std.proofs.lemmas.List.Folds.{list_any-append}
use Rattle.std.proofs.lemmas.List.Sums.{sum_by-append}
use Rattle.std.proofs.Math.Seq.{take-length}
use Rattle.cov_base.specs.Addresses.{line_of}
use Rattle.cov_base.specs.Choices.{all_choices}
use Rattle.cov_base.specs.Rows.{Row, Created, changed, is_present, has_node}
use Rattle.cov_base.specs.Spelling.{is_line_text, is_name}
use Rattle.cov_base.specs.Limits.{limits_when}
use Rattle.cov_base.specs.declared.limits.Limits.{Limits}
use Rattle.cov_base.specs.declared.limits.TheConstants.{LIMITS}
use Rattle.cov_base.specs.declared.number.Kind.TheVariants as kinds
use Rattle.cov_base.specs.declared.number.NodeRef.{NodeRef}
use Rattle.cov_base.specs.declared.number.NodeRef.TheVariants as nodes
use Rattle.cov_base.specs.declared.number.LineRef.{LineRef}
use Rattle.cov_base.specs.declared.number.LineRef.TheVariants as lines
use Rattle.cov_base.proofs.CallerLemmas.{any-filter, any-map, or_second}
use Rattle.cov_expr.specs.Formula.{Formula, False, True, value, reach}
use Rattle.cov_expr.specs.Validity.{is_valid}
use Rattle.cov_edit.specs.declared.edit.Edit.{Edit}
use Rattle.cov_edit.specs.declared.edit.Edit.TheVariants as edits
use Rattle.cov_edit.specs.declared.sided.Sided.{Sided}
use Rattle.cov_edit.specs.declared.command.Command.{Command}
use Rattle.cov_edit.specs.declared.command.Command.TheVariants as commands
use Rattle.cov_edit.specs.Fits.{fits_expr, fits_command}
use Rattle.cov_edit.specs.History.{options_of, option_count, constraints_of, byte_count}
use Rattle.cov_edit.specs.Limits.{is_upgraded, limits_of}
use Rattle.cov_edit.specs.Numbering.{Numbers, numbers_of, nodes_made, anchors_of, numbered, numbered_edit, numbered_from, line_count, node_count}
use Rattle.cov_edit.specs.Replay.{Change, applying, the_change, applies, first_within, rest_within, changes_within, replay}
use Rattle.cov_edit.specs.Sides.{unsided, reach_within}
use Rattle.cov_edit.specs.Variant.{Line, lines_of}
use Rattle.cov_view.specs.References.{is_head}
use Rattle.cov_view.specs.Refusals.{shows_line}
use Rattle.cov_view.proofs.CallerLemmas.{none-when}
use Rattle.cov_history.specs.FileNodes.{files_of, files_made}
use Rattle.cov_history.specs.Files.{DatedLine, ShownLine, file_dated, as_shown, dated_as_shown, is_dated_seen, dated_shown}
use Rattle.cov_history.specs.Kept.{kept_of}
use Rattle.cov_history.specs.RowChanges.{changes_rows, row_changes}
use Rattle.cov_history.specs.Verdict.{IsLegal, verdict, refusals_of}
use Rattle.cov_history.specs.declared.refusal.Refusal.TheVariants as refusals
use Rattle.cov_history.proofs.CallerLemmas.{among-last, among-more, file-shows, files-commit, legal-one, rows-committed, rows-kept}
use Rattle.cov_cond_text.specs.Conditional.{conjunction}
use Rattle.cov_cond_text.specs.declared.run.Run.{Run}
use Rattle.cov_engine.specs.Meeting.{least_valid}
use Rattle.cov_cond.specs.Importing.{meant_for_all, chained, plain_in, plain_texts, making_edits, making_commit, anchor_at, with_commit, with_run, count_after, run_commits}
use Rattle.cov_cond.proofs.Accepted.{MayInsert, bytes-commit, chained-bytes, chained-fits, chained-nodes, chained-rows, file-no_dir, insert-accepted, nodes-commit, same-constraints, same-options, same-upgrade}
use Rattle.cov_cond.proofs.Chained.{new_lines, anchors-chained, count-commit}
use Rattle.cov_cond.proofs.Chains.{AreNext, last-there}
use Rattle.cov_cond.proofs.Meant.{all_within, fits-all, on_all, unsided-all}
use Rattle.cov_cond.proofs.Imported.{Stands, making-count, stands-runs, all_kept}

-- the texts with conditions, none where there are none
abbrev pub limited_in : List (Formula ℕ) → List (List ℕ) → List (List ℕ)
limited_in [] texts = []
limited_in (e ∷ es) texts = texts

-- the texts of runs with conditions
abbrev pub limited_texts : List Run → List (List ℕ)
limited_texts [] = []
limited_texts (r ∷ rs) = limited_in r.conditions r.texts ++ limited_texts rs

-- a run has texts that lines can have, and a conjunction within its bounds that has only options below a count
pub record IsFitRun (count : ℕ) (r : Run) : Type 0 where
  pub some : 0 < length r.texts
  pub spelt : list_all is_line_text r.texts ≡ true
  pub few : fits_expr (conjunction r.conditions) ≡ true
  pub declared : reach (conjunction r.conditions) ≤ count

-- the first of so many choices on which rules and an expression are true
abbrev least_by : List (Formula ℕ) → ℕ → Formula ℕ → Option (List Bool)
least_by rules count e = find (λ c. is_valid rules c && value e c) (all_choices count)

abbrev pub sizes : List (List ℕ) → ℕ
sizes texts = sum_by length texts

-- inserts change no rows
chained-unchanged : (c : List Bool) (within : List (Formula ℕ)) (ns : Numbers) (t : List (List ℕ)) (node line : ℕ) (file : NodeRef) (after : LineRef) (i : ℕ) (texts : List (List ℕ))
    → row_changes (map the_change (filter (applies c) (changes_within within (numbered_from ns t node line (chained file after i texts))))) ≡ []
chained-unchanged c within ns t node line file after i [] = refl
chained-unchanged c within ns t node line file after i (text ∷ texts) =
    at (value (first_within within) c) (chained-unchanged c (rest_within within) ns t node (line + 1) file (lines.New i) (i + 1) texts)
  where
    first : Change
    first = applying (first_within within) (numbered_edit ns t node line (edits.Insert file after text))

    rest : List Change
    rest = changes_within (rest_within within) (numbered_from ns t node (line + 1) (chained file (lines.New i) (i + 1) texts))

    at : (b : Bool) → row_changes (map the_change (filter (applies c) rest)) ≡ [] → row_changes (map the_change (cond b (first ∷ filter (applies c) rest) (filter (applies c) rest))) ≡ []
    at true h = h
    at false h = h

-- the first commit makes the file on each choice
pub made-rows : (c : List Bool) (history : List Command) (parent : ℕ) (name : List ℕ) (rs : List Run)
    → (replay c (history ++ making_commit history parent name rs ∷ [])).rows ≡ changed (replay c history).rows (Created ((numbers_of history).nodes + 1) kinds.File parent name)
made-rows c history parent name rs =
    rows-committed c history (length history) _ True (meant_for_all making)
    ∙ ap (λ es. fold changed (replay c history).rows (row_changes (map the_change (filter (applies c) (changes_within (all_within True making) (numbered ns es)))))) (unsided-all making)
    ∙ ap (fold changed (changed (replay c history).rows (Created (ns.nodes + 1) kinds.File parent name)))
    (chained-unchanged c (all_within True (chained (nodes.New 0) (lines.Old 0) 0 (plain_texts rs))) ns _ (ns.nodes + 1) (line_count history) (nodes.New 0) (lines.Old 0) 0 (plain_texts rs))
  where
    ns : Numbers
    ns = numbers_of history

    making : List Edit
    making = making_edits parent name rs

-- lines that are seen on every choice are shown first
shown-first : (c : List Bool) (p n q : ℕ) (texts : List (List ℕ)) (rest : List DatedLine) → q ≤ p
    → dated_shown c p (new_lines n q (on_all True) texts ++ rest) ≡ map dated_as_shown (new_lines n q (on_all True) texts) ++ dated_shown c p rest
shown-first c p n q texts rest h =
    ap (map dated_as_shown) (filter-append (is_dated_seen c p) (new_lines n q (on_all True) texts) rest)
    ∙ map-append dated_as_shown (filter (is_dated_seen c p) (new_lines n q (on_all True) texts)) (filter (is_dated_seen c p) rest)
    ∙ ap (λ ds. map dated_as_shown ds ++ dated_shown c p rest) (all n texts)
  where
    test : nat_le q p ≡ true
    test = grind (arith, nat_tests, h)

    seen : (b : Bool) → b ≡ true → value (if b then on_all True else False) c ≡ true
    seen true e = refl
    seen false e = absurd (cc)

    all : (m : ℕ) (ts : List (List ℕ)) → filter (is_dated_seen c p) (new_lines m q (on_all True) ts) ≡ new_lines m q (on_all True) ts
    all m [] = refl
    all m (t ∷ ts) =
        let new : DatedLine = record { line = m + 1; text = t; changes = (q, on_all True) ∷ [] } in
        ap (λ b. cond b (new ∷ filter (is_dated_seen c p) (new_lines (m + 1) q (on_all True) ts)) (filter (is_dated_seen c p) (new_lines (m + 1) q (on_all True) ts))) (seen (nat_le q p) test)
        ∙ ap (λ ds. new ∷ ds) (all (m + 1) ts)

shown_number : ShownLine → ℕ
shown_number l = l.line

shown-next : (n q : ℕ) (texts : List (List ℕ)) → AreNext (λ (l : ShownLine). l.line) n (map dated_as_shown (new_lines n q (on_all True) texts))
shown-next n q [] = tt
shown-next n q (text ∷ texts) = (refl, shown-next (n + 1) q texts)

length-shown : (n q : ℕ) (texts : List (List ℕ)) → length (map dated_as_shown (new_lines n q (on_all True) texts)) ≡ length texts
length-shown n q [] = refl
length-shown n q (text ∷ texts) = ap suc (length-shown (n + 1) q texts)

module _ (history : List Command) (legal : IsLegal history) (parent : ℕ) (name : List ℕ) (whole : List Run) (p : ℕ) (spelt : is_name name ≡ true)
    (all_spelt : list_all is_line_text (plain_texts whole) ≡ true) (sure : verdict history (making_commit history parent name whole) ≡ None) (within_commands : p ≤ LIMITS.commands) where
  abbrev pub before : ℕ
  before = line_count history

  abbrev pub file : ℕ
  file = (numbers_of history).nodes + 1

  abbrev pub q : ℕ
  q = length history + 1

  abbrev pub plain : List (List ℕ)
  plain = plain_texts whole

  abbrev pub making : List Edit
  making = making_edits parent name whole

  abbrev first_choice : List Bool
  first_choice = unwrap_or (least_valid history True) []

  abbrev pub begun : List Command
  begun = history ++ making_commit history parent name whole ∷ []

  -- what is so after the first commit and those of some runs with conditions, which have these texts
  pub record IsReady (now : List Command) (limited : List (List ℕ)) : Type 0 where
    pub legal_now : IsLegal now
    pub rows : (c : List Bool) → (replay c now).rows ≡ (replay c begun).rows
    pub files : has_node file (files_of now) ≡ true
    pub options : options_of now ≡ options_of history
    pub rules : constraints_of now ≡ constraints_of history
    pub upgraded : is_upgraded now ≡ is_upgraded history
    pub nodes_now : (numbers_of now).nodes ≡ file
    pub lines_now : line_count now ≤ before + (length plain + length limited)
    pub bytes_now : byte_count now ≤ byte_count history + (sizes plain + sizes limited)

  made : nodes_made making ≡ 1
  made = let n = chained-nodes (nodes.New 0) (lines.Old 0) 0 plain in omega (arith, n)

  ready-begun : IsReady begun []
  ready-begun = record {
    legal_now = legal-one [] history (making_commit history parent name whole) legal fits sure;
    rows = λ c. refl;
    files = ap (has_node file) (files-commit history (length history) first_choice True (meant_for_all making) ∙ ap (λ es. files_of history ++ files_made (numbers_of history).nodes es) (unsided-all making))
        ∙ among-last file (files_of history) (files_made (numbers_of history).nodes making) (ap (λ b. b || has_node file (files_made file (chained (nodes.New 0) (lines.Old 0) 0 plain))) own);
    options = same-options history (length history) first_choice True (meant_for_all making);
    rules = same-constraints history (length history) first_choice True (meant_for_all making);
    upgraded = same-upgrade history (length history) first_choice True (meant_for_all making);
    nodes_now = let n = nodes-commit history (length history) first_choice True making in let m = made in omega (arith, n, m);
    lines_now = let n = making-count history legal parent name whole p in omega (arith, n);
    bytes_now = let n = bytes-commit history (length history) first_choice True making in let m = chained-bytes (nodes.New 0) (lines.Old 0) 0 plain in omega (arith, n, m);
  }
    where
      own : nat_eq file file ≡ true
      own = grind (arith, nat_tests)

      fits : fits_command (making_commit history parent name whole) ≡ true
      fits = fits-all making (λ j. spelt j && chained-fits (nodes.New 0) (lines.Old 0) 0 plain all_spelt j)

  -- the file is there on every choice
  present : (c : List Bool) → is_present (replay c begun).rows file ≡ true
  present c =
      ap (λ rows. is_present rows file)
      (made-rows c history parent name whole)
      ∙ or_right (nat_eq file 0) (list_any (λ r. nat_eq r.node file) ((replay c history).rows ++ row ∷ []))
      (list_any-append (λ r. nat_eq r.node file) (replay c history).rows (row ∷ []) ∙ or_right (list_any (λ r. nat_eq r.node file) (replay c history).rows) (nat_eq file file || false) (ap (λ b. b || false) own))
    where
      row : Row
      row = record { node = file; kind = kinds.File; parent = parent; name = name }

      own : nat_eq file file ≡ true
      own = grind (arith, nat_tests)

  nodes-few : node_count history + nodes_made making ≤ (limits_of history).nodes
  nodes-few =
      let room = none-when (nat_le LIMITS.commands (length history)) refusals.Full (refusals_of history (making_commit history parent name whole)) sure in
      let at_base = none-when (nat_lt (length history) (length history)) refusals.BadBase _ room.1 in
      let declared : ℕ = option_count (take (length history) history) in
      let options = none-when (not (nat_eq (length first_choice) declared) || nat_lt declared (reach_within True (meant_for_all making))) refusals.BadOption _ at_base.1 in
      let edits_few = none-when (nat_lt LIMITS.edits (length (unsided (meant_for_all making)))) refusals.TooManyEdits _ options.1 in
      let lines_few = none-when (nat_lt (limits_of history).lines (line_count history + length (anchors_of 0 (unsided (meant_for_all making))))) refusals.TooManyLines _ edits_few.1 in
      let few = none-when (nat_lt (limits_of history).nodes (node_count history + nodes_made (unsided (meant_for_all making)))) refusals.TooManyNodes _ lines_few.1 in
      not-above (limits_of history).nodes (node_count history + nodes_made making) (ap (λ es. nat_lt (limits_of history).nodes (node_count history + nodes_made es)) (sym (unsided-all making)) ∙ few.0)
    where
      not-above : (most n : ℕ) → nat_lt most n ≡ false → n ≤ most
      not-above most n h = grind (arith, nat_tests, h)

  -- a line without conditions is shown on every choice
  anchor-shown : (now : List Command) (c : List Bool) (k : ℕ) (first : List (List ℕ)) (rest : List DatedLine) → k ≡ length first → q ≤ length now
      → file_dated file (kept_of now) ≡ new_lines before q (on_all True) first ++ rest → before + length first ≤ line_count now
      → (is_head (lines.Old (anchor_at before k)) || shows_line (numbers_of now) (replay c now) file (lines.Old (anchor_at before k))) ≡ true
  anchor-shown now c k first rest is late stand grown = at k is there
    where
      there : (nat_eq (anchor_at before k) 0 || list_any (λ (l : Line). nat_eq l.file file && nat_eq (line_of l.address) (anchor_at before k)) (replay c now).lines) ≡ true
      there =
          ap (λ b. nat_eq (anchor_at before k) 0 || b)
          (sym (any-filter (λ (l : Line). nat_eq l.file file) (λ (l : Line). nat_eq (line_of l.address) (anchor_at before k)) (replay c now).lines)
          ∙ sym (any-map (λ (l : ShownLine). nat_eq l.line (anchor_at before k)) as_shown (lines_of (replay c now) file))
          ∙ ap (λ h. list_any (λ (l : ShownLine). nat_eq l.line (anchor_at before k)) (map as_shown (lines_of (replay c h) file))) (sym (take-length now))
          ∙ ap (list_any (λ (l : ShownLine). nat_eq l.line (anchor_at before k)))
          (sym (file-shows c (length now) file now) ∙ ap (dated_shown c (length now)) stand ∙ shown-first c (length now) before q first rest late))
          ∙ last-there (λ (l : ShownLine). l.line) before k (map dated_as_shown (new_lines before q (on_all True) first)) (dated_shown c (length now) rest)
          (is ∙ sym (length-shown before q first)) (shown-next before q first)

      at : (j : ℕ) → j ≡ length first → (nat_eq (anchor_at before j) 0 || list_any (λ (l : Line). nat_eq l.file file && nat_eq (line_of l.address) (anchor_at before j)) (replay c now).lines) ≡ true
          → (is_head (lines.Old (anchor_at before j)) || shows_line (numbers_of now) (replay c now) file (lines.Old (anchor_at before j))) ≡ true
      at zero e h = refl
      at (suc j) e h =
          let some : nat_eq (before + suc j) 0 ≡ false = grind (arith, nat_tests) in
          let low : nat_le (before + suc j) (line_count now) ≡ true = grind (arith, nat_tests, e, grown) in
          or_right (is_head (lines.Old (before + suc j))) (shows_line (numbers_of now) (replay c now) file (lines.Old (before + suc j)))
          (ap (λ b. b && list_any (λ (l : Line). nat_eq l.file file && nat_eq (line_of l.address) (before + suc j)) (replay c now).lines) low
          ∙ or_second (nat_eq (before + suc j) 0) _ some h)

  -- a run with conditions that a valid choice meets
  ready-commit : (k : ℕ) (e : Formula ℕ) (choice : List Bool) (texts first limited : List (List ℕ)) (done : List Command) (later : List (List ℕ × Formula ℕ))
      → k ≡ length first → q + length done + 1 ≤ p → least_valid history e ≡ Some choice → fits_expr e ≡ true → reach e ≤ option_count history
      → 0 < length texts → list_all is_line_text texts ≡ true
      → length (texts ++ limited) ≤ LIMITS.edits → before + (length plain + length (texts ++ limited)) ≤ (limits_of history).lines
      → sizes (texts ++ limited) ≤ LIMITS.commit_bytes → byte_count history + (sizes plain + sizes (texts ++ limited)) ≤ LIMITS.bytes
      → Stands history legal parent name whole p done first later → IsReady (begun ++ done) limited
      → IsReady (begun ++ (done ++ commands.Commit (length history + 1 + length done) choice e (meant_for_all (chained (nodes.Old file) (lines.Old (anchor_at before k)) 0 texts)) ∷ [])) (texts ++ limited)
  ready-commit k e choice texts first limited done later is few least fits declared some each edits_few lines_few commit_few bytes_few s r =
      subst (λ h. IsReady h (texts ++ limited)) shape (record {
        legal_now = legal-one [] now (commands.Commit base choice e ss) r.legal_now (λ j. fits j && fits-all es (chained-fits (nodes.Old file) (lines.Old (anchor_at before k)) 0 texts each) j)
            (subst (λ b. verdict now (commands.Commit b choice e ss) ≡ None) at_end (insert-accepted now file (anchor_at before k) e choice texts may));
        rows = λ c. rows-kept c now base choice e ss (ap (list_any changes_rows) (unsided-all es) ∙ chained-rows (nodes.Old file) (lines.Old (anchor_at before k)) 0 texts) ∙ r.rows c;
        files = ap (has_node file) (files-commit now base choice e ss) ∙ among-more file (files_of now) (files_made (numbers_of now).nodes (unsided ss)) r.files;
        options = same-options now base choice e ss ∙ r.options;
        rules = same-constraints now base choice e ss ∙ r.rules;
        upgraded = same-upgrade now base choice e ss ∙ r.upgraded;
        nodes_now =
            let n = nodes-commit now base choice e es in
            let m = chained-nodes (nodes.Old file) (lines.Old (anchor_at before k)) 0 texts in
            let l = r.nodes_now in
            omega (arith, n, m, l);
        lines_now =
            let n = count-commit now base choice e es in
            let m = anchors-chained (line_count now) (nodes.Old file) (lines.Old (anchor_at before k)) 0 texts in
            let l = r.lines_now in
            omega (arith, n, m, l, length-append texts limited);
        bytes_now =
            let n = bytes-commit now base choice e es in
            let m = chained-bytes (nodes.Old file) (lines.Old (anchor_at before k)) 0 texts in
            let l = r.bytes_now in
            omega (arith, n, m, l, sum_by-append length texts limited);
      })
    where
      now : List Command
      now = begun ++ done

      base : ℕ
      base = length history + 1 + length done

      es : List Edit
      es = chained (nodes.Old file) (lines.Old (anchor_at before k)) 0 texts

      ss : List Sided
      ss = meant_for_all es

      shape : now ++ commands.Commit base choice e ss ∷ [] ≡ begun ++ (done ++ commands.Commit base choice e ss ∷ [])
      shape = append_assoc begun done (commands.Commit base choice e ss ∷ [])

      same_limits : limits_of now ≡ limits_of history
      same_limits = ap limits_when r.upgraded

      long : length now ≡ base
      long = omega (arith, length-append begun done, length-append history (making_commit history parent name whole ∷ []))

      at_end : length now ≡ base
      at_end = long

      may : MayInsert now file (anchor_at before k) e choice texts
      may = record {
        legal = r.legal_now;
        known = let n = r.nodes_now in omega (arith, n);
        there = ap (λ rows. is_present rows file) (r.rows choice) ∙ present choice;
        a_file = file-no_dir now choice file (omega arith) r.files;
        anchored = anchor-shown now choice k first s.rest is (omega (arith, long)) s.lines s.grown;
        least = (λ j. least_by (r.rules j) (length (r.options j)) e) ∙ least;
        declared = subst (λ names. reach e ≤ length names) (sym r.options) declared;
        some = some;
        few = omega (arith, edits_few, length-append texts limited);
        lines = subst (λ (limits : Limits). line_count now + length texts ≤ limits.lines) (sym same_limits) (let l = r.lines_now in omega (arith, lines_few, l, length-append texts limited));
        nodes = subst (λ (limits : Limits). node_count now ≤ limits.nodes) (sym same_limits) (let n = nodes-few in let m = made in let l = r.nodes_now in omega (arith, n, m, l));
        commit_bytes = omega (arith, commit_few, sum_by-append length texts limited);
        bytes = let l = r.bytes_now in omega (arith, bytes_few, l, sum_by-append length texts limited);
        commands = omega (arith, few, long, within_commands);
      }

  -- a run that no valid choice meets leaves what is ready
  ready-more : (now : List Command) (texts limited : List (List ℕ)) → IsReady now limited → IsReady now (texts ++ limited)
  ready-more now texts limited r = record {
    legal_now = r.legal_now;
    rows = r.rows;
    files = r.files;
    options = r.options;
    rules = r.rules;
    upgraded = r.upgraded;
    nodes_now = r.nodes_now;
    lines_now = let l = r.lines_now in omega (arith, l, length-append texts limited);
    bytes_now = let l = r.bytes_now in omega (arith, l, sum_by-append length texts limited);
  }

  -- there is room for texts with conditions besides those without
  pub record IsRoom (limited : List (List ℕ)) : Type 0 where
    pub edits_few : length limited ≤ LIMITS.edits
    pub lines_few : before + (length plain + length limited) ≤ (limits_of history).lines
    pub commit_few : sizes limited ≤ LIMITS.commit_bytes
    pub bytes_few : byte_count history + (sizes plain + sizes limited) ≤ LIMITS.bytes

  room-less : (texts limited : List (List ℕ)) → IsRoom (texts ++ limited) → IsRoom limited
  room-less texts limited room = record {
    edits_few = let few = room.edits_few in omega (arith, few, length-append texts limited);
    lines_few = let few = room.lines_few in omega (arith, few, length-append texts limited);
    commit_few = let few = room.commit_few in omega (arith, few, sum_by-append length texts limited);
    bytes_few = let few = room.bytes_few in omega (arith, few, sum_by-append length texts limited);
  }

  -- what is ready after the commits of runs
  abbrev pub AreReady : ℕ → List Run → List (List ℕ) → Type 0
  AreReady k rs first =
      first ++ plain_texts rs ≡ plain → k ≡ length first → q + length (run_commits history k rs) ≤ p → IsRoom (limited_texts rs) → IsReady (begun ++ run_commits history k rs) (limited_texts rs)

  ready-run : (k : ℕ) (conditions : List (Formula ℕ)) (texts first : List (List ℕ)) (rs : List Run) → ((j : ℕ) (others : List (List ℕ)) → AreReady j rs others)
      → 0 < length texts → list_all is_line_text texts ≡ true → fits_expr (conjunction conditions) ≡ true → reach (conjunction conditions) ≤ option_count history
      → first ++ (plain_in conditions texts ++ plain_texts rs) ≡ plain → k ≡ length first
      → q + length (with_run history file (anchor_at before k) conditions texts (run_commits history (count_after k conditions texts) rs)) ≤ p
      → IsRoom (limited_in conditions texts ++ limited_texts rs)
      → IsReady (begun ++ with_run history file (anchor_at before k) conditions texts (run_commits history (count_after k conditions texts) rs)) (limited_in conditions texts ++ limited_texts rs)
  ready-run k [] texts first rs rest some each fits declared all is few room =
      rest (k + length texts) (first ++ texts) (append_assoc first texts (plain_texts rs) ∙ all) (omega (arith, is, length-append first texts)) few room
  ready-run k (e ∷ es) texts first rs rest some each fits declared all is few room = at (least_valid history (conjunction (e ∷ es))) refl few
    where
      done : List Command
      done = run_commits history k rs

      at : (o : Option (List Bool)) → least_valid history (conjunction (e ∷ es)) ≡ o → q + length (with_commit history file (anchor_at before k) (conjunction (e ∷ es)) texts done o) ≤ p
          → IsReady (begun ++ with_commit history file (anchor_at before k) (conjunction (e ∷ es)) texts done o) (texts ++ limited_texts rs)
      at None least low = ready-more (begun ++ done) texts (limited_texts rs) (rest k first all is low (room-less texts (limited_texts rs) room))
      at (Some choice) least low =
          let one = length-append done (commands.Commit (length history + 1 + length done) choice (conjunction (e ∷ es)) (meant_for_all (chained (nodes.Old file) (lines.Old (anchor_at before k)) 0 texts)) ∷ []) in
          ready-commit k (conjunction (e ∷ es)) choice texts first (limited_texts rs) done (all_kept history rs) is (omega (arith, low, one)) least fits declared some each
          room.edits_few room.lines_few room.commit_few room.bytes_few
          (stands-runs history legal parent name whole p rs k first all is (omega (arith, low, one)))
          (rest k first all is (omega (arith, low, one)) (room-less texts (limited_texts rs) room))

  pub ready-runs : (rs : List Run) (k : ℕ) (first : List (List ℕ)) → AllByRecursion (IsFitRun (option_count history)) rs → AreReady k rs first
  ready-runs [] k first fit all is few room = subst (λ h. IsReady h []) (sym (append-nil begun)) ready-begun
  ready-runs (r ∷ rs) k first fit all is few room =
      ready-run k r.conditions r.texts first rs (λ j others. ready-runs rs j others fit.1) fit.0.some fit.0.spelt fit.0.few fit.0.declared all is few room
