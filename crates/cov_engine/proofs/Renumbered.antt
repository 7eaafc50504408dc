-- A state whose nodes are renumbered keeps its history.
use Rattle.std.proofs.Common.{◌≡◌, ℕ, ◌+◌, ◌<◌, ◌≤◌, Bool, true, false, cond, nat_le, List, [], ◌∷◌, ◌++◌, length, map, take, drop, refl, sym, ap, subst, ◌∙◌, arith, length-append, take-add}
use Rattle.std.specs.List.{AllByRecursion}
use Rattle.std.proofs.lemmas.List.{drop-drop, length-map, map-append}
use Rattle.cov_base.specs.Older.{value_at}
use Rattle.cov_base.proofs.CallerLemmas.{all-append, parted}
use Rattle.cov_dd.specs.declared.triple.Triple.{Triple}
use Rattle.cov_dd.specs.Diagrams.{diagram_size, Stands}
use Rattle.cov_dd.specs.Sweeps.{AreRenumbered, IsRenumbered}
use Rattle.cov_dd.proofs.CallerLemmas.{stands_renumbered, stands_weaker}
use Rattle.cov_edit.specs.Recorded.{Recorded}
use Rattle.cov_edit.specs.History.{option_count}
use Rattle.cov_edit.specs.Numbering.{numbers_of}
use Rattle.cov_edit.specs.declared.command.Command.{Command}
use Rattle.cov_expr.specs.Formula.{value}
use Rattle.cov_expr.specs.Options.{Declared}
use Rattle.cov_file.specs.Dated.{DatedLine as FileLine}
use Rattle.cov_file.specs.Renumbered.{renumbered_changes, renumbered_line}
use Rattle.cov_file.proofs.CallerLemmas.{each_renumbered}
use Rattle.cov_history.specs.FileOfLine.{AreFilesOfLines}
use Rattle.cov_history.specs.Files.{DatedLine, file_dated}
use Rattle.cov_history.specs.Kept.{kept_of, seen_at}
use Rattle.cov_rules.specs.Installing.{AllStand}
use Rattle.cov_rules.specs.Renumbered.{node_of, nodes_of as rule_nodes}
use Rattle.cov_rules.specs.declared.rules.Installed.{Installed}
use Rattle.cov_rules.proofs.CallerLemmas.{below_renumbered, same_at, same_constraints, same_defaults, same_preferences}
use Rattle.cov_tree.specs.Dated.{Dated}
use Rattle.cov_tree.specs.Renumbered.{visibilities, AreNodes, HasRowsOf}
use Rattle.cov_tree.proofs.CallerLemmas.{all_left, all_right, same_kinds, same_nodes}
use Rattle.cov_visible.specs.Nodes.{AreDated}
use Rattle.cov_visible.specs.Parts.{files_among, part_node}
use Rattle.cov_visible.specs.Renumbered.{kept_nodes, line_nodes, ArePartsRenumbered, IsRenumberedPart}
use Rattle.cov_visible.specs.declared.file_part.FilePart.{FilePart}
use Rattle.cov_engine.specs.Holdings.{AreEntriesOf, AreRowsAndLinesOf, IsFileOf}
use Rattle.cov_overtaking.specs.Marks.{AreMarks, all_mark_nodes, without_nodes as without_mark_nodes}
use Rattle.cov_engine.specs.Ruling.{AreRulesOf}
use Rattle.cov_engine.specs.States.{history_of, nodes_of, table_of, AreDeclarationsOf, Declares, IsKept, Keeps}
use Rattle.cov_engine.specs.Sweeping.{IsRenumberedState}
use Rattle.cov_engine.specs.declared.counts.Counts.{Counts}
use Rattle.cov_engine.specs.declared.state.EngineState.{EngineState}
use Rattle.cov_engine.proofs.Dating.{false-stands}
use Rattle.cov_overtaking.proofs.CallerLemmas.{marks-renumbered, marks-within}
use Rattle.cov_engine.proofs.Keeping.{with_table}

module _ (ts us : List Triple) where
  -- nodes that are renumbered, in two parts of as many
  pub renumbered-parts : (xs ys xs' ys' : List ℕ) → length xs' ≡ length xs → AreRenumbered ts us (xs ++ ys) (xs' ++ ys') → AreRenumbered ts us xs xs' × AreRenumbered ts us ys ys'
  renumbered-parts xs ys xs' ys' long r =
      let split = parted xs' ys' (map r.by xs) (map r.by ys) (long ∙ sym (length-map xs r.by)) (r.is ∙ map-append r.by xs ys) in (
        record { by = r.by; is = split.0; each = all_left (λ a. IsRenumbered ts us a (r.by a)) xs ys r.each },
        record { by = r.by; is = split.1; each = all_right (λ a. IsRenumbered ts us a (r.by a)) xs ys r.each },
      )

  -- the nodes that they are then are of the new table
  mapped-within : (by : ℕ → ℕ) (ns : List ℕ) → AllByRecursion (λ a. IsRenumbered ts us a (by a)) ns → AreNodes us (map by ns)
  mapped-within by [] h = tt
  mapped-within by (n ∷ ns) h = (h.0.within, mapped-within by ns h.1)

  pub renumbered-within : (ns ns' : List ℕ) → AreRenumbered ts us ns ns' → AreNodes us ns'
  renumbered-within ns ns' r = subst (AreNodes us) (sym r.is) (mapped-within r.by ns r.each)

  module _ (count : ℕ) where
    -- the visibilities of a line
    module _ (by : ℕ → ℕ) (p : ℕ) (f : List Bool → Bool) where
      vis-renumbered : (cs : List (ℕ × ℕ)) → AllByRecursion (λ c. IsRenumbered ts us c.1 (by c.1)) cs → Stands ts (value_at 0 cs p) 0 count f → Stands us (value_at 0 (renumbered_changes by cs) p) 0 count f
      vis-renumbered [] each s = stands_weaker 0 count f (omega arith) (omega arith) (λ c. sym ((false-stands ts count).value c) ∙ s.value c) (false-stands us count)
      vis-renumbered (c ∷ cs) each s = at (nat_le c.0 p) (vis-renumbered cs each.1) s
        where
          at : (b : Bool) → (Stands ts (value_at 0 cs p) 0 count f → Stands us (value_at 0 (renumbered_changes by cs) p) 0 count f)
              → Stands ts (cond b c.1 (value_at 0 cs p)) 0 count f → Stands us (cond b (by c.1) (value_at 0 (renumbered_changes by cs) p)) 0 count f
          at true rest s = stands_renumbered each.0 s
          at false rest s = rest s

    dated-renumbered : (by : ℕ → ℕ) (ds : List DatedLine) (ls : List FileLine) → AllByRecursion (λ l. AllByRecursion (λ c. IsRenumbered ts us c.1 (by c.1)) l.changes) ls
        → AreDated ts count ds ls → AreDated us count ds (map (renumbered_line by) ls)
    dated-renumbered by [] [] each h = tt
    dated-renumbered by [] (l ∷ ls) each h = absurd h
    dated-renumbered by (d ∷ ds) [] each h = absurd h
    dated-renumbered by (d ∷ ds) (l ∷ ls) each h = (
      record { line = h.0.line; text = h.0.text; nodes = λ p. vis-renumbered by p (value (seen_at d.changes p)) l.changes each.0 (h.0.nodes p) },
      dated-renumbered by ds ls each.1 h.1,
    )

  -- the files
  module _ (history : List Command) where
    file-renumbered : (e f : FilePart) → IsRenumberedPart e f → AreRenumbered ts us (kept_nodes e) (kept_nodes f) → IsFileOf history ts e → IsFileOf history us f
    file-renumbered e f part r h = record {
      lines = subst (λ (q : ℕ × List FileLine). AreDated us (option_count history) (file_dated q.0 (kept_of history)) q.1) (λ j. (sym part.node j, sym (part.lines r.by r.is) j))
          (dated-renumbered (option_count history) r.by (file_dated e.node (kept_of history)) e.lines.lines (each_renumbered ts us e.lines f.lines r part.all) h.lines);
      newest = let same = part.newest in let low = h.newest in omega (arith, same, low);
      nodes = renumbered-within (kept_nodes e) (kept_nodes f) r;
    }

    files-renumbered : (es fs : List FilePart) → ArePartsRenumbered es fs → AreRenumbered ts us (line_nodes es) (line_nodes fs) → AllByRecursion (IsFileOf history ts) es → AllByRecursion (IsFileOf history us) fs
    files-renumbered [] [] z r h = tt
    files-renumbered [] (f ∷ fs) z r h = absurd z
    files-renumbered (e ∷ es) [] z r h = absurd z
    files-renumbered (e ∷ es) (f ∷ fs) z r h =
        let parts = renumbered-parts (kept_nodes e) (line_nodes es) (kept_nodes f) (line_nodes fs) z.0.count r in
        (file-renumbered e f z.0 parts.0 h.0, files-renumbered es fs z.1 parts.1 h.1)

parts-nodes : (es fs : List FilePart) → ArePartsRenumbered es fs → map part_node fs ≡ map part_node es
parts-nodes [] [] z = refl
parts-nodes [] (f ∷ fs) z = absurd z
parts-nodes (e ∷ es) [] z = absurd z
parts-nodes (e ∷ es) (f ∷ fs) z = λ j. z.0.node j ∷ parts-nodes es fs z.1 j

parts-count : (es fs : List FilePart) → ArePartsRenumbered es fs → length (line_nodes fs) ≡ length (line_nodes es)
parts-count [] [] z = refl
parts-count [] (f ∷ fs) z = absurd z
parts-count (e ∷ es) [] z = absurd z
parts-count (e ∷ es) (f ∷ fs) z =
    let rest = parts-count es fs z.1 in
    let own = z.0.count in
    let new = length-append (kept_nodes f) (line_nodes fs) in
    let old = length-append (kept_nodes e) (line_nodes es) in
    omega (arith, rest, own, new, old)

-- a state that has other nodes under which all has the options and values of before
module _ (s t : EngineState) (us : List Triple) (same : IsRenumberedState (with_table s us) t) (r : AreRenumbered (table_of s) us (nodes_of s) (nodes_of t)) where
  abbrev ts : List Triple
  ts = table_of s

  of_rules : AreRenumbered ts us (rule_nodes s.rules.standing) (rule_nodes t.rules.standing)
      × AreRenumbered ts us (visibilities s.visible.entries ++ (line_nodes s.visible.files ++ all_mark_nodes s.index.commits.items)) (visibilities t.visible.entries ++ (line_nodes t.visible.files ++ all_mark_nodes t.index.commits.items))
  of_rules =
      renumbered-parts ts us (rule_nodes s.rules.standing) (visibilities s.visible.entries ++ (line_nodes s.visible.files ++ all_mark_nodes s.index.commits.items))
      (rule_nodes t.rules.standing) (visibilities t.visible.entries ++ (line_nodes t.visible.files ++ all_mark_nodes t.index.commits.items)) same.rule_count r

  of_entries : AreRenumbered ts us (visibilities s.visible.entries) (visibilities t.visible.entries)
      × AreRenumbered ts us (line_nodes s.visible.files ++ all_mark_nodes s.index.commits.items) (line_nodes t.visible.files ++ all_mark_nodes t.index.commits.items)
  of_entries =
      renumbered-parts ts us (visibilities s.visible.entries) (line_nodes s.visible.files ++ all_mark_nodes s.index.commits.items)
      (visibilities t.visible.entries) (line_nodes t.visible.files ++ all_mark_nodes t.index.commits.items) same.entry_count of_rules.1

  of_files : AreRenumbered ts us (line_nodes s.visible.files) (line_nodes t.visible.files) × AreRenumbered ts us (all_mark_nodes s.index.commits.items) (all_mark_nodes t.index.commits.items)
  of_files =
      renumbered-parts ts us (line_nodes s.visible.files) (all_mark_nodes s.index.commits.items) (line_nodes t.visible.files) (all_mark_nodes t.index.commits.items)
      (parts-count s.visible.files t.visible.files same.files) of_entries.1

  rows_are : HasRowsOf ts us s.visible.entries t.visible.entries
  rows_are = same.rows ts us of_entries.0

  rules-kept : (history : List Command) → AreRulesOf history ts s.rules.standing → AreRulesOf history us t.rules.standing
  rules-kept history h = record {
    constraints = same_constraints s.rules.standing t.rules.standing same.rules ∙ h.constraints;
    preferences = same_preferences s.rules.standing t.rules.standing same.rules ∙ h.preferences;
    defaults = same_defaults s.rules.standing t.rules.standing same.rules ∙ h.defaults;
    at = λ p. same_at s.rules.standing t.rules.standing same.rules p ∙ h.at p;
    holds = same.holds ts us of_rules.0 h.holds;
    below = below_renumbered s.rules.standing t.rules.standing same.rules (option_count history) h.below;
  }

  entries-kept : (history : List Command) → AreEntriesOf history ts s.visible.entries → AreEntriesOf history us t.visible.entries
  entries-kept history h = record {
    rows = λ c p. rows_are.rows c p ∙ h.rows c p;
    within = rows_are.within;
    kept = renumbered-within ts us (visibilities s.visible.entries) (visibilities t.visible.entries) of_entries.0;
    from = let is : t.visible.entries.from ≡ s.visible.entries.from = ap (λ (d : Dated). d.from) same.entries in let low = h.from in omega (arith, is, low);
  }

  commits-kept : (history : List Command) → AreMarks ts (option_count history) 0 history s.index.commits.items → AreMarks us (option_count history) 0 history t.index.commits.items
  commits-kept history h = marks-renumbered ts us (option_count history) 0 history s.index.commits.items t.index.commits.items same.commits of_files.1 h

  marks-count : length t.index.commits.items ≡ length s.index.commits.items
  marks-count = sym (length-map t.index.commits.items without_mark_nodes) ∙ ap length same.commits ∙ length-map s.index.commits.items without_mark_nodes

  contents-kept : (history : List Command) → AreRowsAndLinesOf history ts s.index.commits.items s.index.file_of_line.items s.visible.entries s.visible.files
      → AreRowsAndLinesOf history us t.index.commits.items t.index.file_of_line.items t.visible.entries t.visible.files
  contents-kept history h = record {
    of_entries = entries-kept history h.of_entries;
    below = subst (AllByRecursion (λ node. node ≤ (numbers_of history).nodes)) (sym (same_nodes s.visible.entries t.visible.entries same.entries)) h.below;
    made = ap files_among (same_kinds s.visible.entries t.visible.entries same.entries) ∙ h.made;
    parts = parts-nodes s.visible.files t.visible.files same.files ∙ h.parts;
    files = files-renumbered ts us history s.visible.files t.visible.files same.files of_files.0 h.files;
    lines = ap length same.file_of_line ∙ h.lines;
    in_files = subst (AreFilesOfLines (kept_of history) 0) (sym same.file_of_line) h.in_files;
    few = let is = marks-count in let low = h.few in omega (arith, is, low);
    marks = commits-kept history h.marks;
  }

  declared-kept : (history : List Command) → Declares history s → Declares history t
  declared-kept history h =
      let base : AreDeclarationsOf history s.options.names us t.rules.standing s.counts =
      record { legal = h.0.legal; options = h.0.options; rules = rules-kept history h.0.rules; most = h.0.most; counted = h.0.counted } in (
        subst (λ (q : List (List ℕ) × List Triple × Counts). AreDeclarationsOf history q.0 q.1 t.rules.standing q.2)
            (λ j. (sym (ap (λ (d : Declared). d.names) same.options) j, sym same.table j, sym same.counts j)) base,
        same.positions ∙ h.1,
        same.upgraded ∙ h.2,
      )

  pub state-renumbered : IsKept s → IsKept t
  state-renumbered h =
      subst (λ history. Keeps history t) (sym (ap (λ (c : Recorded). c.commands) same.commands))
      (declared-kept (history_of s) h.0, subst (λ ws. AreRowsAndLinesOf (history_of s) ws t.index.commits.items t.index.file_of_line.items t.visible.entries t.visible.files) (sym same.table) (contents-kept (history_of s) h.1))

-- every node that a state keeps is one of its table
module _ (ts : List Triple) where
  rules-within : (rs : List Installed) → AllStand ts rs → AreNodes ts (map node_of rs)
  rules-within [] h = tt
  rules-within (r ∷ rs) h = (h.0.within, rules-within rs h.1)

  joined : (xs ys : List ℕ) → AreNodes ts xs → AreNodes ts ys → AreNodes ts (xs ++ ys)
  joined xs ys h k = all-append (λ n. n < diagram_size ts) xs ys h k

  files-within : (history : List Command) (es : List FilePart) → AllByRecursion (IsFileOf history ts) es → AreNodes ts (line_nodes es)
  files-within history [] h = tt
  files-within history (e ∷ es) h = joined (kept_nodes e) (line_nodes es) h.0.nodes (files-within history es h.1)

pub nodes-within : (s : EngineState) → IsKept s → AreNodes (table_of s) (nodes_of s)
nodes-within s h =
    let ts = table_of s in
    let history = history_of s in
    let rules = h.0.0.rules.holds in
    joined ts (rule_nodes s.rules.standing) (visibilities s.visible.entries ++ (line_nodes s.visible.files ++ all_mark_nodes s.index.commits.items))
    (joined ts (map node_of s.rules.standing.constraints) (map node_of s.rules.standing.preferences ++ s.rules.standing.conjunction ∷ []) (rules-within ts s.rules.standing.constraints rules.constraints)
    (joined ts (map node_of s.rules.standing.preferences) (s.rules.standing.conjunction ∷ []) (rules-within ts s.rules.standing.preferences rules.preferences) (rules.conjunction.within, tt)))
    (joined ts (visibilities s.visible.entries) (line_nodes s.visible.files ++ all_mark_nodes s.index.commits.items) h.1.of_entries.kept
    (joined ts (line_nodes s.visible.files) (all_mark_nodes s.index.commits.items) (files-within ts history s.visible.files h.1.files) (marks-within ts (option_count history) 0 history s.index.commits.items h.1.marks)))

-- four lists of numbers, each behind the one before
pub taken-four : (xs : List ℕ) (a b c d : ℕ) → take a xs ++ (take b (drop a xs) ++ (take c (drop (a + b) xs) ++ take d (drop (a + b + c) xs))) ≡ take (a + (b + (c + d))) xs
taken-four xs a b c d =
    ap (λ l. take a xs ++ (take b (drop a xs) ++ l))
    ((λ j. take c (drop (a + b) xs) ++ take d (sym (drop-drop c (a + b) xs) j)) ∙ sym (take-add c d (drop (a + b) xs)))
    ∙ ap (λ l. take a xs ++ l) ((λ j. take b (drop a xs) ++ take (c + d) (sym (drop-drop b a xs) j)) ∙ sym (take-add b (c + d) (drop a xs)))
    ∙ sym (take-add a (b + (c + d)) xs)

-- how many nodes a state keeps
pub nodes-count : (s : EngineState) → length (nodes_of s)
    ≡ length (rule_nodes s.rules.standing) + (length (visibilities s.visible.entries) + (length (line_nodes s.visible.files) + length (all_mark_nodes s.index.commits.items)))
nodes-count s =
    length-append (rule_nodes s.rules.standing) (visibilities s.visible.entries ++ (line_nodes s.visible.files ++ all_mark_nodes s.index.commits.items))
    ∙ ap (λ n. length (rule_nodes s.rules.standing) + n)
    (length-append (visibilities s.visible.entries) (line_nodes s.visible.files ++ all_mark_nodes s.index.commits.items)
    ∙ ap (λ n. length (visibilities s.visible.entries) + n)
    (length-append (line_nodes s.visible.files) (all_mark_nodes s.index.commits.items)))
