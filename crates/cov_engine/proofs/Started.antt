-- What a commit's plans start from: the nodes of the lines that are kept before it.
use Rattle.std.proofs.Common.{◌≡◌, ℕ, ◌+◌, ◌<◌, ◌≤◌, ◌-◌, Bool, true, false, cond, ◌&&◌, ◌||◌, not, nat_eq, nat_lt, List, [], ◌∷◌, length, map, unwrap_or, refl, sym, ap, subst, ◌∙◌, arith}
use Rattle.std.specs.List.{AllByRecursion}
use Rattle.std.proofs.lemmas.Bool.Decides.{nat_tests}
use Rattle.cov_base.proofs.CallerLemmas.{all-map}
use Rattle.cov_dd.specs.declared.triple.Triple.{Triple}
use Rattle.cov_dd.specs.Diagrams.{diagram_size, span, value_in}
use Rattle.cov_dd.specs.Combinations.{joint_span}
use Rattle.cov_dd.proofs.CallerLemmas.{stands_weaker}
use Rattle.cov_expr.specs.Formula.{Formula, value}
use Rattle.cov_edit.specs.declared.sided.Sided.{Sided}
use Rattle.cov_edit.specs.declared.command.Command.{Command}
use Rattle.cov_edit.specs.History.{option_count}
use Rattle.cov_edit.specs.Numbering.{node_number, line_number, numbers_of, line_count}
use Rattle.cov_edit.specs.Sides.{unsided, conditions}
use Rattle.cov_edit.specs.Variant.{Line}
use Rattle.cov_file.specs.Dated.{vis_of}
use Rattle.cov_order.specs.Orders.{has_line, AreLines}
use Rattle.cov_base.specs.Rows.{has_node}
use Rattle.cov_history.specs.FileNodes.{files_of}
use Rattle.cov_visible.specs.Parts.{part_node}
use Rattle.cov_history.specs.Files.{DatedLine, dated_number, dated, file_dated}
use Rattle.cov_engine.specs.Holdings.{IsFileOf}
use Rattle.cov_history.specs.Kept.{Kept, seen_at, kept_number, kept_of, file_kept}
use Rattle.cov_visible.specs.Nodes.{own_node, old_node, IsWithout, IsTaken}
use Rattle.cov_history.specs.Sessions.{IsGood, session_of}
use Rattle.cov_visible.specs.Resolved.{insert_nodes, AreResolved}
use Rattle.cov_engine.specs.Staged.{StandFor}
use Rattle.cov_history.specs.Verdict.{IsLegal}
use Rattle.cov_visible.specs.declared.file_part.FilePart.{FilePart}
use Rattle.cov_visible.specs.declared.resolved_edit.ResolvedEdit.{ResolvedEdit}
use Rattle.cov_engine.proofs.MidCommit.{IsRight, AreRight}
use Rattle.cov_engine.proofs.Committed.{numbers-dated, in-range}
use Rattle.cov_engine.proofs.Conditions.{all-low, own-low}
use Rattle.cov_engine.proofs.Dating.{AreOnce, IsLeftBy, left_by, node-right, node-low}
use Rattle.cov_history.proofs.CallerLemmas.{legal-in_files, lines-held}
use Rattle.cov_visible.proofs.CallerLemmas.{resolved-by}
use Rattle.cov_engine.proofs.FileOfLine.{none-kept}

-- lines with distinct numbers
once-of : (ks : List (Kept Line)) → AreLines (map kept_number ks) → AreOnce (map dated ks)
once-of [] h = tt
once-of (k ∷ ks) h = (ap (has_line (kept_number k)) (numbers-dated ks) ∙ h.1, once-of ks h.2)

module _ (history : List Command) (ts : List Triple) (q line : ℕ) where
  abbrev count : ℕ
  count = option_count history

  abbrev IsSeen : ℕ → DatedLine → Type 0
  IsSeen old d = nat_eq d.line line ≡ true → (c : List Bool) → value_in ts old c ≡ value (seen_at d.changes q) c

  -- the node of a line before the commit has the values of the line
  old-seen : (file : ℕ) (es : List FilePart) → AllByRecursion (IsFileOf history ts) es → has_node file (map part_node es) ≡ true
      → AllByRecursion (IsSeen (old_node q es file line)) (file_dated file (kept_of history))
  old-seen file [] files there = absurd (cc)
  old-seen file (e ∷ es) files there = by (nat_eq e.node file) refl there (λ behind. old-seen file es files.1 behind)
    where
      own : nat_eq e.node file ≡ true → AllByRecursion (IsSeen (unwrap_or (vis_of line q e.lines.lines) 0)) (file_dated file (kept_of history))
      own is =
          let same : e.node ≡ file = grind (arith, nat_tests, is) in
          subst (λ f. AllByRecursion (IsSeen (unwrap_or (vis_of line q e.lines.lines) 0)) (file_dated f (kept_of history))) same
          (node-right ts count q line (file_dated e.node (kept_of history)) e.lines.lines (once-of (file_kept e.node (kept_of history)) (lines-held history e.node)) files.0.lines)

      by : (b : Bool) → nat_eq e.node file ≡ b → (b || has_node file (map part_node es)) ≡ true → (has_node file (map part_node es) ≡ true → AllByRecursion (IsSeen (old_node q es file line)) (file_dated file (kept_of history)))
          → AllByRecursion (IsSeen (cond b (unwrap_or (vis_of line q e.lines.lines) 0) (old_node q es file line))) (file_dated file (kept_of history))
      by true is any rest = own is
      by false is any rest = rest any

  -- it is a node of the table, and names only declared options
  old-low : (file : ℕ) (es : List FilePart) → AllByRecursion (IsFileOf history ts) es → (old_node q es file line < diagram_size ts) × (span ts (old_node q es file line) ≤ count)
  old-low file [] files = node-low ts count q line [] [] tt
  old-low file (e ∷ es) files = by (nat_eq e.node file) (old-low file es files.1)
    where
      by : (b : Bool) → (old_node q es file line < diagram_size ts) × (span ts (old_node q es file line) ≤ count)
          → let r = cond b (unwrap_or (vis_of line q e.lines.lines) 0) (old_node q es file line) in (r < diagram_size ts) × (span ts r ≤ count)
      by true rest = node-low ts count q line (file_dated e.node (kept_of history)) e.lines.lines files.0.lines
      by false rest = rest

-- no kept line has the number of one that isn't made yet
unmade-kept : (history : List Command) (file line : ℕ) → length (numbers_of history).addresses < line → AllByRecursion (λ d. nat_eq d.line line ≡ false) (file_dated file (kept_of history))
unmade-kept history file line above =
    all-map (λ d. (1 ≤ dated_number d) × (dated_number d ≤ length (numbers_of history).addresses)) (λ d. nat_eq d.line line ≡ false)
    (λ d r. let high = r.1 in grind (arith, nat_tests, high, above)) (file_dated file (kept_of history)) (in-range history file)

module _ (history : List Command) (base : ℕ) (choice : List Bool) (ambition : Formula ℕ) (es : List Sided)
    (good : IsGood history (session_of base choice ambition es)) (legal : IsLegal history)
    (ts : List Triple) (on : List ℕ) (applies : StandFor ts (option_count history) (conditions ambition es) on) (stored : List FilePart)
    (parts : map part_node stored ≡ files_of history) (files : AllByRecursion (IsFileOf history ts) stored) where
  abbrev n : ℕ
  n = (numbers_of history).nodes

  abbrev m : ℕ
  m = line_count history

  abbrev q : ℕ
  q = length history + 1

  -- the lines that a node leaves of one that is taken out where another is true
  abbrev AreLeft : ℕ → ℕ → ℕ → ℕ → Type 0
  AreLeft node file line vis = AllByRecursion (IsLeftBy ts (option_count history) node q line vis) (file_dated file (kept_of history))

  -- those of the history are left by the nodes that they had
  old-left : (node file line vis : ℕ) → span ts node ≤ option_count history → IsWithout ts (old_node q stored file line) node vis → AreLeft node file line vis
  old-left node file line vis low h = all (has_node file (map part_node stored)) refl
    where
      old : ℕ
      old = old_node q stored file line

      below : joint_span ts old node ≤ option_count history
      below = let o = (old-low history ts q line file stored files).1 in omega (arith, o, low)

      own : (d : DatedLine) → IsSeen history ts q line old d → IsLeftBy ts (option_count history) node q line vis d
      own d seen is = stands_weaker 0 (option_count history) (left_by ts (option_count history) node q d) (omega arith) below (λ c. ap (λ b. b && not (value_in ts node c)) (seen is c)) h

      missing : has_node file (map part_node stored) ≡ false → has_node file (files_of history) ≡ true → ⊥
      missing none there = let differ : true ≡ false = sym there ∙ ap (has_node file) (sym parts) ∙ none in cc

      all : (b : Bool) → has_node file (map part_node stored) ≡ b → AreLeft node file line vis
      all true there =
          all-map (IsSeen history ts q line old) (IsLeftBy ts (option_count history) node q line vis) own (file_dated file (kept_of history)) (old-seen history ts q line file stored files there)
      all false none =
          subst (λ ks. AllByRecursion (IsLeftBy ts (option_count history) node q line vis) (map dated ks))
          (sym (none-kept (λ f. has_node f (files_of history) ≡ true) file (kept_of history) (legal-in_files history legal) (missing none))) tt

  taken-right : (node file line vis : ℕ) → span ts node ≤ option_count history → IsTaken ts q stored m (insert_nodes on (unsided es)) node file line vis
      → IsRight history base choice ambition es good legal ts on applies (kept_of history) node file line vis
  taken-right node file line vis low h = by (nat_lt m line) refl h
    where
      made : ℕ
      made = own_node (insert_nodes on (unsided es)) (line - m - 1)

      by : (b : Bool) → nat_lt m line ≡ b → IsWithout ts (cond b made (old_node q stored file line)) node vis → IsRight history base choice ambition es good legal ts on applies (kept_of history) node file line vis
      by true is k =
          let above : m < line = grind (arith, nat_tests, is) in
          let below : joint_span ts made node ≤ option_count history =
          let o = (own-low ts (option_count history) (conditions ambition es) on (unsided es) (line - m - 1) applies).1 in omega (arith, o, low) in
          record {
            taken = λ some. all-map (λ d. nat_eq d.line line ≡ false) (IsLeftBy ts (option_count history) node q line vis) (λ d differs same. absurd (cc)) (file_dated file (kept_of history)) (unmade-kept history file line above);
            own = λ some. stands_weaker 0 (option_count history) (λ c. value_in ts made c && not (value_in ts node c)) (omega arith) below (λ c. refl) k;
            within = k.within;
          }
      by false is k =
          let under : line ≤ m = grind (arith, nat_tests, is) in
          record {
            taken = λ some. old-left node file line vis low k;
            own = λ above. absurd (omega (arith, under, above));
            within = k.within;
          }

  -- what edits by numbers take out is right
  pub resolved-right : (ss : List ResolvedEdit) → AreResolved q stored n m on ts (unsided es) ss → AreRight history base choice ambition es good legal ts on applies (kept_of history) on n m (unsided es) ss
  resolved-right ss h =
      resolved-by (IsTaken ts q stored m (insert_nodes on (unsided es))) (IsRight history base choice ambition es good legal ts on applies (kept_of history)) (λ e node. span ts node ≤ option_count history) n m
      (λ node file line vis low k. taken-right node (node_number n file) (line_number m line) vis low k) on n m (unsided es) ss
      (all-low ts (option_count history) (conditions ambition es) on (unsided es) applies) h
