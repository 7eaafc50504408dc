-- What is kept of rows and lines, and the views of it.
use Rattle.std.proofs.Common.{◌≡◌, refl, ap, sym, subst, ◌∙◌, ℕ, zero, suc, ◌<◌, ◌≤◌, Bool, true, false, nat_le, List, [], ◌∷◌, ◌++◌, length, map, take, append-nil, arith}
use Rattle.std.proofs.lemmas.List.{length_push, take-append-le, take_all}
use Rattle.std.proofs.lemmas.Bool.Decides.{nat_tests}
use Rattle.std.specs.List.{fold, AllByRecursion}
use Rattle.cov_base.proofs.CallerLemmas.{all-map}
use Rattle.cov_dd.specs.declared.triple.Triple.{Triple}
use Rattle.cov_dd.specs.Diagrams.{diagram_size, Extends}
use Rattle.cov_expr.specs.Formula.{value}
use Rattle.cov_file.specs.Dated.{DatedLine as FileLine, vis_at}
use Rattle.cov_edit.specs.declared.command.Command.{Command}
use Rattle.cov_edit.specs.declared.command.Command.TheVariants as commands
use Rattle.cov_edit.specs.History.{option_count}
use Rattle.cov_edit.specs.Numbering.{Numbers, numbers_of}
use Rattle.cov_edit.specs.Variant.{Variant}
use Rattle.cov_edit.specs.Replay.{replay}
use Rattle.cov_view.specs.Views.{row_by_number}
use Rattle.cov_overtaking.specs.declared.mark.CommitMark.{CommitMark}
use Rattle.cov_visible.specs.declared.file_part.FilePart.{FilePart}
use Rattle.cov_history.specs.Kept.{seen_at, Holding, held_by, kept_of}
use Rattle.cov_history.specs.Files.{DatedLine, file_dated}
use Rattle.cov_history.specs.FileOfLine.{AreFilesOfLines}
use Rattle.cov_visible.specs.Nodes.{AreDated}
use Rattle.cov_visible.specs.Showing.{with_node}
use Rattle.cov_history.specs.FileNodes.{files_from, files_of}
use Rattle.cov_visible.specs.Parts.{files_among}
use Rattle.cov_engine.specs.Holdings.{IsFileOf, AreEntriesOf, AreRowsAndLinesOf}
use Rattle.cov_tree.specs.Carried.{AreNodesAt}
use Rattle.cov_tree.specs.Dated.{Dated, rows_at as entry_rows, nodes_in, kinds_in}
use Rattle.cov_tree.specs.Renumbered.{visibilities, AreNodes}
use Rattle.cov_tree.proofs.CallerLemmas.{nodes_stay, rows_stay}
use Rattle.cov_history.specs.Sessions.{has_commit}
use Rattle.cov_overtaking.proofs.CallerLemmas.{marks-grown, marks-declared}
use Rattle.cov_engine.proofs.Nodes.{stands-on}
use Rattle.cov_edit.proofs.CallerLemmas.{replay-append}
use Rattle.cov_history.proofs.CallerLemmas.{files-append, holding-goes_on, options-grow}
use Rattle.cov_engine.proofs.States.{numbers-kept}
use Rattle.cov_visible.proofs.CallerLemmas.{nodes-rows}

-- the rows that are shown are those of the replay
pub view-rows : (ns : Numbers) (ts : List Triple) (c : List Bool) (at : ℕ) (history : List Command) (entries : Dated) (stored : List FilePart) → AreEntriesOf history ts entries
    → map (row_by_number ns) (fold (with_node ts c at stored) [] (entry_rows ts c at entries)) ≡ (replay c (take at history)).rows
view-rows ns ts c at history entries stored of_entries = nodes-rows ns ts c at stored [] (entry_rows ts c at entries) ∙ of_entries.rows c at

pub more-options : (at : ℕ) (history later : List Command) → option_count (take at history) ≤ option_count (take at (history ++ later))
more-options zero history later = omega arith
more-options (suc n) [] later = omega arith
more-options (suc n) (commands.Option name ∷ history) later =
    let ih : option_count (take n history) ≤ option_count (take n (history ++ later)) = more-options n history later in
    let left : option_count (take (suc n) (commands.Option name ∷ history)) ≡ suc (option_count (take n history)) = refl in
    let right : option_count (take (suc n) ((commands.Option name ∷ history) ++ later)) ≡ suc (option_count (take n (history ++ later))) = refl in
    omega (arith, ih, left, right)
more-options (suc n) (commands.Constraint expr ∷ history) later = more-options n history later
more-options (suc n) (commands.Prefer expr ∷ history) later = more-options n history later
more-options (suc n) (commands.Default option on ∷ history) later = more-options n history later
more-options (suc n) (commands.Commit base choice ambition es ∷ history) later = more-options n history later
more-options (suc n) (commands.Upgrade ∷ history) later = more-options n history later

held-same : (history : List Command) (k : Command) → has_commit (k ∷ []) ≡ false → held_by (history ++ k ∷ []) ≡ held_by history
held-same history (commands.Option name) h = holding-goes_on history (commands.Option name ∷ [])
held-same history (commands.Constraint expr) h = holding-goes_on history (commands.Constraint expr ∷ [])
held-same history (commands.Prefer expr) h = holding-goes_on history (commands.Prefer expr ∷ [])
held-same history (commands.Default option on) h = holding-goes_on history (commands.Default option on ∷ [])
held-same history (commands.Commit base choice ambition es) h = absurd (cc)
held-same history commands.Upgrade h = holding-goes_on history (commands.Upgrade ∷ [])

-- so do the lines of a file
pub dated-on : (old new : List Triple) (count more : ℕ) (ds : List DatedLine) (ls : List FileLine) → Extends old new → count ≤ more → AreDated old count ds ls → AreDated new more ds ls
dated-on old new count more [] [] grown few h = tt
dated-on old new count more [] (l ∷ ls) grown few h = absurd h
dated-on old new count more (d ∷ ds) [] grown few h = absurd h
dated-on old new count more (d ∷ ds) (l ∷ ls) grown few h = (
  record {
    line = h.0.line;
    text = h.0.text;
    nodes = λ p. stands-on old new (vis_at l.changes p) count more (value (seen_at d.changes p)) grown few (h.0.nodes p);
  },
  dated-on old new count more ds ls grown few h.1,
)

pub itself : (ts : List Triple) → Extends ts ts
itself ts = record { more = []; is = refl; count = omega arith; least = λ a within. refl; most = λ a within. refl; value = λ a within c. refl }

-- nodes of a table are nodes of one that has more entries
pub nodes-grown : (old new : List Triple) → Extends old new → (ns : List ℕ) → AreNodes old ns → AreNodes new ns
nodes-grown old new grown ns h = all-map (λ n. n < diagram_size old) (λ n. n < diagram_size new) (λ n low. let more = grown.count in omega (arith, low, more)) ns h

-- the entries are so with a table that has more entries
pub entries-grown : (history : List Command) (old new : List Triple) (entries : Dated) → AreEntriesOf history old entries → Extends old new → AreEntriesOf history new entries
entries-grown history old new entries held grown = record {
  rows = λ c p. rows_stay.at old new entries grown held.within c p ∙ held.rows c p;
  within = nodes_stay.at old new entries grown held.within;
  kept = nodes-grown old new grown (visibilities entries) held.kept;
  from = held.from;
}

-- what is held is so with a table that has more entries
pub held-grown : (history : List Command) (old new : List Triple) (commits : List CommitMark) (file_of_line : List ℕ) (entries : Dated) (stored : List FilePart) → AreRowsAndLinesOf history old commits file_of_line entries stored → Extends old new
    → AreRowsAndLinesOf history new commits file_of_line entries stored
held-grown history old new commits file_of_line entries stored held grown = record {
  of_entries = entries-grown history old new entries held.of_entries grown;
  below = held.below;
  made = held.made;
  parts = held.parts;
  files = all-map (IsFileOf history old) (IsFileOf history new)
      (λ e h. record {
        lines = dated-on old new (option_count history) (option_count history) (file_dated e.node (kept_of history)) e.lines.lines grown (omega arith) h.lines;
        newest = h.newest;
        nodes = nodes-grown old new grown e.lines.nodes h.nodes;
      })
      stored held.files;
  lines = held.lines;
  in_files = held.in_files;
  few = held.few;
  marks = marks-grown old new (option_count history) (option_count history) grown (omega arith) 0 history commits held.marks;
}

replay-same : (c : List Bool) (history : List Command) (k : Command) → has_commit (k ∷ []) ≡ false → replay c (history ++ k ∷ []) ≡ replay c history
replay-same c history (commands.Option name) h = replay-append c history (commands.Option name ∷ [])
replay-same c history (commands.Constraint expr) h = replay-append c history (commands.Constraint expr ∷ [])
replay-same c history (commands.Prefer expr) h = replay-append c history (commands.Prefer expr ∷ [])
replay-same c history (commands.Default option on) h = replay-append c history (commands.Default option on ∷ [])
replay-same c history (commands.Commit base choice ambition es) h = absurd (cc)
replay-same c history commands.Upgrade h = replay-append c history (commands.Upgrade ∷ [])

-- up to the length of a history, and beyond it
pub take-before : (p : ℕ) (history : List Command) (k : Command) → p ≤ length history → take p (history ++ k ∷ []) ≡ take p history
take-before p history k h = take-append-le p history (k ∷ []) h

pub take-beyond : (p : ℕ) (history : List Command) → length history ≤ p → take p history ≡ history
take-beyond p history h = take_all p history h

rows-declared : (c : List Bool) (p : ℕ) (history : List Command) (k : Command) → has_commit (k ∷ []) ≡ false → replay c (take p (history ++ k ∷ [])) ≡ replay c (take p history)
rows-declared c p history k h = by (nat_le p (length history)) refl
  where
    by : (b : Bool) → nat_le p (length history) ≡ b → replay c (take p (history ++ k ∷ [])) ≡ replay c (take p history)
    by true e = ap (replay c) (take-before p history k (grind (arith, nat_tests, e)))
    by false e =
        let above : length history < p = grind (arith, nat_tests, e) in
        let one = length_push history k in
        ap (replay c) (take-beyond p (history ++ k ∷ []) (omega (arith, above, one))) ∙ replay-same c history k h ∙ ap (replay c) (sym (take-beyond p history (omega (arith, above))))

files-same : (history : List Command) (k : Command) → has_commit (k ∷ []) ≡ false → files_of (history ++ k ∷ []) ≡ files_of history
files-same history k h = files-append history (k ∷ []) ∙ ap (λ files. files_of history ++ files) (none k h) ∙ append-nil (files_of history)
  where
    none : (k : Command) → has_commit (k ∷ []) ≡ false → files_from (numbers_of history).nodes (k ∷ []) ≡ []
    none (commands.Option name) h = refl
    none (commands.Constraint expr) h = refl
    none (commands.Prefer expr) h = refl
    none (commands.Default option on) h = refl
    none (commands.Commit base choice ambition es) h = absurd (cc)
    none commands.Upgrade h = refl

-- a declaration leaves what is held as it is
pub held-declared : (history longer : List Command) (k : Command) (ts : List Triple) (commits : List CommitMark) (file_of_line : List ℕ) (entries : Dated) (stored : List FilePart)
    → AreRowsAndLinesOf history ts commits file_of_line entries stored → has_commit (k ∷ []) ≡ false → longer ≡ history ++ k ∷ [] → AreRowsAndLinesOf longer ts commits file_of_line entries stored
held-declared history longer k ts commits file_of_line entries stored held h e = rw e (record {
  of_entries = record {
    rows = λ c p. held.of_entries.rows c p ∙ sym (ap (λ (v : Variant). v.rows) (rows-declared c p history k h));
    within = held.of_entries.within;
    kept = held.of_entries.kept;
    from = let one = length_push history k in let from = held.of_entries.from in omega (arith, one, from);
  };
  below = subst (λ (ns : Numbers). AllByRecursion (λ node. node ≤ ns.nodes) (nodes_in entries)) (sym (numbers-kept history k h)) held.below;
  made = held.made ∙ sym (files-same history k h);
  parts = held.parts ∙ sym (files-same history k h);
  files = all-map (IsFileOf history ts) (IsFileOf (history ++ k ∷ []) ts)
      (λ stored file. record {
        lines = subst (λ (held : Holding). AreDated ts (option_count (history ++ k ∷ [])) (file_dated stored.node held.lines) stored.lines.lines) (sym (held-same history k h))
            (dated-on ts ts (option_count history) (option_count (history ++ k ∷ [])) (file_dated stored.node (kept_of history)) stored.lines.lines (itself ts) (options-grow history (k ∷ [])) file.lines);
        newest = let one = length_push history k in let newest = file.newest in omega (arith, one, newest);
        nodes = file.nodes;
      })
      stored held.files;
  lines = held.lines ∙ ap (λ ns. length ns.addresses) (sym (numbers-kept history k h));
  in_files = subst (λ (held : Holding). AreFilesOfLines held.lines 0 file_of_line) (sym (held-same history k h)) held.in_files;
  few = let one = length_push history k in let few = held.few in omega (arith, one, few);
  marks = marks-declared ts (option_count (history ++ k ∷ [])) 0 history k commits h
      (marks-grown ts ts (option_count history) (option_count (history ++ k ∷ [])) (itself ts) (options-grow history (k ∷ [])) 0 history commits held.marks);
})

abbrev no_commands : List Command
no_commands = []

take-none : (p : ℕ) → take p no_commands ≡ no_commands
take-none zero = refl
take-none (suc p) = refl

-- before any command nothing is held
pub held-none : (history : List Command) (ts : List Triple) (commits : List CommitMark) (file_of_line : List ℕ) (entries : Dated) (stored : List FilePart) → history ≡ [] → commits ≡ [] → file_of_line ≡ [] → stored ≡ []
    → entries.from ≡ 0 → ((table : List Triple) (c : List Bool) (p : ℕ) → entry_rows table c p entries ≡ []) → nodes_in entries ≡ [] → kinds_in entries ≡ [] → ((table : List Triple) → AreNodesAt table entries)
    → visibilities entries ≡ [] → AreRowsAndLinesOf history ts commits file_of_line entries stored
held-none history ts commits file_of_line entries stored he ce le ee from none nodes kinds within kept =
    rw (he, ce, le, ee) (record {
      of_entries = record {
        rows = λ c p. none ts c p ∙ ap (λ h. (replay c h).rows) (sym (take-none p));
        within = within ts;
        kept = subst (AreNodes ts) (sym kept) tt;
        from = omega (arith, from);
      };
      below = subst (AllByRecursion (λ node. node ≤ 0)) (sym nodes) tt;
      made = ap files_among kinds;
      parts = refl;
      files = tt;
      lines = refl;
      in_files = tt;
      few = omega arith;
      marks = refl;
    })
