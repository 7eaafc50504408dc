-- The view of a variant.
use Rattle.std.proofs.Common.{◌≡◌, ℕ, suc, ◌+◌, ◌<◌, ◌≤◌, Bool, true, false, ◌&&◌, not, List, [], ◌++◌, length, map, take, drop, ap, sym, subst, ◌∙◌, arith}
use Rattle.std.specs.List.{fold, AllByRecursion}
use Rattle.std.proofs.lemmas.Bool.{and_from}
use Rattle.std.proofs.lemmas.Bool.Decides.{nat_tests}
use Rattle.std.proofs.lemmas.List.{take-append-drop}
use Rattle.cov_base.specs.Addresses.{line_of, IsTable, IsLineOf}
use Rattle.cov_base.specs.Rows.{Row, has_node, AreOnce}
use Rattle.cov_base.specs.declared.number.NodeRef.{NodeRef}
use Rattle.cov_base.specs.declared.number.NodeRef.TheVariants as nodes
use Rattle.cov_base.proofs.CallerLemmas.{all-map, all-both, line_of-in}
use Rattle.cov_dd.specs.declared.triple.Triple.{Triple}
use Rattle.cov_edit.specs.declared.command.Command.{Command}
use Rattle.cov_edit.specs.Numbering.{Numbers, node_number, numbers_of}
use Rattle.cov_edit.specs.Variant.{Variant}
use Rattle.cov_edit.specs.Replay.{replay}
use Rattle.cov_view.specs.References.{is_dir_kind, is_made_node}
use Rattle.cov_view.specs.Seen.{Seen}
use Rattle.cov_view.specs.Views.{row_by_number, ShowsLines, IsMade, Shows}
use Rattle.cov_view.specs.declared.row.ViewRow.{ViewRow}
use Rattle.cov_overtaking.specs.declared.mark.CommitMark.{CommitMark}
use Rattle.cov_visible.specs.declared.file_part.FilePart.{FilePart}
use Rattle.cov_tree.specs.Dated.{Dated, rows_at as entry_rows}
use Rattle.cov_visible.specs.declared.visible.Visible.{Visible}
use Rattle.cov_visible.specs.Showing.{with_node, AreFresh}
use Rattle.cov_visible.specs.Visible.{shown}
use Rattle.cov_history.specs.FileNodes.{files_from, files_of}
use Rattle.cov_visible.specs.Parts.{part_node}
use Rattle.cov_engine.specs.Holdings.{IsFileOf, AreEntriesOf, AreRowsAndLinesOf}
use Rattle.cov_history.specs.Naming.{NamesOnlyMade}
use Rattle.cov_history.specs.Verdict.{IsLegal}
use Rattle.cov_history.proofs.CallerLemmas.{among-more, files-append, rows-tell, holding-stands, replay-once, replay-stands, legal-named, legal-take}
use Rattle.cov_engine.proofs.Holdings.{view-rows}
use Rattle.cov_visible.proofs.CallerLemmas.{once-fresh, part-has, part-some}
use Rattle.cov_engine.proofs.FileLines.{all-unmapped, Shown, IsStored, stored-lines}

pub line-below : (t : List (List ℕ)) (a : List ℕ) → IsTable t → IsLineOf t (length t) a → line_of a ≤ length t
line-below t a table line =
    let own : line_of a ≡ suc line.0 = ap line_of line.2 ∙ line_of-in t line.0 table line.1 in
    let less : line.0 < length t = line.1 in
    omega (arith, own, less)

-- no line of a replay has a greater number than the history's last
pub lines-below : (c : List Bool) (history : List Command) → AllByRecursion (λ l. line_of l.address ≤ length (numbers_of history).addresses) (replay c history).lines
lines-below c history =
    all-map (λ l. IsLineOf (numbers_of history).addresses (length (numbers_of history).addresses) l.address) (λ l. line_of l.address ≤ length (numbers_of history).addresses)
    (λ l line. line-below (numbers_of history).addresses l.address (holding-stands history).0 line) (replay c history).lines (replay-stands c history).1

old-node : (count : ℕ) (node : NodeRef) → node_number count node ≤ count → is_made_node count 0 node ≡ true
old-node count (nodes.Old x) h = let le : x ≤ count = h in grind (arith, nat_tests, le)
old-node count (nodes.New i) h = let le : count + 1 + i ≤ count = h in absurd (omega (arith, le))

-- rows with the numbers of a variant's name what is made
pub rows-made : (ns : Numbers) (rows : List ViewRow) (v : Variant) → v.rows ≡ map (row_by_number ns) rows → NamesOnlyMade ns.nodes v
    → AllByRecursion (λ r. (is_made_node ns.nodes 0 r.node && is_made_node ns.nodes 0 r.parent) ≡ true) rows
rows-made ns rows v e named =
    all-both (λ r. node_number ns.nodes r.node ≤ ns.nodes) (λ r. node_number ns.nodes r.parent ≤ ns.nodes) (λ r. (is_made_node ns.nodes 0 r.node && is_made_node ns.nodes 0 r.parent) ≡ true)
    (λ r node parent. and_from (is_made_node ns.nodes 0 r.node) (is_made_node ns.nodes 0 r.parent) (old-node ns.nodes r.node node) (old-node ns.nodes r.parent parent)) rows
    (all-unmapped (λ (r : Row). r.node ≤ ns.nodes) (row_by_number ns) rows (subst (AllByRecursion (λ (r : Row). r.node ≤ ns.nodes)) e named.nodes))
    (all-unmapped (λ (r : Row). r.parent ≤ ns.nodes) (row_by_number ns) rows (subst (AllByRecursion (λ (r : Row). r.parent ≤ ns.nodes)) e named.parents))

-- the lines of each file among rows that tell the files are stored
files-stored : (ts : List Triple) (c : List Bool) (at : ℕ) (history : List Command) (stored : List FilePart) (numbers : Numbers) (low : AllByRecursion (λ l. line_of l.address ≤ length numbers.addresses) (replay c (take at history)).lines)
    → map part_node stored ≡ files_of history → AllByRecursion (IsFileOf history ts) stored → (rs : List Row) → AllByRecursion (λ r. has_node r.node (files_of (take at history)) ≡ not (is_dir_kind r.kind)) rs
    → AllByRecursion (λ r. is_dir_kind r.kind ≡ false → IsStored ts c at stored numbers history low r.node) rs
files-stored ts c at history stored numbers low parts files rs tells =
    all-map (λ r. has_node r.node (files_of (take at history)) ≡ not (is_dir_kind r.kind)) (λ r. is_dir_kind r.kind ≡ false → IsStored ts c at stored numbers history low r.node)
    (λ r own file. there r.node (own ∙ ap not file)) rs tells
  where
    all : files_of (take at history) ++ files_from (numbers_of (take at history)).nodes (drop at history) ≡ files_of history
    all = sym (files-append (take at history) (drop at history)) ∙ ap files_of (take-append-drop at history)

    there : (node : ℕ) → has_node node (files_of (take at history)) ≡ true → IsStored ts c at stored numbers history low node
    there node h =
        let found = part-has stored node (ap (has_node node) (parts ∙ sym all) ∙ among-more node (files_of (take at history)) (files_from (numbers_of (take at history)).nodes (drop at history)) h) in
        let own = part-some (IsFileOf history ts) stored node found.0 files found.1 in
        (found.0, found.1, own.0, own.1)

module _ (ts : List Triple) (c : List Bool) (at : ℕ) (commits : List CommitMark) (file_of_line : List ℕ) (entries : Dated) (stored : List FilePart) where
  abbrev seen : Seen
  seen = record { rows = fold (with_node ts c at stored) [] (entry_rows ts c at entries); nodes_made = 0; lines_made = 0 }

  module _ (history : List Command) where
    abbrev ns : Numbers
    ns = numbers_of (take at history)

    abbrev v : Variant
    v = replay c (take at history)

    abbrev IsVariant : Type 0
    IsVariant = Shows ns ns.addresses seen v

    once : AreEntriesOf history ts entries → AreOnce (entry_rows ts c at entries)
    once of_entries = subst AreOnce (sym (of_entries.rows c at)) (replay-once c (take at history))

    rows-fresh : AreEntriesOf history ts entries → AreFresh ts c at stored [] (entry_rows ts c at entries)
    rows-fresh of_entries = once-fresh ts c at stored (entry_rows ts c at entries) (once of_entries)

    view-shows : IsLegal history → AreRowsAndLinesOf history ts commits file_of_line entries stored → IsVariant
    view-shows legal held =
        let are : v.rows ≡ map (row_by_number ns) seen.rows = sym (view-rows ns ts c at history entries stored held.of_entries) in
        let named : NamesOnlyMade ns.nodes v = legal-named c (take at history) (legal-take at [] history legal) in
        let low = lines-below c (take at history) in
        let tells : AllByRecursion (λ (r : Row). has_node r.node (files_of (take at history)) ≡ not (is_dir_kind r.kind)) (entry_rows ts c at entries) =
        subst (AllByRecursion (λ (r : Row). has_node r.node (files_of (take at history)) ≡ not (is_dir_kind r.kind))) (sym (held.of_entries.rows c at)) (rows-tell c (take at history)) in
        let shown : AllByRecursion (Shown c at ns history low) seen.rows =
        stored-lines ts c at stored ns history low [] (entry_rows ts c at entries) tt (rows-fresh held.of_entries)
        (files-stored ts c at history stored ns low held.parts held.files (entry_rows ts c at entries) tells) in
        record {
          rows = are;
          lines = all-map (Shown c at ns history low) (ShowsLines ns v) (λ r h. h.0) seen.rows shown;
          made = all-both (λ r. (is_made_node ns.nodes 0 r.node && is_made_node ns.nodes 0 r.parent) ≡ true) (Shown c at ns history low) (IsMade ns seen) (λ r a h. (a, h.1)) seen.rows
              (rows-made ns seen.rows v are named) shown;
          in_order = (replay-stands c (take at history)).0;
          files = all-map (λ l. l.file ≤ ns.nodes) (λ l. l.file ≤ ns.nodes + 0) (λ l h. omega (arith, h)) v.lines named.files;
          addresses = (replay-stands c (take at history)).1;
          counted = let same : length ns.addresses ≡ length ns.addresses + 0 = omega arith in same;
        }

-- what holds a history shows the variant of the replay at each position and on each choice
pub visible-shows : (history value : List Command) (commits : List CommitMark) (file_of_line : List ℕ) (v : Visible) → IsLegal history → AreRowsAndLinesOf history v.table commits file_of_line v.entries v.files → history ≡ value
    → (at : ℕ) (c : List Bool) → Shows (numbers_of (take at value)) (numbers_of (take at value)).addresses (shown v c at) (replay c (take at value))
visible-shows history value commits file_of_line v legal held is at c =
    subst (λ h. Shows (numbers_of (take at h)) (numbers_of (take at h)).addresses (shown v c at) (replay c (take at h))) is
    (view-shows v.table c at commits file_of_line v.entries v.files history legal held)
