-- What edits are tried on refuses the same of them first as the variant does.
use Rattle.std.proofs.Common.{◌≡◌, refl, ap, sym, ◌∙◌, ℕ, ◌+◌, ◌≤◌, Bool, true, false, cond, ◌&&◌, List, [], ◌∷◌, length, map, take, Option, option_map, arith}
use Rattle.std.specs.List.{list_any, AllByRecursion}
use Rattle.cov_base.specs.Addresses.{line_of, AreInOrder, IsLineOf}
use Rattle.cov_base.specs.Rows.{Row, AreOnce}
use Rattle.cov_base.specs.declared.file_row.FileRow.{FileRow}
use Rattle.cov_base.specs.declared.number.Kind.{Kind}
use Rattle.cov_base.specs.declared.number.Kind.TheVariants as kinds
use Rattle.cov_base.proofs.CallerLemmas.{all-both, all-map}
use Rattle.cov_dd.specs.declared.triple.Triple.{Triple}
use Rattle.cov_edit.specs.declared.command.Command.{Command}
use Rattle.cov_edit.specs.declared.edit.Edit.{Edit}
use Rattle.cov_edit.specs.Numbering.{Numbers, numbered_from, numbers_after, numbers_of}
use Rattle.cov_edit.specs.Replay.{replay}
use Rattle.cov_edit.specs.Touched.{touched}
use Rattle.cov_edit.specs.Variant.{Variant, line_address, lines_of}
use Rattle.cov_history.specs.Naming.{NamesOnlyMade}
use Rattle.cov_history.specs.RowChanges.{changes_rows}
use Rattle.cov_history.specs.Verdict.{IsLegal}
use Rattle.cov_history.proofs.CallerLemmas.{all-mapped, holding-stands, legal-named, legal-take, replay-once, replay-stands}
use Rattle.cov_tree.specs.Dated.{among}
use Rattle.cov_tree.proofs.CallerLemmas.{among_all}
use Rattle.cov_view.specs.References.{is_dir_kind, is_made_line, is_made_node}
use Rattle.cov_view.specs.Refusals.{first_refused, refused_from}
use Rattle.cov_view.specs.Seen.{Seen}
use Rattle.cov_view.specs.Views.{by_number, line_by_number, row_by_number, IsMade, Shows, ShowsLines}
use Rattle.cov_visible.specs.declared.file_part.FilePart.{FilePart}
use Rattle.cov_overtaking.specs.declared.mark.CommitMark.{CommitMark}
use Rattle.cov_visible.specs.declared.visible.Visible.{Visible}
use Rattle.cov_engine.specs.Holdings.{AreRowsAndLinesOf}
use Rattle.cov_visible.specs.Parts.{part_of}
use Rattle.cov_visible.specs.Reading.{line_row, stored_rows}
use Rattle.cov_visible.specs.Trying.{place_refused, row_lines, seen_tried, whole_row}
use Rattle.cov_engine.proofs.FileLines.{by-row, lines-made, pairs, row_pair}
use Rattle.cov_engine.proofs.LinesRead.{lines-read}
use Rattle.cov_engine.proofs.TouchedRows.{tried-same}
use Rattle.cov_engine.proofs.Trying.{shown-first}
use Rattle.cov_engine.proofs.Views.{lines-below, rows-made}
use Rattle.cov_visible.proofs.CallerLemmas.{rows-of, rows-once, whole-once}

module _ (ts : List Triple) (c : List Bool) (at : ℕ) (stored : List FilePart) where
  abbrev read : ℕ → List FileRow
  read node = stored_rows ts c at (part_of stored node)

  module _ (numbers : Numbers) (v : Variant) (own_read : (file : ℕ) → read file ≡ map line_row (lines_of v file)) (low : AllByRecursion (λ l. line_of l.address ≤ length numbers.addresses) v.lines) where
    own-lines : (k : Kind) (x : ℕ) → is_dir_kind k ≡ false → map by_number (lines_of v x) ≡ map (line_by_number numbers) (row_lines ts c at stored k x)
    own-lines kinds.Dir x file = absurd (cc)
    own-lines kinds.File x file = sym (pairs (lines_of v x)) ∙ ap (map row_pair) (sym (own_read x)) ∙ sym (by-row numbers (read x))

    made-lines : (k : Kind) (x : ℕ) → AllByRecursion (λ l. is_made_line (length numbers.addresses) 0 l.line ≡ true) (row_lines ts c at stored k x)
    made-lines kinds.Dir x = tt
    made-lines kinds.File x = lines-made numbers v x (row_lines ts c at stored kinds.File x) low (own-lines kinds.File x refl)

    told : (rs : List Row) → map (row_by_number numbers) (map (whole_row ts c at stored) rs) ≡ rs
    told [] = refl
    told (r ∷ rs) = ap (λ ss. r ∷ ss) (told rs)

    -- the whole rows show the variant
    pub shows-whole : NamesOnlyMade numbers.nodes v → AllByRecursion (λ l. IsLineOf numbers.addresses (length numbers.addresses) l.address) v.lines
        → AreInOrder line_address v.lines → Shows numbers numbers.addresses (record { rows = map (whole_row ts c at stored) v.rows; nodes_made = 0; lines_made = 0 }) v
    shows-whole names addresses in_order = record {
      rows = are;
      lines = all-mapped (λ (r : Row). r.node ≤ numbers.nodes) (ShowsLines numbers v) (whole_row ts c at stored) (λ r le. own-lines r.kind r.node) v.rows names.nodes;
      made = all-both (λ r. (is_made_node numbers.nodes 0 r.node && is_made_node numbers.nodes 0 r.parent) ≡ true) (λ r. AllByRecursion (λ l. is_made_line (length numbers.addresses) 0 l.line ≡ true) r.lines)
          (IsMade numbers seen) (λ r a h. (a, h)) (map (whole_row ts c at stored) v.rows) (rows-made numbers (map (whole_row ts c at stored) v.rows) v are names)
          (all-mapped (λ (r : Row). r.node ≤ numbers.nodes) (λ r. AllByRecursion (λ l. is_made_line (length numbers.addresses) 0 l.line ≡ true) r.lines) (whole_row ts c at stored) (λ r le. made-lines r.kind r.node) v.rows names.nodes);
      in_order = in_order;
      files = all-map (λ l. l.file ≤ numbers.nodes) (λ l. l.file ≤ numbers.nodes + 0) (λ l h. omega (arith, h)) v.lines names.files;
      addresses = addresses;
      counted = let same : length numbers.addresses ≡ length numbers.addresses + 0 = omega arith in same;
    }
      where
        seen : Seen
        seen = record { rows = map (whole_row ts c at stored) v.rows; nodes_made = 0; lines_made = 0 }

        are : v.rows ≡ map (row_by_number numbers) (map (whole_row ts c at stored) v.rows)
        are = sym (told v.rows)

-- what all rows have, those have that edits are tried on
rows-have : (P : Row → Type 0) (es : List Edit) (rows : List Row) → AllByRecursion P rows → AllByRecursion P (rows-of es rows)
rows-have P es rows all = by (list_any changes_rows es)
  where
    by : (b : Bool) → AllByRecursion P (cond b rows (among (touched es) rows))
    by true = all
    by false = among_all P (touched es) rows all

-- the first edit that is refused on what edits are tried on is the first that the variant refuses
pub tried-first : (history : List Command) (commits : List CommitMark) (file_of_line : List ℕ) (v : Visible) (c : List Bool) (at : ℕ) (es : List Edit) (found : Option ℕ) → IsLegal history
    → AreRowsAndLinesOf history v.table commits file_of_line v.entries v.files → found ≡ place_refused 0 (seen_tried v c at es) es
    → found ≡ option_map (λ refused. refused.0) (first_refused (numbers_of (take at history)) (replay c (take at history)) es)
tried-first history commits file_of_line v c at es found legal held first =
    first
    ∙ ap (λ rs. place_refused 0 (record { rows = map (whole_row v.table c at v.files) (rows-of es rs); nodes_made = 0; lines_made = 0 }) es) (held.of_entries.rows c at)
    ∙ shown-first ns (numbers_after ns es).addresses 0 whole w ns.addresses es (holding-stands (take at history)).0 shows (whole-once v.table c at v.files w.rows once.0 once.1) refl
    ∙ ap (option_map (λ refused. refused.0)) (same ∙ tried-same ns w u es names.nodes refl refl)
  where
    ns : Numbers
    ns = numbers_of (take at history)

    u : Variant
    u = replay c (take at history)

    w : Variant
    w = record { rows = rows-of es u.rows; lines = u.lines }

    once : AreOnce w.rows
    once = rows-once es u.rows (replay-once c (take at history))

    whole : Seen
    whole = record { rows = map (whole_row v.table c at v.files) w.rows; nodes_made = 0; lines_made = 0 }

    names : NamesOnlyMade ns.nodes u
    names = legal-named c (take at history) (legal-take at [] history legal)

    same : refused_from ns w 0 es (numbered_from ns (numbers_after ns es).addresses (ns.nodes + 0) (length ns.addresses) es) ≡ first_refused ns w es
    same = let zero_more : ns.nodes + 0 ≡ ns.nodes = omega arith in ap (λ n. refused_from ns w 0 es (numbered_from ns (numbers_after ns es).addresses n (length ns.addresses) es)) zero_more

    shows : Shows ns ns.addresses whole w
    shows =
        shows-whole v.table c at v.files ns w (lines-read history v.table commits file_of_line v.entries v.files legal held c at) (lines-below c (take at history))
        (record { nodes = rows-have (λ r. r.node ≤ ns.nodes) es u.rows names.nodes; parents = rows-have (λ r. r.parent ≤ ns.nodes) es u.rows names.parents; files = names.files })
        (replay-stands c (take at history)).1 (replay-stands c (take at history)).0
