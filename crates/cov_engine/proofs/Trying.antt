-- Edits that are tried one after another on what is seen.
use Rattle.std.proofs.Common.{◌≡◌, refl, ap, sym, ◌∙◌, ℕ, ◌+◌, ◌≤◌, Bool, true, false, ◌&&◌, ◌||◌, nat_eq, List, [], ◌∷◌, length, Option, Some, None, option_map, arith}
use Rattle.std.specs.List.{fold, list_any, AllByRecursion}
use Rattle.std.proofs.lemmas.Bool.{and_parts}
use Rattle.std.proofs.lemmas.Bool.Decides.{nat_tests}
use Rattle.cov_base.specs.Addresses.{address_in, line_of, with_lines, IsLineOf, IsTable}
use Rattle.cov_base.specs.declared.number.LineRef.{LineRef}
use Rattle.cov_base.specs.declared.number.NodeRef.{NodeRef}
use Rattle.cov_base.proofs.CallerLemmas.{address_in-with_lines, all-map, is_table-with_line, length-with_line}
use Rattle.cov_edit.specs.declared.edit.Edit.{Edit}
use Rattle.cov_edit.specs.declared.edit.Edit.TheVariants as edits
use Rattle.cov_edit.specs.Numbering.{Numbers, NumberedEdit, Inserted, Deleted, anchors_of, line_count_after, line_number, node_count_after, node_number, numbered_edit, numbered_from}
use Rattle.cov_edit.specs.Variant.{Variant, Line, edited}
use Rattle.cov_view.specs.References.{is_known_line}
use Rattle.cov_view.specs.Refusals.{refusal, refused_at, refused_from}
use Rattle.cov_view.specs.Seen.{Seen, seen_after, seen_fault, AreRows}
use Rattle.cov_view.specs.Views.{next_by_number, table_after, FaultBy, Shows}
use Rattle.cov_view.specs.declared.fault.EditFault.{EditFault}
use Rattle.cov_view.proofs.CallerLemmas.{delete-accepted, refused-as, rows-after, shows-after}
use Rattle.cov_visible.specs.Trying.{place_of, place_refused}
use Rattle.cov_engine.proofs.Views.{line-below}

-- a line that a variant has is one of its table
shown-low : (m x file : ℕ) (ls : List Line) → AllByRecursion (λ l. line_of l.address ≤ m) ls → list_any (λ l. nat_eq l.file file && nat_eq (line_of l.address) x) ls ≡ true → x ≤ m
shown-low m x file [] low h = absurd (cc)
shown-low m x file (l ∷ ls) low h = by (nat_eq l.file file) (nat_eq (line_of l.address) x) refl h (shown-low m x file ls low.1)
  where
    own : line_of l.address ≤ m
    own = low.0

    rest : Bool
    rest = list_any (λ k. nat_eq k.file file && nat_eq (line_of k.address) x) ls

    by : (a b : Bool) → nat_eq (line_of l.address) x ≡ b → ((a && b) || rest) ≡ true → (rest ≡ true → x ≤ m) → x ≤ m
    by true true e k later = let same : line_of l.address ≡ x = grind (arith, nat_tests, e) in let le = own in omega (arith, same, le)
    by true false e k later = later k
    by false b e k later = later k

-- an edit is refused by no variant that is shown
abbrev pub Accepts : Seen → Edit → Type 0
Accepts view e = (ns : Numbers) (table : List (List ℕ)) (v : Variant) → Shows ns table view v → refusal ns v e ≡ None

-- an edit is refused with a fault by each variant that is shown, unless memory is wanting
abbrev pub Refuses : EditFault → Seen → Edit → Type 0
Refuses f view e = (ns : Numbers) (table : List (List ℕ)) (v : Variant) → Shows ns table view v → FaultBy f (refusal ns v e)

-- after an edit what was shown is shown with this edit
abbrev pub Applies : Seen → Edit → Seen → Type 0
Applies old e new = (ns : Numbers) (table : List (List ℕ)) (v : Variant) → IsTable table → Shows ns table old v → Shows ns (table_after ns table e) new (fold edited v (next_by_number ns table old e))

module _ (ns : Numbers) (whole : List (List ℕ)) (s : Seen) (v : Variant) (table : List (List ℕ)) (is_table : IsTable table) (shows : Shows ns table s v) (rest : List Edit) where
  abbrev n : ℕ
  n = length ns.addresses

  table-next : (d : Edit) → IsTable (table_after ns table d)
  table-next (edits.New kind parent name) = is_table
  table-next (edits.Insert file after text) = is_table-with_line table (line_number n after) is_table
  table-next (edits.Delete file line) = is_table
  table-next (edits.Rename node name) = is_table
  table-next (edits.Move node parent) = is_table
  table-next (edits.Remove node) = is_table

  grows-next : (d : Edit) → with_lines table (anchors_of n (d ∷ rest)) ≡ with_lines (table_after ns table d) (anchors_of n rest)
  grows-next (edits.New kind parent name) = refl
  grows-next (edits.Insert file after text) = refl
  grows-next (edits.Delete file line) = refl
  grows-next (edits.Rename node name) = refl
  grows-next (edits.Move node parent) = refl
  grows-next (edits.Remove node) = refl

  longer : (d : Edit) → line_count_after (length table) d ≡ length (table_after ns table d)
  longer (edits.New kind parent name) = refl
  longer (edits.Insert file after text) = sym (length-with_line table (line_number n after))
  longer (edits.Delete file line) = refl
  longer (edits.Rename node name) = refl
  longer (edits.Move node parent) = refl
  longer (edits.Remove node) = refl

  more-nodes : (d : Edit) → node_count_after (ns.nodes + s.nodes_made) d ≡ ns.nodes + (seen_after s d).nodes_made
  more-nodes (edits.New kind parent name) = omega arith
  more-nodes (edits.Insert file after text) = refl
  more-nodes (edits.Delete file line) = refl
  more-nodes (edits.Rename node name) = refl
  more-nodes (edits.Move node parent) = refl
  more-nodes (edits.Remove node) = refl

  -- a line that is taken out has its address already
  line-there : (file : NodeRef) (line : LineRef) → refusal ns v (edits.Delete file line) ≡ None → line_number n line ≤ length table
  line-there file line accepted =
      let there = (delete-accepted ns v file line accepted).2 in
      shown-low (length table) (line_number n line) (node_number ns.nodes file) v.lines
      (all-map (λ l. IsLineOf table (length table) l.address) (λ l. line_of l.address ≤ length table) (λ l is. line-below table l.address is_table is) v.lines shows.addresses)
      (and_parts (is_known_line n line) (list_any (λ l. nat_eq l.file (node_number ns.nodes file) && nat_eq (line_of l.address) (line_number n line)) v.lines) there).1

  -- an edit is numbered with the lines so far as with all
  numbered-same : (d : Edit) → refusal ns v d ≡ None → whole ≡ with_lines (table_after ns table d) (anchors_of n rest)
      → numbered_edit ns whole (ns.nodes + s.nodes_made) (length table) d ≡ numbered_edit ns (table_after ns table d) (ns.nodes + s.nodes_made) (length table) d
  numbered-same (edits.New kind parent name) accepted grows = refl
  numbered-same (edits.Insert file after text) accepted grows =
      let one = length-with_line table (line_number n after) in
      ap (λ a. Inserted (node_number ns.nodes file) a text)
      (ap (λ t. address_in t (length table + 1)) grows
      ∙ address_in-with_lines (table_after ns table (edits.Insert file after text)) (anchors_of n rest) (length table + 1) (omega (arith, one)))
  numbered-same (edits.Delete file line) accepted grows =
      ap (λ a. Deleted (node_number ns.nodes file) a)
      (ap (λ t. address_in t (line_number n line)) grows ∙ address_in-with_lines table (anchors_of n rest) (line_number n line) (line-there file line accepted))
  numbered-same (edits.Rename node name) accepted grows = refl
  numbered-same (edits.Move node parent) accepted grows = refl
  numbered-same (edits.Remove node) accepted grows = refl

-- the first edit that is refused on what is seen is the first that the variant refuses which is shown
pub shown-first : (ns : Numbers) (whole : List (List ℕ)) (i : ℕ) (s : Seen) (v : Variant) (table : List (List ℕ)) (es : List Edit) → IsTable table → Shows ns table s v → AreRows s.nodes_made s.rows
    → whole ≡ with_lines table (anchors_of (length ns.addresses) es)
    → place_refused i s es ≡ option_map (λ refused. refused.0) (refused_from ns v i es (numbered_from ns whole (ns.nodes + s.nodes_made) (length table) es))
shown-first ns whole i s v table [] is_table shows once grows = refl
shown-first ns whole i s v table (e ∷ es) is_table shows once grows =
    by (seen_fault s.rows e) refl
    (λ accepted. shown-first ns whole (i + 1) (seen_after s e) (fold edited v (next_by_number ns table s e)) (table_after ns table e) es
    (table-next ns whole s v table is_table shows es e) (shows-after ns table s v shows e is_table once accepted) (rows-after s e once)
    (grows ∙ grows-next ns whole s v table is_table shows es e))
  where
    node : ℕ
    node = ns.nodes + s.nodes_made

    d : NumberedEdit
    d = numbered_edit ns whole node (length table) e

    later : Option (ℕ × EditFault)
    later = refused_from ns (edited v d) (i + 1) es (numbered_from ns whole (node_count_after node e) (line_count_after (length table) e) es)

    refuses : refusal ns v e ≡ seen_fault s.rows e
    refuses = refused-as ns table s v shows e

    by : (o : Option EditFault) → seen_fault s.rows e ≡ o
        → (seen_fault s.rows e ≡ None → place_refused (i + 1) (seen_after s e) es
        ≡ option_map (λ refused. refused.0) (refused_from ns (fold edited v (next_by_number ns table s e)) (i + 1) es
        (numbered_from ns whole (ns.nodes + (seen_after s e).nodes_made) (length (table_after ns table e)) es)))
        → place_of i o (place_refused (i + 1) (seen_after s e) es) ≡ option_map (λ refused. refused.0) (refused_at i (refusal ns v e) later)
    by (Some f) is next = ap (λ o. option_map (λ (refused : ℕ × EditFault). refused.0) (refused_at i o later)) (sym (refuses ∙ is))
    by None is next =
        let passes : refusal ns v e ≡ None = refuses ∙ is in
        next is
        ∙ (λ j. option_map (λ (refused : ℕ × EditFault). refused.0) (refused_from ns (fold edited v (next_by_number ns table s e)) (i + 1) es
        (numbered_from ns whole (sym (more-nodes ns whole s v table is_table shows es e) j) (sym (longer ns whole s v table is_table shows es e) j) es)))
        ∙ ap (λ c. option_map (λ (refused : ℕ × EditFault). refused.0) (refused_from ns (edited v c) (i + 1) es (numbered_from ns whole (node_count_after node e) (line_count_after (length table) e) es)))
        (sym (numbered-same ns whole s v table is_table shows es e passes (grows ∙ grows-next ns whole s v table is_table shows es e)))
        ∙ ap (λ o. option_map (λ (refused : ℕ × EditFault). refused.0) (refused_at i o later)) (sym passes)
