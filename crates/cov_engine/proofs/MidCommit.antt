-- What stored files have when the first edits of a commit are done.
use Rattle.std.proofs.Common.{◌≡◌, ℕ, zero, suc, ◌+◌, ◌<◌, ◌≤◌, ◌-◌, Bool, true, false, cond, ◌&&◌, ◌||◌, not, nat_eq, nat_le, List, [], ◌∷◌, ◌++◌, length, length-append, map, append_assoc, append-nil, refl, sym, ap, subst, ◌∙◌, arith}
use Rattle.std.specs.List.{list_any, AllByRecursion}
use Rattle.std.proofs.lemmas.Bool.{and_from, or_left, or_right}
use Rattle.std.proofs.lemmas.Bool.Decides.{nat_tests}
use Rattle.std.proofs.lemmas.List.{length_push}
use Rattle.cov_base.specs.Addresses.{after_first, after_anchor, after_anchor_by}
use Rattle.cov_base.proofs.CallerLemmas.{all-map}
use Rattle.cov_base.specs.declared.number.NodeRef.{NodeRef}
use Rattle.cov_base.specs.declared.number.LineRef.{LineRef}
use Rattle.cov_dd.specs.declared.triple.Triple.{Triple}
use Rattle.cov_dd.specs.Diagrams.{diagram_size, value_in, Stands}
use Rattle.cov_dd.proofs.CallerLemmas.{stands_weaker}
use Rattle.cov_expr.specs.Formula.{Formula, Not, And, value}
use Rattle.cov_edit.specs.declared.edit.Edit.{Edit}
use Rattle.cov_edit.specs.declared.edit.Edit.TheVariants as edits
use Rattle.cov_edit.specs.declared.command.Command.{Command}
use Rattle.cov_edit.specs.declared.sided.Sided.{Sided}
use Rattle.cov_edit.specs.History.{option_count}
use Rattle.cov_edit.specs.Numbering.{node_number, line_number, anchors_of, numbers_of}
use Rattle.cov_edit.specs.Replay.{first_within, within_behind, changes_within}
use Rattle.cov_edit.specs.Sides.{unsided, conditions}
use Rattle.cov_edit.specs.Variant.{Line}
use Rattle.cov_file.specs.Dated.{DatedLine as FileLine, line_numbers_of as file_numbers, new_line, with_line, with_change, AreAlike}
use Rattle.cov_file.specs.Rooms.{DatedFile, is_room_at, IsLeft}
use Rattle.cov_file.specs.Renumbered.{AddsNode}
use Rattle.cov_file.proofs.CallerLemmas.{added_below, has_after}
use Rattle.cov_order.specs.Orders.{has_line}
use Rattle.cov_tree.specs.Renumbered.{AreNodes}
use Rattle.cov_history.specs.Deletions.{Deletion, hidden_by}
use Rattle.cov_history.specs.FileOfLine.{new_file_of_line, AreFilesOfLines}
use Rattle.cov_visible.specs.Staging.{Contents, named_line, inserts_into, deletes_from, touches}
use Rattle.cov_history.specs.Files.{DatedLine, dated_number, dated, file_dated, file_order, Takes}
use Rattle.cov_history.specs.Insertions.{Insertion, table_of, lines_amid, held_amid, numbered_amid, IsHeldAmid, held_next}
use Rattle.cov_history.specs.RowChanges.{changes_rows}
use Rattle.cov_history.specs.Kept.{Kept, Holding, seen_at, kept_number, kept_of, held_by, file_kept, is_kept_anchor}
use Rattle.cov_visible.specs.Nodes.{own_node, AreDated}
use Rattle.cov_history.specs.Sessions.{IsGood, session_of}
use Rattle.cov_history.specs.Verdict.{IsLegal}
use Rattle.cov_visible.specs.Carrying.{CanInsert, CanDelete, CanCarryOut, IsCarriedOut, IsChangedIn, AreCarriedOut, CanCarryOutIn, CanCarryOutAll, AreAllCarriedOut, edited_node}
use Rattle.cov_visible.specs.Resolved.{first_node, rest_nodes, insert_nodes, AreResolvedBy}
use Rattle.cov_visible.specs.declared.file_part.FilePart.{FilePart}
use Rattle.cov_visible.specs.declared.resolved_edit.ResolvedEdit.{ResolvedEdit}
use Rattle.cov_visible.specs.declared.resolved_edit.ResolvedEdit.TheVariants as resolved
use Rattle.cov_history.proofs.CallerLemmas.{IsOther, deleted-once, files_of_lines-stay, file_of_line-more, lines-edits, delete-dated, delete-elsewhere, delete-order, anchor-below, anchors-append, anchors-stay, anchor-known, insert-elsewhere, is_table-of, amid-goes_on, amid-within, stands-amid, any-mapped, insert-dated, order-takes, accepted-anchored, accepted-there, all-mapped}
use Rattle.cov_engine.specs.Staged.{StandFor}
use Rattle.cov_engine.proofs.Committed.{numbers-dated, rows-same}
use Rattle.cov_engine.proofs.Conditions.{all-any, all-on, insert-node, nodes-more, nodes_behind, stands-behind, stands-first}
use Rattle.cov_visible.proofs.CallerLemmas.{all-pairs, resolved-by}
use Rattle.cov_engine.proofs.Dating.{IsGone, IsLeftBy, left_by, left_by-gone, dated-numbers, insert-lines, delete-lines, all-after}

alike-numbers : (ls ms : List FileLine) → AreAlike ls ms → file_numbers ls ≡ file_numbers ms
alike-numbers [] [] h = refl
alike-numbers [] (m ∷ ms) h = absurd h
alike-numbers (l ∷ ls) [] h = absurd h
alike-numbers (l ∷ ls) (m ∷ ms) h = ap (λ n. n ∷ file_numbers ls) h.0.line ∙ ap (λ ns. m.line ∷ ns) (alike-numbers ls ms h.1)

reflexive : (q : ℕ) → nat_le q q ≡ true
reflexive q = grind (arith, nat_tests)

one_more : (history : List Command) (begun : List Edit) (file : NodeRef) (after : LineRef) (text : List ℕ) → lines_amid history (begun ++ edits.Insert file after text ∷ []) ≡ lines_amid history begun + 1
one_more history begun file after text =
    let m = length (numbers_of history).addresses in
    let joined = ap length (anchors-append m begun (edits.Insert file after text ∷ [])) in
    let one = length_push (anchors_of m begun) (line_number m after) in
    omega (arith, joined, one)

none_more : (m : ℕ) (begun : List Edit) (e : Edit) → anchors_of m (e ∷ []) ≡ [] → anchors_of m (begun ++ e ∷ []) ≡ anchors_of m begun
none_more m begun e h = anchors-append m begun (e ∷ []) ∙ ap (λ l. anchors_of m begun ++ l) h ∙ append-nil (anchors_of m begun)

numbers-first : (t : ℕ → Bool) (l : FileLine) (ls : List FileLine) → file_numbers (after_first (λ x. t x.line) l ls) ≡ after_first t l.line (file_numbers ls)
numbers-first t l [] = refl
numbers-first t l (x ∷ ls) = at (t x.line) (numbers-first t l ls)
  where
    at : (b : Bool) → file_numbers (after_first (λ x. t x.line) l ls) ≡ after_first t l.line (file_numbers ls)
        → file_numbers (cond b (x ∷ l ∷ ls) (x ∷ after_first (λ x. t x.line) l ls)) ≡ cond b (x.line ∷ l.line ∷ file_numbers ls) (x.line ∷ after_first t l.line (file_numbers ls))
    at true rest = refl
    at false rest = ap (λ ns. x.line ∷ ns) rest

numbers-with : (anchor : ℕ) (l : FileLine) (ls : List FileLine) → file_numbers (with_line anchor l ls) ≡ after_anchor anchor l.line (file_numbers ls)
numbers-with zero l ls = refl
numbers-with (suc anchor) l ls = numbers-first (λ y. nat_eq y (suc anchor)) l ls

numbers-changed : (line vis q : ℕ) (ls : List FileLine) → file_numbers (with_change line vis q ls) ≡ file_numbers ls
numbers-changed line vis q [] = refl
numbers-changed line vis q (l ∷ ls) = ap (λ n. n ∷ file_numbers (with_change line vis q ls)) (at (nat_eq l.line line)) ∙ ap (λ ns. l.line ∷ ns) (numbers-changed line vis q ls)
  where
    at : (b : Bool) → (let x : FileLine = cond b (record { line = l.line; text = l.text; changes = (q, vis) ∷ l.changes }) l in x).line ≡ l.line
    at true = refl
    at false = refl

-- a line of a file has at most the number of lines that are made
line-below : (history : List Command) (within : List (Formula ℕ)) (begun later : List Edit) (file line : ℕ)
    → has_line line (file_order file (held_amid history within (begun ++ later) begun).lines) ≡ true → line ≤ lines_amid history begun
line-below history within begun later file line h =
    let held = held_amid history within (begun ++ later) begun in
    anchor-below (table_of history (begun ++ later)) (lines_amid history begun) (length history + 1) file line held (is_table-of history (begun ++ later)) (amid-within history begun later)
    (stands-amid history begun later within)
    (or_right (nat_eq line 0) (list_any (λ k. nat_eq (kept_number k) line) (file_kept file held.lines)) (sym (any-mapped kept_number line (file_kept file held.lines)) ∙ h))

module _ (history : List Command) (base : ℕ) (choice : List Bool) (ambition : Formula ℕ) (sided_edits : List Sided)
    (good : IsGood history (session_of base choice ambition sided_edits)) (legal : IsLegal history) where
  abbrev es : List Edit
  es = unsided sided_edits

  abbrev n : ℕ
  n = (numbers_of history).nodes

  abbrev m : ℕ
  m = length (numbers_of history).addresses

  abbrev q : ℕ
  q = length history + 1

  -- where each edit applies
  abbrev each_within : List (Formula ℕ)
  each_within = conditions ambition sided_edits

  -- where the edit behind some applies
  abbrev within_at : List Edit → Formula ℕ
  within_at begun = first_within (within_behind begun each_within)

  -- what is held when the first edits are done
  abbrev held_at : List Edit → Holding
  held_at begun = held_amid history each_within es begun

  -- the lines that are kept then
  abbrev pub lines_at : List Edit → List (Kept Line)
  lines_at begun = (held_at begun).lines

  stands-at : (begun later : List Edit) → begun ++ later ≡ es → IsHeldAmid history (begun ++ later) begun (held_at begun)
  stands-at begun later all = subst (λ some. IsHeldAmid history (begun ++ later) begun (held_amid history each_within some begun)) all (stands-amid history begun later each_within)

  -- the lines that are kept when the next edit is done
  next-at : (begun later : List Edit) (e : Edit) → begun ++ e ∷ later ≡ es → lines_at (begun ++ e ∷ []) ≡ (held_next history (begun ++ e ∷ later) begun (held_at begun) (within_at begun) e).lines
  next-at begun later e all =
      ap (λ (held : Holding). held.lines) (amid-goes_on history each_within es begun e) ∙ ap (λ some. (held_next history some begun (held_at begun) (within_at begun) e).lines) (sym all)

  abbrev new_dated : Formula ℕ → ℕ → List ℕ → DatedLine
  new_dated within number text = record { line = number; text = text; changes = (q, within) ∷ [] }

  -- an edit that changes rows leaves them
  rows-leave : (begun : List Edit) (e : Edit) → changes_rows e ≡ true → lines_at (begun ++ e ∷ []) ≡ lines_at begun
  rows-leave begun e is =
      lines-edits q (held_by history) (changes_within each_within (numbered_amid history es (begun ++ e ∷ [])))
      ∙ rows-same q each_within (numbers_of history) _ n m (kept_of history) begun e is
      ∙ sym (lines-edits q (held_by history) (changes_within each_within (numbered_amid history es begun)))

  begun-few : (begun later : List Edit) → begun ++ later ≡ es → lines_amid history begun ≤ lines_amid history es
  begun-few begun later all =
      let parts = ap length (anchors-append m begun later) in
      let sum = length-append (anchors_of m begun) (anchors_of m later) in
      let same = ap (λ l. length (anchors_of m l)) all in
      omega (arith, parts, sum, same)

  module _ (begun later : List Edit) (file : NodeRef) (after : LineRef) (text : List ℕ) (all : begun ++ edits.Insert file after text ∷ later ≡ es) where
    abbrev i : Insertion
    i = record { begun = begun; file = file; after = after; text = text; later = later }

    insert-stands : IsHeldAmid history (begun ++ edits.Insert file after text ∷ later) begun (held_at begun)
    insert-stands = stands-at begun (edits.Insert file after text ∷ later) all

    insert-behind : lines_at (begun ++ edits.Insert file after text ∷ []) ≡ (held_next history (begun ++ edits.Insert file after text ∷ later) begun (held_at begun) (within_at begun) (edits.Insert file after text)).lines
    insert-behind = next-at begun later (edits.Insert file after text) all

    anchored : is_kept_anchor (node_number n file) (line_number m after) (lines_at begun) ≡ true
    anchored =
        subst (λ some. is_kept_anchor (node_number n file) (line_number m after) (held_amid history each_within some begun).lines ≡ true) all
        (accepted-anchored history (session_of base choice ambition sided_edits) legal good i all)

    insert-here : file_dated (node_number n file) (lines_at (begun ++ edits.Insert file after text ∷ []))
        ≡ after_anchor_by dated_number (line_number m after) (new_dated (within_at begun) (lines_amid history begun + 1) text) (file_dated (node_number n file) (lines_at begun))
    insert-here = ap (file_dated (node_number n file)) insert-behind ∙ insert-dated history (held_at begun) (within_at begun) i insert-stands anchored

    insert-there : (other : ℕ) → nat_eq (node_number n file) other ≡ false → file_dated other (lines_at (begun ++ edits.Insert file after text ∷ [])) ≡ file_dated other (lines_at begun)
    insert-there other differs = ap (file_dated other) insert-behind ∙ ap (map dated) (insert-elsewhere history (held_at begun) (within_at begun) i other insert-stands differs)

    insert-takes : Takes (file_order (node_number n file) (lines_at begun)) (line_number m after) (lines_amid history begun + 1)
    insert-takes = (order-takes history (held_at begun) (within_at begun) i insert-stands anchored).0

    insert-stays : (other line : ℕ) → is_kept_anchor other line (lines_at begun) ≡ true → is_kept_anchor other line (lines_at (begun ++ edits.Insert file after text ∷ [])) ≡ true
    insert-stays other line h = ap (is_kept_anchor other line) insert-behind ∙ (anchors-stay history (held_at begun) (within_at begun) i).0 other line h

    insert-new : is_kept_anchor (node_number n file) (lines_amid history begun + 1) (lines_at (begun ++ edits.Insert file after text ∷ [])) ≡ true
    insert-new = ap (is_kept_anchor (node_number n file) (lines_amid history begun + 1)) insert-behind ∙ (anchors-stay history (held_at begun) (within_at begun) i).1

  module _ (begun later : List Edit) (file : NodeRef) (line : LineRef) (all : begun ++ edits.Delete file line ∷ later ≡ es) where
    abbrev gone_line : Deletion
    gone_line = record { begun = begun; file = file; line = line; later = later }

    delete-before : (held_amid history each_within (begun ++ edits.Delete file line ∷ later) begun).lines ≡ lines_at begun
    delete-before = ap (λ some. (held_amid history each_within some begun).lines) all

    delete-behind : lines_at (begun ++ edits.Delete file line ∷ []) ≡ (held_next history (begun ++ edits.Delete file line ∷ later) begun (held_at begun) (within_at begun) (edits.Delete file line)).lines
    delete-behind = next-at begun later (edits.Delete file line) all

    pub delete-there : has_line (line_number m line) (file_order (node_number n file) (lines_at begun)) ≡ true
    delete-there =
        ap (λ ks. has_line (line_number m line) (file_order (node_number n file) ks)) (sym delete-before)
        ∙ accepted-there history (session_of base choice ambition sided_edits) legal good gone_line all

    delete-here : file_dated (node_number n file) (lines_at (begun ++ edits.Delete file line ∷ []))
        ≡ map (hidden_by (line_number m line) q (within_at begun)) (file_dated (node_number n file) (lines_at begun))
    delete-here =
        ap (file_dated (node_number n file)) delete-behind
        ∙ delete-dated history (held_at begun) (within_at begun) gone_line (stands-at begun (edits.Delete file line ∷ later) all)

    delete-out : (other : ℕ) → nat_eq (node_number n file) other ≡ false → file_dated other (lines_at (begun ++ edits.Delete file line ∷ [])) ≡ file_dated other (lines_at begun)
    delete-out other differs = ap (file_dated other) delete-behind ∙ ap (map dated) (delete-elsewhere history (held_at begun) (within_at begun) gone_line other differs)

    delete-stays : (other some : ℕ) → is_kept_anchor other some (lines_at begun) ≡ true → is_kept_anchor other some (lines_at (begun ++ edits.Delete file line ∷ [])) ≡ true
    delete-stays other some h = ap (is_kept_anchor other some) delete-behind ∙ (delete-order history (held_at begun) (within_at begun) gone_line other).1 some ∙ h

  module _ (ts : List Triple) (on : List ℕ) (applies : StandFor ts (option_count history) (conditions ambition sided_edits) on) where
    abbrev count : ℕ
    count = option_count history

    -- the nodes where the edits behind some apply, and that of the first of them
    abbrev nodes_at : List Edit → List ℕ
    nodes_at begun = nodes_behind begun on

    abbrev node_at : List Edit → ℕ
    node_at begun = first_node (nodes_at begun)

    stands_at : (begun : List Edit) → Stands ts (node_at begun) 0 count (value (within_at begun))
    stands_at begun = stands-first ts count (within_behind begun each_within) (nodes_at begun) (stands-behind ts count begun each_within on applies)

    -- the node of a line that the commit inserts is that of the edit
    insert-own : (begun later : List Edit) (file : NodeRef) (after : LineRef) (text : List ℕ) → begun ++ edits.Insert file after text ∷ later ≡ es
        → own_node (insert_nodes on es) (lines_amid history begun + 1 - m - 1) ≡ node_at begun
    insert-own begun later file after text all =
        let place : lines_amid history begun + 1 - m - 1 ≡ length (anchors_of m begun) = omega arith in
        ap (own_node (insert_nodes on es)) place
        ∙ ap (λ some. own_node (insert_nodes on some) (length (anchors_of m begun))) (sym all)
        ∙ insert-node m on begun file after text later

    -- a file has its lines, and room for the edits that are left
    pub record IsHere (node : ℕ) (begun : List Edit) (left : List ResolvedEdit) (file : DatedFile) : Type 0 where
      pub above : 0 < node
      pub are_dated : AreDated ts count (file_dated node (lines_at begun)) file.lines
      pub newest : file.newest ≤ q
      pub nodes : AreNodes ts file.nodes
      pub inserts : inserts_into node left ≤ file.room.inserts
      pub changes : (line : ℕ) → deletes_from node line left ≡ true → has_line line (file_numbers file.lines) ≡ true → has_line line file.room.changes ≡ true
      pub position : touches node left ≡ true → is_room_at q file.room ≡ true

    -- a node is that of a line that is taken out where another is true; that of its insert, if the commit inserts it
    pub record IsRight (ks : List (Kept Line)) (node file line vis : ℕ) : Type 0 where
      pub taken : 0 < file → AllByRecursion (IsLeftBy ts count node q line vis) (file_dated file ks)
      pub own : m < line → Stands ts vis 0 count (λ c. value_in ts (own_node (insert_nodes on es) (line - m - 1)) c && not (value_in ts node c))
      pub within : vis < diagram_size ts

    -- edits by numbers, each with the node at its place, so many nodes and lines having been made before these
    abbrev pub AreRight : List (Kept Line) → List ℕ → ℕ → ℕ → List Edit → List ResolvedEdit → Type 0
    AreRight ks ns nodes lines later ss = AreResolvedBy (IsRight ks) n m ns nodes lines later ss

    new-left : (within : Formula ℕ) (its node number line vis : ℕ) (text : List ℕ) → m < number → own_node (insert_nodes on es) (number - m - 1) ≡ its → ((c : List Bool) → value_in ts its c ≡ value within c)
        → (m < line → Stands ts vis 0 count (λ c. value_in ts (own_node (insert_nodes on es) (line - m - 1)) c && not (value_in ts node c))) → IsLeftBy ts count node q line vis (new_dated within number text)
    new-left within its node number line vis text above place values own is =
        let same : number ≡ line = grind (arith, nat_tests, is) in
        stands_weaker 0 count (left_by ts count node q (new_dated within number text)) (omega arith) (omega arith)
        (λ c. ap (λ b. b && not (value_in ts node c))
        (ap (λ k. value_in ts (own_node (insert_nodes on es) (k - m - 1)) c) (sym same) ∙ ap (λ r. value_in ts r c) place ∙ values c
        ∙ sym (ap (λ b. value (cond b within (seen_at [] q)) c) (reflexive q)))) (own (omega (arith, same, above)))

    hidden-left : (within : Formula ℕ) (k node line vis : ℕ) (d : DatedLine) → (line ≡ k → ⊥) → IsLeftBy ts count node q line vis d → IsLeftBy ts count node q line vis (hidden_by k q within d)
    hidden-left within k node line vis d apart h = at (nat_eq d.line k) refl
      where
        hid : DatedLine
        hid = record { line = d.line; text = d.text; changes = (q, And (seen_at d.changes q) (Not within)) ∷ d.changes }

        at : (b : Bool) → nat_eq d.line k ≡ b → IsLeftBy ts count node q line vis (cond b hid d)
        at true own is = let same : line ≡ k = grind (arith, nat_tests, own, is) in absurd (apart same)
        at false own is = h is

    -- what is right stays so when a line is put in
    insert-right : (begun later : List Edit) (file : NodeRef) (after : LineRef) (text : List ℕ) (all : begun ++ edits.Insert file after text ∷ later ≡ es) (node other line vis : ℕ)
        → IsRight (lines_at begun) node other line vis → IsRight (lines_at (begun ++ edits.Insert file after text ∷ [])) node other line vis
    insert-right begun later file after text all node other line vis h = record { taken = λ above. by above (nat_eq (node_number n file) other) refl; own = h.own; within = h.within }
      where
        by : 0 < other → (b : Bool) → nat_eq (node_number n file) other ≡ b → AllByRecursion (IsLeftBy ts count node q line vis) (file_dated other (lines_at (begun ++ edits.Insert file after text ∷ [])))
        by above true is =
            let same : node_number n file ≡ other = grind (arith, nat_tests, is) in
            subst (λ f. AllByRecursion (IsLeftBy ts count node q line vis) (file_dated f (lines_at (begun ++ edits.Insert file after text ∷ [])))) same
            (subst (AllByRecursion (IsLeftBy ts count node q line vis)) (sym (insert-here begun later file after text all))
            (all-after (IsLeftBy ts count node q line vis) dated_number (new_dated (within_at begun) (lines_amid history begun + 1) text)
            (new-left (within_at begun) (node_at begun) node (lines_amid history begun + 1) line vis text (omega arith) (insert-own begun later file after text all) (stands_at begun).value h.own)
            (line_number m after) (file_dated (node_number n file) (lines_at begun))
            (subst (λ f. AllByRecursion (IsLeftBy ts count node q line vis) (file_dated f (lines_at begun))) (sym same) (h.taken above))))
        by above false is = subst (AllByRecursion (IsLeftBy ts count node q line vis)) (sym (insert-there begun later file after text all other is)) (h.taken above)

    -- and when another line is taken out
    delete-right : (begun later : List Edit) (file : NodeRef) (gone : LineRef) (all : begun ++ edits.Delete file gone ∷ later ≡ es) (node : ℕ) (other : NodeRef) (line : LineRef) (vis : ℕ)
        → IsOther n m file gone (edits.Delete other line)
        → IsRight (lines_at begun) node (node_number n other) (line_number m line) vis → IsRight (lines_at (begun ++ edits.Delete file gone ∷ [])) node (node_number n other) (line_number m line) vis
    delete-right begun later file which all node other line vis apart h = record { taken = λ above. by above (nat_eq (node_number n file) (node_number n other)) refl; own = h.own; within = h.within }
      where
        x : ℕ
        x = line_number m line

        by : 0 < node_number n other → (b : Bool) → nat_eq (node_number n file) (node_number n other) ≡ b
            → AllByRecursion (IsLeftBy ts count node q x vis) (file_dated (node_number n other) (lines_at (begun ++ edits.Delete file which ∷ [])))
        by above true is =
            let same : node_number n file ≡ node_number n other = grind (arith, nat_tests, is) in
            subst (λ f. AllByRecursion (IsLeftBy ts count node q x vis) (file_dated f (lines_at (begun ++ edits.Delete file which ∷ [])))) same
            (subst (AllByRecursion (IsLeftBy ts count node q x vis)) (sym (delete-here begun later file which all))
            (all-mapped (IsLeftBy ts count node q x vis) (IsLeftBy ts count node q x vis) (hidden_by (line_number m which) q (within_at begun))
            (λ d own. hidden-left (within_at begun) (line_number m which) node x vis d (apart (sym same)) own)
            (file_dated (node_number n file) (lines_at begun))
            (subst (λ f. AllByRecursion (IsLeftBy ts count node q x vis) (file_dated f (lines_at begun))) (sym same) (h.taken above))))
        by above false is = subst (AllByRecursion (IsLeftBy ts count node q x vis)) (sym (delete-out begun later file which all (node_number n other) is)) (h.taken above)

    -- the other edits are right when the first of them is done
    next-right : (begun : List Edit) (e : Edit) (ks : List (Kept Line)) (nodes lines : ℕ) (later : List Edit) (ss : List ResolvedEdit) → AreRight ks (rest_nodes (nodes_at begun)) nodes lines later ss
        → AreRight ks (nodes_at (begun ++ e ∷ [])) nodes lines later ss
    next-right begun e ks nodes lines later ss h = subst (λ ns. AreRight ks ns nodes lines later ss) (sym (nodes-more begun e on)) h

    pub numbers-here : (node : ℕ) (begun : List Edit) (left : List ResolvedEdit) (file : DatedFile) → IsHere node begun left file → file_numbers file.lines ≡ file_order node (lines_at begun)
    numbers-here node begun left file h = dated-numbers ts count (file_dated node (lines_at begun)) file.lines h.are_dated ∙ numbers-dated (file_kept node (lines_at begun))

    module _ (begun later : List Edit) (file : NodeRef) (after : LineRef) (text : List ℕ) (all : begun ++ edits.Insert file after text ∷ later ≡ es) (left : List ResolvedEdit) where
      abbrev f : ℕ
      f = node_number n file

      abbrev anchor : ℕ
      anchor = line_number m after

      abbrev had : ℕ
      had = lines_amid history begun

      abbrev a : ℕ
      a = node_at begun

      abbrev put : ResolvedEdit
      put = resolved.Insert f anchor (had + 1) text a

      touched : nat_eq f f ≡ true
      touched = grind (arith, nat_tests)

      -- a file can take the line
      can-insert : (e : FilePart) → IsHere e.node begun (put ∷ left) e.lines → nat_eq e.node f ≡ true → CanInsert q anchor (had + 1) e
      can-insert e h is =
          let same : e.node ≡ f = grind (arith, nat_tests, is) in
          let order = ap (λ k. file_order k (lines_at begun)) (sym same) ∙ sym (numbers-here e.node begun (put ∷ left) e.lines h) in
          let takes = subst (λ order. Takes order anchor (had + 1)) order (insert-takes begun later file after text all) in
          let turned : nat_eq f e.node ≡ true = grind (arith, nat_tests, same) in
          let some : suc (inserts_into e.node left) ≤ e.lines.room.inserts =
          subst (λ b. cond b (suc (inserts_into e.node left)) (inserts_into e.node left) ≤ e.lines.room.inserts) turned h.inserts in
          record {
            anchored = takes.anchored;
            above_head = takes.above_head;
            fresh = takes.fresh;
            later = h.newest;
            room = omega (arith, some);
            position = h.position (or_left (nat_eq f e.node) (touches e.node left) turned);
          }

      -- and has it then
      inserted-here : (old new : DatedFile) → IsHere f begun (put ∷ left) old → AreAlike new.lines (with_line anchor (new_line (had + 1) text a q) old.lines)
          → IsLeft old.room new.room q 1 → has_line (had + 1) new.room.changes ≡ true → new.newest ≡ q → AddsNode a old.nodes new.nodes → IsHere f (begun ++ edits.Insert file after text ∷ []) left new
      inserted-here old new h alike fewer own at adds =
          let some : suc (inserts_into f left) ≤ old.room.inserts =
          subst (λ b. cond b (suc (inserts_into f left)) (inserts_into f left) ≤ old.room.inserts) touched h.inserts in
          let less = fewer.inserts in
          record {
            above = h.above;
            are_dated = subst (λ ds. AreDated ts count ds new.lines) (sym (insert-here begun later file after text all))
                (insert-lines ts count q anchor (had + 1) a text (within_at begun) (file_dated f (lines_at begun)) old.lines new.lines (stands_at begun) h.are_dated alike);
            newest = omega (arith, at);
            nodes = added_below (diagram_size ts) a old.nodes new.nodes adds h.nodes (stands_at begun).within;
            inserts = omega (arith, some, less);
            changes = λ line gone there. by line gone (nat_eq (had + 1) line) refl (sym (has_new line) ∙ there);
            position = λ t. fewer.position;
          }
        where
          has_new : (line : ℕ) → has_line line (file_numbers new.lines) ≡ (nat_eq (had + 1) line || has_line line (file_numbers old.lines))
          has_new line =
              ap (has_line line) (alike-numbers new.lines (with_line anchor (new_line (had + 1) text a q) old.lines) alike
              ∙ numbers-with anchor (new_line (had + 1) text a q) old.lines)
              ∙ has_after line anchor (had + 1) (file_numbers old.lines)

          by : (line : ℕ) → deletes_from f line left ≡ true → (b : Bool) → nat_eq (had + 1) line ≡ b → (b || has_line line (file_numbers old.lines)) ≡ true → has_line line new.room.changes ≡ true
          by line gone true is there = let same : had + 1 ≡ line = grind (arith, nat_tests, is) in subst (λ k. has_line k new.room.changes ≡ true) same own
          by line gone false is there = fewer.changes line (h.changes line gone there)

      insert-next : (e e' : FilePart) → IsChangedIn f (IsCarriedOut q put) e e' → IsHere e.node begun (put ∷ left) e.lines
          → IsHere e'.node (begun ++ edits.Insert file after text ∷ []) left e'.lines
      insert-next e e' changed h = by (nat_eq e.node f) refl
        where
          by : (b : Bool) → nat_eq e.node f ≡ b → IsHere e'.node (begun ++ edits.Insert file after text ∷ []) left e'.lines
          by true is =
              let same : e.node ≡ f = grind (arith, nat_tests, is) in
              let it = changed.here is in
              subst (λ k. IsHere k (begun ++ edits.Insert file after text ∷ []) left e'.lines) (sym (ap (λ (s : Contents). s.node) it.row ∙ same))
              (inserted-here e.lines e'.lines (subst (λ k. IsHere k begun (put ∷ left) e.lines) same h) it.lines it.room it.own (ap (λ (s : Contents). s.newest) it.row) it.nodes)
          by false is =
              let turned : nat_eq f e.node ≡ false = grind (arith, nat_tests, is) in
              subst (λ (x : FilePart). IsHere x.node (begun ++ edits.Insert file after text ∷ []) left x.lines) (sym (changed.elsewhere is)) (record {
                above = h.above;
                are_dated = subst (λ ds. AreDated ts count ds e.lines.lines) (sym (insert-there begun later file after text all e.node turned)) h.are_dated;
                newest = h.newest;
                nodes = h.nodes;
                inserts = subst (λ b. cond b (suc (inserts_into e.node left)) (inserts_into e.node left) ≤ e.lines.room.inserts) turned h.inserts;
                changes = h.changes;
                position = λ t. h.position (or_right (nat_eq f e.node) (touches e.node left) t);
              })

    module _ (begun later : List Edit) (file : NodeRef) (line : LineRef) (all : begun ++ edits.Delete file line ∷ later ≡ es) (vis : ℕ) (left : List ResolvedEdit) where
      abbrev df : ℕ
      df = node_number n file

      abbrev k : ℕ
      k = line_number m line

      abbrev out : ResolvedEdit
      out = resolved.Delete df k vis

      -- a file can take the line out
      can-delete : (e : FilePart) → IsHere e.node begun (out ∷ left) e.lines → nat_eq e.node df ≡ true → CanDelete q k e
      can-delete e h is =
          let same : e.node ≡ df = grind (arith, nat_tests, is) in
          let turned : nat_eq df e.node ≡ true = grind (arith, nat_tests, same) in
          let own : nat_eq k k ≡ true = grind (arith, nat_tests) in
          let there : has_line k (file_numbers e.lines.lines) ≡ true =
          ap (has_line k) (numbers-here e.node begun (out ∷ left) e.lines h ∙ ap (λ x. file_order x (lines_at begun)) same) ∙ delete-there begun later file line all in
          record {
            there = there;
            later = h.newest;
            room = h.changes k (or_left (nat_eq df e.node && nat_eq k k) (deletes_from e.node k left) (and_from (nat_eq df e.node) (nat_eq k k) turned own)) there;
            position = h.position (or_left (nat_eq df e.node) (touches e.node left) turned);
          }

      -- and hasn't it then
      deleted-here : (old new : DatedFile) → IsRight (lines_at begun) (node_at begun) df k vis → IsHere df begun (out ∷ left) old → AreAlike new.lines (with_change k vis q old.lines)
          → IsLeft old.room new.room q 0 → new.newest ≡ q → AddsNode vis old.nodes new.nodes → IsHere df (begun ++ edits.Delete file line ∷ []) left new
      deleted-here old new right h alike fewer at adds =
          let some = h.inserts in
          let less = fewer.inserts in
          record {
            above = h.above;
            are_dated = subst (λ ds. AreDated ts count ds new.lines) (sym (delete-here begun later file line all))
                (delete-lines ts count q k vis (within_at begun) (file_dated df (lines_at begun)) old.lines new.lines
                (all-map (IsLeftBy ts count (node_at begun) q k vis) (IsGone ts count (within_at begun) q k vis) (λ d. left_by-gone ts count (node_at begun) q k vis (within_at begun) d (stands_at begun).value)
                (file_dated df (lines_at begun)) (right.taken h.above)) h.are_dated alike);
            newest = omega (arith, at);
            nodes = added_below (diagram_size ts) vis old.nodes new.nodes adds h.nodes right.within;
            inserts = omega (arith, some, less);
            changes = λ some gone there. fewer.changes some
                (h.changes some (or_right (nat_eq df df && nat_eq k some) (deletes_from df some left) gone)
                (sym (ap (has_line some) (alike-numbers new.lines (with_change k vis q old.lines) alike ∙ numbers-changed k vis q old.lines)) ∙ there));
            position = λ t. fewer.position;
          }

      delete-next : IsRight (lines_at begun) (node_at begun) df k vis → (e e' : FilePart) → IsChangedIn df (IsCarriedOut q out) e e' → IsHere e.node begun (out ∷ left) e.lines
          → IsHere e'.node (begun ++ edits.Delete file line ∷ []) left e'.lines
      delete-next right e e' changed h = by (nat_eq e.node df) refl
        where
          by : (b : Bool) → nat_eq e.node df ≡ b → IsHere e'.node (begun ++ edits.Delete file line ∷ []) left e'.lines
          by true is =
              let same : e.node ≡ df = grind (arith, nat_tests, is) in
              let it = changed.here is in
              subst (λ x. IsHere x (begun ++ edits.Delete file line ∷ []) left e'.lines) (sym (ap (λ (s : Contents). s.node) it.row ∙ same))
              (deleted-here e.lines e'.lines right (subst (λ x. IsHere x begun (out ∷ left) e.lines) same h) it.lines it.room (ap (λ (s : Contents). s.newest) it.row) it.nodes)
          by false is =
              let turned : nat_eq df e.node ≡ false = grind (arith, nat_tests, is) in
              subst (λ (x : FilePart). IsHere x.node (begun ++ edits.Delete file line ∷ []) left x.lines) (sym (changed.elsewhere is)) (record {
                above = h.above;
                are_dated = subst (λ ds. AreDated ts count ds e.lines.lines) (sym (delete-out begun later file line all e.node turned)) h.are_dated;
                newest = h.newest;
                nodes = h.nodes;
                inserts = h.inserts;
                changes = λ some gone there. h.changes some (or_right (nat_eq df e.node && nat_eq k some) (deletes_from e.node some left) gone) there;
                position = λ t. h.position (or_right (nat_eq df e.node) (touches e.node left) t);
              })

    abbrev pub AreHere : List Edit → List ResolvedEdit → List FilePart → Type 0
    AreHere begun left stored = AllByRecursion (λ e. IsHere e.node begun left e.lines) stored

    abbrev AreCarried : List ResolvedEdit → List FilePart → Type 0
    AreCarried ss stored = CanCarryOutAll q ss stored × ((after : List FilePart) → AreAllCarriedOut q ss stored after → AreHere es [] after)

    -- an edit can be carried out in the stored files, and so can the others after it
    carried-first : (s : ResolvedEdit) (ss : List ResolvedEdit) (begun next : List Edit) (stored : List FilePart)
        → ((e : FilePart) → IsHere e.node begun (s ∷ ss) e.lines → CanCarryOutIn q s e)
        → ((e e' : FilePart) → IsChangedIn (edited_node s) (IsCarriedOut q s) e e' → IsHere e.node begun (s ∷ ss) e.lines → IsHere e'.node next ss e'.lines)
        → AreHere begun (s ∷ ss) stored → ((mid : List FilePart) → AreHere next ss mid → AreCarried ss mid) → AreCarried (s ∷ ss) stored
    carried-first s ss begun next stored can goes here rest =
        let on : (mid : List FilePart) → AreCarriedOut q s stored mid → AreCarried ss mid =
        λ mid st. rest mid (all-pairs (IsChangedIn (edited_node s) (IsCarriedOut q s)) (λ x. IsHere x.node begun (s ∷ ss) x.lines) (λ x. IsHere x.node next ss x.lines) goes stored mid st here) in (
          (all-map (λ x. IsHere x.node begun (s ∷ ss) x.lines) (CanCarryOutIn q s) can stored here, λ mid st. (on mid st).0),
          λ after st. (on st.0 st.1).1 after st.2,
        )

    -- an edit of rows leaves files as they are
    here-behind : (e : Edit) (begun : List Edit) (ss : List ResolvedEdit) → changes_rows e ≡ true → (x : FilePart) → IsHere x.node begun ss x.lines → IsHere x.node (begun ++ e ∷ []) ss x.lines
    here-behind e begun ss is x h = record {
      above = h.above;
      are_dated = subst (λ ks. AreDated ts count (file_dated x.node ks) x.lines.lines) (sym (rows-leave begun e is)) h.are_dated;
      newest = h.newest;
      nodes = h.nodes;
      inserts = h.inserts;
      changes = h.changes;
      position = h.position;
    }

    carried-row : (e : Edit) (begun : List Edit) (v s : ResolvedEdit) (ss : List ResolvedEdit) (stored : List FilePart) → changes_rows e ≡ true → s ≡ v
        → ((node : ℕ) (file : DatedFile) → IsHere node begun (v ∷ ss) file → IsHere node begun ss file)
        → ((x : FilePart) → CanCarryOut q v x) → ((old new : FilePart) → IsCarriedOut q v old new → new ≡ old)
        → AreHere begun (s ∷ ss) stored → ((mid : List FilePart) → AreHere (begun ++ e ∷ []) ss mid → AreCarried ss mid) → AreCarried (s ∷ ss) stored
    carried-row e begun v s ss stored is own drops can same here rest =
        subst (λ x. AreCarried (x ∷ ss) stored) (sym own)
        (carried-first v ss begun (begun ++ e ∷ []) stored (λ x h there. can x)
        (λ x y changed h. subst (λ (z : FilePart). IsHere z.node (begun ++ e ∷ []) ss z.lines) (sym (left x y changed)) (here-behind e begun ss is x (drops x.node x.lines h)))
        (subst (λ x. AreHere begun (x ∷ ss) stored) own here) rest)
      where
        left : (x y : FilePart) → IsChangedIn (edited_node v) (IsCarriedOut q v) x y → y ≡ x
        left x y changed = by (nat_eq x.node (edited_node v)) refl
          where
            by : (b : Bool) → nat_eq x.node (edited_node v) ≡ b → y ≡ x
            by true there = same x y (changed.here there)
            by false there = changed.elsewhere there

    -- the edits by numbers can be carried out in the stored files, and are then
    pub carried : (later begun : List Edit) (nodes lines : ℕ) (stored : List FilePart) (ss : List ResolvedEdit) → begun ++ later ≡ es → lines ≡ lines_amid history begun → AreRight (lines_at begun) (nodes_at begun) nodes lines later ss
        → AreHere begun ss stored → CanCarryOutAll q ss stored × ((after : List FilePart) → AreAllCarriedOut q ss stored after → AreHere es [] after)
    carried [] begun nodes lines stored [] all counted right here = (tt, λ after same. subst (λ b. AreHere b [] after) (sym (append-nil begun) ∙ all) (subst (AreHere begun []) (sym same) here))
    carried [] begun nodes lines stored (s ∷ ss) all counted right here = absurd right
    carried (e ∷ later) begun nodes lines stored [] all counted right here = absurd right
    carried (edits.New kind parent name ∷ later) begun nodes lines stored (s ∷ ss) all counted right here =
        let e = edits.New kind parent name in
        carried-row e begun (resolved.New (nodes + 1) kind (node_number n parent) name (node_at begun)) s ss stored refl right.0
        (λ node file h. record { above = h.above; are_dated = h.are_dated; newest = h.newest; nodes = h.nodes; inserts = h.inserts; changes = h.changes; position = h.position }) (λ x. tt) (λ old new h. h) here
        (λ mid next. carried later (begun ++ e ∷ []) (nodes + 1) lines mid ss (append_assoc begun (e ∷ []) later ∙ all) (counted ∙ ap (λ l. m + length l) (sym (none_more m begun e refl)))
        (next-right begun e (lines_at (begun ++ e ∷ [])) (nodes + 1) lines later ss (subst (λ ks. AreRight ks (rest_nodes (nodes_at begun)) (nodes + 1) lines later ss) (sym (rows-leave begun e refl)) right.1)) next)
    carried (edits.Rename node name ∷ later) begun nodes lines stored (s ∷ ss) all counted right here =
        let e = edits.Rename node name in
        carried-row e begun (resolved.Rename (node_number n node) name (node_at begun)) s ss stored refl right.0
        (λ node file h. record { above = h.above; are_dated = h.are_dated; newest = h.newest; nodes = h.nodes; inserts = h.inserts; changes = h.changes; position = h.position }) (λ x. tt) (λ old new h. h) here
        (λ mid next. carried later (begun ++ e ∷ []) nodes lines mid ss (append_assoc begun (e ∷ []) later ∙ all) (counted ∙ ap (λ l. m + length l) (sym (none_more m begun e refl)))
        (next-right begun e (lines_at (begun ++ e ∷ [])) nodes lines later ss (subst (λ ks. AreRight ks (rest_nodes (nodes_at begun)) nodes lines later ss) (sym (rows-leave begun e refl)) right.1)) next)
    carried (edits.Move node parent ∷ later) begun nodes lines stored (s ∷ ss) all counted right here =
        let e = edits.Move node parent in
        carried-row e begun (resolved.Move (node_number n node) (node_number n parent) (node_at begun)) s ss stored refl right.0
        (λ node file h. record { above = h.above; are_dated = h.are_dated; newest = h.newest; nodes = h.nodes; inserts = h.inserts; changes = h.changes; position = h.position }) (λ x. tt) (λ old new h. h) here
        (λ mid next. carried later (begun ++ e ∷ []) nodes lines mid ss (append_assoc begun (e ∷ []) later ∙ all) (counted ∙ ap (λ l. m + length l) (sym (none_more m begun e refl)))
        (next-right begun e (lines_at (begun ++ e ∷ [])) nodes lines later ss (subst (λ ks. AreRight ks (rest_nodes (nodes_at begun)) nodes lines later ss) (sym (rows-leave begun e refl)) right.1)) next)
    carried (edits.Remove node ∷ later) begun nodes lines stored (s ∷ ss) all counted right here =
        let e = edits.Remove node in
        carried-row e begun (resolved.Remove (node_number n node) (node_at begun)) s ss stored refl right.0
        (λ node file h. record { above = h.above; are_dated = h.are_dated; newest = h.newest; nodes = h.nodes; inserts = h.inserts; changes = h.changes; position = h.position }) (λ x. tt) (λ old new h. h) here
        (λ mid next. carried later (begun ++ e ∷ []) nodes lines mid ss (append_assoc begun (e ∷ []) later ∙ all) (counted ∙ ap (λ l. m + length l) (sym (none_more m begun e refl)))
        (next-right begun e (lines_at (begun ++ e ∷ [])) nodes lines later ss (subst (λ ks. AreRight ks (rest_nodes (nodes_at begun)) nodes lines later ss) (sym (rows-leave begun e refl)) right.1)) next)
    carried (edits.Insert file after text ∷ later) begun nodes lines stored (s ∷ ss) all counted right here =
        let e = edits.Insert file after text in
        let own : s ≡ resolved.Insert (node_number n file) (line_number m after) (lines_amid history begun + 1) text (node_at begun) =
        right.0 ∙ ap (λ j. resolved.Insert (node_number n file) (line_number m after) (j + 1) text (node_at begun)) counted in
        subst (λ x. AreCarried (x ∷ ss) stored) (sym own)
        (carried-first (resolved.Insert (node_number n file) (line_number m after) (lines_amid history begun + 1) text (node_at begun)) ss begun (begun ++ e ∷ []) stored
        (can-insert begun later file after text all ss) (insert-next begun later file after text all ss) (subst (λ x. AreHere begun (x ∷ ss) stored) own here)
        (λ mid next. carried later (begun ++ e ∷ []) nodes (lines + 1) mid ss (append_assoc begun (e ∷ []) later ∙ all)
        (ap (λ j. j + 1) counted ∙ sym (one_more history begun file after text))
        (next-right begun e (lines_at (begun ++ e ∷ [])) nodes (lines + 1) later ss
        (resolved-by (IsRight (lines_at begun)) (IsRight (lines_at (begun ++ e ∷ []))) (λ d node. Unit {0}) n m
        (λ node other line vis any h. insert-right begun later file after text all node (node_number n other) (line_number m line) vis h)
        (rest_nodes (nodes_at begun)) nodes (lines + 1) later ss (all-any (rest_nodes (nodes_at begun)) later) right.1)) next))
    carried (edits.Delete file line ∷ later) begun nodes lines stored (s ∷ ss) all counted right here =
        let e = edits.Delete file line in
        subst (λ x. AreCarried (x ∷ ss) stored) (sym right.0.1)
        (carried-first (resolved.Delete (node_number n file) (line_number m line) right.0.0) ss begun (begun ++ e ∷ []) stored
        (can-delete begun later file line all right.0.0 ss) (delete-next begun later file line all right.0.0 ss right.0.2) (subst (λ x. AreHere begun (x ∷ ss) stored) right.0.1 here)
        (λ mid next. carried later (begun ++ e ∷ []) nodes lines mid ss (append_assoc begun (e ∷ []) later ∙ all)
        (counted ∙ ap (λ l. m + length l) (sym (none_more m begun e refl)))
        (next-right begun e (lines_at (begun ++ e ∷ [])) nodes lines later ss
        (resolved-by (IsRight (lines_at begun)) (IsRight (lines_at (begun ++ e ∷ []))) (λ d node. IsOther n m file line d) n m
        (λ node other which vis apart h. delete-right begun later file line all node other which vis apart h)
        (rest_nodes (nodes_at begun)) nodes lines later ss
        (all-on (IsOther n m file line) (rest_nodes (nodes_at begun)) later (deleted-once history (session_of base choice ambition sided_edits) begun file line later good all)) right.1)) next))

  -- the lines that edits name are made before them
  pub named-low : (most : ℕ) (later begun : List Edit) → begun ++ later ≡ es → lines_amid history es ≤ most → AllByRecursion (λ e. named_line m e ≤ most) later
  named-low most [] begun all few = tt
  named-low most (edits.New kind parent name ∷ later) begun all few = (omega arith, named-low most later (begun ++ edits.New kind parent name ∷ []) (append_assoc begun (edits.New kind parent name ∷ []) later ∙ all) few)
  named-low most (edits.Rename node name ∷ later) begun all few = (omega arith, named-low most later (begun ++ edits.Rename node name ∷ []) (append_assoc begun (edits.Rename node name ∷ []) later ∙ all) few)
  named-low most (edits.Move node parent ∷ later) begun all few = (omega arith, named-low most later (begun ++ edits.Move node parent ∷ []) (append_assoc begun (edits.Move node parent ∷ []) later ∙ all) few)
  named-low most (edits.Remove node ∷ later) begun all few = (omega arith, named-low most later (begun ++ edits.Remove node ∷ []) (append_assoc begun (edits.Remove node ∷ []) later ∙ all) few)
  named-low most (edits.Insert file after text ∷ later) begun all few =
      let i : Insertion = record { begun = begun; file = file; after = after; text = text; later = later } in
      let known = anchor-known history (held_at begun) i (insert-stands begun later file after text all) (anchored begun later file after text all) in
      let below = begun-few begun (edits.Insert file after text ∷ later) all in
      (omega (arith, known, below, few), named-low most later (begun ++ edits.Insert file after text ∷ []) (append_assoc begun (edits.Insert file after text ∷ []) later ∙ all) few)
  named-low most (edits.Delete file line ∷ later) begun all few =
      let known : line_number m line ≤ lines_amid history begun =
      line-below history each_within begun (edits.Delete file line ∷ later) (node_number n file) (line_number m line)
      (ap (λ ks. has_line (line_number m line) (file_order (node_number n file) ks)) (delete-before begun later file line all) ∙ delete-there begun later file line all) in
      let below = begun-few begun (edits.Delete file line ∷ later) all in
      (omega (arith, known, below, few), named-low most later (begun ++ edits.Delete file line ∷ []) (append_assoc begun (edits.Delete file line ∷ []) later ∙ all) few)

  row-files : (e : Edit) (begun : List Edit) → changes_rows e ≡ true → (file_of_line : List ℕ) → AreFilesOfLines (lines_at begun) 0 file_of_line → AreFilesOfLines (lines_at (begun ++ e ∷ [])) 0 file_of_line
  row-files e begun is file_of_line h = subst (λ ks. AreFilesOfLines ks 0 file_of_line) (sym (rows-leave begun e is)) h

  -- the files of lines are noted when all edits are done
  pub line-files-along : (later begun : List Edit) (file_of_line : List ℕ) → begun ++ later ≡ es → length file_of_line ≡ lines_amid history begun → AreFilesOfLines (lines_at begun) 0 file_of_line
      → AreFilesOfLines (lines_at es) 0 (file_of_line ++ new_file_of_line n later)
  line-files-along [] begun file_of_line all counted at_its_file =
      subst (λ b. AreFilesOfLines (lines_at b) 0 (file_of_line ++ [])) (sym (append-nil begun) ∙ all) (subst (AreFilesOfLines (lines_at begun) 0) (sym (append-nil file_of_line)) at_its_file)
  line-files-along (edits.New kind parent name ∷ later) begun file_of_line all counted at_its_file =
      let e = edits.New kind parent name in
      line-files-along later (begun ++ e ∷ []) file_of_line (append_assoc begun (e ∷ []) later ∙ all) (counted ∙ ap (λ l. m + length l) (sym (none_more m begun e refl))) (row-files e begun refl file_of_line at_its_file)
  line-files-along (edits.Rename node name ∷ later) begun file_of_line all counted at_its_file =
      let e = edits.Rename node name in
      line-files-along later (begun ++ e ∷ []) file_of_line (append_assoc begun (e ∷ []) later ∙ all) (counted ∙ ap (λ l. m + length l) (sym (none_more m begun e refl))) (row-files e begun refl file_of_line at_its_file)
  line-files-along (edits.Move node parent ∷ later) begun file_of_line all counted at_its_file =
      let e = edits.Move node parent in
      line-files-along later (begun ++ e ∷ []) file_of_line (append_assoc begun (e ∷ []) later ∙ all) (counted ∙ ap (λ l. m + length l) (sym (none_more m begun e refl))) (row-files e begun refl file_of_line at_its_file)
  line-files-along (edits.Remove node ∷ later) begun file_of_line all counted at_its_file =
      let e = edits.Remove node in
      line-files-along later (begun ++ e ∷ []) file_of_line (append_assoc begun (e ∷ []) later ∙ all) (counted ∙ ap (λ l. m + length l) (sym (none_more m begun e refl))) (row-files e begun refl file_of_line at_its_file)
  line-files-along (edits.Delete file line ∷ later) begun file_of_line all counted at_its_file =
      let e = edits.Delete file line in
      line-files-along later (begun ++ e ∷ []) file_of_line (append_assoc begun (e ∷ []) later ∙ all) (counted ∙ ap (λ l. m + length l) (sym (none_more m begun e refl)))
      (files_of_lines-stay (lines_at begun) (lines_at (begun ++ e ∷ [])) (delete-stays begun later file line all) 0 file_of_line at_its_file)
  line-files-along (edits.Insert file after text ∷ later) begun file_of_line all counted at_its_file =
      let e = edits.Insert file after text in
      subst (AreFilesOfLines (lines_at es) 0) (append_assoc file_of_line (node_number n file ∷ []) (new_file_of_line n later))
      (line-files-along later (begun ++ e ∷ []) (file_of_line ++ node_number n file ∷ []) (append_assoc begun (e ∷ []) later ∙ all)
      (let one = length_push file_of_line (node_number n file) in let more = one_more history begun file after text in omega (arith, counted, one, more))
      (file_of_line-more (lines_at (begun ++ e ∷ [])) (node_number n file) 0 file_of_line
      (files_of_lines-stay (lines_at begun) (lines_at (begun ++ e ∷ [])) (insert-stays begun later file after text all) 0 file_of_line at_its_file)
      (subst (λ k. is_kept_anchor (node_number n file) k (lines_at (begun ++ e ∷ [])) ≡ true) (let one : lines_amid history begun + 1 ≡ 0 + length file_of_line + 1 = omega (arith, counted) in one)
      (insert-new begun later file after text all))))
