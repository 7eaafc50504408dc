-- What a view refuses is what each variant that it shows refuses.
use Rattle.std.proofs.Common.{◌≡◌, ℕ, zero, suc, Bool, true, false, cond, ◌&&◌, ◌||◌, not, nat_eq, List, [], ◌∷◌, length, map, Option, Some, None, is_some, option_map, refl, sym, ap, subst, ◌∙◌, arith}
use Rattle.std.specs.Option.{option_map_or}
use Rattle.std.specs.List.{list_any, AllByRecursion}
use Rattle.std.proofs.lemmas.Bool.{and_parts}
use Rattle.std.proofs.lemmas.Bool.Decides.{nat_tests}
use Rattle.std.proofs.lemmas.List.{length-map}
use Rattle.cov_base.proofs.CallerLemmas.{any-filter, any-map}
use Rattle.cov_base.specs.declared.number.Kind.{Kind}
use Rattle.cov_base.specs.declared.number.Kind.TheVariants as kinds
use Rattle.cov_base.specs.declared.number.NodeRef.{NodeRef}
use Rattle.cov_base.specs.declared.number.NodeRef.TheVariants as nodes
use Rattle.cov_base.specs.declared.number.LineRef.{LineRef}
use Rattle.cov_base.specs.Addresses.{line_of}
use Rattle.cov_base.specs.Faults.{from_parent}
use Rattle.cov_base.specs.Rows.{Row, row_of}
use Rattle.cov_edit.specs.declared.edit.Edit.{Edit}
use Rattle.cov_edit.specs.declared.edit.Edit.TheVariants as edits
use Rattle.cov_edit.specs.Numbering.{Numbers, node_number, line_number}
use Rattle.cov_edit.specs.Variant.{Variant, Line, lines_of}
use Rattle.cov_view.specs.References.{is_root, is_head, is_dir_kind, same_node, same_line, is_known_node, is_known_line, is_made_node, is_made_line}
use Rattle.cov_view.specs.Refusals.{when, first_of, shows_node, is_dir, shows_line, has_name, has_name_beside, has_name_of, is_within, is_parent, refusal}
use Rattle.cov_view.specs.Lines.{is_among}
use Rattle.cov_view.specs.Seen.{Seen, row_at, kind_in, kind_is_dir, is_there, has_child, has_child_beside, has_child_of, lies_within, has_children, has_line_in, new_fault, line_fault, seen_fault}
use Rattle.cov_view.specs.Views.{row_by_number, line_by_number, by_number, ShowsLines, IsMade, Shows, FaultBy}
use Rattle.cov_view.specs.declared.fault.EditFault.{EditFault}
use Rattle.cov_view.specs.declared.fault.EditFault.TheVariants as faults
use Rattle.cov_view.specs.declared.line.ViewLine.{ViewLine}
use Rattle.cov_view.specs.declared.row.ViewRow.{ViewRow}
use Rattle.cov_view.proofs.Naming.{there, there-known, dir, child-known, same-node, same-line, other-line, node-same, row-known, made-known}

-- the row that is found has what every row has
pub found : (P : ViewRow → Type 0) (rows : List ViewRow) (node : NodeRef) (r : ViewRow) → AllByRecursion P rows → row_at rows node ≡ Some r → P r × (same_node r.node node ≡ true)
found P [] node r all e = absurd (cc)
found P (q ∷ rows) node r all e = at (same_node q.node node) refl e (λ k. found P rows node r all.1 k)
  where
    at : (b : Bool) → same_node q.node node ≡ b → cond b (Some q) (row_at rows node) ≡ Some r → (row_at rows node ≡ Some r → P r × (same_node r.node node ≡ true)) → P r × (same_node r.node node ≡ true)
    at true t k rest = let same : q ≡ r = cc in subst (λ (x : ViewRow). P x × (same_node x.node node ≡ true)) same (all.0, t)
    at false t k rest = rest k

-- the root and what is there is made
pub there-made : (ns : Numbers) (s : Seen) (node : NodeRef) → AllByRecursion (IsMade ns s) s.rows → is_some (kind_in s.rows node) ≡ true → is_made_node ns.nodes s.nodes_made node ≡ true
there-made ns s node made h = at (is_root node) refl h
  where
    of_root : (n : NodeRef) → is_root n ≡ true → is_made_node ns.nodes s.nodes_made n ≡ true
    of_root (nodes.Old zero) e = grind (arith, nat_tests)
    of_root (nodes.Old (suc x)) e = absurd (cc)
    of_root (nodes.New i) e = absurd (cc)

    of_row : (o : Option ViewRow) → row_at s.rows node ≡ o → is_some (option_map (λ (r : ViewRow). r.kind) o) ≡ true → is_made_node ns.nodes s.nodes_made node ≡ true
    of_row None e k = absurd (cc)
    of_row (Some r) e k =
        let own = found (IsMade ns s) s.rows node r made e in
        subst (λ (n : NodeRef). is_made_node ns.nodes s.nodes_made n ≡ true) (node-same r.node node own.1)
        (and_parts (is_made_node ns.nodes s.nodes_made r.node) (is_made_node ns.nodes s.nodes_made r.parent) own.0.0).0

    at : (b : Bool) → is_root node ≡ b → is_some (cond b (Some kinds.Dir) (option_map (λ (r : ViewRow). r.kind) (row_at s.rows node))) ≡ true → is_made_node ns.nodes s.nodes_made node ≡ true
    at true e k = of_root node e
    at false e k = of_row (row_at s.rows node) refl k

module _ (n made : ℕ) (line : LineRef) where
  pub among-known : (ls : List ViewLine) → is_known_line n line ≡ true → AllByRecursion (λ l. is_made_line n made l.line ≡ true) ls
      → list_any (λ l. nat_eq (line_number n l.line) (line_number n line)) ls ≡ is_among line ls
  among-known [] known all = refl
  among-known (l ∷ ls) known all =
      ap (λ b. b || list_any (λ m. nat_eq (line_number n m.line) (line_number n line)) ls) (sym (same-line n made l.line line all.0 known))
      ∙ ap (λ b. same_line l.line line || b) (among-known ls known all.1)

  among-unknown : (ls : List ViewLine) → is_known_line n line ≡ false → AllByRecursion (λ l. is_made_line n made l.line ≡ true) ls → is_among line ls ≡ false
  among-unknown [] unknown all = refl
  among-unknown (l ∷ ls) unknown all =
      ap (λ b. b || is_among line ls) (other-line n made l.line line all.0 unknown) ∙ among-unknown ls unknown all.1

  -- whether lines have one, by numbers and by references
  pub among : (ls : List ViewLine) → AllByRecursion (λ l. is_made_line n made l.line ≡ true) ls
      → (is_known_line n line && list_any (λ l. nat_eq (line_number n l.line) (line_number n line)) ls) ≡ is_among line ls
  among ls all = at (is_known_line n line) refl
    where
      at : (b : Bool) → is_known_line n line ≡ b → (b && list_any (λ l. nat_eq (line_number n l.line) (line_number n line)) ls) ≡ is_among line ls
      at true known = among-known ls known all
      at false unknown = sym (among-unknown ls unknown all)

-- the row of a file that is there
pub file_row : (rows : List ViewRow) (file : NodeRef) → kind_in rows file ≡ Some kinds.File → (r : ViewRow) × (row_at rows file ≡ Some r) × (r.kind ≡ kinds.File)
file_row rows file h = at (is_root file) h
  where
    of_row : (o : Option ViewRow) → option_map (λ (r : ViewRow). r.kind) o ≡ Some kinds.File → (r : ViewRow) × (o ≡ Some r) × (r.kind ≡ kinds.File)
    of_row None k = absurd (cc)
    of_row (Some r) k = (r, refl, (let e : r.kind ≡ kinds.File = cc in e))

    at : (b : Bool) → cond b (Some kinds.Dir) (option_map (λ (r : ViewRow). r.kind) (row_at rows file)) ≡ Some kinds.File → (r : ViewRow) × (row_at rows file ≡ Some r) × (r.kind ≡ kinds.File)
    at true k = absurd (let e : kinds.Dir ≡ kinds.File = cc in cc)
    at false k = of_row (row_at rows file) k

module _ (ns : Numbers) (table : List (List ℕ)) (s : Seen) (v : Variant) (shows : Shows ns table s v) where
  -- the lines of a file that is there, by number
  pub shown_lines : (file : NodeRef) (r : ViewRow) → row_at s.rows file ≡ Some r → r.kind ≡ kinds.File
      → map by_number (lines_of v (node_number ns.nodes file)) ≡ map (line_by_number ns) r.lines
  shown_lines file r at kind =
      let own = found (ShowsLines ns v) s.rows file r shows.lines at in
      ap (λ x. map by_number (lines_of v (node_number ns.nodes x))) (sym (node-same r.node file own.1)) ∙ own.0 (ap is_dir_kind kind)

  pub made_lines : (file : NodeRef) (r : ViewRow) → row_at s.rows file ≡ Some r → AllByRecursion (λ l. is_made_line (length ns.addresses) s.lines_made l.line ≡ true) r.lines
  made_lines file r at = (found (IsMade ns s) s.rows file r shows.made at).0.1

  pub line-there : (file : NodeRef) (after : LineRef) → kind_in s.rows file ≡ Some kinds.File
      → shows_line ns v (node_number ns.nodes file) after ≡ has_line_in s.rows file after
  line-there file after h =
      let r = file_row s.rows file h in
      let number = line_number (length ns.addresses) after in
      ap (λ b. is_known_line (length ns.addresses) after && b)
      (sym (any-filter (λ (l : Line). nat_eq l.file (node_number ns.nodes file)) (λ l. nat_eq (line_of l.address) number) v.lines)
      ∙ sym (any-map (λ p. nat_eq p.0 number) by_number (lines_of v (node_number ns.nodes file)))
      ∙ ap (list_any (λ p. nat_eq p.0 number)) (shown_lines file r.0 r.1 r.2)
      ∙ any-map (λ p. nat_eq p.0 number) (line_by_number ns) r.0.lines)
      ∙ among (length ns.addresses) s.lines_made after r.0.lines (made_lines file r.0 r.1)
      ∙ sym (ap (λ o. option_map_or (λ (q : ViewRow). is_among after q.lines) o false) r.1)

  refuse_new : (k : Option Kind) (here d taken taken' : Bool) → here ≡ is_some k → (is_some k ≡ true → d ≡ kind_is_dir k) → (is_some k ≡ true → taken ≡ taken')
      → first_of (when (not here) faults.NoSuchNode ∷ when (not d) faults.NotDirectory ∷ when taken faults.NameTaken ∷ []) ≡ new_fault k taken'
  refuse_new None here d taken taken' e f g = ap (λ b. first_of (when (not b) faults.NoSuchNode ∷ when (not d) faults.NotDirectory ∷ when taken faults.NameTaken ∷ [])) e
  refuse_new (Some kinds.File) here d taken taken' e f g =
      ap (λ b. first_of (when (not b) faults.NoSuchNode ∷ when (not d) faults.NotDirectory ∷ when taken faults.NameTaken ∷ [])) e
      ∙ ap (λ b. first_of (when (not b) faults.NotDirectory ∷ when taken faults.NameTaken ∷ [])) (f refl)
  refuse_new (Some kinds.Dir) here d taken taken' e f g =
      ap (λ b. first_of (when (not b) faults.NoSuchNode ∷ when (not d) faults.NotDirectory ∷ when taken faults.NameTaken ∷ [])) e
      ∙ ap (λ b. first_of (when (not b) faults.NotDirectory ∷ when taken faults.NameTaken ∷ [])) (f refl)
      ∙ last taken ∙ ap (λ b. cond b (Some faults.NameTaken) None) (g refl)
    where
      last : (b : Bool) → first_of (when b faults.NameTaken ∷ []) ≡ cond b (Some faults.NameTaken) None
      last true = refl
      last false = refl

  refuse_line : (k : Option Kind) (here d anchor anchor' : Bool) → here ≡ is_some k → (is_some k ≡ true → d ≡ kind_is_dir k) → (k ≡ Some kinds.File → anchor ≡ anchor')
      → first_of (when (not here) faults.NoSuchNode ∷ when d faults.NotFile ∷ when (not anchor) faults.NoSuchLine ∷ []) ≡ line_fault k anchor'
  refuse_line None here d anchor anchor' e f g = ap (λ b. first_of (when (not b) faults.NoSuchNode ∷ when d faults.NotFile ∷ when (not anchor) faults.NoSuchLine ∷ [])) e
  refuse_line (Some kinds.Dir) here d anchor anchor' e f g =
      ap (λ b. first_of (when (not b) faults.NoSuchNode ∷ when d faults.NotFile ∷ when (not anchor) faults.NoSuchLine ∷ [])) e
      ∙ ap (λ b. first_of (when b faults.NotFile ∷ when (not anchor) faults.NoSuchLine ∷ [])) (f refl)
  refuse_line (Some kinds.File) here d anchor anchor' e f g =
      ap (λ b. first_of (when (not b) faults.NoSuchNode ∷ when d faults.NotFile ∷ when (not anchor) faults.NoSuchLine ∷ [])) e
      ∙ ap (λ b. first_of (when b faults.NotFile ∷ when (not anchor) faults.NoSuchLine ∷ [])) (f refl)
      ∙ last anchor ∙ ap (λ b. cond b None (Some faults.NoSuchLine)) (g refl)
    where
      last : (b : Bool) → first_of (when (not b) faults.NoSuchLine ∷ []) ≡ cond b None (Some faults.NoSuchLine)
      last true = refl
      last false = refl

  pub is_dir-rows : (node : NodeRef) → is_dir v.rows (node_number ns.nodes node) ≡ is_dir (map (row_by_number ns) s.rows) (node_number ns.nodes node)
  is_dir-rows node = ap (λ (rows : List Row). is_dir rows (node_number ns.nodes node)) shows.rows

  pub here : (node : NodeRef) → shows_node ns v node ≡ is_some (kind_in s.rows node)
  here node = ap (λ (rows : List Row). shows_node ns (record { rows = rows; lines = v.lines }) node) shows.rows ∙ there ns s s.rows shows.made node

  -- tests that refuse in turn, one by one
  refuses-as : (b c : Bool) (f : EditFault) (os : List (Option EditFault)) (o : Option EditFault) → b ≡ c → (c ≡ false → first_of os ≡ o) → first_of (when b f ∷ os) ≡ cond c (Some f) o
  refuses-as true true f os o e rest = refl
  refuses-as false false f os o e rest = rest refl
  refuses-as true false f os o e rest = absurd (cc)
  refuses-as false true f os o e rest = absurd (cc)

  isn't_not : (b : Bool) → not b ≡ false → b ≡ true
  isn't_not true h = refl
  isn't_not false h = absurd (cc)

  row-made : (node : NodeRef) (r : ViewRow) → row_at s.rows node ≡ Some r → is_known_node ns.nodes r.parent ≡ true
  row-made node r at =
      let own = found (IsMade ns s) s.rows node r shows.made at in
      made-known ns.nodes s.nodes_made r.parent (and_parts (is_made_node ns.nodes s.nodes_made r.node) (is_made_node ns.nodes s.nodes_made r.parent) own.0.0).1

  -- the row of a node that is there
  row-is : (node : NodeRef) → is_there s.rows node ≡ true → row_of v.rows (node_number ns.nodes node) ≡ option_map (row_by_number ns) (row_at s.rows node)
  row-is node there =
      ap (λ (rows : List Row). row_of rows (node_number ns.nodes node)) shows.rows
      ∙ sym (row-known ns s node s.rows (there-known ns s s.rows shows.made node there) shows.made)

  name-known : (dir : NodeRef) (name : List ℕ) → is_known_node ns.nodes dir ≡ true → has_name v.rows (node_number ns.nodes dir) name ≡ has_child s.rows dir name
  name-known dir name known = ap (λ (rows : List Row). has_name rows (node_number ns.nodes dir) name) shows.rows ∙ child-known ns s dir name s.rows known shows.made

  name-beside : (node : NodeRef) (name : List ℕ) → is_there s.rows node ≡ true
      → has_name_beside v.rows (row_of v.rows (node_number ns.nodes node)) name ≡ has_child_beside s.rows (row_at s.rows node) name
  name-beside node name there = ap (λ o. has_name_beside v.rows o name) (row-is node there) ∙ at (row_at s.rows node) refl
    where
      at : (o : Option ViewRow) → row_at s.rows node ≡ o → has_name_beside v.rows (option_map (row_by_number ns) o) name ≡ has_child_beside s.rows o name
      at None e = refl
      at (Some r) e = name-known r.parent name (row-made node r e)

  name-of : (node parent : NodeRef) → is_there s.rows node ≡ true → is_there s.rows parent ≡ true
      → has_name_of v.rows (node_number ns.nodes parent) (row_of v.rows (node_number ns.nodes node)) ≡ has_child_of s.rows parent (row_at s.rows node)
  name-of node parent there dir = ap (has_name_of v.rows (node_number ns.nodes parent)) (row-is node there) ∙ at (row_at s.rows node)
    where
      at : (o : Option ViewRow) → has_name_of v.rows (node_number ns.nodes parent) (option_map (row_by_number ns) o) ≡ has_child_of s.rows parent o
      at None = refl
      at (Some r) = name-known parent r.name (there-known ns s s.rows shows.made parent dir)

  within-steps : (steps : ℕ) (top node : NodeRef) → is_known_node ns.nodes top ≡ true → is_made_node ns.nodes s.nodes_made node ≡ true
      → is_within (map (row_by_number ns) s.rows) steps (node_number ns.nodes top) (node_number ns.nodes node) ≡ lies_within s.rows steps top node
  within-steps zero top node known made = sym (same-node ns.nodes s.nodes_made node top made known)
  within-steps (suc steps) top node known made =
      ap (λ b. b || from_parent (row_of (map (row_by_number ns) s.rows) (node_number ns.nodes node)) (is_within (map (row_by_number ns) s.rows) steps (node_number ns.nodes top)))
      (sym (same-node ns.nodes s.nodes_made node top made known))
      ∙ ap (λ o. same_node node top || from_parent o (is_within (map (row_by_number ns) s.rows) steps (node_number ns.nodes top)))
      (sym (row-known ns s node s.rows (made-known ns.nodes s.nodes_made node made) shows.made))
      ∙ ap (λ b. same_node node top || b) (at (row_at s.rows node) refl (λ parent h. within-steps steps top parent known h))
    where
      at : (o : Option ViewRow) → row_at s.rows node ≡ o
          → ((parent : NodeRef) → is_made_node ns.nodes s.nodes_made parent ≡ true → is_within (map (row_by_number ns) s.rows) steps (node_number ns.nodes top) (node_number ns.nodes parent) ≡ lies_within s.rows steps top parent)
          → from_parent (option_map (row_by_number ns) o) (is_within (map (row_by_number ns) s.rows) steps (node_number ns.nodes top)) ≡ option_map_or (λ (r : ViewRow). lies_within s.rows steps top r.parent) o false
      at None e rest = refl
      at (Some r) e rest =
          let own = found (IsMade ns s) s.rows node r shows.made e in
          rest r.parent (and_parts (is_made_node ns.nodes s.nodes_made r.node) (is_made_node ns.nodes s.nodes_made r.parent) own.0.0).1

  -- a node lies below another in the view where it does in the variant
  within : (top node : NodeRef) → is_there s.rows top ≡ true → is_there s.rows node ≡ true
      → is_within v.rows (length v.rows) (node_number ns.nodes top) (node_number ns.nodes node) ≡ lies_within s.rows (length s.rows) top node
  within top node there below =
      ap (λ (rows : List Row). is_within rows (length rows) (node_number ns.nodes top) (node_number ns.nodes node)) shows.rows
      ∙ ap (λ n. is_within (map (row_by_number ns) s.rows) n (node_number ns.nodes top) (node_number ns.nodes node)) (length-map s.rows (row_by_number ns))
      ∙ within-steps (length s.rows) top node (there-known ns s s.rows shows.made top there) (there-made ns s node shows.made below)

  children-known : (node : NodeRef) → is_known_node ns.nodes node ≡ true → (rows : List ViewRow) → AllByRecursion (IsMade ns s) rows
      → is_parent (map (row_by_number ns) rows) (node_number ns.nodes node) ≡ has_children rows node
  children-known node known [] made = refl
  children-known node known (r ∷ rows) made =
      let own = (and_parts (is_made_node ns.nodes s.nodes_made r.node) (is_made_node ns.nodes s.nodes_made r.parent) made.0.0).1 in
      ap (λ b. b || is_parent (map (row_by_number ns) rows) (node_number ns.nodes node)) (sym (same-node ns.nodes s.nodes_made r.parent node own known))
      ∙ ap (λ b. same_node r.parent node || b) (children-known node known rows made.1)

  -- a view refuses an edit where the variant does, for the same reason
  pub refused-as : (e : Edit) → refusal ns v e ≡ seen_fault s.rows e
  refused-as (edits.New kind parent name) =
      refuse_new (kind_in s.rows parent) (shows_node ns v parent) (is_dir v.rows (node_number ns.nodes parent)) (has_name v.rows (node_number ns.nodes parent) name) (has_child s.rows parent name)
      (here parent)
      (λ h. is_dir-rows parent ∙ dir ns s s.rows shows.made parent h)
      (λ h. ap (λ (rows : List Row). has_name rows (node_number ns.nodes parent) name) shows.rows ∙ child-known ns s parent name s.rows (there-known ns s s.rows shows.made parent h) shows.made)
  refused-as (edits.Insert file after text) =
      refuse_line (kind_in s.rows file) (shows_node ns v file) (is_dir v.rows (node_number ns.nodes file)) (is_head after || shows_line ns v (node_number ns.nodes file) after) (is_head after || has_line_in s.rows file after)
      (here file)
      (λ h. is_dir-rows file ∙ dir ns s s.rows shows.made file h)
      (λ h. ap (λ b. is_head after || b) (line-there file after h))
  refused-as (edits.Delete file line) =
      ap (λ b. first_of (when (not (shows_node ns v file)) faults.NoSuchNode ∷ when (is_dir v.rows (node_number ns.nodes file)) faults.NotFile ∷ when b faults.NoSuchLine ∷ [])) (no_line (is_head line))
      ∙ refuse_line (kind_in s.rows file) (shows_node ns v file) (is_dir v.rows (node_number ns.nodes file)) (not (is_head line) && shows_line ns v (node_number ns.nodes file) line) (not (is_head line) && has_line_in s.rows file line)
      (here file)
      (λ h. is_dir-rows file ∙ dir ns s s.rows shows.made file h)
      (λ h. ap (λ b. not (is_head line) && b) (line-there file line h))
    where
      no_line : (head : Bool) → (head || not (shows_line ns v (node_number ns.nodes file) line)) ≡ not (not head && shows_line ns v (node_number ns.nodes file) line)
      no_line true = refl
      no_line false = refl
  refused-as (edits.Rename node name) =
      refuses-as (is_root node) (is_root node) faults.IsRoot _ _ refl
      (λ root. refuses-as (not (shows_node ns v node)) (not (is_there s.rows node)) faults.NoSuchNode _ _ (ap not (here node))
      (λ there. refuses-as (has_name_beside v.rows (row_of v.rows (node_number ns.nodes node)) name) (has_child_beside s.rows (row_at s.rows node) name) faults.NameTaken [] None
      (name-beside node name (isn't_not (is_there s.rows node) there)) (λ free. refl)))
  refused-as (edits.Move node parent) =
      refuses-as (is_root node) (is_root node) faults.IsRoot _ _ refl
      (λ root. refuses-as (not (shows_node ns v node)) (not (is_there s.rows node)) faults.NoSuchNode _ _ (ap not (here node))
      (λ there. refuses-as (not (shows_node ns v parent)) (not (is_there s.rows parent)) faults.NoSuchNode _ _ (ap not (here parent))
      (λ below.
      let node_there = isn't_not (is_there s.rows node) there in
      let parent_there = isn't_not (is_there s.rows parent) below in
      refuses-as (not (is_dir v.rows (node_number ns.nodes parent))) (not (kind_is_dir (kind_in s.rows parent))) faults.NotDirectory _ _
      (ap not (is_dir-rows parent ∙ dir ns s s.rows shows.made parent parent_there))
      (λ a_dir. refuses-as (is_within v.rows (length v.rows) (node_number ns.nodes node) (node_number ns.nodes parent)) (lies_within s.rows (length s.rows) node parent) faults.IntoItself _ _
      (within node parent node_there parent_there)
      (λ apart. refuses-as (has_name_of v.rows (node_number ns.nodes parent) (row_of v.rows (node_number ns.nodes node))) (has_child_of s.rows parent (row_at s.rows node)) faults.NameTaken [] None
      (name-of node parent node_there parent_there) (λ free. refl))))))
  refused-as (edits.Remove node) =
      refuses-as (is_root node) (is_root node) faults.IsRoot _ _ refl
      (λ root. refuses-as (not (shows_node ns v node)) (not (is_there s.rows node)) faults.NoSuchNode _ _ (ap not (here node))
      (λ there. refuses-as (is_parent v.rows (node_number ns.nodes node)) (has_children s.rows node) faults.NotEmpty [] None
      (ap (λ (rows : List Row). is_parent rows (node_number ns.nodes node)) shows.rows
      ∙ children-known node (there-known ns s s.rows shows.made node (isn't_not (is_there s.rows node) there)) s.rows shows.made)
      (λ empty. refl)))

-- a fault that is the refusal, or want of memory
pub fault-by : (f : EditFault) (refused : Option EditFault) → refused ≡ Some f → FaultBy f refused
fault-by faults.Memory refused h = tt
fault-by f refused h = h
