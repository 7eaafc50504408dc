-- Which nodes a replay names.
use Rattle.std.proofs.Common.{◌≡◌, ℕ, ◌+◌, ◌≤◌, Bool, true, false, cond, ◌&&◌, ◌||◌, not, nat_eq, nat_lt, nat_le, List, [], ◌∷◌, ◌++◌, length, map, take, drop, append_assoc, append-nil, Option, Some, None, refl, sym, ap, subst, ◌∙◌, arith}
use Rattle.std.specs.List.{fold, list_any, AllByRecursion}
use Rattle.std.proofs.lemmas.List.{take-append-drop}
use Rattle.std.proofs.lemmas.Bool.{and_parts}
use Rattle.std.proofs.lemmas.Bool.Decides.{nat_tests}
use Rattle.cov_base.specs.Addresses.{address_in}
use Rattle.cov_base.specs.Rows.{Row, with_name, with_parent, is_present}
use Rattle.cov_base.specs.declared.number.NodeRef.{NodeRef}
use Rattle.cov_base.specs.declared.number.NodeRef.TheVariants as nodes
use Rattle.cov_base.proofs.CallerLemmas.{all-map, all-append, all-filter, all-placed, or_second}
use Rattle.cov_expr.specs.Formula.{Formula, value}
use Rattle.cov_edit.specs.declared.edit.Edit.{Edit}
use Rattle.cov_edit.specs.declared.edit.Edit.TheVariants as edits
use Rattle.cov_edit.specs.declared.command.Command.{Command}
use Rattle.cov_edit.specs.declared.command.Command.TheVariants as commands
use Rattle.cov_edit.specs.History.{option_count, first_false_in}
use Rattle.cov_edit.specs.Numbering.{Numbers, node_number, line_number, node_count_after, line_count_after, nodes_made, no_numbers, numbers_after, numbers_from, numbers_of, numbered_edit, numbered_from}
use Rattle.cov_edit.specs.Variant.{Variant, Line, bare, line_address, is_line, edited}
use Rattle.cov_edit.specs.Replay.{applying, first_within, rest_within, changes_within, commit_changes, changes_from, applied, replay}
use Rattle.cov_edit.specs.Sides.{unsided, conditions, reach_within}
use Rattle.cov_edit.specs.declared.sided.Sided.{Sided}
use Rattle.cov_edit.proofs.CallerLemmas.{fold-append, node_count_after-is, numbers_from-append, replay-append, replay-commit}
use Rattle.cov_view.proofs.CallerLemmas.{new-accepted, insert-accepted, delete-accepted, rename-accepted, move-accepted, remove-accepted, none-first, none-behind}
use Rattle.cov_view.specs.References.{is_known_node, is_made_node}
use Rattle.cov_view.specs.Refusals.{when, refusal, refused_from, first_refused}
use Rattle.cov_view.specs.declared.fault.EditFault.{EditFault}
use Rattle.cov_history.specs.declared.refusal.Refusal.{Refusal}
use Rattle.cov_history.specs.declared.refusal.Refusal.TheVariants as refusals
use Rattle.cov_history.specs.BadChoices.{unsound_refusal}
use Rattle.cov_history.specs.Naming.{NamesOnlyMade}
use Rattle.cov_history.specs.Overtaking.{overtaken}
use Rattle.cov_history.specs.Verdict.{verdict, when_full, size_refusals, as_invalid, as_bad_record, as_overtaken, as_outside, first_outside, has_no_edits, IsLegalFrom, IsLegal}
use Rattle.cov_history.proofs.ChangedRows.{renamed-field, moved-field}
use Rattle.cov_history.proofs.Sessions.{edit-accepted, rest-accepted}
use Rattle.cov_history.proofs.Standing.{all-mapped}

abbrev pub the_node : Row → ℕ
the_node r = r.node

abbrev the_parent : Row → ℕ
the_parent r = r.parent

abbrev the_file : Line → ℕ
the_file l = l.file

-- numbers of items up to a count
abbrev pub AreUpTo : {X : Type 0} → (X → ℕ) → ℕ → List X → Type 0
AreUpTo number count xs = AllByRecursion (λ x. number x ≤ count) xs

pub further : {X : Type 0} (number : X → ℕ) (count more : ℕ) (xs : List X) → count ≤ more → AreUpTo number count xs → AreUpTo number more xs
further number count more xs le h = all-map (λ x. number x ≤ count) (λ x. number x ≤ more) (λ x below. omega (arith, below, le)) xs h

one-more : {X : Type 0} (number : X → ℕ) (count : ℕ) (xs : List X) (x : X) → number x ≤ count + 1 → AreUpTo number count xs → AreUpTo number (count + 1) (xs ++ x ∷ [])
one-more number count xs x new h = all-append (λ y. number y ≤ count + 1) xs (x ∷ []) (further number count (count + 1) xs (omega arith) h) (new, tt)

pub either-way : (P : Variant → Type 0) (b : Bool) (v w : Variant) → P v → P w → P (cond b v w)
either-way P true v w p q = p
either-way P false v w p q = q

-- the nodes that an edit names are each one of the first n, the root, or made by the edits before it, which made so many
abbrev pub IsNamed : ℕ → ℕ → Edit → Type 0
IsNamed n made (edits.New kind parent name) = is_made_node n made parent ≡ true
IsNamed n made (edits.Insert file after text) = is_made_node n made file ≡ true
IsNamed n made (edits.Delete file line) = is_made_node n made file ≡ true
IsNamed n made (edits.Rename node name) = is_made_node n made node ≡ true
IsNamed n made (edits.Move node parent) = (is_made_node n made node ≡ true) × (is_made_node n made parent ≡ true)
IsNamed n made (edits.Remove node) = is_made_node n made node ≡ true

-- so are those that each edit names, in turn
abbrev pub AreNamed : ℕ → ℕ → List Edit → Type 0
AreNamed n made [] = Unit {0}
AreNamed n made (e ∷ es) = IsNamed n made e × AreNamed n (node_count_after made e) es

-- what the rows of a variant and the verdict tell of references
present-below : (count node : ℕ) (rows : List Row) → AreUpTo the_node count rows → list_any (λ r. nat_eq r.node node) rows ≡ true → node ≤ count
present-below count node [] h there = absurd (cc)
present-below count node (r ∷ rows) h there = at (nat_eq r.node node) refl (λ k. present-below count node rows h.1 k) there
  where
    at : (b : Bool) → nat_eq r.node node ≡ b → (list_any (λ s. nat_eq s.node node) rows ≡ true → node ≤ count) → (b || list_any (λ s. nat_eq s.node node) rows) ≡ true → node ≤ count
    at true e rest k =
        let own : r.node ≤ count = h.0 in
        let same : r.node ≡ node = grind (arith, nat_tests, e) in
        omega (arith, own, same)
    at false e rest k = rest k

known-made : (n made : ℕ) (node : NodeRef) (rows : List Row) → AreUpTo the_node (n + made) rows → (is_known_node n node && is_present rows (node_number n node)) ≡ true → is_made_node n made node ≡ true
known-made n made (nodes.Old x) rows h there = (and_parts (nat_le x n) (is_present rows x) there).0
known-made n made (nodes.New i) rows h there =
    let no_root : nat_eq (n + 1 + i) 0 ≡ false = grind (arith, nat_tests) in
    let below : n + 1 + i ≤ n + made = present-below (n + made) (n + 1 + i) rows h (or_second (nat_eq (n + 1 + i) 0) (list_any (λ r. nat_eq r.node (n + 1 + i)) rows) no_root there) in
    grind (arith, nat_tests, below)

pub made-number : (n m made : ℕ) (node : NodeRef) → n ≤ m → is_made_node n made node ≡ true → node_number m node ≤ m + made
made-number n m made (nodes.Old x) le h = let own : x ≤ n = grind (arith, nat_tests, h) in omega (arith, own, le)
made-number n m made (nodes.New i) le h =
    let one : nat_lt i made ≡ true = h in
    let own : i + 1 ≤ made = grind (arith, nat_tests, one) in
    omega (arith, own)

-- an accepted edit names what is made
named-accepted : (ns : Numbers) (made : ℕ) (v : Variant) (e : Edit) → AreUpTo the_node (ns.nodes + made) v.rows → refusal ns v e ≡ None → IsNamed ns.nodes made e
named-accepted ns made v (edits.New kind parent name) h accepted = known-made ns.nodes made parent v.rows h (new-accepted ns v kind parent name accepted).0
named-accepted ns made v (edits.Insert file after text) h accepted = known-made ns.nodes made file v.rows h (insert-accepted ns v file after text accepted).0
named-accepted ns made v (edits.Delete file which) h accepted = known-made ns.nodes made file v.rows h (delete-accepted ns v file which accepted).0
named-accepted ns made v (edits.Rename node name) h accepted = known-made ns.nodes made node v.rows h (rename-accepted ns v node name accepted).1
named-accepted ns made v (edits.Move node parent) h accepted =
    let parts = move-accepted ns v node parent accepted in
    (known-made ns.nodes made node v.rows h parts.1, known-made ns.nodes made parent v.rows h parts.2)
named-accepted ns made v (edits.Remove node) h accepted = known-made ns.nodes made node v.rows h (remove-accepted ns v node accepted).1

-- numbers of rows that a change of each leaves stay up to a count
up_to-same : (number : Row → ℕ) (f : Row → Row) (count : ℕ) (rows : List Row) → ((r : Row) → number (f r) ≡ number r) → AreUpTo number count rows → AreUpTo number count (map f rows)
up_to-same number f count rows same h = all-mapped (λ r. number r ≤ count) (λ r. number r ≤ count) f (λ r low. subst (λ n. n ≤ count) (sym (same r)) low) rows h

renamed-up_to : (number : Row → ℕ) (node : ℕ) (name : List ℕ) (count : ℕ) (rows : List Row)
    → ((r : Row) → number (record { node = r.node; kind = r.kind; parent = r.parent; name = name }) ≡ number r) → AreUpTo number count rows → AreUpTo number count (map (with_name node name) rows)
renamed-up_to number node name count rows same h = up_to-same number (with_name node name) count rows (λ r. renamed-field number node name r (same r)) h

moved-nodes : (node parent count : ℕ) (rows : List Row) → AreUpTo the_node count rows → AreUpTo the_node count (map (with_parent node parent) rows)
moved-nodes node parent count rows h = up_to-same the_node (with_parent node parent) count rows (λ r. moved-field the_node node parent r refl) h

moved-parents : (node parent count : ℕ) (rows : List Row) → parent ≤ count → AreUpTo the_parent count rows → AreUpTo the_parent count (map (with_parent node parent) rows)
moved-parents node parent count rows below h =
    all-mapped (λ r. r.parent ≤ count) (λ r. r.parent ≤ count) (with_parent node parent) (λ r low. at r low (nat_eq r.node node)) rows h
  where
    at : (r : Row) → r.parent ≤ count → (b : Bool) → the_parent (cond b (record { node = r.node; kind = r.kind; parent = parent; name = r.name }) r) ≤ count
    at r low true = below
    at r low false = low

-- the rows after an edit are of the nodes made by then
pub nodes-edit : (ns : Numbers) (t : List (List ℕ)) (node line : ℕ) (v : Variant) (e : Edit) → AreUpTo the_node node v.rows
    → AreUpTo the_node (node_count_after node e) (edited v (numbered_edit ns t node line e)).rows
nodes-edit ns t node line v (edits.New kind parent name) h =
    one-more the_node node v.rows (record { node = node + 1; kind = kind; parent = node_number ns.nodes parent; name = name }) (omega arith) h
nodes-edit ns t node line v (edits.Insert file after text) h = h
nodes-edit ns t node line v (edits.Delete file which) h = h
nodes-edit ns t node line v (edits.Rename which name) h = renamed-up_to the_node (node_number ns.nodes which) name node v.rows (λ r. refl) h
nodes-edit ns t node line v (edits.Move which parent) h = moved-nodes (node_number ns.nodes which) (node_number ns.nodes parent) node v.rows h
nodes-edit ns t node line v (edits.Remove which) h = all-filter (λ r. r.node ≤ node) (λ r. not (nat_eq r.node (node_number ns.nodes which))) v.rows h

-- nodes that are as many more than others are so after an edit
count-alike : (old node made : ℕ) (e : Edit) → node ≡ old + made → node_count_after node e ≡ old + node_count_after made e
count-alike old node made e same =
    let here = node_count_after-is node 0 e in
    let there = node_count_after-is old made e in
    let more = node_count_after-is old 0 e in
    omega (arith, same, here, there, more)

-- accepted edits name what is made when it is their turn
pub accepted-named : (ns : Numbers) (t : List (List ℕ)) (node made line k : ℕ) (v : Variant) (es : List Edit) → node ≡ ns.nodes + made → AreUpTo the_node (ns.nodes + made) v.rows
    → refused_from ns v k es (numbered_from ns t node line es) ≡ None → AreNamed ns.nodes made es
accepted-named ns t node made line k v [] e h accepted = tt
accepted-named ns t node made line k v (d ∷ es) e h accepted =
    let next = count-alike ns.nodes node made d e in (
      named-accepted ns made v d h (edit-accepted k (refusal ns v d) _ accepted),
      accepted-named ns t (node_count_after node d) (node_count_after made d) (line_count_after line d) (k + 1) (edited v (numbered_edit ns t node line d)) es next
          (subst (λ x. AreUpTo the_node x (edited v (numbered_edit ns t node line d)).rows) next (nodes-edit ns t node line v d (subst (λ x. AreUpTo the_node x v.rows) (sym e) h)))
          (rest-accepted k (refusal ns v d) _ accepted),
    )

-- what is named stays so when more is made
names-later : (count more : ℕ) (v : Variant) → count ≤ more → NamesOnlyMade count v → NamesOnlyMade more v
names-later count more v le h = record { nodes = further the_node count more v.rows le h.nodes; parents = further the_parent count more v.rows le h.parents; files = further the_file count more v.lines le h.files }

-- a variant names only what is made after an edit that does
names-edit : (n : ℕ) (ns : Numbers) (t : List (List ℕ)) (node made line : ℕ) (v : Variant) (e : Edit) → n ≤ ns.nodes → node ≡ ns.nodes + made → IsNamed n made e → NamesOnlyMade node v
    → NamesOnlyMade (node_count_after node e) (edited v (numbered_edit ns t node line e))
names-edit n ns t node made line v (edits.New kind parent name) le begun named h =
    let row : Row = record { node = node + 1; kind = kind; parent = node_number ns.nodes parent; name = name } in
    let at_parent : node_number ns.nodes parent ≤ ns.nodes + made = made-number n ns.nodes made parent le named in
    let below : node_number ns.nodes parent ≤ node + 1 = omega (arith, at_parent, begun) in
    record {
      nodes = one-more the_node node v.rows row (omega arith) h.nodes;
      parents = one-more the_parent node v.rows row below h.parents;
      files = further the_file node (node + 1) v.lines (omega arith) h.files;
    }
names-edit n ns t node made line v (edits.Insert file after text) le begun named h =
    let new : Line = record { file = node_number ns.nodes file; address = address_in t (line + 1); text = text } in
    let at_file : node_number ns.nodes file ≤ ns.nodes + made = made-number n ns.nodes made file le named in
    let below : node_number ns.nodes file ≤ node = omega (arith, at_file, begun) in
    record { nodes = h.nodes; parents = h.parents; files = all-placed line_address (λ l. l.file ≤ node) new v.lines below h.files }
names-edit n ns t node made line v (edits.Delete file which) le begun named h =
    let f : ℕ = node_number ns.nodes file in
    let address : List ℕ = address_in t (line_number (length ns.addresses) which) in
    record { nodes = h.nodes; parents = h.parents; files = all-filter (λ l. l.file ≤ node) (λ l. not (is_line f address l)) v.lines h.files }
names-edit n ns t node made line v (edits.Rename which name) le begun named h = record {
  nodes = renamed-up_to the_node (node_number ns.nodes which) name node v.rows (λ r. refl) h.nodes;
  parents = renamed-up_to the_parent (node_number ns.nodes which) name node v.rows (λ r. refl) h.parents;
  files = h.files;
}
names-edit n ns t node made line v (edits.Move which parent) le begun named h =
    let at_parent : node_number ns.nodes parent ≤ ns.nodes + made = made-number n ns.nodes made parent le named.1 in
    let below : node_number ns.nodes parent ≤ node = omega (arith, at_parent, begun) in
    record {
      nodes = moved-nodes (node_number ns.nodes which) (node_number ns.nodes parent) node v.rows h.nodes;
      parents = moved-parents (node_number ns.nodes which) (node_number ns.nodes parent) node v.rows below h.parents;
      files = h.files;
    }
names-edit n ns t node made line v (edits.Remove which) le begun named h = record {
  nodes = all-filter (λ r. r.node ≤ node) (λ r. not (nat_eq r.node (node_number ns.nodes which))) v.rows h.nodes;
  parents = all-filter (λ r. r.parent ≤ node) (λ r. not (nat_eq r.node (node_number ns.nodes which))) v.rows h.parents;
  files = h.files;
}

-- edits, each where it applies
module _ (c : List Bool) where
  nodes-edits : (within : List (Formula ℕ)) (ns : Numbers) (t : List (List ℕ)) (node line total : ℕ) (v : Variant) (es : List Edit) → total ≡ node + nodes_made es → AreUpTo the_node node v.rows
      → AreUpTo the_node total (fold (applied c) v (changes_within within (numbered_from ns t node line es))).rows
  nodes-edits within ns t node line total v [] e h = let same : node ≡ total = omega (arith, e) in subst (λ n. AreUpTo the_node n v.rows) same h
  nodes-edits within ns t node line total v (d ∷ es) e h =
      let more = node_count_after-is node 0 d in
      nodes-edits (rest_within within) ns t (node_count_after node d) (line_count_after line d) total (applied c v (applying (first_within within) (numbered_edit ns t node line d))) es (e ∙ node_count_after-is node (nodes_made es) d)
      (either-way (λ w. AreUpTo the_node (node_count_after node d) w.rows) (value (first_within within) c) (edited v (numbered_edit ns t node line d)) v
      (nodes-edit ns t node line v d h) (further the_node node (node_count_after node d) v.rows (omega (arith, more)) h))

  names-edits : (within : List (Formula ℕ)) (n : ℕ) (ns : Numbers) (t : List (List ℕ)) (node made line total : ℕ) (v : Variant) (es : List Edit) → n ≤ ns.nodes → node ≡ ns.nodes + made → total ≡ node + nodes_made es
      → AreNamed n made es → NamesOnlyMade node v → NamesOnlyMade total (fold (applied c) v (changes_within within (numbered_from ns t node line es)))
  names-edits within n ns t node made line total v [] le begun e named h = let same : node ≡ total = omega (arith, e) in subst (λ m. NamesOnlyMade m v) same h
  names-edits within n ns t node made line total v (d ∷ es) le begun e named h =
      let more = node_count_after-is node 0 d in
      names-edits (rest_within within) n ns t (node_count_after node d) (node_count_after made d) (line_count_after line d) total (applied c v (applying (first_within within) (numbered_edit ns t node line d))) es le
      (count-alike ns.nodes node made d begun) (e ∙ node_count_after-is node (nodes_made es) d) named.1
      (either-way (NamesOnlyMade (node_count_after node d)) (value (first_within within) c) (edited v (numbered_edit ns t node line d)) v
      (names-edit n ns t node made line v d le begun named.0 h) (names-later node (node_count_after node d) v (omega (arith, more)) h))

-- nodes have the numbers that the history drew, legal or not
module _ (c : List Bool) where
  nodes-from : (ns : Numbers) (v : Variant) (history : List Command) → AreUpTo the_node ns.nodes v.rows
      → AreUpTo the_node (numbers_from ns history).nodes (fold (applied c) v (changes_from ns history)).rows
  nodes-from ns v [] h = h
  nodes-from ns v (commands.Commit base choice ambition ss ∷ history) h =
      let es : List Edit = unsided ss in
      subst (λ (w : Variant). AreUpTo the_node (numbers_from (numbers_after ns es) history).nodes w.rows)
      (sym (fold-append (applied c) v (commit_changes ns ambition ss) (changes_from (numbers_after ns es) history)))
      (nodes-from (numbers_after ns es) (fold (applied c) v (commit_changes ns ambition ss)) history
      (nodes-edits c (conditions ambition ss) ns (numbers_after ns es).addresses ns.nodes (length ns.addresses) (numbers_after ns es).nodes v es refl h))
  nodes-from ns v (commands.Option name ∷ history) h = nodes-from ns v history h
  nodes-from ns v (commands.Constraint expr ∷ history) h = nodes-from ns v history h
  nodes-from ns v (commands.Prefer expr ∷ history) h = nodes-from ns v history h
  nodes-from ns v (commands.Default option on ∷ history) h = nodes-from ns v history h
  nodes-from ns v (commands.Upgrade ∷ history) h = nodes-from ns v history h

  pub nodes-replay : (history : List Command) → AreUpTo the_node (numbers_of history).nodes (replay c history).rows
  nodes-replay history = nodes-from no_numbers bare history tt

pub nodes-grow : (ns : Numbers) (history : List Command) → ns.nodes ≤ (numbers_from ns history).nodes
nodes-grow ns [] = omega arith
nodes-grow ns (commands.Commit base choice ambition ss ∷ history) =
    let es : List Edit = unsided ss in
    let rest : ns.nodes + nodes_made es ≤ (numbers_from (numbers_after ns es) history).nodes = nodes-grow (numbers_after ns es) history in
    let less : ns.nodes ≤ (numbers_from (numbers_after ns es) history).nodes = omega (arith, rest) in
    less
nodes-grow ns (commands.Option name ∷ history) = nodes-grow ns history
nodes-grow ns (commands.Constraint expr ∷ history) = nodes-grow ns history
nodes-grow ns (commands.Prefer expr ∷ history) = nodes-grow ns history
nodes-grow ns (commands.Default option on ∷ history) = nodes-grow ns history
nodes-grow ns (commands.Upgrade ∷ history) = nodes-grow ns history

pub base-nodes : (base : ℕ) (history : List Command) → (numbers_of (take base history)).nodes ≤ (numbers_of history).nodes
base-nodes base history =
    subst (λ (ns : Numbers). (numbers_of (take base history)).nodes ≤ ns.nodes)
    (sym (numbers_from-append no_numbers (take base history) (drop base history)) ∙ ap numbers_of (take-append-drop base history))
    (nodes-grow (numbers_of (take base history)) (drop base history))

-- an accepted commit's edits are accepted
pub no-record : (refused : Option (ℕ × EditFault)) → as_bad_record refused ≡ None → refused ≡ None
no-record None h = refl
no-record (Some r) h = absurd (cc)

-- none of its last refusals holds
ends-accepted : (history : List Command) (base : ℕ) (choice : List Bool) (ambition : Formula ℕ) (ss : List Sided) → verdict history (commands.Commit base choice ambition ss) ≡ None
    → (first_refused (numbers_of (take base history)) (replay choice (take base history)) (unsided ss) ≡ None) × (unsound_refusal history ambition (commands.Commit base choice ambition ss) ≡ None)
ends-accepted history base choice ambition ss h =
    let behind = none-first bad_record (late ∷ unsound ∷ []) (none-behind front (bad_record ∷ late ∷ unsound ∷ []) h) in
    let at_end = none-first unsound [] (none-first late (unsound ∷ []) behind.1).1 in
    (no-record (first_refused (numbers_of (take base history)) (replay choice (take base history)) (unsided ss)) behind.0, at_end.0)
  where
    bad_record : Option Refusal
    bad_record = as_bad_record (first_refused (numbers_of (take base history)) (replay choice (take base history)) (unsided ss))

    late : Option Refusal
    late = as_overtaken (overtaken history base ambition ss)

    unsound : Option Refusal
    unsound = unsound_refusal history ambition (commands.Commit base choice ambition ss)

    front : List (Option Refusal)
    front =
        when_full history ∷ when (nat_lt (length history) base) refusals.BadBase
        ∷ when (not (nat_eq (length choice) (option_count (take base history))) || nat_lt (option_count (take base history)) (reach_within ambition ss)) refusals.BadOption
        ∷ (size_refusals history (unsided ss) ++ as_invalid (first_false_in (take base history) choice) ∷ when (not (value ambition choice)) refusals.OutsideAmbition ∷ as_outside (first_outside choice ss) ∷ when (has_no_edits ss) refusals.Empty ∷ [])

pub edits-accepted : (history : List Command) (base : ℕ) (choice : List Bool) (ambition : Formula ℕ) (ss : List Sided) → verdict history (commands.Commit base choice ambition ss) ≡ None
    → first_refused (numbers_of (take base history)) (replay choice (take base history)) (unsided ss) ≡ None
edits-accepted history base choice ambition ss h = (ends-accepted history base choice ambition ss h).0

-- and it would leave no fault within its ambition
pub sound-accepted : (history : List Command) (base : ℕ) (choice : List Bool) (ambition : Formula ℕ) (ss : List Sided) → verdict history (commands.Commit base choice ambition ss) ≡ None
    → unsound_refusal history ambition (commands.Commit base choice ambition ss) ≡ None
sound-accepted history base choice ambition ss h = (ends-accepted history base choice ambition ss h).1

-- what a legal history's replay names is made
module _ (c : List Bool) where
  abbrev Names : List Command → Type 0
  Names history = NamesOnlyMade (numbers_of history).nodes (replay c history)

  as-before : (ns ms : Numbers) (v w : Variant) → ns ≡ ms → v ≡ w → NamesOnlyMade ms.nodes w → NamesOnlyMade ns.nodes v
  as-before ns ms v w e f h = subst (λ (os : Numbers). NamesOnlyMade os.nodes v) (sym e) (subst (NamesOnlyMade ms.nodes) (sym f) h)

  names-one : (history : List Command) (k : Command) → verdict history k ≡ None → Names history → Names (history ++ k ∷ [])
  names-one history (commands.Option name) accepted h =
      as-before (numbers_of (history ++ commands.Option name ∷ [])) (numbers_of history) (replay c (history ++ commands.Option name ∷ [])) (replay c history)
      (numbers_from-append no_numbers history (commands.Option name ∷ [])) (replay-append c history (commands.Option name ∷ [])) h
  names-one history (commands.Constraint expr) accepted h =
      as-before (numbers_of (history ++ commands.Constraint expr ∷ [])) (numbers_of history) (replay c (history ++ commands.Constraint expr ∷ [])) (replay c history)
      (numbers_from-append no_numbers history (commands.Constraint expr ∷ [])) (replay-append c history (commands.Constraint expr ∷ [])) h
  names-one history (commands.Prefer expr) accepted h =
      as-before (numbers_of (history ++ commands.Prefer expr ∷ [])) (numbers_of history) (replay c (history ++ commands.Prefer expr ∷ [])) (replay c history)
      (numbers_from-append no_numbers history (commands.Prefer expr ∷ [])) (replay-append c history (commands.Prefer expr ∷ [])) h
  names-one history (commands.Default option on) accepted h =
      as-before (numbers_of (history ++ commands.Default option on ∷ [])) (numbers_of history) (replay c (history ++ commands.Default option on ∷ [])) (replay c history)
      (numbers_from-append no_numbers history (commands.Default option on ∷ [])) (replay-append c history (commands.Default option on ∷ [])) h
  names-one history (commands.Commit base choice ambition ss) accepted h =
      let es : List Edit = unsided ss in
      let ns : Numbers = numbers_of history in
      let nb : Numbers = numbers_of (take base history) in
      as-before (numbers_of (history ++ commands.Commit base choice ambition ss ∷ [])) (numbers_after (numbers_of history) es) (replay c (history ++ commands.Commit base choice ambition ss ∷ [])) _
      (numbers_from-append no_numbers history (commands.Commit base choice ambition ss ∷ [])) (replay-commit c history base choice ambition ss)
      (names-edits c (conditions ambition ss) nb.nodes ns (numbers_after ns es).addresses ns.nodes 0 (length ns.addresses) (numbers_after ns es).nodes (replay c history) es
      (base-nodes base history) (omega arith) refl
      (accepted-named nb (numbers_after nb es).addresses nb.nodes 0 (length nb.addresses) 0 (replay choice (take base history)) es (omega arith)
      (further the_node nb.nodes (nb.nodes + 0) (replay choice (take base history)).rows (omega arith) (nodes-replay choice (take base history)))
      (edits-accepted history base choice ambition ss accepted)) h)
  names-one history commands.Upgrade accepted h =
      as-before (numbers_of (history ++ commands.Upgrade ∷ [])) (numbers_of history) (replay c (history ++ commands.Upgrade ∷ [])) (replay c history)
      (numbers_from-append no_numbers history (commands.Upgrade ∷ [])) (replay-append c history (commands.Upgrade ∷ [])) h

  names-from : (before history : List Command) → IsLegalFrom before history → Names before → Names (before ++ history)
  names-from before [] legal h = subst Names (sym (append-nil before)) h
  names-from before (k ∷ history) legal h = subst Names (append_assoc before (k ∷ []) history) (names-from (before ++ k ∷ []) history legal.2 (names-one before k legal.1 h))

pub legal-named : (c : List Bool) (history : List Command) → IsLegal history → NamesOnlyMade (numbers_of history).nodes (replay c history)
legal-named c history legal = names-from c [] history legal (record { nodes = tt; parents = tt; files = tt })
