-- The rows of a replay stand in order of their nodes, each node once.
use Rattle.std.proofs.Common.{◌≡◌, ℕ, ◌+◌, ◌<◌, ◌≤◌, Bool, true, false, cond, ◌||◌, not, nat_eq, nat_lt, List, [], ◌∷◌, ◌++◌, length, map, refl, sym, ap, subst, ◌∙◌, arith}
use Rattle.std.specs.List.{fold, filter}
use Rattle.std.proofs.lemmas.Bool.Decides.{nat_tests}
use Rattle.cov_base.specs.Rows.{Row, with_name, with_parent, has_node, AreDistinct, AreOnce}
use Rattle.cov_base.specs.Faults.{with_row, in_node_order, first_fault, fault_of}
use Rattle.cov_expr.specs.Formula.{Formula, value}
use Rattle.cov_edit.specs.declared.edit.Edit.{Edit}
use Rattle.cov_edit.specs.declared.edit.Edit.TheVariants as edits
use Rattle.cov_edit.specs.declared.command.Command.{Command}
use Rattle.cov_edit.specs.declared.command.Command.TheVariants as commands
use Rattle.cov_edit.specs.Numbering.{Numbers, NumberedEdit, no_numbers, node_number, node_count_after, line_count_after, nodes_made, numbers_after, numbers_from, numbers_of, numbered_edit, numbered_from}
use Rattle.cov_edit.specs.Replay.{applying, first_within, rest_within, changes_within, commit_changes, changes_from, applied, replay}
use Rattle.cov_edit.specs.Sides.{unsided, conditions}
use Rattle.cov_edit.specs.Variant.{Variant, bare, edited}
use Rattle.cov_edit.proofs.CallerLemmas.{fold-append, node_count_after-is}
use Rattle.cov_history.proofs.ChangedRows.{renamed-field, moved-field}
use Rattle.cov_history.proofs.Naming.{the_node, AreUpTo, further, either-way, nodes-edit}

-- each row's node is greater than a number and than those of the rows before it
abbrev pub AreUp : ℕ → List Row → Type 0
AreUp low [] = Unit {0}
AreUp low (r ∷ rows) = (low < r.node) × AreUp r.node rows

-- a new node's row stands behind those of the nodes before it
up-append : (low n : ℕ) (rows : List Row) (r : Row) → low ≤ n → n < r.node → AreUpTo the_node n rows → AreUp low rows → AreUp low (rows ++ r ∷ [])
up-append low n [] r le lt all h = (omega (arith, le, lt), tt)
up-append low n (s ∷ rows) r le lt all h = (h.0, up-append s.node n rows r all.0 lt all.1 h.1)

up-lower : (low m : ℕ) (rows : List Row) → low ≤ m → AreUp m rows → AreUp low rows
up-lower low m [] le h = tt
up-lower low m (r ∷ rows) le h = let own = h.0 in (omega (arith, own, le), h.1)

up-mapped : (f : Row → Row) → ((r : Row) → (f r).node ≡ r.node) → (low : ℕ) (rows : List Row) → AreUp low rows → AreUp low (map f rows)
up-mapped f same low [] h = tt
up-mapped f same low (r ∷ rows) h =
    let own = h.0 in
    let is = same r in
    (omega (arith, own, is), subst (λ n. AreUp n (map f rows)) (sym (same r)) (up-mapped f same r.node rows h.1))

up-filtered : (p : Row → Bool) (low : ℕ) (rows : List Row) → AreUp low rows → AreUp low (filter p rows)
up-filtered p low [] h = tt
up-filtered p low (r ∷ rows) h = at (p r) (up-filtered p r.node rows h.1)
  where
    at : (b : Bool) → AreUp r.node (filter p rows) → AreUp low (cond b (r ∷ filter p rows) (filter p rows))
    at true rest = (h.0, rest)
    at false rest = let own = h.0 in up-lower low r.node (filter p rows) (omega (arith, own)) rest

-- the rows rise, and none is above a number
abbrev AreNodesUpTo : ℕ → Variant → Type 0
AreNodesUpTo n v = AreUp 0 v.rows × AreUpTo the_node n v.rows

wider : (n m : ℕ) (v : Variant) → n ≤ m → AreNodesUpTo n v → AreNodesUpTo m v
wider n m v le h = (h.0, further the_node n m v.rows le h.1)

-- so they do after an edit
edit-up : (ns : Numbers) (t : List (List ℕ)) (node line : ℕ) (v : Variant) (e : Edit) → AreNodesUpTo node v → AreUp 0 (edited v (numbered_edit ns t node line e)).rows
edit-up ns t node line v (edits.New kind parent name) h =
    up-append 0 node v.rows (record { node = node + 1; kind = kind; parent = node_number ns.nodes parent; name = name }) (omega arith) (omega arith) h.1 h.0
edit-up ns t node line v (edits.Insert file after text) h = h.0
edit-up ns t node line v (edits.Delete file which) h = h.0
edit-up ns t node line v (edits.Rename which name) h =
    up-mapped (with_name (node_number ns.nodes which) name) (λ r. renamed-field the_node (node_number ns.nodes which) name r refl) 0 v.rows h.0
edit-up ns t node line v (edits.Move which parent) h =
    let dir = node_number ns.nodes parent in
    up-mapped (with_parent (node_number ns.nodes which) dir) (λ r. moved-field the_node (node_number ns.nodes which) dir r refl) 0 v.rows h.0
edit-up ns t node line v (edits.Remove which) h = up-filtered (λ r. not (nat_eq r.node (node_number ns.nodes which))) 0 v.rows h.0

edits-up : (c : List Bool) (within : List (Formula ℕ)) (ns : Numbers) (t : List (List ℕ)) (node line : ℕ) (v : Variant) (es : List Edit) → AreNodesUpTo node v
    → AreNodesUpTo (node + nodes_made es) (fold (applied c) v (changes_within within (numbered_from ns t node line es)))
edits-up c within ns t node line v [] h = wider node (node + 0) v (omega arith) h
edits-up c within ns t node line v (e ∷ es) h =
    let more = node_count_after-is node 0 e in
    let d : NumberedEdit = numbered_edit ns t node line e in
    let next : Variant = applied c v (applying (first_within within) d) in
    subst (λ n. AreNodesUpTo n (fold (applied c) next (changes_within (rest_within within) (numbered_from ns t (node_count_after node e) (line_count_after line e) es))))
    (sym (node_count_after-is node (nodes_made es) e))
    (edits-up c (rest_within within) ns t (node_count_after node e) (line_count_after line e) next es
    (either-way (AreNodesUpTo (node_count_after node e)) (value (first_within within) c) (edited v d) v
    (edit-up ns t node line v e h, nodes-edit ns t node line v e h.1) (wider node (node_count_after node e) v (omega (arith, more)) h)))

changes-up : (c : List Bool) (ns : Numbers) (v : Variant) (history : List Command) → AreNodesUpTo ns.nodes v → AreNodesUpTo (numbers_from ns history).nodes (fold (applied c) v (changes_from ns history))
changes-up c ns v [] h = h
changes-up c ns v (commands.Commit base choice ambition ss ∷ history) h =
    let es : List Edit = unsided ss in
    subst (AreNodesUpTo (numbers_from (numbers_after ns es) history).nodes)
    (sym (fold-append (applied c) v (commit_changes ns ambition ss) (changes_from (numbers_after ns es) history)))
    (changes-up c (numbers_after ns es) (fold (applied c) v (commit_changes ns ambition ss)) history
    (edits-up c (conditions ambition ss) ns (numbers_after ns es).addresses ns.nodes (length ns.addresses) v es h))
changes-up c ns v (commands.Option name ∷ history) h = changes-up c ns v history h
changes-up c ns v (commands.Constraint expr ∷ history) h = changes-up c ns v history h
changes-up c ns v (commands.Prefer expr ∷ history) h = changes-up c ns v history h
changes-up c ns v (commands.Default option on ∷ history) h = changes-up c ns v history h
changes-up c ns v (commands.Upgrade ∷ history) h = changes-up c ns v history h

replay-up : (c : List Bool) (history : List Command) → AreUp 0 (replay c history).rows
replay-up c history = (changes-up c no_numbers bare history (tt, tt)).0

-- rising rows are in node order
with-first : (r : Row) (rows : List Row) → AreUp r.node rows → with_row r rows ≡ r ∷ rows
with-first r [] h = refl
with-first r (s ∷ rows) h = let below : nat_lt r.node s.node ≡ true = (let own = h.0 in grind (arith, nat_tests, own)) in ap (λ b. cond b (r ∷ s ∷ rows) (s ∷ with_row r rows)) below

in-order : (low : ℕ) (rows : List Row) → AreUp low rows → in_node_order rows ≡ rows
in-order low [] h = refl
in-order low (r ∷ rows) h = ap (with_row r) (in-order r.node rows h.1) ∙ with-first r rows h.1

-- each node has one row, and the root none
up-other : (low : ℕ) (rows : List Row) → AreUp low rows → (node : ℕ) → node ≤ low → has_node node (map (λ r. r.node) rows) ≡ false
up-other low [] h node le = refl
up-other low (r ∷ rows) h node le =
    let own = h.0 in
    let other : nat_eq r.node node ≡ false = grind (arith, nat_tests, own, le) in
    ap (λ b. b || has_node node (map (λ s. s.node) rows)) other ∙ up-other r.node rows h.1 node (omega (arith, own, le))

up-distinct : (low : ℕ) (rows : List Row) → AreUp low rows → AreDistinct (map (λ r. r.node) rows)
up-distinct low [] h = tt
up-distinct low (r ∷ rows) h = (up-other r.node rows h.1 r.node (omega arith), up-distinct r.node rows h.1)

-- so the rows of a replay are in node order
pub replay-in_order : (c : List Bool) (history : List Command) → in_node_order (replay c history).rows ≡ (replay c history).rows
replay-in_order c history = in-order 0 (replay c history).rows (replay-up c history)

-- each node of a replay has one row, and the root none
pub replay-once : (c : List Bool) (history : List Command) → AreOnce (replay c history).rows
replay-once c history = (up-other 0 (replay c history).rows (replay-up c history) 0 (omega arith), up-distinct 0 (replay c history).rows (replay-up c history))

-- the first fault of a replay is that of its rows as they stand
pub fault-as_stands : (c : List Bool) (history : List Command) → fault_of (replay c history).rows ≡ first_fault (replay c history).rows
fault-as_stands c history = ap first_fault (replay-in_order c history)

-- there are no more of them than numbers between
up-few : (low n : ℕ) (rows : List Row) → low ≤ n → AreUp low rows → AreUpTo the_node n rows → length rows + low ≤ n
up-few low n [] le h up = omega (arith, le)
up-few low n (r ∷ rows) le h up =
    let own = h.0 in
    let rest = up-few r.node n rows up.0 h.1 up.1 in
    omega (arith, own, rest)

-- a replay has no more rows than its history made nodes
pub replay-few : (c : List Bool) (history : List Command) → length (replay c history).rows ≤ (numbers_of history).nodes
replay-few c history =
    let h = changes-up c no_numbers bare history (tt, tt) in
    let few = up-few 0 (numbers_of history).nodes (replay c history).rows (omega arith) h.0 h.1 in
    omega (arith, few)
