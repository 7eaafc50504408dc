-- The nodes of lines before a commit, and its edits by numbers.
use Rattle.std.proofs.Common.{◌≡◌, ℕ, zero, suc, ◌+◌, ◌-◌, ◌<◌, ◌≤◌, max, Bool, true, false, cond, ◌&&◌, ◌||◌, not, nat_eq, nat_lt, List, [], ◌∷◌, ◌++◌, length, length-append, map, get_or, slice_get, Some, unwrap_or, option_map, append-nil, append_assoc, inl, inr, refl, sym, ap, subst, ◌∙◌, arith}
use Rattle.std.specs.List.{cons_option, list_any, AllByRecursion, find}
use Rattle.std.proofs.lemmas.Bool.{or_parts}
use Rattle.std.proofs.lemmas.Bool.Decides.{nat_tests}
use Rattle.cov_dd.specs.declared.triple.Triple.{Triple}
use Rattle.cov_dd.specs.Diagrams.{diagram_size, span, value_in, Extends, Stands}
use Rattle.cov_dd.specs.Combinations.{joint_span}
use Rattle.cov_dd.proofs.CallerLemmas.{extends_none, extends_trans, stands_later, stands_weaker, some_nodes}
use Rattle.cov_edit.specs.declared.edit.Edit.{Edit}
use Rattle.cov_edit.specs.declared.edit.Edit.TheVariants as edits
use Rattle.cov_edit.specs.Numbering.{node_number, line_number, node_count_after, line_count_after, nodes_made, anchors_of}
use Rattle.cov_base.specs.Rows.{has_node}
use Rattle.cov_base.specs.declared.number.Kind.{Kind}
use Rattle.cov_base.specs.declared.number.Kind.TheVariants as kinds
use Rattle.cov_base.specs.declared.number.LineRef.{LineRef}
use Rattle.cov_base.specs.declared.number.NodeRef.{NodeRef}
use Rattle.cov_base.proofs.CallerLemmas.{all-append, all-map}
use Rattle.cov_file.specs.Dated.{DatedLine as FileLine, vis_at, vis_of}
use Rattle.cov_edit.specs.Touched.{AreRising}
use Rattle.cov_edit.proofs.CallerLemmas.{anchors-append, nodes-append, rest_of}
use Rattle.cov_history.specs.FileNodes.{if_file, files_made}
use Rattle.cov_history.specs.FileOfLine.{new_file_of_line}
use Rattle.cov_history.proofs.CallerLemmas.{onto_both}
use Rattle.cov_visible.specs.Parts.{part_node, files_among}
use Rattle.cov_visible.specs.Nodes.{own_node, old_node, line_node, HasNodesIn, IsWithout, IsTaken}
use Rattle.cov_visible.specs.Resolved.{first_node, rest_nodes, insert_nodes, deletes_own, made_after, AreOfTable, AreOwnNodes, HaveNumbers, IsResolvedBy, AreResolvedBy, AreResolved}
use Rattle.cov_visible.specs.RowPlans.{row_changes, AreWithin, nodes_after_all, kinds_after_all, MakeNewNodes}
use Rattle.cov_visible.specs.Staging.{made_files, files_of_lines}
use Rattle.cov_visible.specs.declared.file_part.FilePart.{FilePart}
use Rattle.cov_visible.specs.declared.resolved_edit.ResolvedEdit.{ResolvedEdit}
use Rattle.cov_visible.specs.declared.resolving.MadeBefore.{MadeBefore}
use Rattle.cov_visible.proofs.RowPlans.{fresh-next}
use Rattle.cov_visible.proofs.StoredFiles.{all-get}

-- a file without a stored file has no node for a line
pub old-outside : (p file line : ℕ) (es : List FilePart) → has_node file (map part_node es) ≡ false → old_node p es file line ≡ 0
old-outside p file line [] h = refl
old-outside p file line (e ∷ es) h = at (nat_eq e.node file) h (old-outside p file line es)
  where
    at : (b : Bool) → (b || has_node file (map part_node es)) ≡ false → (has_node file (map part_node es) ≡ false → old_node p es file line ≡ 0) → cond b (unwrap_or (vis_of line p e.lines.lines) 0) (old_node p es file line) ≡ 0
    at true k rest = absurd (cc)
    at false k rest = rest k

-- a file's node for a line is that of its stored file
pub old-at : (p file line i : ℕ) (es : List FilePart) (d : FilePart) → AreRising (map part_node es) → slice_get (map part_node es) i ≡ Some file
    → old_node p es file line ≡ unwrap_or (vis_of line p (get_or es i d).lines.lines) 0
old-at p file line i [] d rising h = absurd (cc)
old-at p file line zero (e ∷ es) d rising h =
    let it : e.node ≡ file = cc in
    let same : nat_eq e.node file ≡ true = grind (arith, nat_tests, it) in
    ap (λ b. cond b (unwrap_or (vis_of line p e.lines.lines) 0) (old_node p es file line)) same
old-at p file line (suc i) (e ∷ es) d rising h =
    let above : e.node < file = all-get (λ y. e.node < y) (map part_node es) i file h rising.0 in
    let differs : nat_eq e.node file ≡ false = grind (arith, nat_tests, above) in
    ap (λ b. cond b (unwrap_or (vis_of line p e.lines.lines) 0) (old_node p es file line)) differs ∙ old-at p file line i es d rising.1 h

node-within : (ts : List Triple) (p line : ℕ) (ls : List FileLine) → AllByRecursion (λ l. vis_at l.changes p < diagram_size ts) ls → unwrap_or (vis_of line p ls) 0 < diagram_size ts
node-within ts p line [] all = let some = some_nodes ts in omega (arith, some)
node-within ts p line (l ∷ ls) all = at (nat_eq l.line line) (node-within ts p line ls all.1)
  where
    at : (b : Bool) → unwrap_or (vis_of line p ls) 0 < diagram_size ts
        → unwrap_or (option_map (λ (k : FileLine). vis_at k.changes p) (cond b (Some l) (find (λ k. nat_eq k.line line) ls))) 0 < diagram_size ts
    at true rest = all.0
    at false rest = rest

-- it is a node of the table of which the stored files' nodes are
pub old-within : (ts : List Triple) (p file line : ℕ) (es : List FilePart) → AllByRecursion (HasNodesIn ts p) es → old_node p es file line < diagram_size ts
old-within ts p file line [] all = let some = some_nodes ts in omega (arith, some)
old-within ts p file line (e ∷ es) all = at (nat_eq e.node file) (old-within ts p file line es all.1)
  where
    at : (b : Bool) → old_node p es file line < diagram_size ts → cond b (unwrap_or (vis_of line p e.lines.lines) 0) (old_node p es file line) < diagram_size ts
    at true rest = node-within ts p line e.lines.lines all.0.nodes
    at false rest = rest

-- no change of a stored file is beyond the position
pub newest-within : (ts : List Triple) (p : ℕ) (es : List FilePart) → AllByRecursion (HasNodesIn ts p) es → AllByRecursion (λ e. e.lines.newest ≤ p) es
newest-within ts p es all = all-map (HasNodesIn ts p) (λ e. e.lines.newest ≤ p) (λ e h. h.newest) es all

-- the stored files' nodes are of a longer table too
pub nodes-later : (ts us : List Triple) (p : ℕ) (es : List FilePart) → Extends ts us → AllByRecursion (HasNodesIn ts p) es → AllByRecursion (HasNodesIn us p) es
nodes-later ts us p es x all =
    all-map (HasNodesIn ts p) (HasNodesIn us p)
    (λ e h. record {
      nodes = all-map (λ l. vis_at l.changes p < diagram_size ts) (λ l. vis_at l.changes p < diagram_size us) (λ l less. let more = x.count in omega (arith, less, more)) e.lines.lines h.nodes;
      newest = h.newest;
    }) es all

-- what holds of FALSE and of the nodes of edits
module _ (P : ℕ → Type 0) (none : P 0) where
  first-all : (ns : List ℕ) → AllByRecursion P ns → P (first_node ns)
  first-all [] all = none
  first-all (n ∷ ns) all = all.0

  rest-all : (ns : List ℕ) → AllByRecursion P ns → AllByRecursion P (rest_nodes ns)
  rest-all [] all = tt
  rest-all (n ∷ ns) all = all.1

  -- holds of those of the lines that they insert
  pub inserts-all : (ns : List ℕ) (es : List Edit) → AllByRecursion P ns → AllByRecursion P (insert_nodes ns es)
  inserts-all ns [] all = tt
  inserts-all ns (edits.New kind parent name ∷ es) all = inserts-all (rest_nodes ns) es (rest-all ns all)
  inserts-all ns (edits.Insert file after text ∷ es) all = (first-all ns all, inserts-all (rest_nodes ns) es (rest-all ns all))
  inserts-all ns (edits.Delete file line ∷ es) all = inserts-all (rest_nodes ns) es (rest-all ns all)
  inserts-all ns (edits.Rename node name ∷ es) all = inserts-all (rest_nodes ns) es (rest-all ns all)
  inserts-all ns (edits.Move node parent ∷ es) all = inserts-all (rest_nodes ns) es (rest-all ns all)
  inserts-all ns (edits.Remove node ∷ es) all = inserts-all (rest_nodes ns) es (rest-all ns all)

  -- and of one of them by its place
  pub own-all : (ns : List ℕ) (index : ℕ) → AllByRecursion P ns → P (own_node ns index)
  own-all [] index all = none
  own-all (n ∷ ns) zero all = all.0
  own-all (n ∷ ns) (suc index) all = own-all ns index all.1

none-within : (ts : List Triple) → 0 < diagram_size ts
none-within ts = let some = some_nodes ts in omega (arith, some)

-- the node of a line before it is deleted is of the table of which those of the stored files and of the inserted lines are
pub line-within : (ts : List Triple) (p m : ℕ) (inserted : List ℕ) (file line : ℕ) (es : List FilePart) → AreOfTable ts inserted → AllByRecursion (HasNodesIn ts p) es → line_node p es m inserted file line < diagram_size ts
line-within ts p m inserted file line es own all = at (nat_lt m line)
  where
    at : (b : Bool) → cond b (own_node inserted (line - m - 1)) (old_node p es file line) < diagram_size ts
    at true = own-all (λ n. n < diagram_size ts) (none-within ts) inserted (line - m - 1) own
    at false = old-within ts p file line es all

-- nodes of a table are of a longer one
pub of_table-later : (ts us : List Triple) (ns : List ℕ) → Extends ts us → AreOfTable ts ns → AreOfTable us ns
of_table-later ts us ns x all = all-map (λ n. n < diagram_size ts) (λ n. n < diagram_size us) (λ n low. let grown = x.count in omega (arith, low, grown)) ns all

first-within : (ts : List Triple) (ns : List ℕ) → AreOfTable ts ns → first_node ns < diagram_size ts
first-within ts ns all = first-all (λ n. n < diagram_size ts) (none-within ts) ns all

rest-within : (ts : List Triple) (ns : List ℕ) → AreOfTable ts ns → AreOfTable ts (rest_nodes ns)
rest-within ts ns all = rest-all (λ n. n < diagram_size ts) (none-within ts) ns all

-- the nodes of inserted lines are of the table
pub inserts-within : (ts : List Triple) (ns : List ℕ) (es : List Edit) → AreOfTable ts ns → AreOfTable ts (insert_nodes ns es)
inserts-within ts ns es all = inserts-all (λ n. n < diagram_size ts) (none-within ts) ns es all

-- a node that is true where another is and a third isn't is so in longer tables
without-later : (ts new us : List Triple) (old on vis least : ℕ) → Extends ts new → Extends new us → old < diagram_size ts → on < diagram_size ts
    → Stands new vis least (joint_span ts old on) (λ c. value_in ts old c && not (value_in ts on c)) → IsWithout us old on vis
without-later ts new us old on vis least x y within_old within_on s =
    let z : Extends ts us = extends_trans ts new us x y in
    let span_old : span us old ≡ span ts old = z.most old within_old in
    let span_on : span us on ≡ span ts on = z.most on within_on in
    stands_weaker 0 (joint_span us old on) (λ c. value_in us old c && not (value_in us on c)) (omega arith)
    (subst (λ m. joint_span ts old on ≤ max m (span us on)) (sym span_old) (subst (λ m. joint_span ts old on ≤ max (span ts old) m) (sym span_on) (omega arith)))
    (λ c. ap (λ b. b && not (value_in ts on c)) (sym (z.value old within_old c)) ∙ ap (λ b. value_in us old c && not b) (sym (z.value on within_on c)))
    (stands_later y s)

-- what is left of a line that is taken out
pub taken-left : (p m : ℕ) (stored : List FilePart) (inserted : List ℕ) (on : ℕ) (ts new : List Triple) (old file line vis least : ℕ) → Extends ts new → AreOfTable ts inserted → AllByRecursion (HasNodesIn ts p) stored
    → on < diagram_size ts → old ≡ line_node p stored m inserted file line → Stands new vis least (joint_span ts old on) (λ c. value_in ts old c && not (value_in ts on c)) → IsTaken new p stored m inserted on file line vis
taken-left p m stored inserted on ts new old file line vis least x own nodes within is stands =
    subst (λ k. IsWithout new k on vis) is
    (without-later ts new new old on vis least x (extends_none new) (subst (λ k. k < diagram_size ts) (sym is) (line-within ts p m inserted file line stored own nodes)) within stands)

-- what holds of each edit with the node at its place
abbrev pub AllOn : (Edit → ℕ → Type 0) → List ℕ → List Edit → Type 0
AllOn R ns [] = Unit {0}
AllOn R ns (e ∷ es) = R e (first_node ns) × AllOn R (rest_nodes ns) es

-- nodes of a table are so for each edit
pub all-of_table : (ts : List Triple) (ns : List ℕ) (es : List Edit) → AreOfTable ts ns → AllOn (λ e on. on < diagram_size ts) ns es
all-of_table ts ns [] all = tt
all-of_table ts ns (e ∷ es) all = (first-within ts ns all, all-of_table ts (rest_nodes ns) es (rest-within ts ns all))

module _ (P Q : ℕ → ℕ → ℕ → ℕ → Type 0) (R : Edit → ℕ → Type 0) (n m : ℕ)
    (f : (on : ℕ) (file : NodeRef) (line : LineRef) (vis : ℕ) → R (edits.Delete file line) on → P on (node_number n file) (line_number m line) vis → Q on (node_number n file) (line_number m line) vis) where
  pub one-by : (on nodes lines : ℕ) (e : Edit) (s : ResolvedEdit) → R e on → IsResolvedBy P n m on nodes lines e s → IsResolvedBy Q n m on nodes lines e s
  one-by on nodes lines (edits.New kind parent name) s r h = h
  one-by on nodes lines (edits.Insert file after text) s r h = h
  one-by on nodes lines (edits.Delete file line) s r h = (h.0, h.1, f on file line h.0 r h.2)
  one-by on nodes lines (edits.Rename node name) s r h = h
  one-by on nodes lines (edits.Move node parent) s r h = h
  one-by on nodes lines (edits.Remove node) s r h = h

  -- edits by numbers are so whatever else is told of the nodes that are left
  pub resolved-by : (ns : List ℕ) (nodes lines : ℕ) (es : List Edit) (ss : List ResolvedEdit) → AllOn R ns es → AreResolvedBy P n m ns nodes lines es ss → AreResolvedBy Q n m ns nodes lines es ss
  resolved-by ns nodes lines [] [] r h = tt
  resolved-by ns nodes lines [] (s ∷ ss) r h = absurd h
  resolved-by ns nodes lines (e ∷ es) [] r h = absurd h
  resolved-by ns nodes lines (e ∷ es) (s ∷ ss) r h =
      (one-by (first_node ns) nodes lines e s r.0 h.0, resolved-by (rest_nodes ns) (node_count_after nodes e) (line_count_after lines e) es ss r.1 h.1)

module _ (p : ℕ) (stored : List FilePart) (inserted : List ℕ) (ts us : List Triple) (grown : Extends ts us) (nodes_in : AllByRecursion (HasNodesIn ts p) stored) (own : AreOfTable ts inserted) (n m : ℕ) where
  taken-grown : (on : ℕ) (file : NodeRef) (line : LineRef) (vis : ℕ) → on < diagram_size ts → IsTaken ts p stored m inserted on (node_number n file) (line_number m line) vis
      → IsTaken us p stored m inserted on (node_number n file) (line_number m line) vis
  taken-grown on file line vis within h =
      without-later ts ts us (line_node p stored m inserted (node_number n file) (line_number m line)) on vis 0 (extends_none ts) grown
      (line-within ts p m inserted (node_number n file) (line_number m line) stored own nodes_in) within h

  -- an edit by numbers is so in a longer table
  pub one-grown : (on nodes lines : ℕ) (e : Edit) (s : ResolvedEdit) → on < diagram_size ts → IsResolvedBy (IsTaken ts p stored m inserted) n m on nodes lines e s → IsResolvedBy (IsTaken us p stored m inserted) n m on nodes lines e s
  one-grown = one-by (IsTaken ts p stored m inserted) (IsTaken us p stored m inserted) (λ e on. on < diagram_size ts) n m taken-grown

-- so are all of a commit
pub resolved-grown : (p : ℕ) (stored : List FilePart) (n m : ℕ) (ns : List ℕ) (ts us : List Triple) (es : List Edit) (ss : List ResolvedEdit) → Extends ts us → AllByRecursion (HasNodesIn ts p) stored → AreOfTable ts ns
    → AreResolved p stored n m ns ts es ss → AreResolved p stored n m ns us es ss
resolved-grown p stored n m ns ts us es ss grown nodes_in within h =
    let inserted : List ℕ = insert_nodes ns es in
    resolved-by (IsTaken ts p stored m inserted) (IsTaken us p stored m inserted) (λ e on. on < diagram_size ts) n m
    (taken-grown p stored inserted ts us grown nodes_in (inserts-within ts ns es within) n m) ns n m es ss (all-of_table ts ns es within) h

-- edits that delete no line of their own are so whatever the nodes of these
module _ (ts : List Triple) (p : ℕ) (stored : List FilePart) (n m : ℕ) (some all : List ℕ) where
  none-own : (es : List Edit) (ns : List ℕ) → list_any (deletes_own m) es ≡ false → AllOn (λ e on. deletes_own m e ≡ false) ns es
  none-own [] ns h = tt
  none-own (e ∷ es) ns h = let parts = or_parts (deletes_own m e) (list_any (deletes_own m) es) h in (parts.0, none-own es (rest_nodes ns) parts.1)

  old-taken : (on : ℕ) (file : NodeRef) (line : LineRef) (vis : ℕ) → nat_lt m (line_number m line) ≡ false → IsTaken ts p stored m some on (node_number n file) (line_number m line) vis
      → IsTaken ts p stored m all on (node_number n file) (line_number m line) vis
  old-taken on file line vis old h =
      let x : ℕ = line_number m line in
      let before : ℕ = old_node p stored (node_number n file) x in
      subst (λ r. IsWithout ts r on vis)
      (ap (λ b. cond b (own_node some (x - m - 1)) before) old ∙ sym (ap (λ b. cond b (own_node all (x - m - 1)) before) old)) h

  pub resolved-anyway : (ns : List ℕ) (nodes lines : ℕ) (es : List Edit) (ss : List ResolvedEdit) → list_any (deletes_own m) es ≡ false → AreResolvedBy (IsTaken ts p stored m some) n m ns nodes lines es ss
      → AreResolvedBy (IsTaken ts p stored m all) n m ns nodes lines es ss
  resolved-anyway ns nodes lines es ss none h =
      resolved-by (IsTaken ts p stored m some) (IsTaken ts p stored m all) (λ e on. deletes_own m e ≡ false) n m (λ on file line vis old k. old-taken on file line vis old k) ns nodes lines es ss (none-own es ns none) h

-- the nodes of a commit's own lines are of the table, and its edits are resolved with those of all that it inserts
pub own-of_table : (ts : List Triple) (m : ℕ) (ns : List ℕ) (es : List Edit) (own : List ℕ) → AreOfTable ts ns → AreOwnNodes m ns es own → AreOfTable ts own
own-of_table ts m ns es own within (inl is) = subst (AreOfTable ts) (sym is) (inserts-within ts ns es within)
own-of_table ts m ns es own within (inr none) = subst (AreOfTable ts) (sym none.0) tt

pub own-resolved : (ts : List Triple) (p : ℕ) (stored : List FilePart) (n m : ℕ) (ns : List ℕ) (es : List Edit) (ss : List ResolvedEdit) (own : List ℕ) → AreOwnNodes m ns es own
    → AreResolvedBy (IsTaken ts p stored m own) n m ns n m es ss → AreResolved p stored n m ns ts es ss
own-resolved ts p stored n m ns es ss own (inl is) h = subst (λ xs. AreResolvedBy (IsTaken ts p stored m xs) n m ns n m es ss) is h
own-resolved ts p stored n m ns es ss own (inr none) h = resolved-anyway ts p stored n m own (insert_nodes ns es) ns n m es ss none.1 h

anchors-first : (e : Edit) (es : List Edit) → length (anchors_of 0 (e ∷ es)) ≡ length (anchors_of 0 (e ∷ [])) + length (anchors_of 0 es)
anchors-first e es = ap length (anchors-append 0 (e ∷ []) es) ∙ length-append (anchors_of 0 (e ∷ [])) (anchors_of 0 es)

nodes-one : (nodes : ℕ) (e : Edit) → node_count_after nodes e ≡ nodes + nodes_made (e ∷ [])
nodes-one nodes (edits.New kind parent name) = omega arith
nodes-one nodes (edits.Insert file after text) = omega arith
nodes-one nodes (edits.Delete file line) = omega arith
nodes-one nodes (edits.Rename node name) = omega arith
nodes-one nodes (edits.Move node parent) = omega arith
nodes-one nodes (edits.Remove node) = omega arith

lines-one : (lines : ℕ) (e : Edit) → line_count_after lines e ≡ lines + length (anchors_of 0 (e ∷ []))
lines-one lines (edits.New kind parent name) = omega arith
lines-one lines (edits.Insert file after text) = omega arith
lines-one lines (edits.Delete file line) = omega arith
lines-one lines (edits.Rename node name) = omega arith
lines-one lines (edits.Move node parent) = omega arith
lines-one lines (edits.Remove node) = omega arith

-- the numbers of the first edit, and of the others after it
pub numbers-first : (made : MadeBefore) (e : Edit) (es : List Edit) → HaveNumbers made (e ∷ es) → HaveNumbers made (e ∷ [])
numbers-first made e es h =
    let nodes = nodes-append (e ∷ []) es in
    let lines = anchors-first e es in
    let all = h.nodes in
    let every = h.lines in
    record { nodes = omega (arith, nodes, all); lines = omega (arith, lines, every) }

pub numbers-rest : (made next : MadeBefore) (e : Edit) (es : List Edit) → next ≡ made_after made e → HaveNumbers made (e ∷ es) → HaveNumbers next es
numbers-rest made next e es is h =
    let nodes = nodes-append (e ∷ []) es in
    let lines = anchors-first e es in
    let all = h.nodes in
    let every = h.lines in
    let one = nodes-one made.nodes e in
    let line = lines-one made.lines e in
    subst (λ k. HaveNumbers k es) (sym is) (record { nodes = omega (arith, nodes, all, one); lines = omega (arith, lines, every, line) })

-- without the first of each, as many are left
pub rest-length : (e : Edit) (n : ℕ) (es : List Edit) (ns : List ℕ) → es ≡ e ∷ rest_of es → ns ≡ n ∷ rest_of ns → length ns ≡ length es → length (rest_of ns) ≡ length (rest_of es)
rest-length e n es ns edits_are nodes_are same =
    let edits = ap length edits_are in
    let nodes = ap length nodes_are in
    omega (arith, edits, nodes, same)

-- with nothing ahead, what there is are all
pub resolved-end : (P : ℕ → ℕ → ℕ → ℕ → Type 0) (n m : ℕ) (ns : List ℕ) (nodes lines : ℕ) (R : List ResolvedEdit → Type 0) (ahead : List Edit) (ss : List ResolvedEdit) → length ahead < 1
    → ((rest : List ResolvedEdit) → AreResolvedBy P n m ns nodes lines ahead rest → R (ss ++ rest)) → R ss
resolved-end P n m ns nodes lines R [] ss h all = subst R (append-nil ss) (all [] tt)
resolved-end P n m ns nodes lines R (e ∷ ahead) ss h all = absurd (omega (arith, h))

-- with an edit by numbers behind the others, those of the rest complete them
pub resolved-push : (P : ℕ → ℕ → ℕ → ℕ → Type 0) (n m on : ℕ) (ns : List ℕ) (made next : MadeBefore) (edit : Edit) (s : ResolvedEdit) (R : List ResolvedEdit → Type 0) (ahead : List Edit) (old new rest : List ResolvedEdit)
    → ahead ≡ edit ∷ rest_of ahead → ns ≡ on ∷ rest_of ns → next ≡ made_after made edit → new ≡ old ++ s ∷ [] → IsResolvedBy P n m on made.nodes made.lines edit s
    → AreResolvedBy P n m (rest_of ns) next.nodes next.lines (rest_of ahead) rest
    → ((all : List ResolvedEdit) → AreResolvedBy P n m ns made.nodes made.lines ahead all → R (old ++ all)) → R (new ++ rest)
resolved-push P n m on ns made next edit s R ahead old new rest parts nodes after put own behind goes =
    subst (λ l. R (l ++ rest)) (sym put)
    (subst R (sym (append_assoc old (s ∷ []) rest))
    (goes (s ∷ rest) (subst (λ es. AreResolvedBy P n m ns made.nodes made.lines es (s ∷ rest)) (sym parts)
    (subst (λ xs. AreResolvedBy P n m xs made.nodes made.lines (edit ∷ rest_of ahead) (s ∷ rest)) (sym nodes)
    (own, subst (λ (k : MadeBefore). AreResolvedBy P n m (rest_of ns) k.nodes k.lines (rest_of ahead) rest) after behind)))))

-- what edits by numbers tell of those that they come from
module _ (P : ℕ → ℕ → ℕ → ℕ → Type 0) (n m : ℕ) where
  pub resolved-length : (on : List ℕ) (nodes lines : ℕ) (es : List Edit) (ss : List ResolvedEdit) → AreResolvedBy P n m on nodes lines es ss → length ss ≡ length es
  resolved-length on nodes lines [] [] h = refl
  resolved-length on nodes lines [] (s ∷ ss) h = absurd h
  resolved-length on nodes lines (e ∷ es) [] h = absurd h
  resolved-length on nodes lines (e ∷ es) (s ∷ ss) h = ap suc (resolved-length (rest_nodes on) (node_count_after nodes e) (line_count_after lines e) es ss h.1)

  -- the files that they make
  pub resolved-files : (on : List ℕ) (nodes lines : ℕ) (es : List Edit) (ss : List ResolvedEdit) → AreResolvedBy P n m on nodes lines es ss → made_files ss ≡ files_made nodes es
  resolved-files on nodes lines [] [] h = refl
  resolved-files on nodes lines [] (s ∷ ss) h = absurd h
  resolved-files on nodes lines (e ∷ es) [] h = absurd h
  resolved-files on nodes lines (edits.New kind parent name ∷ es) (s ∷ ss) h =
      ap (λ x. made_files (x ∷ ss)) h.0 ∙ ap (cons_option (if_file kind (nodes + 1))) (resolved-files (rest_nodes on) (nodes + 1) lines es ss h.1)
  resolved-files on nodes lines (edits.Insert file after text ∷ es) (s ∷ ss) h = ap (λ x. made_files (x ∷ ss)) h.0 ∙ resolved-files (rest_nodes on) nodes (lines + 1) es ss h.1
  resolved-files on nodes lines (edits.Delete file line ∷ es) (s ∷ ss) h = ap (λ x. made_files (x ∷ ss)) h.0.1 ∙ resolved-files (rest_nodes on) nodes lines es ss h.1
  resolved-files on nodes lines (edits.Rename node name ∷ es) (s ∷ ss) h = ap (λ x. made_files (x ∷ ss)) h.0 ∙ resolved-files (rest_nodes on) nodes lines es ss h.1
  resolved-files on nodes lines (edits.Move node parent ∷ es) (s ∷ ss) h = ap (λ x. made_files (x ∷ ss)) h.0 ∙ resolved-files (rest_nodes on) nodes lines es ss h.1
  resolved-files on nodes lines (edits.Remove node ∷ es) (s ∷ ss) h = ap (λ x. made_files (x ∷ ss)) h.0 ∙ resolved-files (rest_nodes on) nodes lines es ss h.1

  -- the files of the lines that they insert
  pub resolved-files_of_lines : (on : List ℕ) (nodes lines : ℕ) (es : List Edit) (ss : List ResolvedEdit) → AreResolvedBy P n m on nodes lines es ss → files_of_lines ss ≡ new_file_of_line n es
  resolved-files_of_lines on nodes lines [] [] h = refl
  resolved-files_of_lines on nodes lines [] (s ∷ ss) h = absurd h
  resolved-files_of_lines on nodes lines (e ∷ es) [] h = absurd h
  resolved-files_of_lines on nodes lines (edits.New kind parent name ∷ es) (s ∷ ss) h = ap (λ x. files_of_lines (x ∷ ss)) h.0 ∙ resolved-files_of_lines (rest_nodes on) (nodes + 1) lines es ss h.1
  resolved-files_of_lines on nodes lines (edits.Insert file after text ∷ es) (s ∷ ss) h =
      ap (λ x. files_of_lines (x ∷ ss)) h.0 ∙ ap (λ l. node_number n file ∷ l) (resolved-files_of_lines (rest_nodes on) nodes (lines + 1) es ss h.1)
  resolved-files_of_lines on nodes lines (edits.Delete file line ∷ es) (s ∷ ss) h = ap (λ x. files_of_lines (x ∷ ss)) h.0.1 ∙ resolved-files_of_lines (rest_nodes on) nodes lines es ss h.1
  resolved-files_of_lines on nodes lines (edits.Rename node name ∷ es) (s ∷ ss) h = ap (λ x. files_of_lines (x ∷ ss)) h.0 ∙ resolved-files_of_lines (rest_nodes on) nodes lines es ss h.1
  resolved-files_of_lines on nodes lines (edits.Move node parent ∷ es) (s ∷ ss) h = ap (λ x. files_of_lines (x ∷ ss)) h.0 ∙ resolved-files_of_lines (rest_nodes on) nodes lines es ss h.1
  resolved-files_of_lines on nodes lines (edits.Remove node ∷ es) (s ∷ ss) h = ap (λ x. files_of_lines (x ∷ ss)) h.0 ∙ resolved-files_of_lines (rest_nodes on) nodes lines es ss h.1

  -- their changes of rows apply where nodes of a table are true
  pub resolved-within : (ts : List Triple) (on : List ℕ) (nodes lines : ℕ) (es : List Edit) (ss : List ResolvedEdit) → AreOfTable ts on → AreResolvedBy P n m on nodes lines es ss → AreWithin ts (row_changes ss)
  resolved-within ts on nodes lines [] [] low h = tt
  resolved-within ts on nodes lines [] (s ∷ ss) low h = absurd h
  resolved-within ts on nodes lines (e ∷ es) [] low h = absurd h
  resolved-within ts on nodes lines (edits.New kind parent name ∷ es) (s ∷ ss) low h =
      subst (λ x. AreWithin ts (row_changes (x ∷ ss))) (sym h.0) (first-within ts on low, resolved-within ts (rest_nodes on) (nodes + 1) lines es ss (rest-within ts on low) h.1)
  resolved-within ts on nodes lines (edits.Insert file after text ∷ es) (s ∷ ss) low h =
      subst (λ x. AreWithin ts (row_changes (x ∷ ss))) (sym h.0) (resolved-within ts (rest_nodes on) nodes (lines + 1) es ss (rest-within ts on low) h.1)
  resolved-within ts on nodes lines (edits.Delete file line ∷ es) (s ∷ ss) low h =
      subst (λ x. AreWithin ts (row_changes (x ∷ ss))) (sym h.0.1) (resolved-within ts (rest_nodes on) nodes lines es ss (rest-within ts on low) h.1)
  resolved-within ts on nodes lines (edits.Rename node name ∷ es) (s ∷ ss) low h =
      subst (λ x. AreWithin ts (row_changes (x ∷ ss))) (sym h.0) (first-within ts on low, resolved-within ts (rest_nodes on) nodes lines es ss (rest-within ts on low) h.1)
  resolved-within ts on nodes lines (edits.Move node parent ∷ es) (s ∷ ss) low h =
      subst (λ x. AreWithin ts (row_changes (x ∷ ss))) (sym h.0) (first-within ts on low, resolved-within ts (rest_nodes on) nodes lines es ss (rest-within ts on low) h.1)
  resolved-within ts on nodes lines (edits.Remove node ∷ es) (s ∷ ss) low h =
      subst (λ x. AreWithin ts (row_changes (x ∷ ss))) (sym h.0) (first-within ts on low, resolved-within ts (rest_nodes on) nodes lines es ss (rest-within ts on low) h.1)

  -- a node's number is above those before, and not above the next
  next-most : (nodes : ℕ) (ns : List ℕ) → AllByRecursion (λ k. k ≤ nodes) ns → AllByRecursion (λ k. k ≤ nodes + 1) (ns ++ (nodes + 1) ∷ [])
  next-most nodes ns most =
      all-append (λ k. k ≤ nodes + 1) ns ((nodes + 1) ∷ []) (all-map (λ k. k ≤ nodes) (λ k. k ≤ nodes + 1) (λ k low. omega (arith, low)) ns most) (omega arith, tt)

  -- the nodes that they make are new
  pub resolved-new : (on : List ℕ) (nodes lines : ℕ) (es : List Edit) (ss : List ResolvedEdit) (ns : List ℕ) → AllByRecursion (λ k. k ≤ nodes) ns → AreResolvedBy P n m on nodes lines es ss → MakeNewNodes ns (row_changes ss)
  resolved-new on nodes lines [] [] ns most h = tt
  resolved-new on nodes lines [] (s ∷ ss) ns most h = absurd h
  resolved-new on nodes lines (e ∷ es) [] ns most h = absurd h
  resolved-new on nodes lines (edits.New kind parent name ∷ es) (s ∷ ss) ns most h =
      subst (λ x. MakeNewNodes ns (row_changes (x ∷ ss))) (sym h.0)
      (fresh-next nodes (nodes + 1) ns refl most, resolved-new (rest_nodes on) (nodes + 1) lines es ss (ns ++ (nodes + 1) ∷ []) (next-most nodes ns most) h.1)
  resolved-new on nodes lines (edits.Insert file after text ∷ es) (s ∷ ss) ns most h =
      subst (λ x. MakeNewNodes ns (row_changes (x ∷ ss))) (sym h.0) (resolved-new (rest_nodes on) nodes (lines + 1) es ss ns most h.1)
  resolved-new on nodes lines (edits.Delete file line ∷ es) (s ∷ ss) ns most h =
      subst (λ x. MakeNewNodes ns (row_changes (x ∷ ss))) (sym h.0.1) (resolved-new (rest_nodes on) nodes lines es ss ns most h.1)
  resolved-new on nodes lines (edits.Rename node name ∷ es) (s ∷ ss) ns most h =
      subst (λ x. MakeNewNodes ns (row_changes (x ∷ ss))) (sym h.0) (tt, resolved-new (rest_nodes on) nodes lines es ss ns most h.1)
  resolved-new on nodes lines (edits.Move node parent ∷ es) (s ∷ ss) ns most h =
      subst (λ x. MakeNewNodes ns (row_changes (x ∷ ss))) (sym h.0) (tt, resolved-new (rest_nodes on) nodes lines es ss ns most h.1)
  resolved-new on nodes lines (edits.Remove node ∷ es) (s ∷ ss) ns most h =
      subst (λ x. MakeNewNodes ns (row_changes (x ∷ ss))) (sym h.0) (tt, resolved-new (rest_nodes on) nodes lines es ss ns most h.1)

  -- with them, all nodes have numbers up to how many there are then
  pub resolved-most : (on : List ℕ) (most nodes lines : ℕ) (es : List Edit) (ss : List ResolvedEdit) (ns : List ℕ) → nodes + nodes_made es ≤ most → AllByRecursion (λ k. k ≤ nodes) ns → AreResolvedBy P n m on nodes lines es ss
      → AllByRecursion (λ k. k ≤ most) (nodes_after_all (row_changes ss) ns)
  resolved-most on most nodes lines [] [] ns few low h = all-map (λ k. k ≤ nodes) (λ k. k ≤ most) (λ k le. omega (arith, le, few)) ns low
  resolved-most on most nodes lines [] (s ∷ ss) ns few low h = absurd h
  resolved-most on most nodes lines (e ∷ es) [] ns few low h = absurd h
  resolved-most on most nodes lines (edits.New kind parent name ∷ es) (s ∷ ss) ns few low h =
      subst (λ x. AllByRecursion (λ k. k ≤ most) (nodes_after_all (row_changes (x ∷ ss)) ns)) (sym h.0)
      (resolved-most (rest_nodes on) most (nodes + 1) lines es ss (ns ++ (nodes + 1) ∷ []) (omega (arith, few)) (next-most nodes ns low) h.1)
  resolved-most on most nodes lines (edits.Insert file after text ∷ es) (s ∷ ss) ns few low h =
      subst (λ x. AllByRecursion (λ k. k ≤ most) (nodes_after_all (row_changes (x ∷ ss)) ns)) (sym h.0) (resolved-most (rest_nodes on) most nodes (lines + 1) es ss ns few low h.1)
  resolved-most on most nodes lines (edits.Delete file line ∷ es) (s ∷ ss) ns few low h =
      subst (λ x. AllByRecursion (λ k. k ≤ most) (nodes_after_all (row_changes (x ∷ ss)) ns)) (sym h.0.1) (resolved-most (rest_nodes on) most nodes lines es ss ns few low h.1)
  resolved-most on most nodes lines (edits.Rename node name ∷ es) (s ∷ ss) ns few low h =
      subst (λ x. AllByRecursion (λ k. k ≤ most) (nodes_after_all (row_changes (x ∷ ss)) ns)) (sym h.0) (resolved-most (rest_nodes on) most nodes lines es ss ns few low h.1)
  resolved-most on most nodes lines (edits.Move node parent ∷ es) (s ∷ ss) ns few low h =
      subst (λ x. AllByRecursion (λ k. k ≤ most) (nodes_after_all (row_changes (x ∷ ss)) ns)) (sym h.0) (resolved-most (rest_nodes on) most nodes lines es ss ns few low h.1)
  resolved-most on most nodes lines (edits.Remove node ∷ es) (s ∷ ss) ns few low h =
      subst (λ x. AllByRecursion (λ k. k ≤ most) (nodes_after_all (row_changes (x ∷ ss)) ns)) (sym h.0) (resolved-most (rest_nodes on) most nodes lines es ss ns few low h.1)

  -- the files among all nodes are those before and those that they make
  pub resolved-kinds : (on : List ℕ) (nodes lines : ℕ) (es : List Edit) (ss : List ResolvedEdit) (ks : List (ℕ × Kind)) → AreResolvedBy P n m on nodes lines es ss → files_among (kinds_after_all (row_changes ss) ks) ≡ files_among ks ++ files_made nodes es
  resolved-kinds on nodes lines [] [] ks h = sym (append-nil (files_among ks))
  resolved-kinds on nodes lines [] (s ∷ ss) ks h = absurd h
  resolved-kinds on nodes lines (e ∷ es) [] ks h = absurd h
  resolved-kinds on nodes lines (edits.New kind parent name ∷ es) (s ∷ ss) ks h =
      ap (λ x. files_among (kinds_after_all (row_changes (x ∷ ss)) ks)) h.0
      ∙ resolved-kinds (rest_nodes on) (nodes + 1) lines es ss (ks ++ (nodes + 1, kind) ∷ []) h.1
      ∙ ap (λ files. files ++ files_made (nodes + 1) es) (behind ks)
      ∙ append_assoc (files_among ks) (cons_option (if_file kind (nodes + 1)) []) (files_made (nodes + 1) es)
      ∙ ap (λ files. files_among ks ++ files) (first kind)
    where
      behind : (ks : List (ℕ × Kind)) → files_among (ks ++ (nodes + 1, kind) ∷ []) ≡ files_among ks ++ cons_option (if_file kind (nodes + 1)) []
      behind [] = refl
      behind (k ∷ ks) = ap (cons_option (if_file k.1 k.0)) (behind ks) ∙ onto_both (if_file k.1 k.0) (files_among ks) (cons_option (if_file kind (nodes + 1)) [])

      first : (of : Kind) → cons_option (if_file of (nodes + 1)) [] ++ files_made (nodes + 1) es ≡ cons_option (if_file of (nodes + 1)) (files_made (nodes + 1) es)
      first kinds.File = refl
      first kinds.Dir = refl
  resolved-kinds on nodes lines (edits.Insert file after text ∷ es) (s ∷ ss) ks h = ap (λ x. files_among (kinds_after_all (row_changes (x ∷ ss)) ks)) h.0 ∙ resolved-kinds (rest_nodes on) nodes (lines + 1) es ss ks h.1
  resolved-kinds on nodes lines (edits.Delete file line ∷ es) (s ∷ ss) ks h = ap (λ x. files_among (kinds_after_all (row_changes (x ∷ ss)) ks)) h.0.1 ∙ resolved-kinds (rest_nodes on) nodes lines es ss ks h.1
  resolved-kinds on nodes lines (edits.Rename node name ∷ es) (s ∷ ss) ks h = ap (λ x. files_among (kinds_after_all (row_changes (x ∷ ss)) ks)) h.0 ∙ resolved-kinds (rest_nodes on) nodes lines es ss ks h.1
  resolved-kinds on nodes lines (edits.Move node parent ∷ es) (s ∷ ss) ks h = ap (λ x. files_among (kinds_after_all (row_changes (x ∷ ss)) ks)) h.0 ∙ resolved-kinds (rest_nodes on) nodes lines es ss ks h.1
  resolved-kinds on nodes lines (edits.Remove node ∷ es) (s ∷ ss) ks h = ap (λ x. files_among (kinds_after_all (row_changes (x ∷ ss)) ks)) h.0 ∙ resolved-kinds (rest_nodes on) nodes lines es ss ks h.1
