-- The nodes that a commit's edits name, and the files of the lines that a history holds.
use Rattle.std.proofs.Common.{◌≡◌, ℕ, ◌+◌, ◌<◌, ◌≤◌, ◌^◌, Bool, true, false, cond, None, List, [], ◌∷◌, ◌++◌, length, take, refl, sym, ap, subst, arith}
use Rattle.std.specs.List.{fold, AllByRecursion}
use Rattle.cov_base.specs.Addresses.{address_in}
use Rattle.cov_base.proofs.CallerLemmas.{all-map, all-placed}
use Rattle.cov_expr.specs.Formula.{Formula}
use Rattle.cov_edit.specs.declared.edit.Edit.{Edit}
use Rattle.cov_edit.specs.declared.edit.Edit.TheVariants as edits
use Rattle.cov_edit.specs.declared.command.Command.{Command}
use Rattle.cov_edit.specs.declared.command.Command.TheVariants as commands
use Rattle.cov_edit.specs.Numbering.{Numbers, node_count_after, line_count_after, numbered_edit, node_number, line_number, nodes_made, no_numbers, numbers_after, numbers_of, numbered_from}
use Rattle.cov_edit.specs.Replay.{first_within, rest_within, changes_within, replay}
use Rattle.cov_edit.specs.Sides.{unsided, conditions}
use Rattle.cov_edit.proofs.CallerLemmas.{node_count_after-is, numbers_from-append}
use Rattle.cov_base.specs.declared.number.NodeRef.{NodeRef}
use Rattle.cov_view.specs.References.{is_made_node}
use Rattle.cov_view.specs.Refusals.{first_refused}
use Rattle.cov_history.specs.Kept.{Kept, hidden, hidden_where, kept_address, new_line, kept_after, kept_with, Holding, kept_of}
use Rattle.cov_history.specs.Sessions.{has_commit}
use Rattle.cov_edit.specs.Variant.{Line, is_line}
use Rattle.cov_visible.specs.Staging.{IsNear, AreNear}
use Rattle.cov_history.specs.Verdict.{verdict, IsLegal}
use Rattle.cov_history.proofs.CallerLemmas.{commit-lines, all-mapped, no_commit-holds, the_node, AreNamed, IsNamed, made-number, nodes-replay, base-nodes, edits-accepted, further, accepted-named}
use Rattle.cov_engine.proofs.States.{numbers-kept, along-legal}

-- an accepted commit's edits name nodes of its base, or nodes that they make
pub edits-named : (history : List Command) (base : ℕ) (choice : List Bool) (es : List Edit)
    → first_refused (numbers_of (take base history)) (replay choice (take base history)) es ≡ None
    → AreNamed (numbers_of (take base history)).nodes 0 es
edits-named history base choice es accepted =
    let nb : Numbers = numbers_of (take base history) in
    accepted-named nb (numbers_after nb es).addresses nb.nodes 0 (length nb.addresses) 0 (replay choice (take base history)) es (omega arith)
    (further the_node nb.nodes (nb.nodes + 0) (replay choice (take base history)).rows (omega arith) (nodes-replay choice (take base history)))
    accepted

-- the numbers of the nodes that such edits name are small, counted after more nodes than those of the base
pub named-near : (n m made : ℕ) (es : List Edit) → n ≤ m → m + (made + nodes_made es) < 2 ^ 32 → AreNamed n made es → AreNear m es
named-near n m made [] le few named = tt
named-near n m made (e ∷ es) le few named =
    let after = node_count_after-is made (nodes_made es) e in (
      one e named.0,
      named-near n m (node_count_after made e) es le (omega (arith, few, after)) named.1,
    )
  where
    near : (node : NodeRef) → is_made_node n made node ≡ true → node_number m node < 2 ^ 32
    near node known = let at = made-number n m made node le known in omega (arith, at, few)

    one : (d : Edit) → IsNamed n made d → IsNear m d
    one (edits.New kind parent name) h = near parent h
    one (edits.Insert file after text) h = near file h
    one (edits.Delete file line) h = near file h
    one (edits.Rename node name) h = near node h
    one (edits.Move node parent) h = (near node h.0, near parent h.1)
    one (edits.Remove node) h = near node h

abbrev pub the_file : Kept Line → ℕ
the_file k = k.item.file

-- lines that are held stand in the first so many nodes
abbrev pub AreInFiles : ℕ → List (Kept Line) → Type 0
AreInFiles count ks = AllByRecursion (λ k. the_file k ≤ count) ks

more-files : (count more : ℕ) (ks : List (Kept Line)) → count ≤ more → AreInFiles count ks → AreInFiles more ks
more-files count more ks le h = all-map (λ k. the_file k ≤ count) (λ k. the_file k ≤ more) (λ k below. omega (arith, below, le)) ks h

hidden-file : (q : ℕ) (within : Formula ℕ) (file : ℕ) (address : List ℕ) (total : ℕ) (k : Kept Line) → the_file k ≤ total → the_file (hidden_where (is_line file address) q within k) ≤ total
hidden-file q within file address total k h = by (is_line file address k.item)
  where
    by : (b : Bool) → the_file (cond b (hidden q within k) k) ≤ total
    by true = h
    by false = h

file-edit : (q : ℕ) (within : Formula ℕ) (n : ℕ) (ns : Numbers) (t : List (List ℕ)) (node made line total : ℕ) (ks : List (Kept Line)) (e : Edit)
    → n ≤ ns.nodes → ns.nodes + made ≤ total → IsNamed n made e → AreInFiles total ks → AreInFiles total (kept_after q within ks (numbered_edit ns t node line e))
file-edit q within n ns t node made line total ks (edits.New kind parent name) le few named h = h
file-edit q within n ns t node made line total ks (edits.Insert file after text) le few named h =
    let at : node_number ns.nodes file ≤ ns.nodes + made = made-number n ns.nodes made file le named in
    all-placed kept_address (λ k. the_file k ≤ total) (new_line q within (node_number ns.nodes file) (address_in t (line + 1)) text) ks (omega (arith, at, few)) h
file-edit q within n ns t node made line total ks (edits.Delete file which) le few named h =
    let f : ℕ = node_number ns.nodes file in
    let address : List ℕ = address_in t (line_number (length ns.addresses) which) in
    all-mapped (λ k. the_file k ≤ total) (λ k. the_file k ≤ total) (hidden_where (is_line f address) q within) (λ k below. hidden-file q within f address total k below) ks h
file-edit q within n ns t node made line total ks (edits.Rename which name) le few named h = h
file-edit q within n ns t node made line total ks (edits.Move which parent) le few named h = h
file-edit q within n ns t node made line total ks (edits.Remove which) le few named h = h

files-edits : (q : ℕ) (within : List (Formula ℕ)) (n : ℕ) (ns : Numbers) (t : List (List ℕ)) (node made line total : ℕ) (ks : List (Kept Line)) (es : List Edit)
    → n ≤ ns.nodes → total ≡ ns.nodes + (made + nodes_made es) → AreNamed n made es → AreInFiles total ks
    → AreInFiles total (fold (kept_with q) ks (changes_within within (numbered_from ns t node line es)))
files-edits q within n ns t node made line total ks [] le e named h = h
files-edits q within n ns t node made line total ks (d ∷ es) le e named h =
    let after = node_count_after-is made (nodes_made es) d in
    files-edits q (rest_within within) n ns t (node_count_after node d) (node_count_after made d) (line_count_after line d) total
    (kept_after q (first_within within) ks (numbered_edit ns t node line d)) es le (omega (arith, e, after)) named.1
    (file-edit q (first_within within) n ns t node made line total ks d le (omega (arith, e)) named.0 h)

as-before : (history : List Command) (k : Command) → has_commit (k ∷ []) ≡ false → AreInFiles (numbers_of history).nodes (kept_of history)
    → AreInFiles (numbers_of (history ++ k ∷ [])).nodes (kept_of (history ++ k ∷ []))
as-before history k none h =
    subst (λ (ns : Numbers). AreInFiles ns.nodes (kept_of (history ++ k ∷ []))) (sym (numbers-kept history k none))
    (subst (λ (held : Holding). AreInFiles (numbers_of history).nodes held.lines) (sym (no_commit-holds history (k ∷ []) none)) h)

files-one : (history : List Command) (k : Command) → verdict history k ≡ None → AreInFiles (numbers_of history).nodes (kept_of history)
    → AreInFiles (numbers_of (history ++ k ∷ [])).nodes (kept_of (history ++ k ∷ []))
files-one history (commands.Commit base choice ambition es) accepted h =
    let ns : Numbers = numbers_of history in
    let more : (numbers_of (history ++ commands.Commit base choice ambition es ∷ [])).nodes ≡ ns.nodes + nodes_made (unsided es) =
    ap (λ (ms : Numbers). ms.nodes) (numbers_from-append no_numbers history (commands.Commit base choice ambition es ∷ [])) in
    subst (AreInFiles (numbers_of (history ++ commands.Commit base choice ambition es ∷ [])).nodes) (sym (commit-lines history base choice ambition es))
    (files-edits (length history + 1) (conditions ambition es) (numbers_of (take base history)).nodes ns (numbers_after ns (unsided es)).addresses ns.nodes 0 (length ns.addresses)
    (numbers_of (history ++ commands.Commit base choice ambition es ∷ [])).nodes (kept_of history) (unsided es) (base-nodes base history) (omega (arith, more))
    (edits-named history base choice (unsided es) (edits-accepted history base choice ambition es accepted))
    (more-files ns.nodes (numbers_of (history ++ commands.Commit base choice ambition es ∷ [])).nodes (kept_of history) (omega (arith, more)) h))
files-one history k accepted h = as-before history k refl h

pub legal-files : (history : List Command) → IsLegal history → AreInFiles (numbers_of history).nodes (kept_of history)
legal-files history legal = along-legal (λ hs. AreInFiles (numbers_of hs).nodes (kept_of hs)) files-one [] history legal tt
