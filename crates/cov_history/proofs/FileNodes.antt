-- Which nodes are files: their numbers, and the rows that tell them.
use Rattle.std.proofs.Common.{◌≡◌, ℕ, ◌+◌, ◌<◌, ◌≤◌, Bool, true, false, ◌||◌, not, nat_eq, List, [], ◌∷◌, ◌++◌, map, append_assoc, append-nil, Option, Some, None, refl, sym, ap, subst, ◌∙◌, arith}
use Rattle.std.specs.List.{fold, cons_option, AllByRecursion}
use Rattle.std.proofs.lemmas.Bool.{or_right}
use Rattle.std.proofs.lemmas.Bool.Decides.{nat_tests}
use Rattle.std.proofs.lemmas.List.Folds.{list_any-append}
use Rattle.cov_base.specs.Rows.{Row, with_name, with_parent, has_node}
use Rattle.cov_base.specs.declared.number.Kind.{Kind}
use Rattle.cov_base.specs.declared.number.Kind.TheVariants as kinds
use Rattle.cov_base.proofs.CallerLemmas.{all-map, all-both, all-append, all-filter}
use Rattle.cov_expr.specs.Formula.{Formula, value}
use Rattle.cov_edit.specs.declared.edit.Edit.{Edit}
use Rattle.cov_edit.specs.declared.edit.Edit.TheVariants as edits
use Rattle.cov_edit.specs.declared.command.Command.{Command}
use Rattle.cov_edit.specs.declared.command.Command.TheVariants as commands
use Rattle.cov_edit.specs.Numbering.{Numbers, node_number, node_count_after, line_count_after, nodes_made, no_numbers, numbers_after, numbers_from, numbers_of, numbered_edit, numbered_from}
use Rattle.cov_edit.specs.Touched.{AreRising}
use Rattle.cov_edit.specs.Variant.{Variant, bare, edited}
use Rattle.cov_edit.specs.Replay.{applying, first_within, rest_within, changes_within, commit_changes, changes_from, applied, replay}
use Rattle.cov_edit.specs.Sides.{unsided, conditions}
use Rattle.cov_edit.specs.declared.sided.Sided.{Sided}
use Rattle.cov_edit.proofs.CallerLemmas.{fold-append, node_count_after-is}
use Rattle.cov_view.specs.References.{is_dir_kind}
use Rattle.cov_history.specs.FileNodes.{if_file, file_made, files_made, files_from, files_of}
use Rattle.cov_history.proofs.ChangedRows.{renamed-field, moved-field}
use Rattle.cov_history.proofs.Naming.{the_node, AreUpTo, either-way, further, nodes-edit, nodes-grow}
use Rattle.cov_history.proofs.Standing.{all-mapped}

-- numbers above one and up to another
abbrev pub AreWithin : ℕ → ℕ → List ℕ → Type 0
AreWithin low high xs = AllByRecursion (λ x. (low < x) × (x ≤ high)) xs

within-wider : (low high below above : ℕ) (xs : List ℕ) → below ≤ low → high ≤ above → AreWithin low high xs → AreWithin below above xs
within-wider low high below above xs le ge h =
    all-map (λ x. (low < x) × (x ≤ high)) (λ x. (below < x) × (x ≤ above)) (λ x own. let a = own.0 in let b = own.1 in (omega (arith, a, le), omega (arith, b, ge))) xs h

-- a number that isn't among them is none of theirs
absent : (P : ℕ → Type 0) (x : ℕ) → ((y : ℕ) → P y → nat_eq y x ≡ false) → (xs : List ℕ) → AllByRecursion P xs → has_node x xs ≡ false
absent P x other [] h = refl
absent P x other (y ∷ xs) h = ap (λ b. b || has_node x xs) (other y h.0) ∙ absent P x other xs h.1

pub absent-low : (low high x : ℕ) (xs : List ℕ) → x ≤ low → AreWithin low high xs → has_node x xs ≡ false
absent-low low high x xs le h = absent (λ y. (low < y) × (y ≤ high)) x (λ y own. let a = own.0 in grind (arith, nat_tests, a, le)) xs h

pub absent-high : (high x : ℕ) (xs : List ℕ) → high < x → AllByRecursion (λ y. y ≤ high) xs → has_node x xs ≡ false
absent-high high x xs lt h = absent (λ y. y ≤ high) x (λ y low. grind (arith, nat_tests, low, lt)) xs h

-- the files that edits make are nodes that they make
pub made-within : (n : ℕ) (es : List Edit) → AreWithin n (n + nodes_made es) (files_made n es)
made-within n [] = tt
made-within n (edits.New kind parent name ∷ es) =
    at kind (within-wider (n + 1) (n + 1 + nodes_made es) n (n + (nodes_made es + 1)) (files_made (n + 1) es) (omega arith) (omega arith) (made-within (n + 1) es))
  where
    at : (of : Kind) → AreWithin n (n + (nodes_made es + 1)) (files_made (n + 1) es) → AreWithin n (n + (nodes_made es + 1)) (cons_option (if_file of (n + 1)) (files_made (n + 1) es))
    at kinds.File rest = ((omega arith, omega arith), rest)
    at kinds.Dir rest = rest
made-within n (edits.Insert file after text ∷ es) = made-within n es
made-within n (edits.Delete file which ∷ es) = made-within n es
made-within n (edits.Rename which name ∷ es) = made-within n es
made-within n (edits.Move which parent ∷ es) = made-within n es
made-within n (edits.Remove which ∷ es) = made-within n es

-- and rise
made-rise : (n : ℕ) (es : List Edit) → AreRising (files_made n es)
made-rise n [] = tt
made-rise n (edits.New kind parent name ∷ es) = at kind (made-rise (n + 1) es)
  where
    at : (of : Kind) → AreRising (files_made (n + 1) es) → AreRising (cons_option (if_file of (n + 1)) (files_made (n + 1) es))
    at kinds.File rest = (all-map (λ x. (n + 1 < x) × (x ≤ n + 1 + nodes_made es)) (λ x. n + 1 < x) (λ x own. own.0) (files_made (n + 1) es) (made-within (n + 1) es), rest)
    at kinds.Dir rest = rest
made-rise n (edits.Insert file after text ∷ es) = made-rise n es
made-rise n (edits.Delete file which ∷ es) = made-rise n es
made-rise n (edits.Rename which name ∷ es) = made-rise n es
made-rise n (edits.Move which parent ∷ es) = made-rise n es
made-rise n (edits.Remove which ∷ es) = made-rise n es

-- rising numbers, and then greater ones that rise
rise-append : (low high : ℕ) (xs ys : List ℕ) → AllByRecursion (λ x. x ≤ low) xs → AreWithin low high ys → AreRising xs → AreRising ys → AreRising (xs ++ ys)
rise-append low high [] ys up above h k = k
rise-append low high (x ∷ xs) ys up above h k =
    let own : x ≤ low = up.0 in (
      all-append (λ y. x < y) xs ys h.0 (all-map (λ y. (low < y) × (y ≤ high)) (λ y. x < y) (λ y more. let a = more.0 in omega (arith, a, own)) ys above),
      rise-append low high xs ys up.1 above h.1 k,
    )

-- so it is with more of a history
pub from-within : (ns : Numbers) (history : List Command) → AreWithin ns.nodes (numbers_from ns history).nodes (files_from ns.nodes history)
from-within ns [] = tt
from-within ns (commands.Commit base choice ambition ss ∷ history) =
    let es : List Edit = unsided ss in
    let n : ℕ = ns.nodes in
    let total : ℕ = (numbers_from (numbers_after ns es) history).nodes in
    let grown : n + nodes_made es ≤ total = nodes-grow (numbers_after ns es) history in
    all-append (λ x. (n < x) × (x ≤ total)) (files_made n es) (files_from (n + nodes_made es) history)
    (within-wider n (n + nodes_made es) n total (files_made n es) (omega arith) grown (made-within n es))
    (within-wider (n + nodes_made es) total n total (files_from (n + nodes_made es) history) (omega arith) (omega arith) (from-within (numbers_after ns es) history))
from-within ns (commands.Option name ∷ history) = from-within ns history
from-within ns (commands.Constraint expr ∷ history) = from-within ns history
from-within ns (commands.Prefer expr ∷ history) = from-within ns history
from-within ns (commands.Default option on ∷ history) = from-within ns history
from-within ns (commands.Upgrade ∷ history) = from-within ns history

from-rise : (ns : Numbers) (history : List Command) → AreRising (files_from ns.nodes history)
from-rise ns [] = tt
from-rise ns (commands.Commit base choice ambition ss ∷ history) =
    let es : List Edit = unsided ss in
    let n : ℕ = ns.nodes in
    rise-append (n + nodes_made es) (numbers_from (numbers_after ns es) history).nodes (files_made n es) (files_from (n + nodes_made es) history)
    (all-map (λ x. (n < x) × (x ≤ n + nodes_made es)) (λ x. x ≤ n + nodes_made es) (λ x own. own.1) (files_made n es) (made-within n es))
    (from-within (numbers_after ns es) history) (made-rise n es) (from-rise (numbers_after ns es) history)
from-rise ns (commands.Option name ∷ history) = from-rise ns history
from-rise ns (commands.Constraint expr ∷ history) = from-rise ns history
from-rise ns (commands.Prefer expr ∷ history) = from-rise ns history
from-rise ns (commands.Default option on ∷ history) = from-rise ns history
from-rise ns (commands.Upgrade ∷ history) = from-rise ns history

pub files-rise : (history : List Command) → AreRising (files_of history) × AllByRecursion (λ file. (0 < file) × (file ≤ (numbers_of history).nodes)) (files_of history)
files-rise history = (from-rise no_numbers history, from-within no_numbers history)

-- what an option puts before the first of two lists stands before both
pub onto_both : (o : Option ℕ) (xs ys : List ℕ) → cons_option o (xs ++ ys) ≡ cons_option o xs ++ ys
onto_both None xs ys = refl
onto_both (Some x) xs ys = refl

-- the files of what comes first, and then those of the rest
pub made-append : (n : ℕ) (es fs : List Edit) → files_made n (es ++ fs) ≡ files_made n es ++ files_made (n + nodes_made es) fs
made-append n [] fs = let same : n ≡ n + 0 = omega arith in ap (λ m. files_made m fs) same
made-append n (e ∷ es) fs =
    ap (cons_option (file_made n e)) (made-append (node_count_after n e) es fs ∙ ap (λ m. files_made (node_count_after n e) es ++ files_made m fs) (sym (node_count_after-is n (nodes_made es) e)))
    ∙ onto_both (file_made n e) (files_made (node_count_after n e) es) (files_made (n + node_count_after (nodes_made es) e) fs)

from-append : (ns : Numbers) (history later : List Command) → files_from ns.nodes (history ++ later) ≡ files_from ns.nodes history ++ files_from (numbers_from ns history).nodes later
from-append ns [] later = refl
from-append ns (commands.Commit base choice ambition ss ∷ history) later =
    let es : List Edit = unsided ss in
    ap (λ xs. files_made ns.nodes es ++ xs) (from-append (numbers_after ns es) history later)
    ∙ sym (append_assoc (files_made ns.nodes es) (files_from (ns.nodes + nodes_made es) history) (files_from (numbers_from (numbers_after ns es) history).nodes later))
from-append ns (commands.Option name ∷ history) later = from-append ns history later
from-append ns (commands.Constraint expr ∷ history) later = from-append ns history later
from-append ns (commands.Prefer expr ∷ history) later = from-append ns history later
from-append ns (commands.Default option on ∷ history) later = from-append ns history later
from-append ns (commands.Upgrade ∷ history) later = from-append ns history later

pub files-append : (history later : List Command) → files_of (history ++ later) ≡ files_of history ++ files_from (numbers_of history).nodes later
files-append history later = from-append no_numbers history later

pub files-commit : (history : List Command) (base : ℕ) (choice : List Bool) (ambition : Formula ℕ) (ss : List Sided)
    → files_of (history ++ commands.Commit base choice ambition ss ∷ []) ≡ files_of history ++ files_made (numbers_of history).nodes (unsided ss)
files-commit history base choice ambition ss =
    files-append history (commands.Commit base choice ambition ss ∷ []) ∙ ap (λ xs. files_of history ++ xs) (append-nil (files_made (numbers_of history).nodes (unsided ss)))

pub files-go_on : (history : List Command) → ((later : List Command) → files_of (history ++ later) ≡ files_of history ++ files_from (numbers_of history).nodes later)
    × ((base : ℕ) (choice : List Bool) (ambition : Formula ℕ) (ss : List Sided)
    → files_of (history ++ commands.Commit base choice ambition ss ∷ []) ≡ files_of history ++ files_made (numbers_of history).nodes (unsided ss))
files-go_on history = (files-append history, files-commit history)

-- a number among the first is among all
pub among-more : (x : ℕ) (xs ys : List ℕ) → has_node x xs ≡ true → has_node x (xs ++ ys) ≡ true
among-more x xs ys h = list_any-append (λ y. nat_eq y x) xs ys ∙ ap (λ b. b || has_node x ys) h

-- and so is one among the last
pub among-last : (x : ℕ) (xs ys : List ℕ) → has_node x ys ≡ true → has_node x (xs ++ ys) ≡ true
among-last x xs ys h = list_any-append (λ y. nat_eq y x) xs ys ∙ or_right (has_node x xs) (has_node x ys) h

or_nothing : (a b : Bool) → b ≡ false → (a || b) ≡ a
or_nothing true b e = refl
or_nothing false b e = e

-- greater numbers change nothing
among-first : (low high x : ℕ) (xs ys : List ℕ) → x ≤ low → AreWithin low high ys → has_node x (xs ++ ys) ≡ has_node x xs
among-first low high x xs ys le above = list_any-append (λ y. nat_eq y x) xs ys ∙ or_nothing (has_node x xs) (has_node x ys) (absent-low low high x ys le above)

-- a row is one of a file just where its node is among these
abbrev Tells : List ℕ → Row → Type 0
Tells files r = has_node r.node files ≡ not (is_dir_kind r.kind)

-- so many nodes and these files are made: each row is one of those nodes, and tells whether it is a file
abbrev pub AreTold : ℕ → List ℕ → Variant → Type 0
AreTold node files v = AreUpTo the_node node v.rows × AllByRecursion (λ x. x ≤ node) files × AllByRecursion (Tells files) v.rows

-- the file that an edit makes, if it makes one
abbrev one_file : ℕ → Edit → List ℕ
one_file node e = cons_option (file_made node e) []

one-within : (node : ℕ) (e : Edit) → AreWithin node (node_count_after node e) (one_file node e)
one-within node (edits.New kind parent name) = at kind
  where
    at : (of : Kind) → AreWithin node (node + 1) (cons_option (if_file of (node + 1)) [])
    at kinds.File = ((omega arith, omega arith), tt)
    at kinds.Dir = tt
one-within node (edits.Insert file after text) = tt
one-within node (edits.Delete file which) = tt
one-within node (edits.Rename which name) = tt
one-within node (edits.Move which parent) = tt
one-within node (edits.Remove which) = tt

-- rows tell with a file more what they told before
tells-more : (node : ℕ) (e : Edit) (files : List ℕ) (rows : List Row) → AreUpTo the_node node rows → AllByRecursion (Tells files) rows → AllByRecursion (Tells (files ++ one_file node e)) rows
tells-more node e files rows up h =
    all-both (λ r. r.node ≤ node) (Tells files) (Tells (files ++ one_file node e))
    (λ r low told. among-first node (node_count_after node e) r.node files (one_file node e) low (one-within node e) ∙ told) rows up h

-- what a row tells stays where its node and its kind do
tells-same : (files : List ℕ) (f : Row → Row) → ((r : Row) → (f r).node ≡ r.node) → ((r : Row) → (f r).kind ≡ r.kind) → (rows : List Row) → AllByRecursion (Tells files) rows → AllByRecursion (Tells files) (map f rows)
tells-same files f nodes kinds rows h =
    all-mapped (Tells files) (Tells files) f (λ r told. ap (λ x. has_node x files) (nodes r) ∙ told ∙ ap (λ k. not (is_dir_kind k)) (sym (kinds r))) rows h

abbrev the_kind : Row → Kind
the_kind r = r.kind

new-tells : (node : ℕ) (kind : Kind) (files : List ℕ) → AllByRecursion (λ x. x ≤ node) files → has_node (node + 1) (files ++ cons_option (if_file kind (node + 1)) []) ≡ not (is_dir_kind kind)
new-tells node kinds.File files up = among-last (node + 1) files ((node + 1) ∷ []) (let own : nat_eq (node + 1) (node + 1) ≡ true = grind (arith, nat_tests) in ap (λ b. b || false) own)
new-tells node kinds.Dir files up = ap (has_node (node + 1)) (append-nil files) ∙ absent-high node (node + 1) files (omega arith) up

edit-tells : (ns : Numbers) (t : List (List ℕ)) (node line : ℕ) (v : Variant) (files : List ℕ) (e : Edit) → AreTold node files v
    → AllByRecursion (Tells (files ++ one_file node e)) (edited v (numbered_edit ns t node line e)).rows
edit-tells ns t node line v files (edits.New kind parent name) h =
    let dir = node_number ns.nodes parent in
    let r : Row = record { node = node + 1; kind = kind; parent = dir; name = name } in
    all-append (Tells (files ++ one_file node (edits.New kind parent name))) v.rows (r ∷ []) (tells-more node (edits.New kind parent name) files v.rows h.0 h.2) (new-tells node kind files h.1, tt)
edit-tells ns t node line v files (edits.Insert file after text) h = tells-more node (edits.Insert file after text) files v.rows h.0 h.2
edit-tells ns t node line v files (edits.Delete file which) h = tells-more node (edits.Delete file which) files v.rows h.0 h.2
edit-tells ns t node line v files (edits.Rename which name) h =
    let x = node_number ns.nodes which in
    tells-same (files ++ []) (with_name x name) (λ r. renamed-field the_node x name r refl) (λ r. renamed-field the_kind x name r refl) v.rows
    (tells-more node (edits.Rename which name) files v.rows h.0 h.2)
edit-tells ns t node line v files (edits.Move which parent) h =
    let x = node_number ns.nodes which in
    let dir = node_number ns.nodes parent in
    tells-same (files ++ []) (with_parent x dir) (λ r. moved-field the_node x dir r refl) (λ r. moved-field the_kind x dir r refl) v.rows
    (tells-more node (edits.Move which parent) files v.rows h.0 h.2)
edit-tells ns t node line v files (edits.Remove which) h =
    all-filter (Tells (files ++ [])) (λ r. not (nat_eq r.node (node_number ns.nodes which))) v.rows (tells-more node (edits.Remove which) files v.rows h.0 h.2)

-- files up to a count, with one more
files-up : (node : ℕ) (e : Edit) (files : List ℕ) → AllByRecursion (λ x. x ≤ node) files → AllByRecursion (λ x. x ≤ node_count_after node e) (files ++ one_file node e)
files-up node e files h =
    let more = node_count_after-is node 0 e in
    all-append (λ x. x ≤ node_count_after node e) files (one_file node e) (all-map (λ x. x ≤ node) (λ x. x ≤ node_count_after node e) (λ x low. omega (arith, low, more)) files h)
    (all-map (λ x. (node < x) × (x ≤ node_count_after node e)) (λ x. x ≤ node_count_after node e) (λ x own. own.1) (one_file node e) (one-within node e))

one-behind : (files rest : List ℕ) (o : Option ℕ) → files ++ cons_option o rest ≡ (files ++ cons_option o []) ++ rest
one-behind files rest None = ap (λ xs. xs ++ rest) (sym (append-nil files))
one-behind files rest (Some x) = sym (append_assoc files (x ∷ []) rest)

module _ (c : List Bool) where
  -- edits, each where it applies
  pub edits-told : (within : List (Formula ℕ)) (ns : Numbers) (t : List (List ℕ)) (node line total : ℕ) (v : Variant) (files all : List ℕ) (es : List Edit)
      → total ≡ node + nodes_made es → all ≡ files ++ files_made node es → AreTold node files v
      → AreTold total all (fold (applied c) v (changes_within within (numbered_from ns t node line es)))
  edits-told within ns t node line total v files all [] e f h =
      let same : node ≡ total = omega (arith, e) in
      subst (λ n. AreTold n all v) same (subst (λ xs. AreTold node xs v) (sym (f ∙ append-nil files)) h)
  edits-told within ns t node line total v files all (d ∷ es) e f h =
      let next : ℕ = node_count_after node d in
      let more = node_count_after-is node 0 d in
      let up = files-up node d files h.1 in
      edits-told (rest_within within) ns t next (line_count_after line d) total (applied c v (applying (first_within within) (numbered_edit ns t node line d))) (files ++ one_file node d) all es
      (e ∙ node_count_after-is node (nodes_made es) d) (f ∙ one-behind files (files_made next es) (file_made node d))
      (either-way (AreTold next (files ++ one_file node d)) (value (first_within within) c) (edited v (numbered_edit ns t node line d)) v
      (nodes-edit ns t node line v d h.0, up, edit-tells ns t node line v files d h)
      (further the_node node next v.rows (omega (arith, more)) h.0, up, tells-more node d files v.rows h.0 h.2))

  -- more of a history
  from-told : (ns : Numbers) (v : Variant) (files all : List ℕ) (history : List Command) → all ≡ files ++ files_from ns.nodes history → AreTold ns.nodes files v
      → AreTold (numbers_from ns history).nodes all (fold (applied c) v (changes_from ns history))
  from-told ns v files all [] f h = subst (λ xs. AreTold ns.nodes xs v) (sym (f ∙ append-nil files)) h
  from-told ns v files all (commands.Commit base choice ambition ss ∷ history) f h =
      let es : List Edit = unsided ss in
      let made : List ℕ = files_made ns.nodes es in
      subst (AreTold (numbers_from (numbers_after ns es) history).nodes all)
      (sym (fold-append (applied c) v (commit_changes ns ambition ss) (changes_from (numbers_after ns es) history)))
      (from-told (numbers_after ns es) (fold (applied c) v (commit_changes ns ambition ss)) (files ++ made) all history
      (f ∙ sym (append_assoc files made (files_from (ns.nodes + nodes_made es) history)))
      (edits-told (conditions ambition ss) ns (numbers_after ns es).addresses ns.nodes _ (ns.nodes + nodes_made es) v files (files ++ made) es refl refl h))
  from-told ns v files all (commands.Option name ∷ history) f h = from-told ns v files all history f h
  from-told ns v files all (commands.Constraint expr ∷ history) f h = from-told ns v files all history f h
  from-told ns v files all (commands.Prefer expr ∷ history) f h = from-told ns v files all history f h
  from-told ns v files all (commands.Default option on ∷ history) f h = from-told ns v files all history f h
  from-told ns v files all (commands.Upgrade ∷ history) f h = from-told ns v files all history f h

  pub replay-told : (history : List Command) → AreTold (numbers_of history).nodes (files_of history) (replay c history)
  replay-told history = from-told no_numbers bare [] (files_of history) history refl (tt, tt, tt)

  -- the rows of a replay tell which of its nodes are files
  pub rows-tell : (history : List Command) → AllByRecursion (λ r. has_node r.node (files_of history) ≡ not (is_dir_kind r.kind)) (replay c history).rows
  rows-tell history = (replay-told history).2
