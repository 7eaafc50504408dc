-- The files that edits name, and those of the lines that a history holds.
use Rattle.std.proofs.Common.{◌≡◌, ℕ, zero, suc, ◌+◌, ◌≤◌, Bool, true, false, cond, ◌||◌, not, nat_eq, List, [], ◌∷◌, ◌++◌, length, map, take, drop, append_assoc, append-nil, Some, None, refl, sym, ap, subst, ◌∙◌, arith}
use Rattle.std.specs.List.{fold, list_any, cons_option, AllByRecursion}
use Rattle.std.proofs.lemmas.Bool.{and_parts}
use Rattle.std.proofs.lemmas.Bool.Decides.{nat_tests}
use Rattle.std.proofs.lemmas.List.{take-append-drop}
use Rattle.std.proofs.lemmas.List.Folds.{list_any-append}
use Rattle.cov_base.specs.Addresses.{address_in}
use Rattle.cov_base.specs.Rows.{Row, has_node, is_present, row_of}
use Rattle.cov_base.specs.declared.number.Kind.{Kind}
use Rattle.cov_base.specs.declared.number.Kind.TheVariants as kinds
use Rattle.cov_base.specs.declared.number.NodeRef.{NodeRef}
use Rattle.cov_base.specs.declared.number.NodeRef.TheVariants as nodes
use Rattle.cov_base.specs.declared.number.LineRef.{LineRef}
use Rattle.cov_base.proofs.CallerLemmas.{all-map, all-placed, or_second}
use Rattle.cov_expr.specs.Formula.{Formula, True}
use Rattle.cov_edit.specs.declared.edit.Edit.{Edit}
use Rattle.cov_edit.specs.declared.edit.Edit.TheVariants as edits
use Rattle.cov_edit.specs.declared.command.Command.{Command}
use Rattle.cov_edit.specs.declared.command.Command.TheVariants as commands
use Rattle.cov_edit.specs.Numbering.{Numbers, NumberedEdit, node_number, line_number, node_count_after, line_count_after, nodes_made, numbers_after, numbers_of, numbered_edit, numbered_from}
use Rattle.cov_edit.specs.Variant.{Variant, Line, is_line, edited}
use Rattle.cov_edit.specs.Replay.{applies, first_within, rest_within, changes_within, applied, replay}
use Rattle.cov_edit.specs.Sides.{unsided, conditions}
use Rattle.cov_edit.specs.declared.sided.Sided.{Sided}
use Rattle.cov_edit.proofs.CallerLemmas.{all_within}
use Rattle.cov_view.specs.References.{is_dir_kind, is_known_node}
use Rattle.cov_view.specs.Refusals.{shows_node, row_is_dir, is_dir, refusal, refused_from, first_refused}
use Rattle.cov_view.proofs.CallerLemmas.{node-known, none-when, insert-accepted, delete-accepted}
use Rattle.cov_history.specs.FileNodes.{if_file, files_made, files_from, files_of, NamesFile}
use Rattle.cov_history.specs.Insertions.{lines_before, table_of, numbered_amid, held_amid}
use Rattle.cov_history.specs.Kept.{Kept, hidden, hidden_where, kept_address, new_line, kept_after, kept_with, Holding, held_by, kept_of}
use Rattle.cov_history.specs.Sessions.{Session, edits_of, within_of, IsGood, has_commit}
use Rattle.cov_history.specs.Verdict.{verdict, IsLegalFrom, IsLegal}
use Rattle.cov_history.proofs.Appends.{commit-lines, lines-edits}
use Rattle.cov_history.proofs.FileNodes.{AreTold, absent-low, absent-high, made-within, made-append, files-append, files-commit, among-more, among-last, edits-told, replay-told}
use Rattle.cov_history.proofs.Naming.{edits-accepted}
use Rattle.cov_history.proofs.Orders.{no_commit-holds}
use Rattle.cov_history.proofs.Sessions.{turn-accepted}
use Rattle.cov_history.proofs.Standing.{all-mapped}

-- a node that has a row and isn't a directory is one of the files that the rows tell
told-file : (node : ℕ) (files : List ℕ) (rows : List Row) → AllByRecursion (λ r. has_node r.node files ≡ not (is_dir_kind r.kind)) rows
    → list_any (λ r. nat_eq r.node node) rows ≡ true → row_is_dir (row_of rows node) ≡ false → has_node node files ≡ true
told-file node files [] told there no_dir = absurd (cc)
told-file node files (r ∷ rows) told there no_dir = at (nat_eq r.node node) refl there no_dir (told-file node files rows told.1)
  where
    at : (b : Bool) → nat_eq r.node node ≡ b → (b || list_any (λ s. nat_eq s.node node) rows) ≡ true → row_is_dir (cond b (Some r) (row_of rows node)) ≡ false
        → (list_any (λ s. nat_eq s.node node) rows ≡ true → row_is_dir (row_of rows node) ≡ false → has_node node files ≡ true) → has_node node files ≡ true
    at true e i j rest = let same : r.node ≡ node = grind (arith, nat_tests, e) in ap (λ x. has_node x files) (sym same) ∙ told.0 ∙ ap not j
    at false e i j rest = rest i j

present-file : (node : ℕ) (files : List ℕ) (rows : List Row) → AllByRecursion (λ r. has_node r.node files ≡ not (is_dir_kind r.kind)) rows
    → is_present rows node ≡ true → is_dir rows node ≡ false → has_node node files ≡ true
present-file zero files rows told there no_dir = absurd (cc)
present-file (suc n) files rows told there no_dir =
    let below : nat_eq (suc n) 0 ≡ false = grind (arith, nat_tests) in
    told-file (suc n) files rows told (sym (ap (λ b. b || list_any (λ r. nat_eq r.node (suc n)) rows) below) ∙ there) no_dir

shown-file : (ns : Numbers) (v : Variant) (files : List ℕ) (file : NodeRef) → AllByRecursion (λ r. has_node r.node files ≡ not (is_dir_kind r.kind)) v.rows
    → shows_node ns v file ≡ true → is_dir v.rows (node_number ns.nodes file) ≡ false → has_node (node_number ns.nodes file) files ≡ true
shown-file ns v files file told there no_dir =
    present-file (node_number ns.nodes file) files v.rows told (and_parts (is_known_node ns.nodes file) (is_present v.rows (node_number ns.nodes file)) there).1 no_dir

insert-file : (ns : Numbers) (v : Variant) (file : NodeRef) (after : LineRef) (text : List ℕ) → refusal ns v (edits.Insert file after text) ≡ None → is_dir v.rows (node_number ns.nodes file) ≡ false
insert-file ns v file after text h = (none-when (is_dir v.rows (node_number ns.nodes file)) _ _ (none-when (not (shows_node ns v file)) _ _ h).1).0

delete-file : (ns : Numbers) (v : Variant) (file : NodeRef) (line : LineRef) → refusal ns v (edits.Delete file line) ≡ None → is_dir v.rows (node_number ns.nodes file) ≡ false
delete-file ns v file line h = (none-when (is_dir v.rows (node_number ns.nodes file)) _ _ (none-when (not (shows_node ns v file)) _ _ h).1).0

-- edits make the same files wherever their numbers begin
same-test : (a b c d : ℕ) → (a ≡ b → c ≡ d) → (c ≡ d → a ≡ b) → nat_eq a b ≡ nat_eq c d
same-test a b c d f g = at (nat_eq a b) (nat_eq c d) refl refl
  where
    at : (x y : Bool) → nat_eq a b ≡ x → nat_eq c d ≡ y → nat_eq a b ≡ nat_eq c d
    at true true e i = e ∙ sym i
    at false false e i = e ∙ sym i
    at true false e i =
        let one : a ≡ b = grind (arith, nat_tests, e) in
        let two : c ≡ d = f one in
        absurd (let three : nat_eq c d ≡ true = grind (arith, nat_tests, two) in cc)
    at false true e i =
        let one : c ≡ d = grind (arith, nat_tests, i) in
        let two : a ≡ b = g one in
        absurd (let three : nat_eq a b ≡ true = grind (arith, nat_tests, two) in cc)

made-again : (n m i k l : ℕ) (es : List Edit) (j : ℕ) → k ≡ n + j → l ≡ m + j → has_node (n + 1 + i) (files_made k es) ≡ has_node (m + 1 + i) (files_made l es)
made-again n m i k l [] j e f = refl
made-again n m i k l (edits.New kind parent name ∷ es) j e f = at kind (made-again n m i (k + 1) (l + 1) es (j + 1) (omega (arith, e)) (omega (arith, f)))
  where
    at : (of : Kind) → has_node (n + 1 + i) (files_made (k + 1) es) ≡ has_node (m + 1 + i) (files_made (l + 1) es)
        → has_node (n + 1 + i) (cons_option (if_file of (k + 1)) (files_made (k + 1) es)) ≡ has_node (m + 1 + i) (cons_option (if_file of (l + 1)) (files_made (l + 1) es))
    at kinds.File rest =
        ap (λ b. b || has_node (n + 1 + i) (files_made (k + 1) es)) (same-test (k + 1) (n + 1 + i) (l + 1) (m + 1 + i) (λ h. omega (arith, e, f, h)) (λ h. omega (arith, e, f, h)))
        ∙ ap (λ b. nat_eq (l + 1) (m + 1 + i) || b) rest
    at kinds.Dir rest = rest
made-again n m i k l (edits.Insert file after text ∷ es) j e f = made-again n m i k l es j e f
made-again n m i k l (edits.Delete file which ∷ es) j e f = made-again n m i k l es j e f
made-again n m i k l (edits.Rename which name ∷ es) j e f = made-again n m i k l es j e f
made-again n m i k l (edits.Move which parent ∷ es) j e f = made-again n m i k l es j e f
made-again n m i k l (edits.Remove which ∷ es) j e f = made-again n m i k l es j e f

or_first : (a b : Bool) → b ≡ false → (a || b) ≡ true → a ≡ true
or_first true b e h = refl
or_first false b e h = absurd (cc)

-- a file by the numbers of the base is one by those of now
file-now : (n m : ℕ) (files more : List ℕ) (es : List Edit) (file : NodeRef) → AllByRecursion (λ x. x ≤ n) files → is_known_node n file ≡ true
    → has_node (node_number n file) (files ++ files_made n es) ≡ true → has_node (node_number m file) ((files ++ more) ++ files_made m es) ≡ true
file-now n m files more es (nodes.Old x) up known h =
    let low : x ≤ n = grind (arith, nat_tests, known) in
    let own = or_first (has_node x files) (has_node x (files_made n es)) (absent-low n (n + nodes_made es) x (files_made n es) low (made-within n es)) (sym (list_any-append (λ y. nat_eq y x) files (files_made n es)) ∙ h) in
    among-more x (files ++ more) (files_made m es) (among-more x files more own)
file-now n m files more es (nodes.New i) up known h =
    let x : ℕ = n + 1 + i in
    let own = or_second (has_node x files) (has_node x (files_made n es)) (absent-high n x files (omega arith) up) (sym (list_any-append (λ y. nat_eq y x) files (files_made n es)) ∙ h) in
    among-last (m + 1 + i) (files ++ more) (files_made m es) (sym (made-again n m i n m es 0 (omega arith) (omega arith)) ∙ own)

-- more files name the same
names-more : (files more : List ℕ) (n : ℕ) (e : Edit) → NamesFile files n e → NamesFile (files ++ more) n e
names-more files more n (edits.New kind parent name) h = tt
names-more files more n (edits.Insert file after text) h = among-more (node_number n file) files more h
names-more files more n (edits.Delete file which) h = among-more (node_number n file) files more h
names-more files more n (edits.Rename which name) h = tt
names-more files more n (edits.Move which parent) h = tt
names-more files more n (edits.Remove which) h = tt

-- what is true of each edit in turn is so of all
each-turn : (P : Edit → Type 0) (begun es : List Edit) → ((before : List Edit) (e : Edit) (later : List Edit) → before ++ e ∷ later ≡ begun ++ es → P e) → AllByRecursion P es
each-turn P begun [] f = tt
each-turn P begun (e ∷ es) f = (f begun e es refl, each-turn P (begun ++ e ∷ []) es (λ before d later same. f before d later (same ∙ append_assoc begun (e ∷ []) es)))

-- edits that apply everywhere
abbrev everywhere : List NumberedEdit → List (Formula ℕ)
everywhere ds = map (λ d. True) ds

all_of : (c : List Bool) (v : Variant) (ds : List NumberedEdit) → fold (applied c) v (changes_within (everywhere ds) ds) ≡ fold edited v ds
all_of c v ds = all_within c v (everywhere ds) ds (each ds)
  where
    each : (ds : List NumberedEdit) → AllByRecursion (λ change. applies c change ≡ true) (changes_within (everywhere ds) ds)
    each [] = tt
    each (d ∷ ds) = (refl, each ds)

-- edits that the base accepts
module _ (history : List Command) (base : ℕ) (choice : List Bool) (es : List Edit) (accepted : first_refused (numbers_of (take base history)) (replay choice (take base history)) es ≡ None) where
  abbrev nb : Numbers
  nb = numbers_of (take base history)

  abbrev n : ℕ
  n = (numbers_of history).nodes

  -- the files when the first of them are done
  abbrev files_amid : List Edit → List ℕ
  files_amid begun = files_of history ++ files_made n begun

  -- what the base sees when it is an edit's turn
  abbrev amid : List Edit → Variant
  amid begun = fold edited (replay choice (take base history)) (numbered_from nb (numbers_after nb es).addresses nb.nodes (length nb.addresses) begun)

  amid-told : (begun : List Edit) → AllByRecursion (λ r. has_node r.node (files_of (take base history) ++ files_made nb.nodes begun) ≡ not (is_dir_kind r.kind)) (amid begun).rows
  amid-told begun =
      let ds = numbered_from nb (numbers_after nb es).addresses nb.nodes (length nb.addresses) begun in
      (subst (AreTold (nb.nodes + nodes_made begun) (files_of (take base history) ++ files_made nb.nodes begun)) (all_of choice (replay choice (take base history)) ds)
      (edits-told choice (everywhere ds) nb (numbers_after nb es).addresses nb.nodes (length nb.addresses) (nb.nodes + nodes_made begun) (replay choice (take base history))
      (files_of (take base history)) (files_of (take base history) ++ files_made nb.nodes begun) begun refl refl (replay-told choice (take base history)))).2

  all-files : files_of history ≡ files_of (take base history) ++ files_from nb.nodes (drop base history)
  all-files = ap files_of (sym (take-append-drop base history)) ∙ files-append (take base history) (drop base history)

  reference-now : (begun : List Edit) (file : NodeRef) → shows_node nb (amid begun) file ≡ true → is_dir (amid begun).rows (node_number nb.nodes file) ≡ false
      → has_node (node_number n file) (files_amid begun) ≡ true
  reference-now begun file there no_dir =
      ap (λ xs. has_node (node_number n file) (xs ++ files_made n begun)) all-files
      ∙ file-now nb.nodes n (files_of (take base history)) (files_from nb.nodes (drop base history)) begun file (replay-told choice (take base history)).1 (node-known nb (amid begun) file there)
      (shown-file nb (amid begun) (files_of (take base history) ++ files_made nb.nodes begun) file (amid-told begun) there no_dir)

  in-turn : (begun : List Edit) (e : Edit) → refusal nb (amid begun) e ≡ None → NamesFile (files_amid begun) n e
  in-turn begun (edits.New kind parent name) h = tt
  in-turn begun (edits.Insert file after text) h = reference-now begun file (insert-accepted nb (amid begun) file after text h).0 (insert-file nb (amid begun) file after text h)
  in-turn begun (edits.Delete file line) h = reference-now begun file (delete-accepted nb (amid begun) file line h).0 (delete-file nb (amid begun) file line h)
  in-turn begun (edits.Rename node name) h = tt
  in-turn begun (edits.Move node parent) h = tt
  in-turn begun (edits.Remove node) h = tt

  -- each names a file, those before it being done
  pub named-in_turn : (begun : List Edit) (e : Edit) (later : List Edit) → begun ++ e ∷ later ≡ es → NamesFile (files_amid begun) n e
  named-in_turn begun e later all =
      in-turn begun e
      (turn-accepted nb (numbers_after nb es).addresses nb.nodes (length nb.addresses) 0 (replay choice (take base history)) begun e later
      (ap (λ xs. refused_from nb (replay choice (take base history)) 0 xs (numbered_from nb (numbers_after nb es).addresses nb.nodes (length nb.addresses) xs)) all ∙ accepted))

  -- so the first of them name files that are there when these are done
  pub begun-named : (begun later : List Edit) → begun ++ later ≡ es → AllByRecursion (NamesFile (files_amid begun) n) begun
  begun-named begun later all =
      each-turn (NamesFile (files_amid begun) n) [] begun
      (λ before e rest same.
      subst (λ xs. NamesFile (files_of history ++ files_made n xs) n e) same
      (subst (λ xs. NamesFile xs n e) (append_assoc (files_of history) (files_made n before) (files_made (n + nodes_made before) (e ∷ rest)) ∙ ap (λ xs. files_of history ++ xs) (sym (made-append n before (e ∷ rest))))
      (names-more (files_amid before) (files_made (n + nodes_made before) (e ∷ rest)) n e
      (named-in_turn before e (rest ++ later) (sym (append_assoc before (e ∷ rest) later) ∙ ap (λ xs. xs ++ later) same ∙ all)))))

pub accepted-names : (history : List Command) (base : ℕ) (choice : List Bool) (ambition : Formula ℕ) (ss : List Sided) → verdict history (commands.Commit base choice ambition ss) ≡ None
    → AllByRecursion (NamesFile (files_of (history ++ commands.Commit base choice ambition ss ∷ [])) (numbers_of history).nodes) (unsided ss)
accepted-names history base choice ambition ss h =
    let es : List Edit = unsided ss in
    subst (λ files. AllByRecursion (NamesFile files (numbers_of history).nodes) es) (sym (files-commit history base choice ambition ss))
    (begun-named history base choice es (edits-accepted history base choice ambition ss h) es [] (append-nil es))

pub turn-names : (history : List Command) (s : Session) (begun later : List Edit) (e : Edit) → IsGood history s → begun ++ e ∷ later ≡ edits_of s
    → NamesFile (files_of history ++ files_made (numbers_of history).nodes begun) (numbers_of history).nodes e
turn-names history s begun later e good all = named-in_turn history s.base s.choice (edits_of s) good.accepted begun e later all

-- held lines are in these files
abbrev pub AreLinesIn : List ℕ → List (Kept Line) → Type 0
AreLinesIn files ks = AllByRecursion (λ k. has_node k.item.file files ≡ true) ks

in_files-more : (files more : List ℕ) (ks : List (Kept Line)) → AreLinesIn files ks → AreLinesIn (files ++ more) ks
in_files-more files more ks h = all-map (λ k. has_node k.item.file files ≡ true) (λ k. has_node k.item.file (files ++ more) ≡ true) (λ k own. among-more k.item.file files more own) ks h

hidden-in_files : (q : ℕ) (within : Formula ℕ) (test : Line → Bool) (files : List ℕ) (k : Kept Line) → has_node k.item.file files ≡ true → (let l : Kept Line = hidden_where test q within k in has_node l.item.file files ≡ true)
hidden-in_files q within test files k h = at (test k.item)
  where
    at : (b : Bool) → (let l : Kept Line = cond b (hidden q within k) k in has_node l.item.file files ≡ true)
    at true = h
    at false = h

-- edits that name these files leave lines in them
edit-in_files : (q : ℕ) (within : Formula ℕ) (ns : Numbers) (t : List (List ℕ)) (node line : ℕ) (files : List ℕ) (ks : List (Kept Line)) (e : Edit) → NamesFile files ns.nodes e → AreLinesIn files ks
    → AreLinesIn files (kept_after q within ks (numbered_edit ns t node line e))
edit-in_files q within ns t node line files ks (edits.New kind parent name) named h = h
edit-in_files q within ns t node line files ks (edits.Insert file after text) named h =
    all-placed kept_address (λ k. has_node k.item.file files ≡ true) (new_line q within (node_number ns.nodes file) (address_in t (line + 1)) text) ks named h
edit-in_files q within ns t node line files ks (edits.Delete file which) named h =
    let test : Line → Bool = is_line (node_number ns.nodes file) (address_in t (line_number (length ns.addresses) which)) in
    all-mapped (λ k. has_node k.item.file files ≡ true) (λ k. has_node k.item.file files ≡ true) (hidden_where test q within) (hidden-in_files q within test files) ks h
edit-in_files q within ns t node line files ks (edits.Rename which name) named h = h
edit-in_files q within ns t node line files ks (edits.Move which parent) named h = h
edit-in_files q within ns t node line files ks (edits.Remove which) named h = h

edits-in_files : (q : ℕ) (within : List (Formula ℕ)) (ns : Numbers) (t : List (List ℕ)) (node line : ℕ) (files : List ℕ) (ks : List (Kept Line)) (es : List Edit) → AllByRecursion (NamesFile files ns.nodes) es → AreLinesIn files ks
    → AreLinesIn files (fold (kept_with q) ks (changes_within within (numbered_from ns t node line es)))
edits-in_files q within ns t node line files ks [] named h = h
edits-in_files q within ns t node line files ks (e ∷ es) named h =
    edits-in_files q (rest_within within) ns t (node_count_after node e) (line_count_after line e) files (kept_after q (first_within within) ks (numbered_edit ns t node line e)) es named.1
    (edit-in_files q (first_within within) ns t node line files ks e named.0 h)

-- the held lines of a history are in its files
abbrev AreHeldInFiles : List Command → Type 0
AreHeldInFiles history = AreLinesIn (files_of history) (kept_of history)

same-held : (history : List Command) (k : Command) → has_commit (k ∷ []) ≡ false → files_from (numbers_of history).nodes (k ∷ []) ≡ [] → AreHeldInFiles history → AreHeldInFiles (history ++ k ∷ [])
same-held history k none no_file h =
    subst (λ files. AreLinesIn files (kept_of (history ++ k ∷ []))) (sym (files-append history (k ∷ []) ∙ ap (λ xs. files_of history ++ xs) no_file ∙ append-nil (files_of history)))
    (subst (λ (held : Holding). AreLinesIn (files_of history) held.lines) (sym (no_commit-holds history (k ∷ []) none)) h)

held-one : (history : List Command) (k : Command) → verdict history k ≡ None → AreHeldInFiles history → AreHeldInFiles (history ++ k ∷ [])
held-one history (commands.Commit base choice ambition ss) accepted h =
    let es : List Edit = unsided ss in
    let ns : Numbers = numbers_of history in
    let all : List ℕ = files_of (history ++ commands.Commit base choice ambition ss ∷ []) in
    subst (AreLinesIn all) (sym (commit-lines history base choice ambition ss))
    (edits-in_files (length history + 1) (conditions ambition ss) ns (numbers_after ns es).addresses ns.nodes (length ns.addresses) all (kept_of history) es (accepted-names history base choice ambition ss accepted)
    (subst (λ files. AreLinesIn files (kept_of history)) (sym (files-commit history base choice ambition ss)) (in_files-more (files_of history) (files_made ns.nodes es) (kept_of history) h)))
held-one history (commands.Option name) accepted h = same-held history (commands.Option name) refl refl h
held-one history (commands.Constraint expr) accepted h = same-held history (commands.Constraint expr) refl refl h
held-one history (commands.Prefer expr) accepted h = same-held history (commands.Prefer expr) refl refl h
held-one history (commands.Default option on) accepted h = same-held history (commands.Default option on) refl refl h
held-one history commands.Upgrade accepted h = same-held history commands.Upgrade refl refl h

held-from : (before history : List Command) → IsLegalFrom before history → AreHeldInFiles before → AreHeldInFiles (before ++ history)
held-from before [] legal h = subst AreHeldInFiles (sym (append-nil before)) h
held-from before (k ∷ history) legal h = subst AreHeldInFiles (append_assoc before (k ∷ []) history) (held-from (before ++ k ∷ []) history legal.2 (held-one before k legal.1 h))

pub legal-in_files : (history : List Command) → IsLegal history → AreLinesIn (files_of history) (kept_of history)
legal-in_files history legal = held-from [] history legal tt

pub amid-in_files : (history : List Command) (s : Session) (begun later : List Edit) → IsLegal history → IsGood history s → begun ++ later ≡ edits_of s
    → AreLinesIn (files_of history ++ files_made (numbers_of history).nodes begun) (held_amid history (within_of s) (edits_of s) begun).lines
amid-in_files history s begun later legal good all =
    let ns : Numbers = numbers_of history in
    let files : List ℕ = files_of history ++ files_made ns.nodes begun in
    subst (AreLinesIn files) (sym (lines-edits (length history + 1) (held_by history) (changes_within (within_of s) (numbered_amid history (edits_of s) begun))))
    (edits-in_files (length history + 1) (within_of s) ns (table_of history (edits_of s)) ns.nodes (lines_before history) files (kept_of history) begun
    (begun-named history s.base s.choice (edits_of s) good.accepted begun later all)
    (in_files-more (files_of history) (files_made ns.nodes begun) (kept_of history) (legal-in_files history legal)))
