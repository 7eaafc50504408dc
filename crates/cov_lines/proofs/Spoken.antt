-- What lines say, and the nodes that they name.
use Rattle.std.proofs.Common.{◌≡◌, ℕ, ◌<◌, Bool, ◌&&◌, ◌||◌, true, false, cond, List, [], ◌∷◌, ◌++◌, length, Option, Some, option_map, Ok, sym, ap, subst, ◌∙◌, arith, nat_eq, refl, None}
use Rattle.std.proofs.lemmas.Bool.{and_from, or_right}
use Rattle.std.proofs.lemmas.Bool.Decides.{nat_tests}
use Rattle.std.specs.Prelude.{ok_or}
use Rattle.std.specs.List.{find, list_any}
use Rattle.std.specs.Str.{bytes_eq}
use Rattle.cov_base.specs.Rows.{Row, is_present}
use Rattle.cov_base.specs.declared.number.Kind.{Kind}
use Rattle.cov_base.specs.declared.number.NodeRef.{NodeRef}
use Rattle.cov_edit.specs.Numbering.{Numbers, node_number}
use Rattle.cov_edit.specs.Variant.{Variant}
use Rattle.cov_history.specs.Sessions.{Session, seen}
use Rattle.cov_view.specs.Paths.{from_number, path_node}
use Rattle.cov_base.specs.Spelling.{path_of}
use Rattle.cov_script.specs.Fields.{below_root, new_path_of}
use Rattle.cov_script.specs.Forms.{ReadsAsSpelt}
use Rattle.cov_script.specs.Grouping.{grouped}
use Rattle.cov_script.specs.Lines.{form_of}
use Rattle.cov_script.specs.declared.line.Line.{Line}
use Rattle.cov_script.specs.declared.line.Line.TheVariants as lines
use Rattle.cov_view.specs.References.{is_known_node, is_made_node}
use Rattle.cov_view.specs.Seen.{Seen}
use Rattle.cov_view.specs.Views.{Shows}
use Rattle.cov_view.proofs.CallerLemmas.{made-known}
use Rattle.cov_lines.proofs.References.{made_node-again}
use Rattle.cov_lines.specs.Seeing.{IsNamed, IsNodeAt}
use Rattle.cov_lines.specs.States.{State}
use Rattle.cov_script.specs.declared.code.Code.TheVariants.{NoSession, NoSuchPath}
use Rattle.cov_lines.specs.Finding.{◌>>=◌}
use Rattle.cov_cond.specs.Fitting.{directory_of, last_name}
use Rattle.cov_lines.specs.Step.{made, made_in, node_at}
use Rattle.cov_session.specs.Named.{named}
use Rattle.cov_session.specs.Open.{NamedSession, numbers_at_base, table_of}
use Rattle.cov_lines.specs.Texts.{HasParts}

below-root : (o : Option (List (List ℕ))) (path : List (List ℕ)) → below_root o ≡ Some path → 0 < length path
below-root None path h = absurd (cc)
below-root (Some []) path h = absurd (cc)
below-root (Some (name ∷ names)) path h = subst (λ p. 0 < length p) (let same : name ∷ names ≡ path = cc in same) (omega arith)

-- the path of a new node has a name
has-name : (bytes : List ℕ) (path : List (List ℕ)) → new_path_of bytes ≡ Some path → 0 < length path
has-name bytes path h = below-root (path_of bytes) path h

-- a line that is read has its parts as they are served
pub has-parts : ReadsAsSpelt → (bytes : List ℕ) (line : Line) → form_of bytes ≡ Ok line → HasParts (grouped line)
has-parts law bytes lines.Nothing h = tt
has-parts law bytes (lines.Option t) h = tt
has-parts law bytes (lines.Constraint e) h = tt
has-parts law bytes (lines.Prefer e) h = tt
has-parts law bytes (lines.Default t on) h = tt
has-parts law bytes (lines.Complete c) h = tt
has-parts law bytes (lines.OpenSession n c e) h = tt
has-parts law bytes (lines.Side n e) h = tt
has-parts law bytes (lines.MakeDir n p) h = let form = (law bytes (lines.MakeDir n p)).1 h in has-name form.b p form.second.of_kind
has-parts law bytes (lines.MakeFile n p) h = let form = (law bytes (lines.MakeFile n p)).1 h in has-name form.b p form.second.of_kind
has-parts law bytes (lines.Rename n p to) h = tt
has-parts law bytes (lines.Move n p target) h = tt
has-parts law bytes (lines.Remove n p) h = tt
has-parts law bytes (lines.Insert n p l t) h = ((law bytes (lines.Insert n p l t)).1 h).third.short
has-parts law bytes (lines.Delete n p l) h = tt
has-parts law bytes (lines.Replace n p l t) h = ((law bytes (lines.Replace n p l t)).1 h).third.short
has-parts law bytes (lines.Show n p) h = tt
has-parts law bytes (lines.List n p) h = tt
has-parts law bytes (lines.Refresh n) h = tt
has-parts law bytes (lines.Commit n) h = tt
has-parts law bytes (lines.Discard n) h = tt
has-parts law bytes (lines.Cat c p) h = tt
has-parts law bytes (lines.Checkout t c) h = tt
has-parts law bytes (lines.Alt c t p) h = tt
has-parts law bytes (lines.Conditional c p) h = tt
has-parts law bytes (lines.Presence n) h = tt
has-parts law bytes lines.Upgrade h = tt
has-parts law bytes lines.Analyse h = tt
has-parts law bytes (lines.Nearest c) h = tt
has-parts law bytes (lines.Log c) h = tt
has-parts law bytes (lines.Blame c p) h = tt
has-parts law bytes (lines.Past n c p) h = tt
has-parts law bytes (lines.PastOut t n c) h = tt

found-there : (p : Row → Bool) (rows : List Row) (r : Row) → find p rows ≡ Some r → list_any (λ (q : Row). nat_eq q.node r.node) rows ≡ true
found-there p [] r h = absurd (cc)
found-there p (x ∷ rows) r h = at (p x) (λ k. found-there p rows r k) h
  where
    at : (b : Bool) → (find p rows ≡ Some r → list_any (λ (q : Row). nat_eq q.node r.node) rows ≡ true) → cond b (Some x) (find p rows) ≡ Some r
        → (nat_eq x.node r.node || list_any (λ (q : Row). nat_eq q.node r.node) rows) ≡ true
    at true rest k =
        let same : x ≡ r = cc in
        let number : x.node ≡ r.node = ap (λ (q : Row). q.node) same in
        let own : nat_eq x.node r.node ≡ true = grind (arith, nat_tests, number) in
        ap (λ b. b || list_any (λ (q : Row). nat_eq q.node r.node) rows) own
    at false rest k = or_right (nat_eq x.node r.node) (list_any (λ (q : Row). nat_eq q.node r.node) rows) (rest k)

-- a path leads to a node that is present
path-present : (rows : List Row) (node : ℕ) (names : List (List ℕ)) (m : ℕ) → is_present rows node ≡ true → Some m ≡ path_node rows node names → is_present rows m ≡ true
path-present rows node [] m h e = subst (λ k. is_present rows k ≡ true) (let same : node ≡ m = cc in same) h
path-present rows node (name ∷ names) m h e = at (find (λ (r : Row). nat_eq r.parent node && bytes_eq r.name name) rows) refl (λ child there k. path-present rows child names m there k) e
  where
    at : (o : Option Row) → find (λ (r : Row). nat_eq r.parent node && bytes_eq r.name name) rows ≡ o
        → ((child : ℕ) → is_present rows child ≡ true → Some m ≡ path_node rows child names → is_present rows m ≡ true)
        → Some m ≡ from_number (option_map (λ (r : Row). r.node) o) (λ child. path_node rows child names) → is_present rows m ≡ true
    at None f rest k = absurd (cc)
    at (Some r) f rest k =
        rest r.node (or_right (nat_eq r.node 0) (list_any (λ (q : Row). nat_eq q.node r.node) rows) (found-there (λ (q : Row). nat_eq q.parent node && bytes_eq q.name name) rows r f)) k

found-at : (st : State) (s : NamedSession) (name : List ℕ) (path : List (List ℕ)) (node : ℕ) → named st.sessions name ≡ Some s
    → path_node (seen s.session st.history).rows 0 path ≡ Some node → node_at st name path ≡ Ok (s, node)
unfolding node_at
found-at st s name path node has leads =
    ap (λ o. ok_or o NoSession >>= (λ (s : NamedSession). ok_or (path_node (seen s.session st.history).rows 0 path) NoSuchPath >>= (λ (node : ℕ). Ok (s, node)))) has
    ∙ ap (λ o. ok_or o NoSuchPath >>= (λ (node : ℕ). Ok (s, node))) leads

-- the session of a name sees a node at a path
pub node-found : (st : State) (view : Seen) (ref : NodeRef) (name : List ℕ) (path : List (List ℕ)) → IsNamed st name view
    → ((ns : Numbers) (table : List (List ℕ)) (v : Variant) → Shows ns table view v → Some (node_number ns.nodes ref) ≡ path_node v.rows 0 path)
    → ((ns : Numbers) (table : List (List ℕ)) (v : Variant) → Shows ns table view v → is_made_node ns.nodes view.nodes_made ref ≡ true) → IsNodeAt st name path view ref
node-found st view ref name path is_named leading making =
    let s : Session = is_named.session.session in
    let ns : Numbers = numbers_at_base st.history s in
    let n : ℕ = ns.nodes in
    let rows : List Row = (seen s st.history).rows in
    let leads : Some (node_number n ref) ≡ path_node rows 0 path = leading ns (table_of st.history s) (seen s st.history) is_named.is_open.shows in
    let made : is_made_node n view.nodes_made ref ≡ true = making ns (table_of st.history s) (seen s st.history) is_named.is_open.shows in
    record {
      named_so = is_named;
      node = node_number n ref;
      is_seen = record {
        reference = made_node-again n view.nodes_made ref made;
        number = refl;
        there = and_from (is_known_node n ref) (is_present rows (node_number n ref)) (made-known n view.nodes_made ref made) (path-present rows 0 path (node_number n ref) refl leads);
      };
      found = found-at st is_named.session name path (node_number n ref) is_named.has (sym leads);
    }

-- what is at names is at the path of these
pub at-path : {st : State} {name : List ℕ} {names path : List (List ℕ)} {view : Seen} {ref : NodeRef} → names ≡ path → IsNodeAt st name names view ref → IsNodeAt st name path view ref
at-path {st} {name} {names} {path} {view} {ref} same there = subst (λ p. IsNodeAt st name p view ref) same there

directory-is : (directory : List (List ℕ)) (own : List ℕ) → directory_of (directory ++ own ∷ []) ≡ directory
directory-is [] own = refl
directory-is (name ∷ []) own = refl
directory-is (name ∷ next ∷ names) own = ap (λ ns. name ∷ ns) (directory-is (next ∷ names) own)

last-is : (directory : List (List ℕ)) (own : List ℕ) → last_name (directory ++ own ∷ []) ≡ own
last-is [] own = refl
last-is (name ∷ []) own = refl
last-is (name ∷ next ∷ names) own = last-is (next ∷ names) own

-- what is made at a path is made in its directory, with its last name
pub made-at : (st : State) (kind : Kind) (name : List ℕ) (path directory : List (List ℕ)) (own : List ℕ) → path ≡ directory ++ own ∷ [] → made st kind name path ≡ made_in st kind name directory own
made-at st kind name path directory own is =
    ap (made st kind name) is ∙ (λ j. made_in st kind name (directory-is directory own j) (last-is directory own j))
