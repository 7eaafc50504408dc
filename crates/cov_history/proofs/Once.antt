-- A line that the edits of a session delete is deleted once.
use Rattle.std.proofs.Common.{◌≡◌, ℕ, suc, ◌+◌, ◌<◌, ◌≤◌, Bool, true, false, cond, ◌&&◌, ◌||◌, not, nat_eq, List, [], ◌∷◌, ◌++◌, length, take, append-nil, None, refl, sym, ap, subst, ◌∙◌, arith}
use Rattle.std.specs.List.{filter, list_any, AllByRecursion}
use Rattle.std.proofs.lemmas.Bool.{and_parts}
use Rattle.std.proofs.lemmas.Bool.Decides.{nat_tests}
use Rattle.cov_base.specs.Addresses.{address_in, line_of, IsTable, IsLineOf}
use Rattle.cov_base.specs.declared.number.NodeRef.{NodeRef}
use Rattle.cov_base.specs.declared.number.NodeRef.TheVariants as nodes
use Rattle.cov_base.specs.declared.number.LineRef.{LineRef}
use Rattle.cov_base.specs.declared.number.LineRef.TheVariants as lines
use Rattle.cov_base.proofs.CallerLemmas.{all-map, any-filter, at_one, line_is, line_of-in}
use Rattle.cov_edit.specs.declared.edit.Edit.{Edit}
use Rattle.cov_edit.specs.declared.edit.Edit.TheVariants as edits
use Rattle.cov_edit.specs.declared.command.Command.{Command}
use Rattle.cov_edit.specs.Numbering.{Numbers, Deleted, node_number, line_number, node_count_after, line_count_after, anchors_of, numbers_of, numbered_edit, numbered_from}
use Rattle.cov_edit.specs.Replay.{replay}
use Rattle.cov_edit.specs.Variant.{Variant, Line, line_address, is_line, edited}
use Rattle.cov_edit.proofs.CallerLemmas.{line_count_after-is}
use Rattle.cov_view.proofs.CallerLemmas.{delete-accepted}
use Rattle.cov_view.specs.References.{is_known_node, is_known_line}
use Rattle.cov_view.specs.Refusals.{refusal, refused_from, first_refused}
use Rattle.cov_history.specs.Insertions.{table_of}
use Rattle.cov_history.specs.Sessions.{Session, edits_of, IsGood}
use Rattle.cov_history.proofs.Alike.{AreKnown, IsInTable, IsKnown, accepted-known, in_table-edit}
use Rattle.cov_history.proofs.Files.{any-placed}
use Rattle.cov_history.proofs.Inserts.{amid-within, is_table-of}
use Rattle.cov_history.proofs.Meanwhile.{replay-in_table}
use Rattle.cov_history.proofs.Naming.{base-nodes}
use Rattle.cov_history.proofs.Older.{same-node_now}
use Rattle.cov_history.proofs.Orders.{any-none}
use Rattle.cov_history.proofs.Renumbering.{table-grows}
use Rattle.cov_history.proofs.Sessions.{edit-accepted, rest-accepted}

-- an edit deletes another line, if it deletes one, so many nodes and lines having been made before
abbrev pub IsOther : ℕ → ℕ → NodeRef → LineRef → Edit → Type 0
IsOther n m file line (edits.New kind parent name) = Unit {0}
IsOther n m file line (edits.Insert f after text) = Unit {0}
IsOther n m file line (edits.Delete f which) = node_number n f ≡ node_number n file → line_number m which ≡ line_number m line → ⊥
IsOther n m file line (edits.Rename node name) = Unit {0}
IsOther n m file line (edits.Move node parent) = Unit {0}
IsOther n m file line (edits.Remove node) = Unit {0}

-- references to lines that are known and name the same one at a numbering do so at each
same-line_now : (n m : ℕ) (x y : LineRef) → is_known_line n x ≡ true → is_known_line n y ≡ true → line_number n x ≡ line_number n y → line_number m x ≡ line_number m y
same-line_now n m (lines.Old x) (lines.Old y) h k e = e
same-line_now n m (lines.Old x) (lines.New j) h k e = let low : x ≤ n = grind (arith, nat_tests, h) in absurd (omega (arith, low, e))
same-line_now n m (lines.New i) (lines.Old y) h k e = let low : y ≤ n = grind (arith, nat_tests, k) in absurd (omega (arith, low, e))
same-line_now n m (lines.New i) (lines.New j) h k e = omega (arith, e)

-- what is known at a numbering is known at a later one
node-later : (n m : ℕ) (x : NodeRef) → n ≤ m → is_known_node n x ≡ true → is_known_node m x ≡ true
node-later n m (nodes.Old x) le h = let low : x ≤ n = grind (arith, nat_tests, h) in grind (arith, nat_tests, low, le)
node-later n m (nodes.New i) le h = refl

line-later : (n m : ℕ) (x : LineRef) → n ≤ m → is_known_line n x ≡ true → is_known_line m x ≡ true
line-later n m (lines.Old x) le h = let low : x ≤ n = grind (arith, nat_tests, h) in grind (arith, nat_tests, low, le)
line-later n m (lines.New i) le h = refl

module _ (file line : ℕ) where
  -- whether a line is that of a file by its number, and whether a variant has it
  abbrev is_it : Line → Bool
  is_it l = nat_eq l.file file && nat_eq (line_of l.address) line

  abbrev has_it : Variant → Bool
  has_it v = list_any is_it v.lines

  none-left : (p : Line → Bool) (ls : List Line) → list_any is_it ls ≡ false → list_any is_it (filter p ls) ≡ false
  none-left p [] h = refl
  none-left p (l ∷ ls) h = at (p l) (is_it l) refl h (none-left p ls)
    where
      at : (b t : Bool) → is_it l ≡ t → (t || list_any is_it ls) ≡ false → (list_any is_it ls ≡ false → list_any is_it (filter p ls) ≡ false) → list_any is_it (cond b (l ∷ filter p ls) (filter p ls)) ≡ false
      at b true e h rest = absurd (cc)
      at false false e h rest = rest h
      at true false e h rest = ap (λ x. x || list_any is_it (filter p ls)) e ∙ rest h

  -- an edit doesn't delete it, by the numbers of the base
  abbrev IsNotIt : Numbers → Edit → Type 0
  IsNotIt ns (edits.New kind parent name) = Unit {0}
  IsNotIt ns (edits.Insert f after text) = Unit {0}
  IsNotIt ns (edits.Delete f which) = node_number ns.nodes f ≡ file → line_number (length ns.addresses) which ≡ line → ⊥
  IsNotIt ns (edits.Rename node name) = Unit {0}
  IsNotIt ns (edits.Move node parent) = Unit {0}
  IsNotIt ns (edits.Remove node) = Unit {0}

  module _ (ns : Numbers) (t : List (List ℕ)) (table : IsTable t) where
    abbrev m : ℕ
    m = length ns.addresses

    -- once it is deleted, a variant hasn't it
    none-behind : (n : ℕ) (v : Variant) → n ≤ length t → IsInTable t n v → has_it (edited v (Deleted file (address_in t line))) ≡ false
    none-behind n v below h =
        any-filter (λ l. not (is_line file (address_in t line) l)) is_it v.lines
        ∙ any-none (λ l. not (is_line file (address_in t line) l) && is_it l) v.lines
        (all-map (λ l. IsLineOf t n l.address) (λ l. (not (is_line file (address_in t line) l) && is_it l) ≡ false)
        (λ l of. ap (λ b. not (nat_eq l.file file && b) && is_it l) (line_is t n line l.address table below of) ∙ never (is_it l)) v.lines h.numbered_lines)
      where
        never : (b : Bool) → (not b && b) ≡ false
        never true = refl
        never false = refl

    -- no edit brings it back, if so many lines are made
    still-none : (node many : ℕ) (v : Variant) (e : Edit) → line ≤ many → line_count_after many e ≤ length t → has_it v ≡ false → has_it (edited v (numbered_edit ns t node many e)) ≡ false
    still-none node many v (edits.New kind parent name) made below h = h
    still-none node many v (edits.Insert f after text) made below h =
        let own : line_of (address_in t (many + 1)) ≡ suc many =
        (let one : many + 1 ≡ suc many = omega arith in ap (λ x. line_of (address_in t x)) one) ∙ line_of-in t many table (omega (arith, below)) in
        let differs : nat_eq (line_of (address_in t (many + 1))) line ≡ false = grind (arith, nat_tests, own, made) in
        any-placed line_address is_it (record { file = node_number ns.nodes f; address = address_in t (many + 1); text = text }) v.lines
        ∙ ap (λ b. (nat_eq (node_number ns.nodes f) file && b) || has_it v) differs ∙ never (nat_eq (node_number ns.nodes f) file) ∙ h
      where
        never : (b : Bool) → ((b && false) || has_it v) ≡ has_it v
        never true = refl
        never false = refl
    still-none node many v (edits.Delete f which) made below h = none-left (λ l. not (is_line (node_number ns.nodes f) (address_in t (line_number m which)) l)) v.lines h
    still-none node many v (edits.Rename which name) made below h = h
    still-none node many v (edits.Move which parent) made below h = h
    still-none node many v (edits.Remove which) made below h = h

    one-not : (v : Variant) (e : Edit) → has_it v ≡ false → refusal ns v e ≡ None → IsNotIt ns e
    one-not v (edits.New kind parent name) h accepted = tt
    one-not v (edits.Insert f after text) h accepted = tt
    one-not v (edits.Delete f which) h accepted = λ same_file same_line.
        let shown = (and_parts (is_known_line m which) _ (delete-accepted ns v f which accepted).2).1 in
        let had : has_it v ≡ true =
        sym (ap (λ x. list_any (λ l. nat_eq l.file x && nat_eq (line_of l.address) (line_number m which)) v.lines) same_file
        ∙ ap (λ x. list_any (λ l. nat_eq l.file file && nat_eq (line_of l.address) x) v.lines) same_line) ∙ shown in
        let differ : true ≡ false = sym had ∙ h in
        absurd (cc)
    one-not v (edits.Rename which name) h accepted = tt
    one-not v (edits.Move which parent) h accepted = tt
    one-not v (edits.Remove which) h accepted = tt

    -- none of the edits that are accepted then deletes it
    none-again : (node many k : ℕ) (v : Variant) (es : List Edit) → line ≤ many → many + length (anchors_of m es) ≤ length t → has_it v ≡ false
        → refused_from ns v k es (numbered_from ns t node many es) ≡ None → AllByRecursion (IsNotIt ns) es
    none-again node many k v [] made below h accepted = tt
    none-again node many k v (e ∷ es) made below h accepted =
        let count = line_count_after-is many m e (anchors_of m es) in
        let grown = count-grows many e in (
          one-not v e h (edit-accepted k (refusal ns v e) _ accepted),
          none-again (node_count_after node e) (line_count_after many e) (k + 1) (edited v (numbered_edit ns t node many e)) es (omega (arith, made, grown)) (omega (arith, below, count))
              (still-none node many v e made (omega (arith, below, count)) h) (rest-accepted k (refusal ns v e) _ accepted),
        )
      where
        count-grows : (many : ℕ) (e : Edit) → many ≤ line_count_after many e
        count-grows many (edits.New kind parent name) = omega arith
        count-grows many (edits.Insert f after text) = omega arith
        count-grows many (edits.Delete f which) = omega arith
        count-grows many (edits.Rename which name) = omega arith
        count-grows many (edits.Move which parent) = omega arith
        count-grows many (edits.Remove which) = omega arith

-- a line that a variant shows is one of those made
shown-made : (t : List (List ℕ)) (n file line : ℕ) (v : Variant) → IsTable t → n ≤ length t → IsInTable t n v → has_it file line v ≡ true → line ≤ n
shown-made t n file line v table below h has =
    at_one (is_it file line) (line ≤ n) v.lines has
    (all-map (λ l. IsLineOf t n l.address) (λ l. is_it file line l ≡ true → line ≤ n)
    (λ l of e.
    let less : of.0 < n = of.1 in
    let own : line_of l.address ≡ suc of.0 = ap line_of of.2 ∙ line_of-in t of.0 table (omega (arith, less, below)) in
    let second = (and_parts (nat_eq l.file file) (nat_eq (line_of l.address) line) e).1 in
    let same : line_of l.address ≡ line = grind (arith, nat_tests, second) in
    omega (arith, less, own, same)) v.lines h.numbered_lines)

-- edits that are accepted delete no line twice
delete-then : (ns : Numbers) (t : List (List ℕ)) (node many k : ℕ) (v : Variant) (begun : List Edit) (file : NodeRef) (line : LineRef) (later : List Edit) → IsTable t
    → many + length (anchors_of (length ns.addresses) (begun ++ edits.Delete file line ∷ later)) ≤ length t → IsInTable t many v
    → refused_from ns v k (begun ++ edits.Delete file line ∷ later) (numbered_from ns t node many (begun ++ edits.Delete file line ∷ later)) ≡ None
    → AllByRecursion (IsNotIt (node_number ns.nodes file) (line_number (length ns.addresses) line) ns) later
delete-then ns t node many k v [] file line later table below h accepted =
    let f : ℕ = node_number ns.nodes file in
    let x : ℕ = line_number (length ns.addresses) line in
    let own = delete-accepted ns v file line (edit-accepted k (refusal ns v (edits.Delete file line)) _ accepted) in
    let had = (and_parts (is_known_line (length ns.addresses) line) _ own.2).1 in
    let few : many ≤ length t = omega (arith, below) in
    none-again f x ns t table node many (k + 1) (edited v (Deleted f (address_in t x))) later (shown-made t many f x v table few h had) below
    (none-behind f x ns t table many v few h) (rest-accepted k (refusal ns v (edits.Delete file line)) _ accepted)
delete-then ns t node many k v (e ∷ begun) file line later table below h accepted =
    let count = line_count_after-is many (length ns.addresses) e (anchors_of (length ns.addresses) (begun ++ edits.Delete file line ∷ later)) in
    delete-then ns t (node_count_after node e) (line_count_after many e) (k + 1) (edited v (numbered_edit ns t node many e)) begun file line later table (omega (arith, below, count))
    (in_table-edit ns t node many v e table (omega (arith, below, count)) h) (rest-accepted k (refusal ns v e) _ accepted)

-- what isn't deleted by the numbers of a base isn't by those of a later position
other-now : (nb nh : Numbers) (file : NodeRef) (line : LineRef) (e : Edit) → nb.nodes ≤ nh.nodes → length nb.addresses ≤ length nh.addresses → is_known_node nb.nodes file ≡ true → is_known_line (length nb.addresses) line ≡ true
    → IsKnown nb.nodes (length nb.addresses) e → IsNotIt (node_number nb.nodes file) (line_number (length nb.addresses) line) nb e → IsOther nh.nodes (length nh.addresses) file line e
other-now nb nh file line (edits.New kind parent name) more longer known made its other = tt
other-now nb nh file line (edits.Insert f after text) more longer known made its other = tt
other-now nb nh file line (edits.Delete f which) more longer known made its other = λ same_file same_line.
    other
    (same-node_now nh.nodes nb.nodes f file (node-later nb.nodes nh.nodes f more its.0) (node-later nb.nodes nh.nodes file more known) same_file)
    (same-line_now (length nh.addresses) (length nb.addresses) which line (line-later (length nb.addresses) (length nh.addresses) which longer its.1) (line-later (length nb.addresses) (length nh.addresses) line longer made) same_line)
other-now nb nh file line (edits.Rename node name) more longer known made its other = tt
other-now nb nh file line (edits.Move node parent) more longer known made its other = tt
other-now nb nh file line (edits.Remove node) more longer known made its other = tt

others-now : (nb nh : Numbers) (file : NodeRef) (line : LineRef) (es : List Edit) → nb.nodes ≤ nh.nodes → length nb.addresses ≤ length nh.addresses → is_known_node nb.nodes file ≡ true → is_known_line (length nb.addresses) line ≡ true
    → AreKnown nb.nodes (length nb.addresses) es → AllByRecursion (IsNotIt (node_number nb.nodes file) (line_number (length nb.addresses) line) nb) es → AllByRecursion (IsOther nh.nodes (length nh.addresses) file line) es
others-now nb nh file line [] more longer known made its others = tt
others-now nb nh file line (e ∷ es) more longer known made its others = (
  other-now nb nh file line e more longer known made its.0 others.0,
  others-now nb nh file line es more longer known made its.1 others.1,
)

known-behind : (n m : ℕ) (begun later : List Edit) → AreKnown n m (begun ++ later) → AreKnown n m later
known-behind n m [] later h = h
known-behind n m (e ∷ begun) later h = known-behind n m begun later h.1

-- a line that a good session deletes is deleted by none of its later edits
pub deleted-once : (history : List Command) (s : Session) (begun : List Edit) (file : NodeRef) (line : LineRef) (later : List Edit) → IsGood history s → begun ++ edits.Delete file line ∷ later ≡ edits_of s
    → AllByRecursion (IsOther (numbers_of history).nodes (length (numbers_of history).addresses) file line) later
deleted-once history s begun file line later good all =
    let before : List Command = take s.base history in
    let nb : Numbers = numbers_of before in
    let es : List Edit = begun ++ edits.Delete file line ∷ later in
    let t : List (List ℕ) = table_of before es in
    let v : Variant = replay s.choice before in
    let accepted : first_refused nb v es ≡ None = ap (first_refused nb v) all ∙ good.accepted in
    let known : AreKnown nb.nodes (length nb.addresses) (edits.Delete file line ∷ later) =
    known-behind nb.nodes (length nb.addresses) begun (edits.Delete file line ∷ later) (accepted-known nb t nb.nodes (length nb.addresses) 0 v es accepted) in
    others-now nb (numbers_of history) file line later (base-nodes s.base history) (table-grows s.base history).0 known.0.0 known.0.1 known.1
    (delete-then nb t nb.nodes (length nb.addresses) 0 v begun file line later (is_table-of before es)
    (let within = amid-within before es [] in subst (λ some. length nb.addresses + length (anchors_of (length nb.addresses) es) ≤ length (table_of before some)) (append-nil es) within)
    (replay-in_table s.choice before es) accepted)
