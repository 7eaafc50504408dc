-- Kept lines have the texts with which they are inserted.
use Rattle.std.proofs.Common.{◌≡◌, ℕ, zero, suc, ◌+◌, ◌-◌, ◌≤◌, Bool, true, false, cond, Some, List, [], ◌∷◌, ◌++◌, length, length-append, map, slice_get, append_assoc, append-nil, refl, sym, ap, subst, ◌∙◌, arith}
use Rattle.std.specs.List.{fold, cons_option, AllByRecursion}
use Rattle.cov_base.specs.Addresses.{address_in, placed, IsTable}
use Rattle.cov_base.proofs.CallerLemmas.{all-map, all-placed, line_of-in, length-with_lines}
use Rattle.cov_expr.specs.Formula.{Formula}
use Rattle.cov_edit.specs.declared.edit.Edit.{Edit}
use Rattle.cov_edit.specs.declared.edit.Edit.TheVariants as edits
use Rattle.cov_edit.specs.declared.command.Command.{Command}
use Rattle.cov_edit.specs.declared.command.Command.TheVariants as commands
use Rattle.cov_edit.specs.Numbering.{Numbers, node_number, line_number, line_count_after, anchors_of, no_numbers, numbers_after, numbered_from}
use Rattle.cov_edit.specs.Replay.{first_within, rest_within, changes_within, commit_changes}
use Rattle.cov_edit.specs.Sides.{unsided, conditions}
use Rattle.cov_edit.specs.Variant.{Line, is_line}
use Rattle.cov_edit.proofs.CallerLemmas.{line_count_after-is}
use Rattle.cov_history.specs.InsertedTexts.{new_text, new_texts, texts_in, HasText}
use Rattle.cov_history.specs.Kept.{Kept, hidden, hidden_where, kept_address, kept_number, new_line, kept_with, Holding, nothing_held, held_with, held_from}
use Rattle.cov_history.specs.KeptLaws.{LinesKeepTheirTexts}
use Rattle.cov_history.proofs.Appends.{lines-edits}
use Rattle.cov_history.proofs.Standing.{all-mapped, table-after, no_table}

get-more : {X : Type 0} (xs ys : List X) (i : ℕ) (x : X) → slice_get xs i ≡ Some x → slice_get (xs ++ ys) i ≡ Some x
get-more [] ys i x h = absurd (cc)
get-more (y ∷ xs) ys zero x h = h
get-more (y ∷ xs) ys (suc i) x h = get-more xs ys i x h

get-last : {X : Type 0} (xs : List X) (x : X) → slice_get (xs ++ x ∷ []) (length xs) ≡ Some x
get-last [] x = refl
get-last (y ∷ xs) x = get-last xs x

-- a line has its text among more of them
texts-more : (texts more : List (List ℕ)) (ks : List (Kept Line)) → AllByRecursion (HasText texts) ks → AllByRecursion (HasText (texts ++ more)) ks
texts-more texts more ks h = all-map (HasText texts) (HasText (texts ++ more)) (λ k e. get-more texts more (kept_number k - 1) k.item.text e) ks h

text-hidden : (test : Line → Bool) (q : ℕ) (within : Formula ℕ) (texts : List (List ℕ)) (k : Kept Line) → HasText texts k → HasText texts (hidden_where test q within k)
text-hidden test q within texts k h = at (test k.item)
  where
    at : (b : Bool) → HasText texts (cond b (hidden q within k) k)
    at true = h
    at false = h

-- edits keep the text of each line, and give each new one its own
texts-edits : (q : ℕ) (within : List (Formula ℕ)) (ns : Numbers) (t : List (List ℕ)) (node line m : ℕ) (es : List Edit) (ks : List (Kept Line)) (texts : List (List ℕ))
    → IsTable t → line + length (anchors_of m es) ≤ length t → length texts ≡ line → AllByRecursion (HasText texts) ks
    → AllByRecursion (HasText (texts ++ new_texts es)) (fold (kept_with q) ks (changes_within within (numbered_from ns t node line es)))
texts-edits q within ns t node line m [] ks texts table low e h = subst (λ ts. AllByRecursion (HasText ts) ks) (sym (append-nil texts)) h
texts-edits q within ns t node line m (edits.New kind parent name ∷ es) ks texts table low e h = texts-edits q (rest_within within) ns t (node + 1) line m es ks texts table low e h
texts-edits q within ns t node line m (edits.Rename which name ∷ es) ks texts table low e h = texts-edits q (rest_within within) ns t node line m es ks texts table low e h
texts-edits q within ns t node line m (edits.Move which parent ∷ es) ks texts table low e h = texts-edits q (rest_within within) ns t node line m es ks texts table low e h
texts-edits q within ns t node line m (edits.Remove which ∷ es) ks texts table low e h = texts-edits q (rest_within within) ns t node line m es ks texts table low e h
texts-edits q within ns t node line m (edits.Delete file which ∷ es) ks texts table low e h =
    let test : Line → Bool = is_line (node_number ns.nodes file) (address_in t (line_number (length ns.addresses) which)) in
    texts-edits q (rest_within within) ns t node line m es (map (hidden_where test q (first_within within)) ks) texts table low e
    (all-mapped (HasText texts) (HasText texts) (hidden_where test q (first_within within)) (text-hidden test q (first_within within) texts) ks h)
texts-edits q within ns t node line m (edits.Insert file after text ∷ es) ks texts table low e h =
    let f : ℕ = node_number ns.nodes file in
    let new : Kept Line = new_line q (first_within within) f (address_in t (line + 1)) text in
    let with_own : List (List ℕ) = texts ++ text ∷ [] in
    let next : suc line ≡ line + 1 = omega arith in
    let number : kept_number new ≡ line + 1 =
    subst (λ n. kept_number (new_line q (first_within within) f (address_in t n) text) ≡ n) next (line_of-in t line table (omega (arith, low))) in
    let place : kept_number new - 1 ≡ length texts = omega (arith, number, e) in
    let own : HasText with_own new = ap (slice_get with_own) place ∙ get-last texts text in
    let more : length with_own ≡ line + 1 = (let all = length-append texts (text ∷ []) in omega (arith, all, e)) in
    subst (λ ts. AllByRecursion (HasText ts) (fold (kept_with q) (placed kept_address new ks) (changes_within (rest_within within) (numbered_from ns t node (line + 1) es)))) (append_assoc texts (text ∷ []) (new_texts es))
    (texts-edits q (rest_within within) ns t node (line + 1) m es (placed kept_address new ks) with_own table (omega (arith, low)) more
    (all-placed kept_address (HasText with_own) new ks own (texts-more texts (text ∷ []) ks h)))

text-count : (line : ℕ) (e : Edit) (texts : List (List ℕ)) → line + length (cons_option (new_text e) texts) ≡ line_count_after line e + length texts
text-count line (edits.New kind parent name) texts = refl
text-count line (edits.Insert file after text) texts = omega arith
text-count line (edits.Delete file which) texts = refl
text-count line (edits.Rename node name) texts = refl
text-count line (edits.Move node parent) texts = refl
text-count line (edits.Remove node) texts = refl

texts-count : (m : ℕ) (es : List Edit) → length (new_texts es) ≡ length (anchors_of m es)
texts-count m [] = refl
texts-count m (e ∷ es) =
    let texts = text-count 0 e (new_texts es) in
    let anchors = line_count_after-is 0 m e (anchors_of m es) in
    let same = texts-count m es in
    omega (arith, texts, anchors, same)

-- more of a history keeps the text of each line, and gives each new one its own
texts-along : (q : ℕ) (ns : Numbers) (held : Holding) (history : List Command) (texts : List (List ℕ)) → IsTable ns.addresses → length texts ≡ length ns.addresses → AllByRecursion (HasText texts) held.lines
    → AllByRecursion (HasText (texts ++ texts_in history)) (held_from q held ns history).lines
texts-along q ns held [] texts table e h = subst (λ ts. AllByRecursion (HasText ts) held.lines) (sym (append-nil texts)) h
texts-along q ns held (commands.Option name ∷ history) texts table e h = texts-along (q + 1) ns held history texts table e h
texts-along q ns held (commands.Constraint expr ∷ history) texts table e h = texts-along (q + 1) ns held history texts table e h
texts-along q ns held (commands.Prefer expr ∷ history) texts table e h = texts-along (q + 1) ns held history texts table e h
texts-along q ns held (commands.Default option on ∷ history) texts table e h = texts-along (q + 1) ns held history texts table e h
texts-along q ns held (commands.Commit base choice ambition ss ∷ history) texts table e h =
    let es : List Edit = unsided ss in
    let m : ℕ = length ns.addresses in
    let t : List (List ℕ) = (numbers_after ns es).addresses in
    let after : Holding = fold (held_with (q + 1)) held (commit_changes ns ambition ss) in
    let grown : length t ≡ m + length (anchors_of m es) = length-with_lines ns.addresses (anchors_of m es) in
    let count : length (texts ++ new_texts es) ≡ length t =
    (let all = length-append texts (new_texts es) in let new = texts-count m es in omega (arith, all, new, grown, e)) in
    subst (λ ts. AllByRecursion (HasText ts) (held_from (q + 1) after (numbers_after ns es) history).lines)
    (append_assoc texts (new_texts es) (texts_in history))
    (texts-along (q + 1) (numbers_after ns es) after history (texts ++ new_texts es) (table-after ns es table) count
    (subst (AllByRecursion (HasText (texts ++ new_texts es))) (sym (lines-edits (q + 1) held (commit_changes ns ambition ss)))
    (texts-edits (q + 1) (conditions ambition ss) ns t ns.nodes m m es held.lines texts (table-after ns es table) (omega (arith, grown)) e h)))
texts-along q ns held (commands.Upgrade ∷ history) texts table e h = texts-along (q + 1) ns held history texts table e h

pub lines-keep_texts : LinesKeepTheirTexts
lines-keep_texts history = texts-along 0 no_numbers nothing_held history [] no_table refl tt
