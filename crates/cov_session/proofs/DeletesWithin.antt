-- The lines that accepted edits delete are made before.
use Rattle.std.proofs.Common.{◌≡◌, ◌∙◌, refl, ap, subst, ℕ, suc, ◌+◌, ◌<◌, ◌≤◌, Bool, true, false, ◌&&◌, ◌||◌, not, nat_eq, List, [], ◌∷◌, length, None, arith}
use Rattle.std.proofs.lemmas.Bool.{and_parts}
use Rattle.std.proofs.lemmas.Bool.Decides.{nat_tests}
use Rattle.std.specs.List.{list_any, cons_option, AllByRecursion}
use Rattle.cov_base.specs.Addresses.{address_in, line_of, IsTable, IsLineOf}
use Rattle.cov_base.proofs.CallerLemmas.{all-map, all-filter, all-placed, line_of-in}
use Rattle.cov_edit.specs.declared.edit.Edit.{Edit}
use Rattle.cov_edit.specs.declared.edit.Edit.TheVariants as edits
use Rattle.cov_edit.specs.declared.command.Command.{Command}
use Rattle.cov_edit.specs.Numbering.{Numbers, node_number, line_number, node_count_after, line_count_after, anchor_of, anchors_of, numbers_of, numbered_edit, numbered_from}
use Rattle.cov_edit.proofs.CallerLemmas.{line_count_after-is}
use Rattle.cov_edit.specs.Variant.{Variant, Line, line_address, is_line, edited}
use Rattle.cov_edit.specs.Replay.{replay}
use Rattle.cov_view.specs.References.{is_known_line}
use Rattle.cov_view.specs.Refusals.{refusal, refused_from}
use Rattle.cov_view.proofs.CallerLemmas.{delete-accepted}
use Rattle.cov_history.specs.KeptLaws.{HoldingStands}
use Rattle.cov_history.specs.Laws.{ReplayStands}
use Rattle.cov_history.proofs.CallerLemmas.{rest-accepted, edit-accepted}

-- the line that an edit deletes, n lines having been made before, is among the first so many
abbrev pub DeleteWithin : ℕ → ℕ → Edit → Type 0
DeleteWithin n most (edits.New kind parent name) = Unit {0}
DeleteWithin n most (edits.Insert file after text) = Unit {0}
DeleteWithin n most (edits.Delete file line) = line_number n line ≤ most
DeleteWithin n most (edits.Rename node name) = Unit {0}
DeleteWithin n most (edits.Move node parent) = Unit {0}
DeleteWithin n most (edits.Remove node) = Unit {0}

-- so are those that edits delete
abbrev pub DeletesWithin : ℕ → ℕ → List Edit → Type 0
DeletesWithin n most es = AllByRecursion (DeleteWithin n most) es

-- the lines of a variant are among the first so many
abbrev pub LinesWithin : ℕ → Variant → Type 0
LinesWithin most v = AllByRecursion (λ (l : Line). line_of l.address ≤ most) v.lines

number-made : (most file number : ℕ) (ls : List Line) → AllByRecursion (λ (l : Line). line_of l.address ≤ most) ls
    → list_any (λ (l : Line). nat_eq l.file file && nat_eq (line_of l.address) number) ls ≡ true → number ≤ most
number-made most file number [] all h = absurd (cc)
number-made most file number (l ∷ ls) all h = at (nat_eq l.file file) (nat_eq (line_of l.address) number) refl (λ k. number-made most file number ls all.1 k) h
  where
    at : (a b : Bool) → nat_eq (line_of l.address) number ≡ b → (list_any (λ (k : Line). nat_eq k.file file && nat_eq (line_of k.address) number) ls ≡ true → number ≤ most)
        → ((a && b) || list_any (λ (k : Line). nat_eq k.file file && nat_eq (line_of k.address) number) ls) ≡ true → number ≤ most
    at true true e rest k =
        let own : line_of l.address ≤ most = all.0 in
        let same : line_of l.address ≡ number = grind (arith, nat_tests, e) in
        omega (arith, own, same)
    at true false e rest k = rest k
    at false b e rest k = rest k

-- a line of the table has its number
line-in : (t : List (List ℕ)) (line : ℕ) → IsTable t → line < length t → line_of (address_in t (line + 1)) ≤ length t
line-in t line table h =
    let one : suc line ≡ line + 1 = omega arith in
    subst (λ x. line_of (address_in t x) ≤ length t) one (let own = line_of-in t line table h in omega (arith, own, h))

-- an accepted edit deletes a line of the variant, and leaves the lines among the first so many
delete-within : (ns : Numbers) (t : List (List ℕ)) (v : Variant) (e : Edit) → LinesWithin (length t) v → refusal ns v e ≡ None → DeleteWithin (length ns.addresses) (length t) e
delete-within ns t v (edits.New kind parent name) all h = tt
delete-within ns t v (edits.Insert file after text) all h = tt
delete-within ns t v (edits.Delete file which) all h =
    let f : ℕ = node_number ns.nodes file in
    let number : ℕ = line_number (length ns.addresses) which in
    number-made (length t) f number v.lines all
    (and_parts (is_known_line (length ns.addresses) which) (list_any (λ (l : Line). nat_eq l.file f && nat_eq (line_of l.address) number) v.lines) (delete-accepted ns v file which h).2).1
delete-within ns t v (edits.Rename node name) all h = tt
delete-within ns t v (edits.Move node parent) all h = tt
delete-within ns t v (edits.Remove node) all h = tt

lines-within : (ns : Numbers) (t : List (List ℕ)) (node line m : ℕ) (v : Variant) (e : Edit) (ms : List ℕ) → IsTable t → line + length (cons_option (anchor_of m e) ms) ≤ length t → LinesWithin (length t) v
    → LinesWithin (length t) (edited v (numbered_edit ns t node line e))
lines-within ns t node line m v (edits.New kind parent name) ms table room all = all
lines-within ns t node line m v (edits.Insert file after text) ms table room all =
    let new : Line = record { file = node_number ns.nodes file; address = address_in t (line + 1); text = text } in
    all-placed line_address (λ (l : Line). line_of l.address ≤ length t) new v.lines (line-in t line table (omega (arith, room))) all
lines-within ns t node line m v (edits.Delete file which) ms table room all =
    all-filter (λ (l : Line). line_of l.address ≤ length t) (λ l. not (is_line (node_number ns.nodes file) (address_in t (line_number (length ns.addresses) which)) l)) v.lines all
lines-within ns t node line m v (edits.Rename which name) ms table room all = all
lines-within ns t node line m v (edits.Move which parent) ms table room all = all
lines-within ns t node line m v (edits.Remove which) ms table room all = all

pub deletes-within : (ns : Numbers) (t : List (List ℕ)) (node line k m : ℕ) (v : Variant) (es : List Edit) → IsTable t → line + length (anchors_of m es) ≤ length t → LinesWithin (length t) v
    → refused_from ns v k es (numbered_from ns t node line es) ≡ None → DeletesWithin (length ns.addresses) (length t) es
deletes-within ns t node line k m v [] table room all h = tt
deletes-within ns t node line k m v (e ∷ es) table room all h =
    let counted = line_count_after-is line m e (anchors_of m es) in (
      delete-within ns t v e all (edit-accepted k (refusal ns v e) _ h),
      deletes-within ns t (node_count_after node e) (line_count_after line e) (k + 1) m (edited v (numbered_edit ns t node line e)) es table (omega (arith, room, counted))
          (lines-within ns t node line m v e (anchors_of m es) table room all) (rest-accepted k (refusal ns v e) _ h),
    )

-- the lines of a replay are among those of the history
pub replay-within : (c : List Bool) (history : List Command) (most : ℕ) → HoldingStands → ReplayStands → length (numbers_of history).addresses ≤ most → LinesWithin most (replay c history)
replay-within c history most stands replays h =
    let t : List (List ℕ) = (numbers_of history).addresses in
    all-map (λ (l : Line). IsLineOf t (length t) l.address) (λ (l : Line). line_of l.address ≤ most)
    (λ l is. let own : line_of l.address ≡ suc is.0 = ap line_of is.2 ∙ line_of-in t is.0 (stands history).0 is.1 in let less : is.0 < length t = is.1 in omega (arith, own, less, h))
    (replay c history).lines (replays c history).1
