-- What is kept after a commit: lists, rows and numbers.
use Rattle.std.proofs.Common.{◌≡◌, ℕ, zero, suc, ◌+◌, ◌<◌, ◌≤◌, Bool, true, false, cond, nat_eq, List, [], ◌∷◌, ◌++◌, length, length-append, map, None, slice_get, refl, ap, ◌∙◌, arith}
use Rattle.std.specs.List.{fold, AllByRecursion}
use Rattle.std.proofs.lemmas.Bool.Decides.{nat_tests}
use Rattle.cov_base.specs.Addresses.{line_of, IsLineOf}
use Rattle.cov_base.proofs.CallerLemmas.{all-filter, line_of-in, length-with_lines}
use Rattle.cov_expr.specs.Formula.{Formula}
use Rattle.cov_edit.specs.declared.edit.Edit.{Edit}
use Rattle.cov_edit.specs.declared.edit.Edit.TheVariants as edits
use Rattle.cov_edit.specs.declared.command.Command.{Command}
use Rattle.cov_edit.specs.declared.command.Command.TheVariants as commands
use Rattle.cov_edit.specs.declared.sided.Sided.{Sided}
use Rattle.cov_history.specs.RowChanges.{changes_rows}
use Rattle.cov_edit.specs.Numbering.{Numbers, node_count_after, line_count_after, numbered_edit, nodes_made, anchors_of, no_numbers, numbers_after, numbers_of, numbered_from}
use Rattle.cov_edit.specs.Replay.{first_within, rest_within, changes_within}
use Rattle.cov_edit.specs.Sides.{unsided}
use Rattle.cov_edit.specs.Variant.{Line}
use Rattle.cov_edit.proofs.CallerLemmas.{numbers_from-append}
use Rattle.cov_history.specs.Kept.{Kept, kept_address, kept_number, kept_after, kept_with, kept_of, file_kept}
use Rattle.cov_history.specs.Files.{dated_number, dated, file_dated}
use Rattle.cov_history.specs.FileNodes.{files_made}
use Rattle.cov_history.specs.FileOfLine.{new_file_of_line}
use Rattle.cov_visible.specs.Staging.{Contents, new_contents, new_files}
use Rattle.cov_history.proofs.CallerLemmas.{all-mapped, holding-stands, made-within, new-files_of_lines-count}
use Rattle.cov_engine.proofs.Named.{the_file, AreInFiles}

-- lists
pub get-behind : {X : Type 0} (xs : List X) (i : ℕ) → length xs ≤ i → slice_get xs i ≡ None
get-behind [] i h = refl
get-behind (x ∷ xs) zero h = absurd (omega (arith, h))
get-behind (x ∷ xs) (suc i) h = get-behind xs i (omega (arith, h))

pub numbers-dated : (ks : List (Kept Line)) → map dated_number (map dated ks) ≡ map kept_number ks
numbers-dated [] = refl
numbers-dated (k ∷ ks) = ap (λ ns. kept_number k ∷ ns) (numbers-dated ks)

-- a new row has no lines
pub file-empty : (count file : ℕ) (ks : List (Kept Line)) → count < file → AreInFiles count ks → file_kept file ks ≡ []
file-empty count file [] h files = refl
file-empty count file (k ∷ ks) h files =
    let low : the_file k ≤ count = files.0 in
    let differs : nat_eq k.item.file file ≡ false = grind (arith, nat_tests, low, h) in
    ap (λ b. cond b (k ∷ file_kept file ks) (file_kept file ks)) differs ∙ file-empty count file ks h files.1

-- an edit that changes rows leaves the lines
pub lines-left : (q : ℕ) (within : Formula ℕ) (ns : Numbers) (t : List (List ℕ)) (node line : ℕ) (ks : List (Kept Line)) (e : Edit) → changes_rows e ≡ true → kept_after q within ks (numbered_edit ns t node line e) ≡ ks
lines-left q within ns t node line ks (edits.New kind parent name) is = refl
lines-left q within ns t node line ks (edits.Insert file after text) is = absurd (cc)
lines-left q within ns t node line ks (edits.Delete file which) is = absurd (cc)
lines-left q within ns t node line ks (edits.Rename which name) is = refl
lines-left q within ns t node line ks (edits.Move which parent) is = refl
lines-left q within ns t node line ks (edits.Remove which) is = refl

pub rows-same : (q : ℕ) (within : List (Formula ℕ)) (ns : Numbers) (t : List (List ℕ)) (node line : ℕ) (ks : List (Kept Line)) (begun : List Edit) (e : Edit) → changes_rows e ≡ true
    → fold (kept_with q) ks (changes_within within (numbered_from ns t node line (begun ++ e ∷ []))) ≡ fold (kept_with q) ks (changes_within within (numbered_from ns t node line begun))
rows-same q within ns t node line ks [] e is = lines-left q (first_within within) ns t node line ks e is
rows-same q within ns t node line ks (d ∷ begun) e is =
    rows-same q (rest_within within) ns t (node_count_after node d) (line_count_after line d) (kept_after q (first_within within) ks (numbered_edit ns t node line d)) begun e is

-- the numbers of the lines in a file of a history
pub in-range : (history : List Command) (file : ℕ) → AllByRecursion (λ d. (1 ≤ dated_number d) × (dated_number d ≤ length (numbers_of history).addresses)) (file_dated file (kept_of history))
in-range history file =
    let t = (numbers_of history).addresses in
    let stands = holding-stands history in
    all-mapped (λ k. IsLineOf t (length t) (kept_address k)) (λ d. (1 ≤ dated_number d) × (dated_number d ≤ length t)) dated
    (λ k line.
    let own : line_of (kept_address k) ≡ suc line.0 = ap line_of line.2 ∙ line_of-in t line.0 stands.0 line.1 in
    let less : line.0 < length t = line.1 in
    (omega (arith, own), omega (arith, own, less)))
    (file_kept file (kept_of history)) (all-filter (λ k. IsLineOf t (length t) (kept_address k)) (λ k. nat_eq k.item.file file) (kept_of history) stands.1.numbered_lines)

pub new-files-all : (P : Contents → Type 0) (made : ℕ) (es : List Edit) → ((node : ℕ) → made < node → P (new_contents node)) → AllByRecursion P (new_files made es)
new-files-all P made es f = all-mapped (λ node. (made < node) × (node ≤ made + nodes_made es)) P new_contents (λ node h. f node h.0) (files_made made es) (made-within made es)

pub line-files-after : (history : List Command) (base : ℕ) (choice : List Bool) (ambition : Formula ℕ) (es : List Sided) (file_of_line : List ℕ) (n : ℕ) → length file_of_line ≡ length (numbers_of history).addresses
    → length (file_of_line ++ new_file_of_line n (unsided es)) ≡ length (numbers_of (history ++ commands.Commit base choice ambition es ∷ [])).addresses
line-files-after history base choice ambition es file_of_line n h =
    let ns = numbers_of history in
    let all = length-append file_of_line (new_file_of_line n (unsided es)) in
    let new = new-files_of_lines-count n (length ns.addresses) (unsided es) in
    let grown = length-with_lines ns.addresses (anchors_of (length ns.addresses) (unsided es)) in
    let more : length (numbers_of (history ++ commands.Commit base choice ambition es ∷ [])).addresses ≡ length (numbers_after ns (unsided es)).addresses =
    ap (λ (ms : Numbers). length ms.addresses) (numbers_from-append no_numbers history (commands.Commit base choice ambition es ∷ [])) in
    omega (arith, h, all, new, grown, more)
