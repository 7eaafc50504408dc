-- How long the generated script is.
use Rattle.std.proofs.Common.{◌≡◌, ℕ, zero, suc, ◌+◌, ◌*◌, ◌%◌, ◌<◌, ◌≤◌, Bool, true, false, cond, List, [], ◌∷◌, ◌++◌, length, get_or, length-append, refl, arith}
use Rattle.std.specs.Prelude.{codes, decimal, nat_eq, replicate, slice_set}
use Rattle.std.specs.Fmt.{digits}
use Rattle.std.proofs.lemmas.Fmt.{length-decimal-le}
use Rattle.std.proofs.lemmas.Nat.{mod_below}
use Rattle.cov_script.specs.Commits.{each_below, file_path, ambition_of, kind_of, plan_of, opening_line, insert_line, drawn_line, insert_lines, delete_line, commit_lines, mark_after, after_commits}
use Rattle.cov_script.specs.Demonstration.{option_line, rule_lines, default_line, dir_line, file_line, first_commit_lines, each_commit, checkout_lines, demo_text}
use Rattle.cov_script.specs.Draws.{state_after, draw, drawn}
use Rattle.cov_script.specs.declared.line.LineField.TheVariants as fields
use Rattle.cov_script.specs.declared.plan.Ambition.{Ambition}
use Rattle.cov_script.specs.declared.plan.Ambition.TheVariants as ambitions

-- so many bytes at most
pub record AtMost (xs : List ℕ) (most : ℕ) : Type 0 where
  pub few : length xs ≤ most

whole : (xs : List ℕ) → AtMost xs (length xs)
whole xs = record { few = omega arith }

both : {xs ys : List ℕ} {m n : ℕ} → AtMost xs m → AtMost ys n → AtMost (xs ++ ys) (m + n)
both {xs} {ys} first second = record { few = omega (arith, first.few, second.few, length-append xs ys) }

larger : {xs : List ℕ} {m : ℕ} (n : ℕ) → m ≤ n → AtMost xs m → AtMost xs n
larger n less few = record { few = omega (arith, less, few.few) }

-- numbers of few digits
one : (n : ℕ) → n < 10 → AtMost (decimal n) 1
one n small = record { few = length-decimal-le 1 n (omega arith) small (omega (arith, small)) }

two : (n : ℕ) → n < 100 → AtMost (decimal n) 2
two n small = record { few = length-decimal-le 2 n (omega arith) small (omega (arith, small)) }

three : (n : ℕ) → n < 1000 → AtMost (decimal n) 3
three n small = record { few = length-decimal-le 3 n (omega arith) small (omega (arith, small)) }

five : (n : ℕ) → n < 100000 → AtMost (decimal n) 5
five n small = record { few = length-decimal-le 5 n (omega arith) small (omega (arith, small)) }

-- the lines of the numbers below a count, where each is short
each_short : (line : ℕ → List ℕ) (most count : ℕ) → ((i : ℕ) → i < count → AtMost (line i) most) → AtMost (each_below count line) (count * most)
unfolding each_below
each_short line most zero short = record { few = omega arith }
each_short line most (suc count) short =
    let before = each_short line most count (λ i below. short i (omega (arith, below))) in
    let last = short count (omega arith) in
    record { few = omega (arith, before.few, last.few, length-append (each_below count line) (line count)) }

path_short : (file : ℕ) → file < 64 → AtMost (file_path file) 7
path_short file small =
    both (both (both (whole (codes "/d")) (one (file % 8) (omega (arith, mod_below file 8 (omega arith))))) (whole (codes "/f"))) (two file (omega (arith, small)))

opening_short : (on other : ℕ) (ambition : Ambition) → on < 100 → other < 100 → AtMost (opening_line on other ambition) 37
opening_short on other ambitions.Always h k = larger 37 (omega arith) (both (both (whole (codes "open s o")) (two on h)) (whole (codes "=on for true\n")))
opening_short on other ambitions.On h k = larger 37 (omega arith) (both (both (both (both (whole (codes "open s o")) (two on h)) (whole (codes "=on for o"))) (two on h)) (whole (codes "\n")))
opening_short on other ambitions.Either h k = larger 37 (omega arith) (both (both (both (both (both (both (whole (codes "open s o")) (two on h)) (whole (codes "=on for o"))) (two on h)) (whole (codes " | o"))) (two other k)) (whole (codes "\n")))
opening_short on other ambitions.Without h k = both (both (both (both (both (both (both (both (whole (codes "open s o")) (two on h)) (whole (codes "=on,o"))) (two other k)) (whole (codes "=off for o"))) (two on h)) (whole (codes " & !o"))) (two other k)) (whole (codes "\n"))

-- a line that is inserted behind what has a short name
first_short : (file commit : ℕ) → file < 64 → commit < 1000 → AtMost (insert_line file commit (fields.Number 0) 0) 30
first_short file commit h k =
    both (both (both (both (both (both (both (both (whole (codes "insert s ")) (path_short file h)) (whole (codes " "))) (one 0 (omega arith))) (whole (codes " line "))) (three commit k)) (whole (codes " "))) (one 0 (omega arith))) (whole (codes "\n"))

drawn_short : (file commit x index : ℕ) → file < 64 → commit < 1000 → 0 < index → index < 100 → AtMost (drawn_line file commit x index) 33
drawn_short file commit x index h k some l =
    let below : draw x index index < 100 = omega (arith, mod_below (drawn (state_after index x)) index some, l) in
    both (both (both (both (both (both (both (both (whole (codes "insert s ")) (path_short file h)) (whole (codes " "))) (both (whole (codes "+")) (two (draw x index index) below))) (whole (codes " line "))) (three commit k)) (whole (codes " "))) (two index l)) (whole (codes "\n"))

inserts_short : (file commit x : ℕ) → file < 64 → commit < 1000 → AtMost (insert_lines file commit x) 3297
inserts_short file commit x h k =
    both (first_short file commit h k) (each_short (λ i. drawn_line file commit x (suc i)) 33 99 (λ i below. drawn_short file commit x (suc i) h k (omega arith) (omega (arith, below))))

delete_short : (file mark : ℕ) → file < 64 → mark < 100000 → AtMost (delete_line file mark) 23
delete_short file mark h k = at (nat_eq mark 0)
  where
    at : (b : Bool) → AtMost (cond b [] (codes "delete s " ++ file_path file ++ codes " " ++ decimal mark ++ codes "\n")) 23
    at true = record { few = omega arith }
    at false = both (both (both (both (whole (codes "delete s ")) (path_short file h)) (whole (codes " "))) (five mark k)) (whole (codes "\n"))

-- the marks
set_below : (xs : List ℕ) (i j mark most : ℕ) → mark < most → get_or xs j 0 < most → get_or (slice_set xs i mark) j 0 < most
set_below [] i j mark most h k = k
set_below (x ∷ xs) zero zero mark most h k = h
set_below (x ∷ xs) zero (suc j) mark most h k = k
set_below (x ∷ xs) (suc i) zero mark most h k = k
set_below (x ∷ xs) (suc i) (suc j) mark most h k = set_below xs i j mark most h k

none_marked : (count j : ℕ) → get_or (replicate count 0) j 0 < 100000
none_marked zero j = omega arith
none_marked (suc count) zero = omega arith
none_marked (suc count) (suc j) = none_marked count j

mark_below : (ambition : Ambition) (index : ℕ) → index < 400 → mark_after ambition index < 100000
mark_below ambitions.Always index h = omega (arith, h)
mark_below ambitions.On index h = omega arith
mark_below ambitions.Either index h = omega arith
mark_below ambitions.Without index h = omega arith

marks_below : (n count j : ℕ) → count ≤ 400 → get_or (after_commits count n).marks j 0 < 100000
unfolding after_commits
marks_below n zero j h = none_marked 64 j
marks_below n (suc count) j h =
    let before = after_commits count n in
    let plan = plan_of before.draws in
    set_below before.marks plan.file j (mark_after plan.ambition count) 100000 (mark_below plan.ambition count (omega (arith, h))) (marks_below n count j (omega (arith, h)))

commit_short : (n index : ℕ) → index < 400 → AtMost (commit_lines (suc index) (after_commits index n)) 3366
commit_short n index h =
    let before = after_commits index n in
    let x = before.draws in
    let on : 6 + draw x 1 58 < 100 = omega (arith, mod_below (drawn (state_after 1 x)) 58 (omega arith)) in
    let other : 6 + draw x 2 58 < 100 = omega (arith, mod_below (drawn (state_after 2 x)) 58 (omega arith)) in
    let file : draw x 4 64 < 64 = mod_below (drawn (state_after 4 x)) 64 (omega arith) in
    let mark = marks_below n index (draw x 4 64) (omega (arith, h)) in
    both
    (both
    (both (opening_short (6 + draw x 1 58) (6 + draw x 2 58) (ambition_of (kind_of (6 + draw x 1 58) (6 + draw x 2 58) (draw x 3 4))) on other)
    (inserts_short (draw x 4 64) (suc index) (state_after 4 x) file (omega (arith, h))))
    (delete_short (draw x 4 64) (get_or before.marks (draw x 4 64) 0) file mark))
    (whole (codes "commit s\n"))

-- what comes before the commits of lines
first_commit_short : AtMost first_commit_lines 1211
first_commit_short =
    both
    (both
    (both (whole (codes "open s - for true\n"))
    (each_short dir_line 12 8 (λ i below. both (both (whole (codes "mkdir s /d")) (one i (omega (arith, below)))) (whole (codes "\n")))))
    (each_short file_line 17 64 (λ i below. both (both (whole (codes "mkfile s ")) (path_short i below)) (whole (codes "\n")))))
    (whole (codes "commit s\n"))

options_short : AtMost (each_below 64 option_line) 704
options_short = each_short option_line 11 64 (λ i below. both (both (whole (codes "option o")) (two i (omega (arith, below)))) (whole (codes "\n")))

defaults_short : AtMost (each_below 64 default_line) 1024
defaults_short = each_short default_line 16 64 (λ i below. both (both (whole (codes "default o")) (two i (omega (arith, below)))) (whole (codes " off\n")))

commits_short : (n : ℕ) → AtMost (each_commit n) 1346400
commits_short n = each_short (λ index. commit_lines (suc index) (after_commits index n)) 3366 400 (λ index below. commit_short n index below)

checkouts_short : AtMost checkout_lines 147
unfolding each_below digits
checkouts_short =
    let is : length checkout_lines ≡ 147 = refl in
    record { few = omega (arith, is) }

-- the whole script
pub demo_short : (n : ℕ) → length (demo_text n) < 2000000
unfolding demo_text
demo_short n =
    let all = both (both (both (both (both options_short (whole rule_lines)) defaults_short) first_commit_short) (commits_short n)) checkouts_short in
    omega (arith, all.few)
