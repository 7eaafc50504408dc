-- Numbers in rising order.
use Rattle.std.proofs.Common.{◌≡◌, ℕ, suc, ◌+◌, ◌<◌, ◌≤◌, Bool, true, false, cond, nat_eq, nat_lt, List, [], ◌∷◌, length, map, get_or, refl, ap, ◌∙◌, arith}
use Rattle.std.specs.List.{sum_by, AllByRecursion}
use Rattle.std.proofs.lemmas.Bool.Decides.{nat_tests}
use Rattle.std.proofs.lemmas.List.Sums.{sum_by-cons}
use Rattle.cov_base.proofs.CallerLemmas.{all-map}
use Rattle.cov_base.specs.Faults.{with_row, in_node_order}
use Rattle.cov_base.specs.Rows.{Row}

-- numbers that never fall
abbrev pub Rises : List ℕ → Type 0
Rises [] = Unit {0}
Rises (x ∷ xs) = AllByRecursion (λ y. x ≤ y) xs × Rises xs

-- one for a number, zero for any other
abbrev pub one_at : ℕ → ℕ → ℕ
one_at z y = cond (nat_eq y z) 1 0

-- how often a number stands in a list
abbrev pub count : ℕ → List ℕ → ℕ
count z [] = 0
count z (x ∷ xs) = one_at z x + count z xs

pub count-sum : (z : ℕ) (xs : List ℕ) → sum_by (one_at z) xs ≡ count z xs
count-sum z [] = refl
count-sum z (x ∷ xs) = sum_by-cons (one_at z) x xs ∙ ap (λ n. one_at z x + n) (count-sum z xs)

one-itself : (x : ℕ) → one_at x x ≡ 1
one-itself x = let e : nat_eq x x ≡ true = grind (arith, nat_tests) in ap (λ b. cond b 1 0) e

-- the first of rising numbers is the least
least : (y x : ℕ) (ys : List ℕ) → AllByRecursion (λ z. y ≤ z) ys → 1 ≤ count x ys → y ≤ x
least y x [] all h = absurd (omega (arith, h))
least y x (z ∷ ys) all h = at (nat_eq z x) refl h (λ k. least y x ys all.1 k)
  where
    at : (b : Bool) → nat_eq z x ≡ b → 1 ≤ cond b 1 0 + count x ys → (1 ≤ count x ys → y ≤ x) → y ≤ x
    at true e k rest = let same : z ≡ x = grind (arith, nat_tests, e) in let below : y ≤ z = all.0 in omega (arith, same, below)
    at false e k rest = rest (omega (arith, k))

least_of : (y x : ℕ) (ys : List ℕ) → AllByRecursion (λ z. y ≤ z) ys → 1 ≤ count x (y ∷ ys) → y ≤ x
least_of y x ys all h = least y x (y ∷ ys) ((omega arith), all) h

-- rising numbers that stand equally often are the same
pub rising-one : (xs ys : List ℕ) → Rises xs → Rises ys → ((z : ℕ) → count z xs ≡ count z ys) → xs ≡ ys
rising-one [] [] up down same = refl
rising-one [] (y ∷ ys) up down same = absurd (let e : 0 ≡ one_at y y + count y ys = same y in let k = one-itself y in omega (arith, e, k))
rising-one (x ∷ xs) [] up down same = absurd (let e : one_at x x + count x xs ≡ 0 = same x in let k = one-itself x in omega (arith, e, k))
rising-one (x ∷ xs) (y ∷ ys) up down same =
    let sx : one_at x x + count x xs ≡ one_at x y + count x ys = same x in
    let sy : one_at y x + count y xs ≡ one_at y y + count y ys = same y in
    let ox = one-itself x in
    let oy = one-itself y in
    let there : 1 ≤ one_at x y + count x ys = omega (arith, sx, ox) in
    let back : 1 ≤ one_at y x + count y xs = omega (arith, sy, oy) in
    let low : y ≤ x = least_of y x ys down.0 there in
    let high : x ≤ y = least_of x y xs up.0 back in
    let head : x ≡ y = omega (arith, low, high) in
    (λ i. head i ∷ rising-one xs ys up.1 down.1 (λ z. let e : one_at z x + count z xs ≡ one_at z y + count z ys = same z in let f : one_at z x ≡ one_at z y = ap (one_at z) head in omega (arith, e, f)) i)

all_got : (P : ℕ → Type 0) (xs : List ℕ) → ((j d : ℕ) → j < length xs → P (get_or xs j d)) → AllByRecursion P xs
all_got P [] h = tt
all_got P (x ∷ xs) h = (h 0 0 (omega arith), all_got P xs (λ j d k. h (suc j) d (omega (arith, k))))

-- numbers that rise from each place to the next rise
pub rises_from : (xs : List ℕ) → ((i j d : ℕ) → i ≤ j → j < length xs → get_or xs i d ≤ get_or xs j d) → Rises xs
rises_from [] h = tt
rises_from (x ∷ xs) h = (
  all_got (λ y. x ≤ y) xs (λ j d k. h 0 (suc j) d (omega arith) (omega (arith, k))),
  rises_from xs (λ i j d k l. h (suc i) (suc j) d (omega (arith, k)) (omega (arith, l))),
)

-- the nodes of rows
abbrev pub node_list : List Row → List ℕ
node_list rows = map (λ r. r.node) rows

count-with : (z : ℕ) (r : Row) (rows : List Row) → count z (node_list (with_row r rows)) ≡ one_at z r.node + count z (node_list rows)
count-with z r [] = refl
count-with z r (s ∷ rows) = at (nat_lt r.node s.node) (count-with z r rows)
  where
    at : (b : Bool) → count z (node_list (with_row r rows)) ≡ one_at z r.node + count z (node_list rows)
        → count z (node_list (cond b (r ∷ s ∷ rows) (s ∷ with_row r rows))) ≡ one_at z r.node + (one_at z s.node + count z (node_list rows))
    at true rest = refl
    at false rest = omega (arith, rest)

-- nodes in order stand as often as before
pub count-order : (z : ℕ) (rows : List Row) → count z (node_list (in_node_order rows)) ≡ count z (node_list rows)
count-order z [] = refl
count-order z (r ∷ rows) = count-with z r (in_node_order rows) ∙ ap (λ n. one_at z r.node + n) (count-order z rows)

above-with : (x : ℕ) (r : Row) (rows : List Row) → x ≤ r.node → AllByRecursion (λ y. x ≤ y) (node_list rows) → AllByRecursion (λ y. x ≤ y) (node_list (with_row r rows))
above-with x r [] h all = (h, tt)
above-with x r (s ∷ rows) h all = at (nat_lt r.node s.node) (above-with x r rows h all.1)
  where
    at : (b : Bool) → AllByRecursion (λ y. x ≤ y) (node_list (with_row r rows)) → AllByRecursion (λ y. x ≤ y) (node_list (cond b (r ∷ s ∷ rows) (s ∷ with_row r rows)))
    at true rest = (h, all)
    at false rest = (all.0, rest)

rises-with : (r : Row) (rows : List Row) → Rises (node_list rows) → Rises (node_list (with_row r rows))
rises-with r [] up = (tt, tt)
rises-with r (s ∷ rows) up = at (nat_lt r.node s.node) refl (rises-with r rows up.1)
  where
    at : (b : Bool) → nat_lt r.node s.node ≡ b → Rises (node_list (with_row r rows)) → Rises (node_list (cond b (r ∷ s ∷ rows) (s ∷ with_row r rows)))
    at true e rest =
        let below : r.node < s.node = grind (arith, nat_tests, e) in (
          ((omega (arith, below)), all-map (λ y. s.node ≤ y) (λ y. r.node ≤ y) (λ y k. omega (arith, k, below)) (node_list rows) up.0),
          up,
        )
    at false e rest =
        let above : s.node ≤ r.node = grind (arith, nat_tests, e) in (above-with s.node r rows above up.0, rest)

-- nodes in order rise
pub rises-order : (rows : List Row) → Rises (node_list (in_node_order rows))
rises-order [] = tt
rises-order (r ∷ rows) = rises-with r (in_node_order rows) (rises-order rows)
