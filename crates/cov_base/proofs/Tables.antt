-- Tables of addresses.
use Rattle.std.proofs.Common.{◌≡◌, ℕ, zero, suc, ◌+◌, ◌<◌, ◌≤◌, Bool, true, false, nat_eq, nat_lt, List, [], ◌∷◌, ◌++◌, length, length-append, Option, Some, None, unwrap_or, ◌⊎◌, refl, sym, ap, subst, inl, inr, ◌∙◌, arith}
use Rattle.std.specs.List.{last_or, AllByRecursion}
use Rattle.std.specs.Str.{bytes_eq}
use Rattle.std.proofs.lemmas.Bool.Decides.{nat_tests}
use Rattle.std.proofs.lemmas.Slice.Eq.{bytes_eq-Decides}
use Rattle.cov_base.specs.Addresses.{address_in, with_line, with_lines, line_of, EndsIn, IsTable, IsLineOf}
use Rattle.cov_base.proofs.Ordered.{all-map, all-append}

pub line_of-last : (a : List ℕ) (x : ℕ) → line_of (a ++ x ∷ []) ≡ x
line_of-last a x = ap (λ o. unwrap_or o 0) (last None a)
  where
    last : (o : Option ℕ) (a : List ℕ) → last_or o (a ++ x ∷ []) ≡ Some x
    last o [] = refl
    last o (m ∷ ms) = last (Some m) ms

pub line_of-in : (t : List (List ℕ)) (x : ℕ) → IsTable t → x < length t → line_of (address_in t (suc x)) ≡ suc x
line_of-in t x table h = let e = table x h in ap line_of e.1 ∙ line_of-last e.0 (suc x)

-- the address of a line below n of a table isn't empty, and its numbers are at most n
pub inside : (t : List (List ℕ)) (n : ℕ) (address : List ℕ) → IsTable t → n ≤ length t → IsLineOf t n address → (0 < length address) × AllByRecursion (λ m. m < suc n) address
inside t n address table below line =
    let e = table line.0 (omega (arith, below, line.1)) in
    let less : line.0 < n = line.1 in
    let is : address ≡ e.0 ++ suc line.0 ∷ [] = line.2 ∙ e.1 in
    subst (λ a. (0 < length a) × AllByRecursion (λ m. m < suc n) a) (sym is) (
      omega (arith, length-append e.0 (suc line.0 ∷ [])),
      all-append (λ m. m < suc n) e.0 (suc line.0 ∷ []) (all-map (λ m. m < suc line.0) (λ m. m < suc n) (λ m k. omega (arith, k, less)) e.0 e.2) (omega (arith, less), tt),
    )

-- two lines of a table with one number have one address
pub one_address : (t : List (List ℕ)) (n x : ℕ) (address : List ℕ) → IsTable t → n ≤ length t → IsLineOf t n address → line_of address ≡ x → address ≡ address_in t x
one_address t n x address table below line e =
    let less : line.0 < length t = omega (arith, below, line.1) in
    line.2 ∙ ap (address_in t) (sym (line_of-in t line.0 table less) ∙ ap line_of (sym line.2) ∙ e)

pub line_isn't_head : (t : List (List ℕ)) (n : ℕ) (address : List ℕ) → IsTable t → n ≤ length t → IsLineOf t n address → line_of address ≡ 0 → ⊥
line_isn't_head t n address table below line e =
    let less : line.0 < length t = omega (arith, below, line.1) in
    let f : suc line.0 ≡ 0 = sym (line_of-in t line.0 table less) ∙ ap line_of (sym line.2) ∙ e in
    omega (arith, f)

pub address_in-append : (t u : List (List ℕ)) (x : ℕ) → x ≤ length t → address_in (t ++ u) x ≡ address_in t x
address_in-append t u zero h = refl
address_in-append [] u (suc n) h = absurd (omega (arith, h))
address_in-append (a ∷ t) u (suc zero) h = refl
address_in-append (a ∷ t) u (suc (suc n)) h = address_in-append t u (suc n) (omega (arith, h))

pub address_in-last : (t : List (List ℕ)) (a : List ℕ) → address_in (t ++ a ∷ []) (suc (length t)) ≡ a
address_in-last [] a = refl
address_in-last (b ∷ t) a = address_in-last t a

pub address_in-beyond : (t : List (List ℕ)) (x : ℕ) → length t ≤ x → address_in t (suc x) ≡ []
address_in-beyond [] x h = refl
address_in-beyond (a ∷ t) zero h = absurd (omega (arith, h))
address_in-beyond (a ∷ t) (suc x) h = address_in-beyond t x (omega (arith, h))

below_or : (y n : ℕ) → (y < n) ⊎ (n ≤ y)
below_or y n = at (nat_lt y n) refl
  where
    at : (b : Bool) → nat_lt y n ≡ b → (y < n) ⊎ (n ≤ y)
    at true e = inl (grind (arith, nat_tests, e))
    at false e = inr (grind (arith, nat_tests, e))

pub small_in : (t : List (List ℕ)) → IsTable t → (y : ℕ) → AllByRecursion (λ n. n < length t + 1) (address_in t y)
small_in t table zero = tt
small_in t table (suc y) = at (below_or y (length t))
  where
    at : (y < length t) ⊎ (length t ≤ y) → AllByRecursion (λ n. n < length t + 1) (address_in t (suc y))
    at (inl h) =
        let e = table y h in
        subst (λ a. AllByRecursion (λ n. n < length t + 1) a) (sym e.1)
        (all-append (λ n. n < length t + 1) e.0 (suc y ∷ []) (all-map (λ n. n < suc y) (λ n. n < length t + 1) (λ n k. omega (arith, k, h)) e.0 e.2) (omega (arith, h), tt))
    at (inr h) = subst (λ a. AllByRecursion (λ n. n < length t + 1) a) (sym (address_in-beyond t y h)) tt

pub length-with_line : (t : List (List ℕ)) (anchor : ℕ) → length (with_line t anchor) ≡ length t + 1
length-with_line t anchor = length-append t ((address_in t anchor ++ (length t + 1) ∷ []) ∷ [])

pub address_in-with_line : (t : List (List ℕ)) (anchor x : ℕ) → x ≤ length t → address_in (with_line t anchor) x ≡ address_in t x
address_in-with_line t anchor x h = address_in-append t ((address_in t anchor ++ (length t + 1) ∷ []) ∷ []) x h

pub is_table-with_line : (t : List (List ℕ)) (anchor : ℕ) → IsTable t → IsTable (with_line t anchor)
is_table-with_line t anchor table n h = at (below_or n (length t))
  where
    at : (n < length t) ⊎ (length t ≤ n) → EndsIn (suc n) (address_in (with_line t anchor) (suc n))
    at (inl k) = subst (EndsIn (suc n)) (sym (address_in-with_line t anchor (suc n) (omega (arith, k)))) (table n k)
    at (inr k) =
        let last : length t ≡ n = omega (arith, h, k, length-with_line t anchor) in
        subst (λ m. EndsIn (suc m) (address_in (with_line t anchor) (suc m))) last
        (subst (EndsIn (suc (length t))) (sym (address_in-last t (address_in t anchor ++ (length t + 1) ∷ []))) (
          address_in t anchor,
          (let one : length t + 1 ≡ suc (length t) = omega arith in ap (λ m. address_in t anchor ++ m ∷ []) one),
          all-map (λ m. m < length t + 1) (λ m. m < suc (length t)) (λ m j. omega (arith, j)) (address_in t anchor) (small_in t table anchor),
        ))

pub length-with_lines : (t : List (List ℕ)) (anchors : List ℕ) → length (with_lines t anchors) ≡ length t + length anchors
length-with_lines t [] = omega arith
length-with_lines t (anchor ∷ anchors) = omega (arith, length-with_lines (with_line t anchor) anchors, length-with_line t anchor)

pub is_table-with_lines : (t : List (List ℕ)) (anchors : List ℕ) → IsTable t → IsTable (with_lines t anchors)
is_table-with_lines t [] table = table
is_table-with_lines t (anchor ∷ anchors) table = is_table-with_lines (with_line t anchor) anchors (is_table-with_line t anchor table)

pub address_in-with_lines : (t : List (List ℕ)) (anchors : List ℕ) (x : ℕ) → x ≤ length t → address_in (with_lines t anchors) x ≡ address_in t x
address_in-with_lines t [] x h = refl
address_in-with_lines t (anchor ∷ anchors) x h =
    address_in-with_lines (with_line t anchor) anchors x (omega (arith, h, length-with_line t anchor)) ∙ address_in-with_line t anchor x h

-- the address of the next line is that of its anchor followed by its number
pub address_in-next : (t : List (List ℕ)) (anchor : ℕ) (later : List ℕ) → anchor ≤ length t
    → address_in (with_lines (with_line t anchor) later) (suc (length t)) ≡ address_in (with_lines (with_line t anchor) later) anchor ++ suc (length t) ∷ []
address_in-next t anchor later h =
    let new : address_in (with_line t anchor) (suc (length t)) ≡ address_in t anchor ++ (length t + 1) ∷ [] = address_in-last t (address_in t anchor ++ (length t + 1) ∷ []) in
    let one : length t + 1 ≡ suc (length t) = omega arith in
    address_in-with_lines (with_line t anchor) later (suc (length t)) (omega (arith, length-with_line t anchor))
    ∙ new ∙ ap (λ n. address_in t anchor ++ n ∷ []) one
    ∙ ap (λ a. a ++ suc (length t) ∷ []) (sym (address_in-with_line t anchor anchor h) ∙ sym (address_in-with_lines (with_line t anchor) later anchor (omega (arith, h, length-with_line t anchor))))

-- an address in a table is that of the line with its number, if it isn't empty
named : (t : List (List ℕ)) (line : ℕ) → IsTable t → 0 < length (address_in t line) → line_of (address_in t line) ≡ line
named t zero table h = absurd (omega (arith, h))
named t (suc x) table h = by (nat_lt x (length t)) refl
  where
    by : (b : Bool) → nat_lt x (length t) ≡ b → line_of (address_in t (suc x)) ≡ suc x
    by true e = line_of-in t x table (grind (arith, nat_tests, e))
    by false e =
        let beyond : length t ≤ x = grind (arith, nat_tests, e) in
        let none : length (address_in t (suc x)) ≡ 0 = ap length (address_in-beyond t x beyond) in
        absurd (omega (arith, h, none))

-- a line of a table has the address of a number just where it is its own
pub line_is : (t : List (List ℕ)) (n line : ℕ) (a : List ℕ) → IsTable t → n ≤ length t → IsLineOf t n a → bytes_eq a (address_in t line) ≡ nat_eq (line_of a) line
line_is t n line a table below is = by (nat_eq (line_of a) line) refl
  where
    other : (b : Bool) → bytes_eq a (address_in t line) ≡ b → nat_eq (line_of a) line ≡ false → b ≡ false
    other false f e = refl
    other true f e =
        let same : a ≡ address_in t line = (bytes_eq-Decides a (address_in t line)).0 f in
        let some : 0 < length a = (inside t n a table below is).0 in
        let there : length a ≡ length (address_in t line) = ap length same in
        let number : line_of a ≡ line = ap line_of same ∙ named t line table (omega (arith, some, there)) in
        absurd (grind (arith, nat_tests, number, e))

    by : (b : Bool) → nat_eq (line_of a) line ≡ b → bytes_eq a (address_in t line) ≡ b
    by true e =
        let number : line_of a ≡ line = grind (arith, nat_tests, e) in
        (bytes_eq-Decides a (address_in t line)).1 (one_address t n line a table below is number)
    by false e = other (bytes_eq a (address_in t line)) refl e
