-- Where lines stand: a line's address is that of its anchor followed by its own number.
use Rattle.std.specs.Prelude.{◌≡◌, ℕ, zero, suc, ◌+◌, ◌<◌, Bool, true, false, nat_lt, nat_eq, List, [], ◌∷◌, ◌++◌, length, None, unwrap_or, if◌then◌else◌}
use Rattle.std.specs.List.{last_or, AllByRecursion}

-- the address of a line in the table of addresses of the lines 1, 2 and so on; empty for the head and for a line that there isn't
abbrev pub address_in : List (List ℕ) → ℕ → List ℕ
address_in table zero = []
address_in [] (suc n) = []
address_in (address ∷ table) (suc zero) = address
address_in (address ∷ table) (suc (suc n)) = address_in table (suc n)

-- the table with one more line, inserted after an anchor
abbrev pub with_line : List (List ℕ) → ℕ → List (List ℕ)
with_line table anchor = table ++ (address_in table anchor ++ (length table + 1) ∷ []) ∷ []

-- the table with lines inserted after these anchors, in order
abbrev pub with_lines : List (List ℕ) → List ℕ → List (List ℕ)
with_lines table [] = table
with_lines table (anchor ∷ anchors) = with_lines (with_line table anchor) anchors

-- whether the first address stands before the second: a prefix first, and else the larger number first
abbrev pub stands_before : List ℕ → List ℕ → Bool
stands_before [] [] = false
stands_before [] (n ∷ ns) = true
stands_before (m ∷ ms) [] = false
stands_before (m ∷ ms) (n ∷ ns) = if nat_eq m n then stands_before ms ns else nat_lt n m

-- the number of the line with an address; 0 for the head
abbrev pub line_of : List ℕ → ℕ
line_of address = unwrap_or (last_or None address) 0

-- an address that ends with this number, all others in it being less
abbrev pub EndsIn : ℕ → List ℕ → Type 0
EndsIn number address = (anchor : List ℕ) × (address ≡ anchor ++ number ∷ []) × AllByRecursion (λ n. n < number) anchor

-- a table in which each line's address ends with its number, all others in it being less
abbrev pub IsTable : List (List ℕ) → Type 0
IsTable table = (n : ℕ) → n < length table → EndsIn (suc n) (address_in table (suc n))

-- an address of one of the lines 1 to n of a table
abbrev pub IsLineOf : List (List ℕ) → ℕ → List ℕ → Type 0
IsLineOf table n address = (x : ℕ) × (x < n) × (address ≡ address_in table (suc x))

module _ {X : Type 0} (address : X → List ℕ) where
  -- the list with one more item, before the first that it stands before
  abbrev pub placed : X → List X → List X
  placed x [] = x ∷ []
  placed x (y ∷ ys) = if stands_before (address x) (address y) then x ∷ y ∷ ys else y ∷ placed x ys

  -- the number of the line that an item is
  abbrev pub number_by : X → ℕ
  number_by x = line_of (address x)

  -- each item stands before all after it
  abbrev pub AreInOrder : List X → Type 0
  AreInOrder [] = Unit {0}
  AreInOrder (x ∷ xs) = AllByRecursion (λ y. stands_before (address x) (address y) ≡ true) xs × AreInOrder xs

-- the list with an item directly after the first that passes a test, or last
abbrev pub after_first : {X : Type 0} → (X → Bool) → X → List X → List X
after_first test x [] = x ∷ []
after_first test x (y ∷ ys) = if test y then y ∷ x ∷ ys else y ∷ after_first test x ys

module _ {X : Type 0} (number : X → ℕ) where
  -- the list with an item directly after the one with this number, or last
  abbrev pub after_item : ℕ → X → List X → List X
  after_item anchor x ys = after_first (λ y. nat_eq (number y) anchor) x ys

  -- the list with an item directly after its anchor, or first where that is the head, 0
  abbrev pub after_anchor_by : ℕ → X → List X → List X
  after_anchor_by zero x ys = x ∷ ys
  after_anchor_by (suc anchor) x ys = after_item (suc anchor) x ys

-- a number as its own number
abbrev pub itself : ℕ → ℕ
itself n = n

-- the line numbers with one directly after its anchor, or first where that is the head, 0
abbrev pub after_anchor : ℕ → ℕ → List ℕ → List ℕ
after_anchor anchor line lines = after_anchor_by itself anchor line lines
