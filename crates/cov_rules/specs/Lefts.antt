-- The choices that are left of all: those that have the bound options as they are bound, and on which a node is true.
use Rattle.std.specs.Prelude.{ℕ, ◌+◌, ◌≡◌, ◌≤◌, ◌<◌, Bool, true, false, ◌&&◌, ◌||◌, not, nat_lt, List, [], ◌∷◌, length, Option, Some, None}
use Rattle.std.specs.List.{filter}
use Rattle.cov_base.specs.Choices.{all_choices, is_on}
use Rattle.cov_base.specs.declared.limits.TheConstants.{CHOICE_WIDTH}
use Rattle.cov_dd.specs.declared.triple.Triple.{Triple}
use Rattle.cov_dd.specs.Diagrams.{diagram_size, span, value_in}
use Rattle.cov_expr.specs.Formula.{Formula, value}
use Rattle.cov_expr.specs.Validity.{is_valid}
use Rattle.cov_rules.specs.Completion.{Completion, Invalid, answer_of, fallbacks, is_open, keep_all, least_unmet}
use Rattle.cov_rules.specs.Installing.{Standing, expressions, literal}
use Rattle.cov_rules.specs.declared.lefts.Left.{Left}
use Rattle.cov_rules.specs.declared.rules.Installed.{Installed}

-- whether two truth values are the same
abbrev pub same : Bool → Bool → Bool
same true x = x
same false x = not x

-- whether a choice has the bound options as they are bound
abbrev pub agrees : List Bool → List Bool → List Bool → Bool
agrees [] values c = true
agrees (b ∷ bound) [] c = true
agrees (b ∷ bound) (v ∷ values) [] = true
agrees (b ∷ bound) (v ∷ values) (x ∷ c) = (not b || same v x) && agrees bound values c

-- a node has the same value on choices that differ in bound options alone
abbrev pub IsFree : List Triple → ℕ → List Bool → Type 0
IsFree ts node bound = (c d : List Bool) → ((o : ℕ) → is_on bound o ≡ false → is_on c o ≡ is_on d o) → value_in ts node c ≡ value_in ts node d

-- the node has none of the bound options, and all of its options are among those that may be bound
pub record IsSound (ts : List Triple) (left : Left) : Type 0 where
  pub few : length left.bound ≤ CHOICE_WIDTH
  pub values : length left.values ≡ length left.bound
  pub within : left.node < diagram_size ts
  pub options : span ts left.node ≤ length left.bound
  pub free : IsFree ts left.node left.bound

-- the choices that are left
abbrev pub choices_left : List Triple → Left → List (List Bool)
choices_left ts left = filter (λ c. agrees left.bound left.values c && value_in ts left.node c) (all_choices (length left.bound))

-- exactly these choices of n options are left
pub record IsLeft (ts : List Triple) (n : ℕ) (cs : List (List Bool)) (left : Left) : Type 0 where
  pub sound : IsSound ts left
  pub count : length left.bound ≡ n
  pub choices : choices_left ts left ≡ cs

-- of the choices left those are left that have an option as given
abbrev pub Binds : List Triple → List Triple → Left → ℕ → Bool → Left → Type 0
Binds ts us left o on next = IsLeft us (length left.bound) (filter (value (literal o on)) (choices_left ts left)) next

-- of the choices left those are left on which a node is true
abbrev pub Meets : List Triple → List Triple → Left → ℕ → Left → Type 0
Meets ts us left node next = IsLeft us (length left.bound) (filter (value_in ts node) (choices_left ts left)) next

-- of the choices left those are left that wishes keep in order
abbrev pub Keeps : List Triple → List Triple → Left → List (Formula ℕ) → Left → Type 0
Keeps ts us left wishes next = IsLeft us (length left.bound) (keep_all (choices_left ts left) wishes) next

-- of the choices left those are left that preferences and then defaults keep
abbrev pub Narrows : List Triple → List Triple → Left → Standing → Left → Type 0
Narrows ts us left s next = IsLeft us (length left.bound) (keep_all (keep_all (choices_left ts left) (expressions s.preferences)) (fallbacks s.defaults)) next

-- how many of the constraints, in order, rule out all choices left
abbrev pub IsLeastUnmet : List Triple → Left → List Installed → ℕ → Type 0
IsLeastUnmet ts left constraints rule = rule ≡ least_unmet (expressions constraints) (choices_left ts left)

-- the answer where the constraints rule out all choices left
abbrev pub unmet_answer : List Triple → Left → Standing → Completion
unmet_answer ts left s = Invalid (least_unmet (expressions s.constraints) (choices_left ts left))

-- the answer for the choices left
abbrev pub answer_left : List Triple → Left → Completion
answer_left ts left = answer_of (length left.bound) (choices_left ts left)

-- a choice is the only one left, in whatever table
abbrev pub IsOnly : Left → List Bool → Type 0
IsOnly left choice = (ts : List Triple) → IsSound ts left → choices_left ts left ≡ choice ∷ []

-- a choice is the only one left, and it meets the constraints
pub record IsWhole (ts : List Triple) (left : Left) (s : Standing) (choice : List Bool) : Type 0 where
  pub only : choices_left ts left ≡ choice ∷ []
  pub valid : is_valid (expressions s.constraints) choice ≡ true

-- the same choices are left with an option bound, which hasn't both values among them
pub record IsClosed (ts us : List Triple) (left : Left) (o : ℕ) (next : Left) : Type 0 where
  pub same : IsLeft us (length left.bound) (choices_left ts left) next
  pub bound : is_on next.bound o ≡ true
  pub others : (p : ℕ) → is_on left.bound p ≡ true → is_on next.bound p ≡ true
  pub shut : is_open (choices_left ts left) o ≡ false

-- an option is closed, or open where there is no answer
abbrev pub Closes : List Triple → List Triple → Left → ℕ → Option Left → Type 0
Closes ts us left o (Some next) = IsClosed ts us left o next
Closes ts us left o None = is_open (choices_left ts left) o ≡ true

-- the node r has the values of a node on the choices that agree, and none of the bound options before a number
pub record IsFixed (ts us : List Triple) (left : Left) (number node r : ℕ) : Type 0 where
  pub within : r < diagram_size us
  pub below : span us r ≤ span ts node
  pub value : (c : List Bool) → length c ≡ length left.bound → agrees left.bound left.values c ≡ true → value_in us r c ≡ value_in ts node c
  pub free : (c d : List Bool) → ((o : ℕ) → (is_on left.bound o && nat_lt o number) ≡ false → is_on c o ≡ is_on d o) → value_in us r c ≡ value_in us r d

-- the node r has the values of a node on the choices that agree, and none of the bound options
abbrev pub Fixes : List Triple → List Triple → Left → ℕ → ℕ → Type 0
Fixes ts us left node r = IsFixed ts us left (length left.bound) node r

-- a node without the bound options before an option is one without those up to it
abbrev pub FixesNext : List Triple → List Triple → Left → ℕ → ℕ → ℕ → Type 0
FixesNext us vs left o node r = (ts : List Triple) (first : ℕ) → IsFixed ts us left o first node → IsFixed ts vs left (o + 1) first r
