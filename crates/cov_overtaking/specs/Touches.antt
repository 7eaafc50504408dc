-- Where edits touch nodes: by their conditions, and by diagrams.
use Rattle.std.specs.Prelude.{◌≡◌, ℕ, ◌<◌, Bool, true, false, ◌&&◌, ◌||◌, nat_eq, nat_lt, List, [], ◌∷◌, length, map, set, slice_index, Option, Some, None, if◌then◌else◌}
use Rattle.std.specs.List.{list_any, AllByRecursion}
use Rattle.cov_base.specs.declared.limits.TheConstants.{CHOICE_WIDTH}
use Rattle.cov_dd.specs.declared.triple.Triple.{Triple}
use Rattle.cov_dd.specs.Diagrams.{diagram_size, value_in}
use Rattle.cov_expr.specs.Formula.{Formula, value}
use Rattle.cov_edit.specs.Sides.{condition}
use Rattle.cov_edit.specs.Touched.{AreRising, has_number, touches}
use Rattle.cov_edit.specs.declared.edit.Edit.{Edit}
use Rattle.cov_edit.specs.declared.sided.Sided.{Sided}
use Rattle.cov_overtaking.specs.declared.touches.Touch.{Touch}

-- whether an edit of a commit touches a node and applies on a choice
abbrev pub touches_on : Formula ℕ → ℕ → List Bool → Sided → Bool
touches_on ambition node c s = touches node s.edit && value (condition ambition s) c

-- whether some edit of a commit touches a node and applies on a choice
abbrev pub touched_on : Formula ℕ → List Sided → ℕ → List Bool → Bool
touched_on ambition ss node c = list_any (touches_on ambition node c) ss

-- whether some edit touches a node on a choice, each where the diagram at its place is true
abbrev pub touched_in : List Triple → List ℕ → List Edit → ℕ → List Bool → Bool
touched_in ts [] es node c = false
touched_in ts (n ∷ ns) [] node c = false
touched_in ts (n ∷ ns) (e ∷ es) node c = (touches node e && value_in ts n c) || touched_in ts ns es node c

-- a node with the diagram of where it is touched
abbrev pub touch : ℕ → ℕ → Touch
touch node within = record { node = node; within = within }

-- nodes, each with the diagram at its place
abbrev pub touches_by : List ℕ → List ℕ → List Touch
touches_by [] ns = []
touches_by (x ∷ xs) [] = []
touches_by (x ∷ xs) (n ∷ ns) = touch x n ∷ touches_by xs ns

-- nodes, each with the diagram at its place, or with this one where there is none
abbrev pub touches_within : List ℕ → ℕ → List ℕ → List Touch
touches_within [] node each = []
touches_within (x ∷ xs) node [] = touch x node ∷ touches_within xs node []
touches_within (x ∷ xs) node (n ∷ each) = touch x n ∷ touches_within xs node each

-- the node of a touch
abbrev pub touch_node : Touch → ℕ
touch_node t = t.node

-- whether a touch is one of a node on a choice
abbrev pub is_touch_on : List Triple → ℕ → List Bool → Touch → Bool
is_touch_on ts node c t = nat_eq t.node node && value_in ts t.within c

-- whether a node is among touches on a choice
abbrev pub are_touches_on : List Triple → List Touch → ℕ → List Bool → Bool
are_touches_on ts ys node c = list_any (is_touch_on ts node c) ys

-- whether a node is among nodes, each there where the diagram at its place is true, on a choice
abbrev pub have_node_on : List Triple → List ℕ → List ℕ → ℕ → List Bool → Bool
have_node_on ts nodes within node c = are_touches_on ts (touches_by nodes within) node c

-- touches rise by their nodes
abbrev pub RiseByNode : List Touch → Type 0
RiseByNode ys = AreRising (map touch_node ys)

-- the diagrams of touches are of a table
abbrev pub AreOfTable : List Triple → List Touch → Type 0
AreOfTable ts ys = AllByRecursion (λ t. t.within < diagram_size ts) ys

-- touches from a node on
abbrev pub touches_from : ℕ → List Touch → List Touch
touches_from x [] = []
touches_from x (t ∷ ys) = if nat_lt t.node x then touches_from x ys else t ∷ ys

-- the diagram of the first touch, if it is one of a node
abbrev pub first_within_of : ℕ → List Touch → Option ℕ
first_within_of x [] = None
first_within_of x (t ∷ ys) = if nat_eq t.node x then Some t.within else None

-- whether the first touch is one of a node on a choice
abbrev pub is_first_on : List Triple → ℕ → List Bool → List Touch → Bool
is_first_on ts node c [] = false
is_first_on ts node c (t ∷ ys) = is_touch_on ts node c t

-- no node and choice is in both
abbrev pub DoNotMeet : List Triple → List Touch → List Touch → Type 0
DoNotMeet ts left right = (node : ℕ) (c : List Bool) → length c ≡ CHOICE_WIDTH → (are_touches_on ts left node c && are_touches_on ts right node c) ≡ false

-- a touch has no choice in common with the first of others at its node
abbrev pub FirstMeetsNone : List Triple → Touch → List Touch → Type 0
FirstMeetsNone ts t others = (c : List Bool) → length c ≡ CHOICE_WIDTH → (value_in ts t.within c && is_first_on ts t.node c others) ≡ false

-- two nodes of a table are true on no common choice
abbrev pub HaveNoCommonChoice : List Triple → ℕ → ℕ → Type 0
HaveNoCommonChoice ts a b = (c : List Bool) → length c ≡ CHOICE_WIDTH → (value_in ts a c && value_in ts b c) ≡ false

-- a test is false exactly where something holds
pub record Denies (b : Bool) (P : Type 0) : Type 0 where
  pub yes : b ≡ true → P → ⊥
  pub no : b ≡ false → P

-- a place has a number, or no place has it
abbrev pub IsPlaceIn : List ℕ → ℕ → Option ℕ → Type 0
IsPlaceIn xs x None = has_number x xs ≡ false
IsPlaceIn xs x (Some at) = (at < length xs) × (slice_index xs at ≡ x)

-- the diagram at a place was joined with another
pub record IsJoinedAt (old new : List Triple) (other at : ℕ) (before after : List ℕ) : Type 0 where
  pub node : ℕ
  pub known : node < diagram_size new
  pub is : after ≡ set before at node
  pub value : (c : List Bool) → value_in new node c ≡ (value_in old (slice_index before at) c || value_in old other c)

-- each diagram has the values of its edit on every choice
abbrev pub HaveValues : List Triple → (Sided → List Bool → Bool) → List ℕ → List Sided → Type 0
HaveValues ts of [] [] = Unit {0}
HaveValues ts of [] (s ∷ ss) = ⊥
HaveValues ts of (n ∷ ns) [] = ⊥
HaveValues ts of (n ∷ ns) (s ∷ ss) = ((c : List Bool) → value_in ts n c ≡ of s c) × HaveValues ts of ns ss
