-- Diagrams as the list of their entries, newest first.
use Rattle.std.specs.Prelude.{ℕ, suc, ◌+◌, ◌<◌, ◌≤◌, ◌≡◌, ◌≢◌, ◌==◌, ◌⊎◌, max, Bool, true, false, cond, List, [], ◌∷◌, ◌++◌, Option, Some, None, length}
use Rattle.cov_base.specs.Choices.{is_on, with_option}
use Rattle.cov_base.specs.declared.limits.TheConstants.{CHOICE_WIDTH}
use Rattle.cov_dd.specs.declared.triple.Triple.{Triple}

-- how many nodes there are; the newest has this number less one
abbrev pub diagram_size : List Triple → ℕ
diagram_size [] = 2
diagram_size (t ∷ ts) = suc (diagram_size ts)

-- the entry of a node
abbrev pub entry_in : List Triple → ℕ → Option Triple
entry_in [] a = None
entry_in (t ∷ ts) a = cond (a == diagram_size ts) (Some t) (entry_in ts a)

-- the option of a node, above all options for FALSE and TRUE
abbrev pub top : List Triple → ℕ → ℕ
top [] a = CHOICE_WIDTH
top (t ∷ ts) a = cond (a == diagram_size ts) t.option (top ts a)

-- the least count of options that has every option of a node
abbrev pub span : List Triple → ℕ → ℕ
span [] a = 0
span (t ∷ ts) a = cond (a == diagram_size ts) (max (t.option + 1) (max (span ts t.off) (span ts t.on))) (span ts a)

-- the truth value of a node on a choice
abbrev pub value_in : List Triple → ℕ → List Bool → Bool
value_in [] a c = a == 1
value_in (t ∷ ts) a c = cond (a == diagram_size ts) (cond (is_on c t.option) (value_in ts t.on c) (value_in ts t.off c)) (value_in ts a c)

-- an entry that may stand above a list of entries
pub record IsNew (t : Triple) (ts : List Triple) : Type 0 where
  pub off_within : t.off < diagram_size ts
  pub on_within : t.on < diagram_size ts
  pub off_above : t.option < top ts t.off
  pub on_above : t.option < top ts t.on
  pub differ : t.off ≢ t.on
  pub absent : (a : ℕ) → entry_in ts a ≢ Some t

-- children stand before parents, options rise from parent to child, children differ, no triple stands twice
abbrev pub IsDiagram : List Triple → Type 0
IsDiagram [] = Unit {0}
IsDiagram (t ∷ ts) = IsDiagram ts × IsNew t ts

-- the new entries are the old ones with others after them, so each old node keeps its options and its values
pub record Extends (old new : List Triple) : Type 0 where
  pub more : List Triple
  pub is : new ≡ more ++ old
  pub count : diagram_size old ≤ diagram_size new
  pub least : (a : ℕ) → a < diagram_size old → top new a ≡ top old a
  pub most : (a : ℕ) → a < diagram_size old → span new a ≡ span old a
  pub value : (a : ℕ) → a < diagram_size old → (c : List Bool) → value_in new a c ≡ value_in old a c

-- what is known of an entry of a diagram
pub record IsEntry (ts : List Triple) (a : ℕ) (t : Triple) : Type 0 where
  pub inner : 1 < a
  pub within : a < diagram_size ts
  pub off_before : t.off < a
  pub on_before : t.on < a
  pub option : top ts a ≡ t.option
  pub off_above : t.option < top ts t.off
  pub on_above : t.option < top ts t.on
  pub differ : t.off ≢ t.on
  pub value : (c : List Bool) → value_in ts a c ≡ cond (is_on c t.option) (value_in ts t.on c) (value_in ts t.off c)
  pub spans : span ts a ≡ max (t.option + 1) (max (span ts t.off) (span ts t.on))

-- the node r of a diagram has options from least on and below most, and the values f
pub record Stands (ts : List Triple) (r least most : ℕ) (f : List Bool → Bool) : Type 0 where
  pub within : r < diagram_size ts
  pub above : least ≤ top ts r
  pub below : span ts r ≤ most
  pub value : (c : List Bool) → value_in ts r c ≡ f c

-- the node r of a diagram has the values f
pub record IsNode (ts : List Triple) (r : ℕ) (f : List Bool → Bool) : Type 0 where
  pub within : r < diagram_size ts
  pub value : (c : List Bool) → value_in ts r c ≡ f c

-- the node of the triple t, that was in the old diagram or is now its newest entry
pub record Placed (old new : List Triple) (t : Triple) (r : ℕ) : Type 0 where
  pub grown : (new ≡ old) ⊎ ((new ≡ t ∷ old) × ((a : ℕ) → entry_in old a ≢ Some t))
  pub entry : entry_in new r ≡ Some t

-- the same value on every choice of all options that it can have
abbrev pub AgreeIn : List Triple → ℕ → ℕ → Type 0
AgreeIn ts a b = (c : List Bool) → length c ≡ CHOICE_WIDTH → value_in ts a c ≡ value_in ts b c

-- from an option on, a node's values on choices of all options that they can have depend on none
abbrev pub IsUnread : List Triple → ℕ → ℕ → Type 0
IsUnread ts a most = (o : ℕ) → most ≤ o → (c : List Bool) → length c ≡ CHOICE_WIDTH → value_in ts a (with_option c o true) ≡ value_in ts a (with_option c o false)
