-- Nodes that are all touched where one diagram is true.
use Rattle.std.proofs.Common.{◌≡◌, ℕ, ◌<◌, Bool, true, false, ◌&&◌, ◌||◌, nat_eq, List, [], ◌∷◌, refl, sym, ap, ◌∙◌}
use Rattle.std.proofs.lemmas.Bool.{and_right}
use Rattle.cov_dd.specs.declared.triple.Triple.{Triple}
use Rattle.cov_dd.specs.Diagrams.{diagram_size, value_in}
use Rattle.cov_edit.specs.Touched.{has_number, have_common}
use Rattle.cov_overtaking.specs.Touches.{touches_within, are_touches_on, AreOfTable, DoNotMeet, HaveNoCommonChoice, Denies}
use Rattle.cov_overtaking.proofs.Touching.{both-either, common-apart, common-found, none-common}

-- a node is among them on a choice just where it is one of them and the diagram is true
pub are-everywhere : (ts : List Triple) (xs : List ℕ) (n x : ℕ) (c : List Bool) → are_touches_on ts (touches_within xs n []) x c ≡ (has_number x xs && value_in ts n c)
are-everywhere ts [] n x c = refl
are-everywhere ts (y ∷ xs) n x c = ap (λ b. (nat_eq y x && value_in ts n c) || b) (are-everywhere ts xs n x c) ∙ both-either (nat_eq y x) (has_number x xs) (value_in ts n c)

-- the diagrams are of the table where there is a common node
pub left-known : (ts : List Triple) (xs ys : List ℕ) (a : ℕ) → AreOfTable ts (touches_within xs a []) → have_common xs ys ≡ true → a < diagram_size ts
left-known ts [] ys a known some = absurd (cc)
left-known ts (x ∷ xs) ys a known some = known.0

pub right-known : (ts : List Triple) (xs ys : List ℕ) (b : ℕ) → AreOfTable ts (touches_within ys b []) → have_common xs ys ≡ true → b < diagram_size ts
right-known ts xs [] b known some = absurd (let none = none-common xs in cc)
right-known ts xs (y ∷ ys) b known some = known.0

module _ (ts : List Triple) (xs ys : List ℕ) (a b : ℕ) where
  both-are : (x : ℕ) (c : List Bool) → (are_touches_on ts (touches_within xs a []) x c && are_touches_on ts (touches_within ys b []) x c) ≡ ((has_number x xs && value_in ts a c) && (has_number x ys && value_in ts b c))
  both-are x c i = are-everywhere ts xs a x c i && are-everywhere ts ys b x c i

  -- tests of Booleans
  never-both : (p q v w : Bool) → (p && q) ≡ false → ((p && v) && (q && w)) ≡ false
  never-both true true v w h = absurd (cc)
  never-both true false v w h = and_right v false refl
  never-both false q v w h = refl

  none-shared : (p q v w : Bool) → (v && w) ≡ false → ((p && v) && (q && w)) ≡ false
  none-shared true true v w h = h
  none-shared true false v w h = and_right v false refl
  none-shared false q v w h = refl

  -- without a common node they don't meet
  pub apart-everywhere : have_common xs ys ≡ false → Denies false (DoNotMeet ts (touches_within xs a []) (touches_within ys b []))
  apart-everywhere none = record {
    yes = λ on apart. absurd (cc);
    no = λ off x c long. both-are x c ∙ never-both (has_number x xs) (has_number x ys) (value_in ts a c) (value_in ts b c) (common-apart xs ys none x);
  }

  -- with one, they meet just where the diagrams have a common choice
  pub meet-everywhere : (shared : Bool) → have_common xs ys ≡ true → Denies shared (HaveNoCommonChoice ts a b) → Denies shared (DoNotMeet ts (touches_within xs a []) (touches_within ys b []))
  meet-everywhere shared some denies =
      let found = common-found xs ys some in
      record {
        yes = λ on apart. denies.yes on (λ c long.
            (λ i. (sym found.1 i && value_in ts a c) && (sym found.2 i && value_in ts b c)) ∙ sym (both-are found.0 c) ∙ apart found.0 c long);
        no = λ off x c long. both-are x c ∙ none-shared (has_number x xs) (has_number x ys) (value_in ts a c) (value_in ts b c) (denies.no off c long);
      }
