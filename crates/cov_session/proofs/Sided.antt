-- Edits with one side more in a session.
use Rattle.std.proofs.Common.{◌≡◌, ◌∙◌, refl, ap, ℕ, ◌≤◌, Bool, true, List, [], ◌∷◌, ◌++◌, arith}
use Rattle.std.specs.List.{AllByRecursion}
use Rattle.std.proofs.Math.Nat.{max-le, le-max_left, le-max_right}
use Rattle.cov_base.proofs.CallerLemmas.{all-append}
use Rattle.cov_expr.specs.Formula.{Formula, reach, value}
use Rattle.cov_edit.specs.Sides.{unsided, reach_of_sides, reach_within}
use Rattle.cov_edit.specs.declared.edit.Edit.{Edit}
use Rattle.cov_edit.specs.declared.sided.Sided.{Sided}
use Rattle.cov_edit.proofs.CallerLemmas.{ambition-low, sides-low, unsided-append}
use Rattle.cov_history.specs.Sessions.{Session, edits_of}
use Rattle.cov_session.specs.Adding.{on_side, with_edits}

-- each of the sides is true on a choice
abbrev pub AreTrue : List Bool → List Sided → Type 0
AreTrue c ss = AllByRecursion (λ s. value s.side c ≡ true) ss

pub unsided-on_side : (side : Formula ℕ) (es : List Edit) → unsided (on_side side es) ≡ es
unsided-on_side side [] = refl
unsided-on_side side (e ∷ es) = ap (λ fs. e ∷ fs) (unsided-on_side side es)

-- with more of one side, the edits are those before, and then the others
pub grown-by : (all ss : List Sided) (side : Formula ℕ) (es : List Edit) → all ≡ ss ++ on_side side es → unsided all ≡ unsided ss ++ es
grown-by all ss side es is = ap unsided is ∙ unsided-append ss (on_side side es) ∙ ap (λ fs. unsided ss ++ fs) (unsided-on_side side es)

pub edits-grown : (s : Session) (side : Formula ℕ) (es : List Edit) → edits_of (with_edits s (on_side side es)) ≡ edits_of s ++ es
edits-grown s side es = grown-by (with_edits s (on_side side es)).edits s.edits side es refl

true-on_side : (c : List Bool) (side : Formula ℕ) (es : List Edit) → value side c ≡ true → AreTrue c (on_side side es)
true-on_side c side [] h = tt
true-on_side c side (e ∷ es) h = (h, true-on_side c side es h)

pub true-grown : (c : List Bool) (ss : List Sided) (side : Formula ℕ) (es : List Edit) → AreTrue c ss → value side c ≡ true → AreTrue c (ss ++ on_side side es)
true-grown c ss side es all own = all-append (λ s. value s.side c ≡ true) ss (on_side side es) all (true-on_side c side es own)

sides-on_side : (n : ℕ) (side : Formula ℕ) (es : List Edit) → reach side ≤ n → reach_of_sides (on_side side es) ≤ n
sides-on_side n side [] h = omega arith
sides-on_side n side (e ∷ es) h = max-le h (sides-on_side n side es h)

sides-grown : (n : ℕ) (ss : List Sided) (side : Formula ℕ) (es : List Edit) → reach_of_sides ss ≤ n → reach side ≤ n → reach_of_sides (ss ++ on_side side es) ≤ n
sides-grown n [] side es all own = sides-on_side n side es own
sides-grown n (s ∷ ss) side es all own =
    let first = le-max_left (reach s.side) (reach_of_sides ss) in
    let rest = le-max_right (reach s.side) (reach_of_sides ss) in
    max-le (omega (arith, all, first)) (sides-grown n ss side es (omega (arith, all, rest)) own)

-- with a side that names no further option, no further option is named
pub reach-grown : (n : ℕ) (ambition : Formula ℕ) (ss : List Sided) (side : Formula ℕ) (es : List Edit) → reach_within ambition ss ≤ n → reach side ≤ n → reach_within ambition (ss ++ on_side side es) ≤ n
reach-grown n ambition ss side es all own = max-le (ambition-low n ambition ss all) (sides-grown n ss side es (sides-low n ambition ss all) own)
