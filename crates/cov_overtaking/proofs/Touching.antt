-- Which nodes edits touch, and which two lists of nodes have in common.
use Rattle.std.proofs.Common.{◌≡◌, ℕ, Bool, true, false, ◌&&◌, ◌||◌, nat_eq, List, [], ◌∷◌, length, replicate, Option, Some, None, refl, ap, subst, ◌∙◌, arith}
use Rattle.std.specs.List.{cons_option, filter_map, list_any}
use Rattle.std.proofs.lemmas.Bool.{and_right, or_parts, or_right}
use Rattle.std.proofs.lemmas.Bool.Decides.{nat_tests}
use Rattle.cov_dd.specs.declared.triple.Triple.{Triple}
use Rattle.cov_dd.specs.Diagrams.{value_in}
use Rattle.cov_expr.specs.Formula.{Formula, value}
use Rattle.cov_edit.specs.declared.edit.Edit.{Edit}
use Rattle.cov_edit.specs.declared.sided.Sided.{Sided}
use Rattle.cov_edit.specs.Sides.{condition, unsided}
use Rattle.cov_edit.specs.Touched.{has_number, have_common, touched_by, is_number, touches, touched}
use Rattle.cov_edit.proofs.CallerLemmas.{touched-rising}
use Rattle.cov_overtaking.specs.Touches.{touched_in, touched_on}

any-touches : (node : ℕ) (es : List Edit) → has_number node (filter_map touched_by es) ≡ list_any (touches node) es
any-touches node [] = refl
any-touches node (e ∷ es) = at (touched_by e) ∙ ap (λ b. touches node e || b) (any-touches node es)
  where
    at : (o : Option ℕ) → has_number node (cons_option o (filter_map touched_by es)) ≡ (is_number node o || has_number node (filter_map touched_by es))
    at None = refl
    at (Some x) = refl

-- a node is among those that edits touch just where one of them touches it
pub has-touched : (node : ℕ) (es : List Edit) → has_number node (touched es) ≡ list_any (touches node) es
has-touched node es = (touched-rising es).1 node ∙ any-touches node es

-- what is touched on a choice is touched
pub in-touches : (ts : List Triple) (ns : List ℕ) (es : List Edit) (node : ℕ) (c : List Bool) → touched_in ts ns es node c ≡ true → list_any (touches node) es ≡ true
in-touches ts [] es node c h = absurd (cc)
in-touches ts (n ∷ ns) [] node c h = h
in-touches ts (n ∷ ns) (e ∷ es) node c h = at (touches node e) h (in-touches ts ns es node c)
  where
    at : (b : Bool) → ((b && value_in ts n c) || touched_in ts ns es node c) ≡ true → (touched_in ts ns es node c ≡ true → list_any (touches node) es ≡ true) → (b || list_any (touches node) es) ≡ true
    at true k rest = refl
    at false k rest = rest k

on-touches : (ambition : Formula ℕ) (ss : List Sided) (node : ℕ) (c : List Bool) → touched_on ambition ss node c ≡ true → list_any (touches node) (unsided ss) ≡ true
on-touches ambition [] node c h = h
on-touches ambition (s ∷ ss) node c h = at (touches node s.edit) h (on-touches ambition ss node c)
  where
    at : (b : Bool) → ((b && value (condition ambition s) c) || touched_on ambition ss node c) ≡ true → (touched_on ambition ss node c ≡ true → list_any (touches node) (unsided ss) ≡ true) → (b || list_any (touches node) (unsided ss)) ≡ true
    at true k rest = refl
    at false k rest = rest k

-- a node that is touched where it is among those that edits touch is touched
pub in-own : (ts : List Triple) (ns : List ℕ) (es : List Edit) (node : ℕ) (c : List Bool) → (has_number node (touched es) && touched_in ts ns es node c) ≡ touched_in ts ns es node c
in-own ts ns es node c = at (touched_in ts ns es node c) refl
  where
    at : (b : Bool) → touched_in ts ns es node c ≡ b → (has_number node (touched es) && b) ≡ b
    at true e = ap (λ a. a && true) (has-touched node es ∙ in-touches ts ns es node c e)
    at false e = and_right (has_number node (touched es)) false refl

-- one of two and a third
pub both-either : (a b v : Bool) → ((a && v) || (b && v)) ≡ ((a || b) && v)
both-either true b true = refl
both-either true true false = refl
both-either true false false = refl
both-either false b v = refl

-- where all edits have one diagram, a node is touched where it is touched at all and the diagram is true
pub touched-alike : (ts : List Triple) (n : ℕ) (es : List Edit) (node : ℕ) (c : List Bool) → touched_in ts (replicate (length es) n) es node c ≡ (list_any (touches node) es && value_in ts n c)
touched-alike ts n [] node c = refl
touched-alike ts n (e ∷ es) node c = ap (λ b. (touches node e && value_in ts n c) || b) (touched-alike ts n es node c) ∙ both-either (touches node e) (list_any (touches node) es) (value_in ts n c)

-- lists with no common node have no node both
pub common-apart : (xs ys : List ℕ) → have_common xs ys ≡ false → (x : ℕ) → (has_number x xs && has_number x ys) ≡ false
common-apart [] ys none x = refl
common-apart (z ∷ xs) ys none x =
    let parts = or_parts (has_number z ys) (have_common xs ys) none in
    at (nat_eq z x) refl parts.0 (common-apart xs ys parts.1 x)
  where
    at : (b : Bool) → nat_eq z x ≡ b → has_number z ys ≡ false → (has_number x xs && has_number x ys) ≡ false → ((b || has_number x xs) && has_number x ys) ≡ false
    at true e own rest = let same : z ≡ x = grind (arith, nat_tests, e) in subst (λ k. has_number k ys ≡ false) same own
    at false e own rest = rest

-- and lists with a common node one that both have
pub common-found : (xs ys : List ℕ) → have_common xs ys ≡ true → (x : ℕ) × (has_number x xs ≡ true) × (has_number x ys ≡ true)
common-found [] ys some = absurd (cc)
common-found (z ∷ xs) ys some = at (has_number z ys) refl some (common-found xs ys)
  where
    own : nat_eq z z ≡ true
    own = grind (arith, nat_tests)

    at : (b : Bool) → has_number z ys ≡ b → (b || have_common xs ys) ≡ true → (have_common xs ys ≡ true → (x : ℕ) × (has_number x xs ≡ true) × (has_number x ys ≡ true))
        → (x : ℕ) × ((nat_eq z x || has_number x xs) ≡ true) × (has_number x ys ≡ true)
    at true e k rest = (z, ap (λ b. b || has_number z xs) own, e)
    at false e k rest = let found = rest k in (found.0, or_right (nat_eq z found.0) (has_number found.0 xs) found.1, found.2)

-- no list has a node in common with none
pub none-common : (xs : List ℕ) → have_common xs [] ≡ false
none-common [] = refl
none-common (x ∷ xs) = none-common xs

-- edits that touch no common node touch none on a choice
pub touched-apart : (other ambition : Formula ℕ) (fs ss : List Sided) (v : Bool) → have_common (touched (unsided fs)) (touched (unsided ss)) ≡ false → (node : ℕ) (c : List Bool)
    → (touched_on other fs node c && (v && touched_on ambition ss node c)) ≡ false
touched-apart other ambition fs ss v none node c = at (touched_on other fs node c) (touched_on ambition ss node c) refl refl
  where
    at : (a b : Bool) → touched_on other fs node c ≡ a → touched_on ambition ss node c ≡ b → (a && (v && b)) ≡ false
    at false b e f = refl
    at true false e f = and_right v false refl
    at true true e f =
        let left : has_number node (touched (unsided fs)) ≡ true = has-touched node (unsided fs) ∙ on-touches other fs node c e in
        let right : has_number node (touched (unsided ss)) ≡ true = has-touched node (unsided ss) ∙ on-touches ambition ss node c f in
        let apart : (has_number node (touched (unsided fs)) && has_number node (touched (unsided ss))) ≡ false = common-apart (touched (unsided fs)) (touched (unsided ss)) none node in
        let both : (has_number node (touched (unsided fs)) && has_number node (touched (unsided ss))) ≡ true = λ i. left i && right i in
        absurd (cc)
