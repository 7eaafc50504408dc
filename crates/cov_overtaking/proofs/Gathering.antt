-- Edits and their diagrams, one after another.
use Rattle.std.proofs.Common.{◌≡◌, ℕ, ◌<◌, ◌≤◌, Bool, true, false, ◌&&◌, ◌||◌, nat_eq, List, [], ◌∷◌, length, replicate, get_or, refl, sym, ap, subst, ◌∙◌, arith}
use Rattle.std.specs.List.{list_all, list_any, AllByRecursion}
use Rattle.std.proofs.lemmas.Bool.{and_parts}
use Rattle.std.proofs.lemmas.Bool.Decides.{nat_tests}
use Rattle.std.proofs.lemmas.List.{length-replicate}
use Rattle.cov_base.proofs.CallerLemmas.{rest_of, opened}
use Rattle.cov_dd.specs.declared.triple.Triple.{Triple}
use Rattle.cov_dd.specs.Diagrams.{diagram_size, value_in, Extends}
use Rattle.cov_edit.specs.Sides.{unsided}
use Rattle.cov_edit.specs.Touched.{has_number, touches, touched}
use Rattle.cov_edit.specs.declared.edit.Edit.{Edit}
use Rattle.cov_edit.specs.declared.sided.Sided.{Sided}
use Rattle.cov_overtaking.specs.Marks.{nodes_within}
use Rattle.cov_overtaking.specs.Touches.{are_touches_on, have_node_on, touched_in, HaveValues}
use Rattle.cov_overtaking.proofs.Everywhere.{are-everywhere}
use Rattle.cov_overtaking.proofs.Touching.{has-touched, in-own, touched-alike}
use Rattle.cov_overtaking.proofs.Walking.{within-by, within-own}

module _ (ts us : List Triple) (more : Extends ts us) (e d : Edit) (ahead : List Edit) (nodes : List ℕ) (is : e ≡ get_or ahead 0 d) (some : 1 ≤ length ahead) (also : 1 ≤ length nodes)
    (known : AllByRecursion (λ n. n < diagram_size ts) nodes) where
  abbrev within : ℕ
  within = get_or nodes 0 0

  edit-parts : ahead ≡ e ∷ rest_of ahead
  edit-parts = opened e d ahead is some

  node-parts : nodes ≡ within ∷ rest_of nodes
  node-parts = opened within 0 nodes refl also

  all-known : AllByRecursion (λ n. n < diagram_size ts) (within ∷ rest_of nodes)
  all-known = subst (AllByRecursion (λ n. n < diagram_size ts)) node-parts known

  pub rest-known : AllByRecursion (λ n. n < diagram_size ts) (rest_of nodes)
  rest-known = all-known.1

  pub rest-count : length nodes ≡ length ahead → length (rest_of nodes) ≡ length (rest_of ahead)
  rest-count h =
      let edits = ap length edit-parts in
      let all = ap length node-parts in
      omega (arith, h, edits, all)

  -- the first edit and the others, each where a test holds
  pub one-more : (total own : Bool) (node : ℕ) (c : List Bool) (before now : Bool) → (before || (own && touched_in ts nodes ahead node c)) ≡ total → now ≡ (before || (own && (touches node e && value_in us within c)))
      → (now || (own && touched_in ts (rest_of nodes) (rest_of ahead) node c)) ≡ total
  one-more total own node c before now was is =
      ap (λ b. b || (own && later)) is ∙ behind before own (touches node e && value_in us within c)
      ∙ ap (λ b. before || (own && b)) (ap (λ b. (touches node e && b) || later) (more.value within all-known.0 c) ∙ sym (λ i. touched_in ts (node-parts i) (edit-parts i) node c)) ∙ was
    where
      later : Bool
      later = touched_in ts (rest_of nodes) (rest_of ahead) node c

      behind : (a h b : Bool) → ((a || (h && b)) || (h && later)) ≡ (a || (h && (b || later)))
      behind true h b = refl
      behind false true b = refl
      behind false false b = refl

-- nodes of which each is one are so many of it
pub all-alike : (n : ℕ) (ns : List ℕ) → list_all (λ k. nat_eq k n) ns ≡ true → ns ≡ replicate (length ns) n
all-alike n [] h = refl
all-alike n (k ∷ ns) h =
    let parts = and_parts (nat_eq k n) (list_all (λ m. nat_eq m n) ns) h in
    let own = parts.0 in
    let same : k ≡ n = grind (arith, nat_tests, own) in
    λ i. same i ∷ all-alike n ns parts.1 i

-- where all edits have one diagram, what they touch is touched where it is true
pub alike-are : (ts : List Triple) (n : ℕ) (conditions nodes each : List ℕ) (es : List Edit) → list_all (λ k. nat_eq k n) conditions ≡ true → length conditions ≡ length es → each ≡ [] → nodes ≡ touched es
    → (x : ℕ) (c : List Bool) → have_node_on ts nodes (nodes_within (length nodes) n each) x c ≡ touched_in ts conditions es x c
alike-are ts n conditions nodes each es alike count none are x c =
    ap (λ l. have_node_on ts nodes (nodes_within (length nodes) n l) x c) none
    ∙ sym (ap (λ ys. are_touches_on ts ys x c) (within-by nodes n [] (length-replicate (length nodes) n))) ∙ are-everywhere ts nodes n x c
    ∙ ap (λ b. b && value_in ts n c) (ap (has_number x) are ∙ has-touched x es)
    ∙ sym (touched-alike ts n es x c) ∙ ap (λ ns. touched_in ts ns es x c) (ap (λ k. replicate k n) (sym count) ∙ sym (all-alike n conditions alike))

-- where each node has its own, it is that of the edits that touch it
pub own-are : (ts us : List Triple) (n : ℕ) (conditions nodes each : List ℕ) (es : List Edit) → length each ≡ length nodes
    → ((x : ℕ) (c : List Bool) → have_node_on us nodes each x c ≡ (has_number x nodes && touched_in ts conditions es x c)) → nodes ≡ touched es
    → (x : ℕ) (c : List Bool) → have_node_on us nodes (nodes_within (length nodes) n each) x c ≡ touched_in ts conditions es x c
own-are ts us n conditions nodes each es long gathered are x c =
    ap (λ ns. have_node_on us nodes ns x c) (within-own (length nodes) n each long) ∙ gathered x c
    ∙ ap (λ xs. has_number x xs && touched_in ts conditions es x c) are ∙ in-own ts conditions es x c

-- by diagrams with the values of edits, these touch the same
pub touched-values : (ts : List Triple) (of : Sided → List Bool → Bool) (nodes : List ℕ) (ss : List Sided) → HaveValues ts of nodes ss → (node : ℕ) (c : List Bool)
    → touched_in ts nodes (unsided ss) node c ≡ list_any (λ s. touches node s.edit && of s c) ss
touched-values ts of [] [] h node c = refl
touched-values ts of [] (s ∷ ss) h node c = absurd h
touched-values ts of (n ∷ nodes) [] h node c = absurd h
touched-values ts of (n ∷ nodes) (s ∷ ss) h node c = λ i. (touches node s.edit && h.0 c i) || touched-values ts of nodes ss h.1 node c i

-- what is common to all edits
pub common-value : (v : Bool) (p q : Sided → Bool) (ss : List Sided) → list_any (λ s. p s && (v && q s)) ss ≡ (v && list_any (λ s. p s && q s) ss)
common-value v p q [] = none v
  where
    none : (v : Bool) → false ≡ (v && false)
    none true = refl
    none false = refl
common-value v p q (s ∷ ss) = ap (λ b. (p s && (v && q s)) || b) (common-value v p q ss) ∙ spread v (p s) (q s) (list_any (λ t. p t && q t) ss)
  where
    spread : (v a b d : Bool) → ((a && (v && b)) || (v && d)) ≡ (v && ((a && b) || d))
    spread true a b d = refl
    spread false true b d = refl
    spread false false b d = refl
