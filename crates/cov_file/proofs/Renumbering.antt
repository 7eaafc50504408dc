-- Changes whose nodes are those of a list.
use Rattle.std.proofs.Common.{◌≡◌, ℕ, suc, ◌+◌, ◌≤◌, nat_eq, Bool, true, false, cond, List, [], ◌∷◌, ◌++◌, length, map, take, drop, reverse, refl, sym, ap, ◌∙◌, subst, arith, length-append, take-add}
use Rattle.std.proofs.lemmas.List.{length-map, length-drop, map-append, drop-drop}
use Rattle.std.specs.List.{AllByRecursion}
use Rattle.std.proofs.lemmas.Grind.{reverse_onto}
use Rattle.cov_base.specs.Replacing.{having}
use Rattle.cov_base.proofs.CallerLemmas.{having-by, having-numbers, length-having, parted}
use Rattle.cov_file.specs.declared.changes.Change.{Change}
use Rattle.cov_file.specs.Kept.{changes_before, lists_of}
use Rattle.cov_file.specs.Renumbered.{node_of, nodes_of, having_node, renumbered_changes}

-- what holds of all nodes holds of the nodes of each line's changes
module _ (test : ℕ → Bool) where
  abbrev Passes : Change → Type 0
  Passes c = test c.node ≡ true

  all-joined : (xs ys : List Change) → AllByRecursion Passes xs → AllByRecursion Passes ys → AllByRecursion Passes (xs ++ ys)
  all-joined [] ys h k = k
  all-joined (x ∷ xs) ys h k = (h.0, all-joined xs ys h.1 k)

  all-reverse : (xs : List Change) → AllByRecursion Passes xs → AllByRecursion Passes (reverse xs)
  all-reverse [] h = h
  all-reverse (x ∷ xs) h = subst (AllByRecursion Passes) (sym (reverse_onto xs x [])) (all-joined (reverse xs) (x ∷ []) (all-reverse xs h.1) (h.0, tt))

  all-mapped : (xs : List Change) → AllByRecursion (λ n. test n ≡ true) (map node_of xs) → AllByRecursion Passes xs
  all-mapped [] h = tt
  all-mapped (x ∷ xs) h = (h.0, all-mapped xs h.1)

  pub all-parts : (xs ys : List ℕ) → AllByRecursion (λ n. test n ≡ true) (xs ++ ys) → AllByRecursion (λ n. test n ≡ true) xs × AllByRecursion (λ n. test n ≡ true) ys
  all-parts [] ys h = (tt, h)
  all-parts (x ∷ xs) ys h = let rest = all-parts xs ys h.1 in ((h.0, rest.0), rest.1)

  all-before : (cs : List Change) (number : ℕ) → AllByRecursion Passes cs → AllByRecursion (λ c. test c.1 ≡ true) (changes_before cs number)
  all-before [] number h = tt
  all-before (c ∷ cs) number h = by (nat_eq number (suc (length cs))) (all-before cs c.before h.1) (all-before cs number h.1)
    where
      by : (b : Bool) → AllByRecursion (λ c. test c.1 ≡ true) (changes_before cs c.before) → AllByRecursion (λ c. test c.1 ≡ true) (changes_before cs number)
          → AllByRecursion (λ c. test c.1 ≡ true) (cond b ((c.from, c.node) ∷ changes_before cs c.before) (changes_before cs number))
      by true here there = (h.0, here)
      by false here there = there

  all-lists : (newest : List Change) (earlier : List Change) → AllByRecursion Passes newest → AllByRecursion Passes (reverse earlier)
      → AllByRecursion (λ l. AllByRecursion (λ c. test c.1 ≡ true) l) (lists_of newest earlier)
  all-lists [] earlier h k = tt
  all-lists (c ∷ newest) earlier h k = ((h.0, all-before (reverse earlier) c.before k), all-lists newest earlier h.1 k)

  pub all-listed : (newest earlier : List Change) → AllByRecursion (λ n. test n ≡ true) (nodes_of newest earlier)
      → AllByRecursion (λ l. AllByRecursion (λ c. test c.1 ≡ true) l) (lists_of newest earlier)
  all-listed newest earlier h =
      let parts = all-parts (map node_of newest) (map node_of earlier) h in
      all-lists newest earlier (all-mapped newest parts.0) (all-reverse earlier (all-mapped earlier parts.1))

module _ (by : ℕ → ℕ) where
  abbrev pub changed : Change → Change
  changed c = having_node (by c.node) c

  before-by : (cs : List Change) (number : ℕ) → changes_before (map changed cs) number ≡ renumbered_changes by (changes_before cs number)
  before-by [] number = refl
  before-by (c ∷ cs) number = (λ j. cond (nat_eq number (suc (length-map cs changed j))) ((c.from, by c.node) ∷ before-by cs c.before j) (before-by cs number j)) ∙ each (nat_eq number (suc (length cs)))
    where
      each : (b : Bool) → cond b ((c.from, by c.node) ∷ renumbered_changes by (changes_before cs c.before)) (renumbered_changes by (changes_before cs number))
          ≡ renumbered_changes by (cond b ((c.from, c.node) ∷ changes_before cs c.before) (changes_before cs number))
      each true = refl
      each false = refl

  reverse-by : (cs : List Change) → reverse (map changed cs) ≡ map changed (reverse cs)
  reverse-by [] = refl
  reverse-by (c ∷ cs) = reverse_onto (map changed cs) (changed c) [] ∙ ap (λ l. l ++ changed c ∷ []) (reverse-by cs) ∙ sym (map-append changed (reverse cs) (c ∷ [])) ∙ ap (map changed) (sym (reverse_onto cs c []))

  -- the changes of each line have the function of their nodes
  pub lists-by : (newest earlier : List Change) → lists_of (map changed newest) (map changed earlier) ≡ map (renumbered_changes by) (lists_of newest earlier)
  lists-by [] earlier = refl
  lists-by (c ∷ newest) earlier = λ j.
      ((c.from, by c.node) ∷ (ap (λ l. changes_before l c.before) (reverse-by earlier) ∙ before-by (reverse earlier) c.before) j) ∷ lists-by newest earlier j

-- what renumbering both kinds of changes gives
module _ (newest earlier : List Change) (from : List ℕ) (first middle : ℕ) (room : first + length (nodes_of newest earlier) ≤ length from) (at : middle ≡ first + length newest) where
  count : length (nodes_of newest earlier) ≡ length newest + length earlier
  count = length-append (map node_of newest) (map node_of earlier) ∙ (λ j. length-map newest node_of j + length-map earlier node_of j)

  room₁ : length newest ≤ length (drop first from)
  room₁ = omega (arith, room, count, length-drop first from)

  pub room₂ : length earlier ≤ length (drop middle from)
  room₂ = omega (arith, room, count, at, length-drop middle from)

  nodes₁ : map node_of (having having_node newest (drop first from)) ≡ take (length newest) (drop first from)
  nodes₁ = having-numbers having_node node_of (λ n c. refl) newest (drop first from) room₁

  nodes₂ : map node_of (having having_node earlier (drop middle from)) ≡ take (length earlier) (drop (length newest) (drop first from))
  nodes₂ = having-numbers having_node node_of (λ n c. refl) earlier (drop middle from) room₂ ∙ ap (take (length earlier)) (ap (λ k. drop k from) at ∙ sym (drop-drop (length newest) first from))

  pub nodes_after : nodes_of (having having_node newest (drop first from)) (having having_node earlier (drop middle from)) ≡ take (length (nodes_of newest earlier)) (drop first from)
  nodes_after = (λ j. nodes₁ j ++ nodes₂ j) ∙ sym (take-add (length newest) (length earlier) (drop first from)) ∙ ap (λ k. take k (drop first from)) (sym count)

  pub lists_after : (by : ℕ → ℕ) → nodes_of (having having_node newest (drop first from)) (having having_node earlier (drop middle from)) ≡ map by (nodes_of newest earlier)
      → lists_of (having having_node newest (drop first from)) (having having_node earlier (drop middle from)) ≡ map (renumbered_changes by) (lists_of newest earlier)
  lists_after by is =
      let split = parted (map node_of (having having_node newest (drop first from))) (map node_of (having having_node earlier (drop middle from))) (map by (map node_of newest)) (map by (map node_of earlier))
      (length-map (having having_node newest (drop first from)) node_of ∙ length-having having_node newest (drop first from) ∙ sym (length-map (map node_of newest) by ∙ length-map newest node_of))
      (is ∙ map-append by (map node_of newest) (map node_of earlier)) in
      (λ j. lists_of (having-by having_node node_of (λ n c. refl) by newest (drop first from) room₁ split.0 j) (having-by having_node node_of (λ n c. refl) by earlier (drop middle from) room₂ split.1 j))
      ∙ lists-by by newest earlier
