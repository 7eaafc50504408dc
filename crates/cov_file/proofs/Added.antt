-- The nodes of changes once there is one change more, or another node in one of them.
use Rattle.std.proofs.Common.{◌≡◌, ◌<◌, ℕ, nat_lt, zero, suc, Bool, true, arith, List, [], ◌∷◌, ◌++◌, map, set, slice_get, Some, sym, subst}
use Rattle.std.specs.List.{AllByRecursion}
use Rattle.std.proofs.lemmas.Bool.Decides.{nat_tests}
use Rattle.std.proofs.lemmas.List.{map-append}
use Rattle.cov_base.proofs.CallerLemmas.{all-append}
use Rattle.cov_file.specs.declared.changes.Change.{Change}
use Rattle.cov_file.specs.Renumbered.{node_of, nodes_of, AddsNode, AllPass}
use Rattle.cov_file.proofs.Renumbering.{all-parts}

module _ (test : ℕ → Bool) where
  set-pass : (cs : List Change) (i : ℕ) (c : Change) → AllPass test (map node_of cs) → test c.node ≡ true → AllPass test (map node_of (set cs i c))
  set-pass [] i c h k = tt
  set-pass (d ∷ ds) zero c h k = (k, h.1)
  set-pass (d ∷ ds) (suc i) c h k = (h.0, set-pass ds i c h.1 k)

  get-passes : (cs : List Change) (i : ℕ) (c : Change) → slice_get cs i ≡ Some c → AllPass test (map node_of cs) → test c.node ≡ true
  get-passes [] i c is h = absurd (cc)
  get-passes (d ∷ ds) zero c is h = let same : d ≡ c = cc in subst (λ (x : Change). test x.node ≡ true) same h.0
  get-passes (d ∷ ds) (suc i) c is h = get-passes ds i c is h.1

  joined : (xs ys : List ℕ) → AllPass test xs → AllPass test ys → AllPass test (xs ++ ys)
  joined xs ys h k = all-append (λ n. test n ≡ true) xs ys h k

  pushed : (cs : List Change) (c : Change) → AllPass test (map node_of cs) → test c.node ≡ true → AllPass test (map node_of (cs ++ c ∷ []))
  pushed cs c h k = subst (AllPass test) (sym (map-append node_of cs (c ∷ []))) (joined (map node_of cs) (c.node ∷ []) h (k, tt))

module _ (newest earlier : List Change) where
  -- a line more
  pub pushed_node : (c : Change) → AddsNode c.node (nodes_of newest earlier) (nodes_of (newest ++ c ∷ []) earlier)
  pushed_node c test h k =
      let parts = all-parts test (map node_of newest) (map node_of earlier) h in
      joined test (map node_of (newest ++ c ∷ [])) (map node_of earlier) (pushed test newest c parts.0 k) parts.1

  module _ (i : ℕ) (c : Change) where
    -- another node in the place of a line's newest
    pub replaced_node : AddsNode c.node (nodes_of newest earlier) (nodes_of (set newest i c) earlier)
    replaced_node test h k =
        let parts = all-parts test (map node_of newest) (map node_of earlier) h in
        joined test (map node_of (set newest i c)) (map node_of earlier) (set-pass test newest i c parts.0 k) parts.1

    -- a change more of a line
    pub followed_node : (old : Change) → slice_get newest i ≡ Some old → AddsNode c.node (nodes_of newest earlier) (nodes_of (set newest i c) (earlier ++ old ∷ []))
    followed_node old is test h k =
        let parts = all-parts test (map node_of newest) (map node_of earlier) h in
        joined test (map node_of (set newest i c)) (map node_of (earlier ++ old ∷ []))
        (set-pass test newest i c parts.0 k) (pushed test earlier old parts.1 (get-passes test newest i old is parts.0))

-- what is below a bound stays so when a node is added that is
module _ (bound : ℕ) where
  tests : (ns : List ℕ) → AllByRecursion (λ m. m < bound) ns → AllPass (λ m. nat_lt m bound) ns
  tests [] h = tt
  tests (n ∷ ns) h = (let low = h.0 in grind (arith, nat_tests, low), tests ns h.1)

  tested : (ns : List ℕ) → AllPass (λ m. nat_lt m bound) ns → AllByRecursion (λ m. m < bound) ns
  tested [] h = tt
  tested (n ∷ ns) h = (let low = h.0 in grind (arith, nat_tests, low), tested ns h.1)

  pub added_below : (n : ℕ) (old new : List ℕ) → AddsNode n old new → AllByRecursion (λ m. m < bound) old → n < bound → AllByRecursion (λ m. m < bound) new
  added_below n old new adds h k = tested new (adds (λ m. nat_lt m bound) (tests old h) (grind (arith, nat_tests, k)))
