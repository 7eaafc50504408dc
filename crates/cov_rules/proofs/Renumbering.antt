-- Rules whose nodes are those of a list.
use Rattle.std.proofs.Common.{◌≡◌, ℕ, zero, suc, nat_le, Bool, true, false, cond, ◌+◌, ◌<◌, ◌≤◌, List, [], ◌∷◌, ◌++◌, length, map, take, drop, get_or, refl, sym, ap, ◌∙◌, subst, arith, length-append, take-add}
use Rattle.std.specs.List.{filter, AllByRecursion}
use Rattle.std.proofs.lemmas.List.{length-map, length-drop, map-append, drop-drop}
use Rattle.cov_base.specs.Replacing.{having}
use Rattle.cov_base.proofs.CallerLemmas.{having-by, having-numbers, having-rest, length-having, parted}
use Rattle.cov_dd.specs.declared.triple.Triple.{Triple}
use Rattle.cov_dd.specs.Sweeps.{IsRenumbered}
use Rattle.cov_dd.proofs.CallerLemmas.{stands_renumbered}
use Rattle.cov_expr.specs.Formula.{Formula}
use Rattle.cov_rules.specs.Completion.{fallbacks, AreBelow}
use Rattle.cov_rules.specs.Installing.{Standing, expressions, expressions_at, reach_of, AllStand, StandsForAll}
use Rattle.cov_rules.specs.Renumbered.{having_node, node_of, nodes_of, without_nodes, HoldRenumbered}
use Rattle.cov_rules.specs.declared.rules.Installed.{Installed}

take-one : (ns : List ℕ) (i : ℕ) → i < length ns → take 1 (drop i ns) ≡ get_or ns i 0 ∷ []
take-one [] i h = absurd (omega (arith, h))
take-one (n ∷ ns) zero h = refl
take-one (n ∷ ns) (suc i) h = take-one ns i (omega (arith, h))

-- each rule's node is renumbered, and so it stands for its expression
all_stand_renumbered : (ts us : List Triple) (by : ℕ → ℕ) (rs : List Installed) → AllByRecursion (λ a. IsRenumbered ts us a (by a)) (map node_of rs)
    → AllStand ts rs → AllStand us (map (λ r. having_node (by (node_of r)) r) rs)
all_stand_renumbered ts us by [] each h = tt
all_stand_renumbered ts us by (r ∷ rs) each h = (stands_renumbered each.0 h.0, all_stand_renumbered ts us by rs each.1 h.1)

all_parts : (P : ℕ → Type 0) (xs ys : List ℕ) → AllByRecursion P (xs ++ ys) → AllByRecursion P xs × AllByRecursion P ys
all_parts P [] ys h = (tt, h)
all_parts P (x ∷ xs) ys h = let rest = all_parts P xs ys h.1 in ((h.0, rest.0), rest.1)

-- rules that got the nodes of a list from a place on: constraints, then preferences, then the node of all constraints
module _ (s : Standing) (from : List ℕ) (first second third : ℕ) (room : first + length (nodes_of s) ≤ length from)
    (second_is : second ≡ first + length s.constraints) (third_is : third ≡ second + length s.preferences) where
  abbrev pub renumbered : Standing
  renumbered = record {
    constraints = having having_node s.constraints (drop first from);
    preferences = having having_node s.preferences (drop second from);
    defaults = s.defaults;
    conjunction = get_or from third 0;
  }

  pub count : length (nodes_of s) ≡ length s.constraints + (length s.preferences + 1)
  count =
      length-append (map node_of s.constraints) (map node_of s.preferences ++ s.conjunction ∷ [])
      ∙ (λ j. length-map s.constraints node_of j + (length-append (map node_of s.preferences) (s.conjunction ∷ []) ∙ ap (λ n. n + 1) (length-map s.preferences node_of)) j)

  pub third_within : third < length from
  third_within = omega (arith, room, count, second_is, third_is)

  constraints_fit : length s.constraints ≤ length (drop first from)
  constraints_fit = omega (arith, room, count, length-drop first from)

  preferences_fit : length s.preferences ≤ length (drop second from)
  preferences_fit = omega (arith, room, count, second_is, length-drop second from)

  pub nodes_renumbered : nodes_of renumbered ≡ take (length (nodes_of s)) (drop first from)
  nodes_renumbered =
      (λ j. having-numbers having_node node_of (λ n r. refl) s.constraints (drop first from) constraints_fit j
      ++ (having-numbers having_node node_of (λ n r. refl) s.preferences (drop second from) preferences_fit j ++ sym (take-one from third third_within) j))
      ∙ (λ j. take (length s.constraints) (drop first from) ++ (take (length s.preferences) (dropped_second j) ++ take 1 (dropped_third j)))
      ∙ ap (λ l. take (length s.constraints) (drop first from) ++ l) (sym (take-add (length s.preferences) 1 (drop (length s.constraints) (drop first from))))
      ∙ sym (take-add (length s.constraints) (length s.preferences + 1) (drop first from)) ∙ ap (λ n. take n (drop first from)) (sym count)
    where
      dropped_second : drop second from ≡ drop (length s.constraints) (drop first from)
      dropped_second = ap (λ n. drop n from) second_is ∙ sym (drop-drop (length s.constraints) first from)

      dropped_third : drop third from ≡ drop (length s.preferences) (drop (length s.constraints) (drop first from))
      dropped_third = ap (λ n. drop n from) third_is ∙ sym (drop-drop (length s.preferences) second from) ∙ ap (drop (length s.preferences)) dropped_second

  pub rest_renumbered : without_nodes renumbered ≡ without_nodes s
  rest_renumbered = λ j. record {
    constraints = having-rest having_node (having_node 0) (λ n r. refl) s.constraints (drop first from) j;
    preferences = having-rest having_node (having_node 0) (λ n r. refl) s.preferences (drop second from) j;
    defaults = s.defaults;
    conjunction = 0;
  }

  expressions_same : expressions renumbered.constraints ≡ expressions s.constraints
  expressions_same = having-rest having_node (λ (r : Installed). r.expr) (λ n r. refl) s.constraints (drop first from)

  pub hold_renumbered : HoldRenumbered s renumbered
  hold_renumbered ts us r h =
      let split = parted
      (map node_of renumbered.constraints) (map node_of renumbered.preferences ++ renumbered.conjunction ∷ [])
      (map r.by (map node_of s.constraints)) (map r.by (map node_of s.preferences ++ s.conjunction ∷ []))
      (long s.constraints (drop first from) r.by)
      (r.is ∙ map-append r.by (map node_of s.constraints) (map node_of s.preferences ++ s.conjunction ∷ [])) in
      let behind = parted
      (map node_of renumbered.preferences) (renumbered.conjunction ∷ [])
      (map r.by (map node_of s.preferences)) (r.by s.conjunction ∷ [])
      (long s.preferences (drop second from) r.by)
      (split.1 ∙ map-append r.by (map node_of s.preferences) (s.conjunction ∷ [])) in
      let last : renumbered.conjunction ≡ r.by s.conjunction = ap (λ l. get_or l 0 0) behind.1 in
      let each = all_parts (λ a. IsRenumbered ts us a (r.by a)) (map node_of s.constraints) (map node_of s.preferences ++ s.conjunction ∷ []) r.each in
      let each_behind = all_parts (λ a. IsRenumbered ts us a (r.by a)) (map node_of s.preferences) (s.conjunction ∷ []) each.1 in
      record {
        constraints = subst (AllStand us) (sym (having-by having_node node_of (λ n q. refl) r.by s.constraints (drop first from) constraints_fit split.0)) (all_stand_renumbered ts us r.by s.constraints each.0 h.constraints);
        preferences = subst (AllStand us) (sym (having-by having_node node_of (λ n q. refl) r.by s.preferences (drop second from) preferences_fit behind.0)) (all_stand_renumbered ts us r.by s.preferences each_behind.0 h.preferences);
        conjunction = subst (λ (q : ℕ × List (Formula ℕ)). StandsForAll us q.0 q.1) (λ j. (sym last j, sym expressions_same j)) (stands_renumbered each_behind.1.0 h.conjunction);
      }
    where
      long : (rs : List Installed) (ns : List ℕ) (by : ℕ → ℕ) → length (map node_of (having having_node rs ns)) ≡ length (map by (map node_of rs))
      long rs ns by = length-map (having having_node rs ns) node_of ∙ length-having having_node rs ns ∙ sym (length-map (map node_of rs) by ∙ length-map rs node_of)

expressions-without : (rs : List Installed) → expressions (map (having_node 0) rs) ≡ expressions rs
expressions-without [] = refl
expressions-without (r ∷ rs) = ap (λ es. r.expr ∷ es) (expressions-without rs)

expressions_at-without : (p : ℕ) (rs : List Installed) → expressions_at p (map (having_node 0) rs) ≡ expressions_at p rs
expressions_at-without p [] = refl
expressions_at-without p (r ∷ rs) = by (nat_le r.at p) (expressions_at-without p rs)
  where
    by : (b : Bool) → expressions_at p (map (having_node 0) rs) ≡ expressions_at p rs
        → expressions (cond b (having_node 0 r ∷ filter (λ q. nat_le q.at p) (map (having_node 0) rs)) (filter (λ q. nat_le q.at p) (map (having_node 0) rs)))
        ≡ expressions (cond b (r ∷ filter (λ q. nat_le q.at p) rs) (filter (λ q. nat_le q.at p) rs))
    by true rest = ap (λ es. r.expr ∷ es) rest
    by false rest = rest

-- rules that differ in their nodes alone have the same expressions
module _ (s t : Standing) (same : without_nodes t ≡ without_nodes s) where
  pub same_constraints : expressions t.constraints ≡ expressions s.constraints
  same_constraints = sym (expressions-without t.constraints) ∙ ap (λ (u : Standing). expressions u.constraints) same ∙ expressions-without s.constraints

  pub same_preferences : expressions t.preferences ≡ expressions s.preferences
  same_preferences = sym (expressions-without t.preferences) ∙ ap (λ (u : Standing). expressions u.preferences) same ∙ expressions-without s.preferences

  pub same_at : (p : ℕ) → expressions_at p t.constraints ≡ expressions_at p s.constraints
  same_at p = sym (expressions_at-without p t.constraints) ∙ ap (λ (u : Standing). expressions_at p u.constraints) same ∙ expressions_at-without p s.constraints

  pub same_defaults : fallbacks t.defaults ≡ fallbacks s.defaults
  same_defaults = ap (λ (u : Standing). fallbacks u.defaults) same

  pub below_renumbered : (count : ℕ) → AreBelow count s → AreBelow count t
  below_renumbered count b = record {
    few = b.few;
    constraints = omega (arith, ap reach_of same_constraints, b.constraints);
    preferences = omega (arith, ap reach_of same_preferences, b.preferences);
    defaults = omega (arith, ap reach_of same_defaults, b.defaults);
  }
