-- The nodes of a plan by their numbers.
use Rattle.std.proofs.Common.{◌≡◌, ℕ, ◌+◌, false, cond, ◌||◌, not, nat_eq, nat_lt, List, [], ◌∷◌, ◌++◌, Some, None, position, refl, sym, ap, ◌∙◌}
use Rattle.std.specs.List.{list_any, position_or_len}
use Rattle.std.proofs.lemmas.List.{length-map, map-append}
use Rattle.indexmap.specs.IndexSet.{insert_key}
use Rattle.cov_base.specs.Rows.{has_node}
use Rattle.cov_base.proofs.CallerLemmas.{nat_eq-sym}
use Rattle.cov_tree.specs.declared.entry.Entry.{Entry}
use Rattle.cov_tree.specs.Entries.{nodes_of}

module _ (node : ℕ) where
  place_or_len : (es : List Entry) → position_or_len (nat_eq node) (nodes_of es) ≡ position_or_len (λ (e : Entry). nat_eq e.node node) es
  place_or_len [] = refl
  place_or_len (e ∷ es) =
      ap (λ b. cond (not b) (1 + position_or_len (nat_eq node) (nodes_of es)) 0) (nat_eq-sym node e.node)
      ∙ ap (λ n. cond (not (nat_eq e.node node)) (1 + n) 0) (place_or_len es)

  -- a number stands where its node does
  pub keyed : (es : List Entry) → position (nat_eq node) (nodes_of es) ≡ position (λ (e : Entry). nat_eq e.node node) es
  keyed es i = cond (nat_lt (place_or_len es i) (length-map es (λ (e : Entry). e.node) i)) (Some (place_or_len es i)) None

  any-key : (ns : List ℕ) → list_any (nat_eq node) ns ≡ has_node node ns
  any-key [] = refl
  any-key (n ∷ ns) = ap (λ b. b || list_any (nat_eq node) ns) (nat_eq-sym node n) ∙ ap (λ b. nat_eq n node || b) (any-key ns)

  key_added : (ns : List ℕ) → has_node node ns ≡ false → insert_key nat_eq ns node ≡ ns ++ node ∷ []
  key_added ns fresh = ap (λ b. cond b ns (ns ++ node ∷ [])) (any-key ns ∙ fresh)

-- the number of a new node goes last
pub keys_behind : (ks : List ℕ) (es fs : List Entry) (f : Entry) → ks ≡ nodes_of es → has_node f.node (nodes_of es) ≡ false → fs ≡ es ++ f ∷ [] → insert_key nat_eq ks f.node ≡ nodes_of fs
keys_behind ks es fs f same fresh is =
    ap (λ ns. insert_key nat_eq ns f.node) same ∙ key_added f.node (nodes_of es) fresh ∙ sym (map-append (λ (e : Entry). e.node) es (f ∷ [])) ∙ ap nodes_of (sym is)
