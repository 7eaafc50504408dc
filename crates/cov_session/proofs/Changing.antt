-- One session among all that are open: what the calls find and change.
use Rattle.std.proofs.Common.{◌≡◌, ◌∙◌, refl, sym, ap, subst, ℕ, ◌+◌, ◌<◌, true, cond, not, List, [], ◌∷◌, ◌++◌, length, length-append, map, filter, filter_map, count_by, slice_index_or, Option, Some, None, is_some, arith}
use Rattle.std.specs.Global.{Vec}
use Rattle.std.specs.List.{AllByRecursion, IsDistinct, find}
use Rattle.std.specs.Map.{keys_of, lookup, remove_entry}
use Rattle.std.proofs.lemmas.List.{map-append}
use Rattle.std.proofs.lemmas.List.Sums.{sum_by-set}
use Rattle.slab.specs.Slab.{Slab, get, slab_len, with_value, Updates}
use Rattle.slab.proofs.SlabLemmas.{ContainsKey-within, Updates-with_value}
use Rattle.cov_edit.specs.declared.command.Command.{Command}
use Rattle.cov_session.specs.Calls.{AreOpen, IsOfName}
use Rattle.cov_session.specs.Kept.{Keys, Leads, AreKept, same_name, kept}
use Rattle.cov_session.specs.Named.{named, with_session, without}
use Rattle.cov_session.specs.Open.{SessionValue, as_named, IsOpen}
use Rattle.cov_session.specs.declared.sessions.TheConstants.{MOST_SESSIONS}
use Rattle.cov_session.proofs.Keeping.{is_of, has_name, led, find-kept, led-some, only-key, kept-added, leads-same, leads-added, kept-changed, leads-changed, kept-others, leads-others, others-are}
use Rattle.cov_session.proofs.Naming.{replaced, its-name, named-none, named-open, named-some, named-replaced, named-without, open-added, open-replaced, open-without}

module _ (keys : Keys) (slab : Slab SessionValue) (name : List ℕ) (here : AreKept keys slab) where
  abbrev sessions : List SessionValue
  sessions = kept keys slab

  -- none is found where the name leads to no key
  pub find-none : lookup (is_of name) keys ≡ None → find (has_name name) sessions ≡ None
  find-none h = find-kept slab name keys here.lead ∙ ap (led slab) h

  pub none-named : lookup (is_of name) keys ≡ None → named (map as_named sessions) name ≡ None
  none-named h = named-none name sessions (find-none h)

  -- one has the name exactly where the name leads to a key
  pub is_some-named : is_some (named (map as_named sessions) name) ≡ is_some (lookup (is_of name) keys)
  is_some-named = at (lookup (is_of name) keys) (led-some slab name keys here.lead) refl
    where
      at : (o : Option ℕ) → is_some (led slab (lookup (is_of name) keys)) ≡ is_some (lookup (is_of name) keys) → lookup (is_of name) keys ≡ o
          → is_some (named (map as_named (kept keys slab)) name) ≡ is_some (lookup (is_of name) keys)
      at None some h = ap is_some (none-named h) ∙ sym (ap is_some h)
      at (Some key) some h = found (get slab key) refl (sym (ap (λ p. is_some (led slab p)) h) ∙ some ∙ ap is_some h) ∙ sym (ap is_some h)
        where
          found : (p : Option SessionValue) → get slab key ≡ p → is_some (get slab key) ≡ true → is_some (named (map as_named (kept keys slab)) name) ≡ true
          found None e is = absurd (let no = ap is_some e in cc)
          found (Some s) e is = ap is_some (named-some name (kept keys slab) s (find-kept slab name keys here.lead ∙ ap (led slab) h ∙ e))

  module _ (key : ℕ) (leads : lookup (is_of name) keys ≡ Some key) where
    -- the key to which a name leads has a session
    pub there-is : is_some (get slab key) ≡ true
    there-is = sym (ap (λ o. is_some (led slab o)) leads) ∙ led-some slab name keys here.lead ∙ ap is_some leads

    module _ (s : SessionValue) (there : get slab key ≡ Some s) where
      -- it is that of the name
      pub its : IsOfName sessions name s
      its = find-kept slab name keys here.lead ∙ ap (led slab) leads ∙ there

      pub its-named : named (map as_named sessions) name ≡ Some (as_named s)
      its-named = named-some name sessions s its

      -- it is changed, and keeps its name
      module _ (t : SessionValue) (same : t.name ≡ s.name) where
        only : AllByRecursion (λ e. is_of t.name e.0 ≡ true → e.1 ≡ key) keys
        only = subst (λ n. AllByRecursion (λ e. is_of n e.0 ≡ true → e.1 ≡ key) keys) (sym (same ∙ its-name name sessions s its)) (only-key name key keys here.distinct leads)

        updates : Updates slab (with_value slab key t) key (Some t)
        updates = Updates-with_value slab key t there-is

        pub changed-kept : AreKept keys (with_value slab key t)
        changed-kept = record {
          lead = leads-changed slab (with_value slab key t) key s t there same updates keys here.lead only;
          distinct = here.distinct;
          no_more = count ∙ here.no_more;
          few = here.few;
        }
          where
            count : slab_len (with_value slab key t) ≡ slab_len slab
            count =
                let sums = sum_by-set (λ o. cond (is_some o) 1 0) slab.slots key (Some t) None (ContainsKey-within slab key there-is) in
                let old : cond (is_some (get slab key)) 1 0 ≡ 1 = ap {B = ℕ} (λ o. cond (is_some o) 1 0) there in
                omega (arith, sums, old)

        changed-is : kept keys (with_value slab key t) ≡ replaced t sessions
        changed-is = kept-changed slab (with_value slab key t) key s t there same updates keys here.lead only

        pub changed-named : map as_named (kept keys (with_value slab key t)) ≡ with_session (map as_named sessions) (as_named t)
        changed-named = ap (map as_named) changed-is ∙ named-replaced t sessions

        pub changed-open : (history : List Command) → AreOpen history sessions → (IsOpen history s → IsOpen history t) → AreOpen history (kept keys (with_value slab key t))
        changed-open history are one = subst (AreOpen history) (sym changed-is) (open-replaced history t sessions (one (named-open history name sessions s are its)) are)

      -- it is taken out
      module _ (new : Slab SessionValue) (updates : Updates slab new key None) where
        out-is : kept (remove_entry (is_of name) keys) new ≡ filter (λ u. not (has_name name u)) sessions
        out-is =
            ap (λ es. kept es new) (others-are name keys here.distinct)
            ∙ kept-others slab new key s name there (its-name name sessions s its) updates keys here.lead

        pub out-named : map as_named (kept (remove_entry (is_of name) keys) new) ≡ without (map as_named sessions) name
        out-named = ap (map as_named) out-is ∙ named-without name sessions

        pub out-open : (history : List Command) → AreOpen history sessions → AreOpen history (kept (remove_entry (is_of name) keys) new)
        out-open history are = subst (AreOpen history) (sym out-is) (open-without history name sessions are)

        pub out-kept : IsDistinct same_name (keys_of (remove_entry (is_of name) keys)) → length (remove_entry (is_of name) keys) + 1 ≡ length keys → slab_len new + 1 ≡ slab_len slab
            → AreKept (remove_entry (is_of name) keys) new
        out-kept distinct fewer less = record {
          lead = subst (λ es. AllByRecursion (Leads new) es) (sym (others-are name keys here.distinct)) (leads-others slab new key s name there (its-name name sessions s its) updates keys here.lead);
          distinct = distinct;
          no_more = let many = here.no_more in omega (arith, fewer, less, many);
          few = let most = here.few in omega (arith, fewer, most);
        }

-- where the slots are the same, the same are kept
pub kept-slots : (keys : Keys) (old new : Slab SessionValue) → new.slots ≡ old.slots → kept keys new ≡ kept keys old
kept-slots keys old new same = ap (λ l. filter_map (λ e. slice_index_or l e.1 None) keys) same

pub slots-kept : (keys : Keys) (old new : Slab SessionValue) → new.slots ≡ old.slots → AreKept keys old → AreKept keys new
slots-kept keys old new same here = record {
  lead = leads-same old new (λ e h. ap (λ l. slice_index_or l e.1 None) same) keys here.lead;
  distinct = here.distinct;
  no_more = ap (count_by is_some) same ∙ here.no_more;
  few = here.few;
}

-- a session is opened: it is put under a new key, to which its name leads
module _ (keys : Keys) (slab new : Slab SessionValue) (own : Vec ℕ) (key : ℕ) (s : SessionValue) (here : AreKept keys slab) (fresh : get slab key ≡ None) (updates : Updates slab new key (Some s)) where
  pub added-kept : s.name ≡ own.items → IsDistinct same_name (keys_of (keys ++ (own, key) ∷ [])) → slab_len new ≡ slab_len slab + 1 → length keys < MOST_SESSIONS → AreKept (keys ++ (own, key) ∷ []) new
  added-kept is distinct more few = record {
    lead = leads-added slab new key s own fresh updates is keys here.lead;
    distinct = distinct;
    no_more = let many = here.no_more in let l = length-append keys ((own, key) ∷ []) in omega (arith, more, many, l);
    few = let l = length-append keys ((own, key) ∷ []) in omega (arith, l, few);
  }

  pub added-is : kept (keys ++ (own, key) ∷ []) new ≡ kept keys slab ++ s ∷ []
  added-is = kept-added slab new key s own fresh updates keys here.lead

  pub added-named : map as_named (kept (keys ++ (own, key) ∷ []) new) ≡ map as_named (kept keys slab) ++ as_named s ∷ []
  added-named = ap (map as_named) added-is ∙ map-append as_named (kept keys slab) (s ∷ [])

  pub added-open : (history : List Command) → AreOpen history (kept keys slab) → IsOpen history s → AreOpen history (kept (keys ++ (own, key) ∷ []) new)
  added-open history are one = subst (AreOpen history) (sym added-is) (open-added history (kept keys slab) s are one)
