-- A session that is opened among others.
use Rattle.std.proofs.Common.{◌≡◌, ◌∙◌, sym, ap, subst, ℕ, ◌+◌, ◌<◌, ◌≤◌, Bool, true, false, List, [], ◌∷◌, ◌++◌, length, map, Some, None, is_some, Ok, Err, arith}
use Rattle.std.specs.Global.{Vec}
use Rattle.std.specs.List.{IsDistinct}
use Rattle.std.specs.Map.{keys_of, lookup}
use Rattle.std.proofs.lemmas.Bool.Decides.{nat_tests}
use Rattle.std.proofs.lemmas.List.{length-map}
use Rattle.indexmap.specs.IndexMap.{IndexMap, insert_entry}
use Rattle.indexmap.proofs.CallerLemmas.{insert_entry-new}
use Rattle.slab.specs.Slab.{Slab, get, slab_len, Updates}
use Rattle.cov_expr.specs.Formula.{Formula, True}
use Rattle.cov_edit.specs.declared.command.Command.{Command}
use Rattle.cov_session.specs.Calls.{AreOpen, IsSessionFaultOf, Makes, opened_among}
use Rattle.cov_session.specs.Kept.{Keys, AreKept, same_name, kept}
use Rattle.cov_session.specs.Named.{named}
use Rattle.cov_session.specs.Open.{SessionValue, as_named, IsOpen}
use Rattle.cov_base.proofs.CallerLemmas.{none-is}
use Rattle.cov_session.specs.Opening.{opened, IsOpeningFault}
use Rattle.cov_session.specs.declared.fault.SessionFault.{SessionFault}
use Rattle.cov_session.specs.declared.fault.SessionFault.TheVariants as faults
use Rattle.cov_session.specs.declared.opened.Opened.{Opened}
use Rattle.cov_session.specs.declared.sessions.TheConstants.{MOST_SESSIONS}
use Rattle.cov_session.proofs.Changing.{is_some-named, kept-slots, slots-kept, added-kept, added-named, added-open}
use Rattle.cov_session.proofs.Faulting.{among-exists, among-many, among-opened, fault-opened}
use Rattle.cov_session.proofs.Keeping.{is_of, length-kept}

-- a key of a name that none has comes behind the others
pub key-added : {S : Type 0} (keys : Keys) (room : IndexMap (Vec ℕ) ℕ S) (name : List ℕ) (own : Vec ℕ) (key : ℕ) (entries : Keys) → is_some (lookup (is_of name) keys) ≡ false → own.items ≡ name → room.entries ≡ keys
    → entries ≡ insert_entry same_name room.entries own key → entries ≡ keys ++ (own, key) ∷ []
key-added keys room name own key entries free called same added =
    added
    ∙ insert_entry-new same_name room own key ((λ i. lookup (is_of (called i)) (same i)) ∙ none-is (lookup (is_of name) keys) free)
    ∙ ap (λ es. es ++ (own, key) ∷ []) same

module _ (keys : Keys) (slab : Slab SessionValue) (name : List ℕ) (here : AreKept keys slab) (ss : List SessionValue) (is : kept keys slab ≡ ss)
    (history : List Command) (partial : List (ℕ × Bool)) (ambition : Formula ℕ) where
  some-named : is_some (named (map as_named ss) name) ≡ is_some (lookup (is_of name) keys)
  some-named = ap (λ us. is_some (named (map as_named us) name)) (sym is) ∙ is_some-named keys slab name here

  as_many : length (map as_named ss) ≡ length keys
  as_many = length-map ss as_named ∙ ap length (sym is) ∙ length-kept slab keys here.lead

  -- one has the name
  pub exists : is_some (lookup (is_of name) keys) ≡ true → opened_among history (map as_named ss) name partial ambition ≡ Err faults.SessionExists
  exists h = among-exists history (map as_named ss) name partial ambition (some-named ∙ h)

  -- as many are open as may be
  pub many : is_some (lookup (is_of name) keys) ≡ false → MOST_SESSIONS ≤ length keys → opened_among history (map as_named ss) name partial ambition ≡ Err faults.TooManySessions
  many h most = among-many history (map as_named ss) name partial ambition (some-named ∙ h) (let n = as_many in grind (arith, nat_tests, n, most))

  module _ (free : is_some (lookup (is_of name) keys) ≡ false) (few : length keys < MOST_SESSIONS) where
    -- the rules and the ambition alone decide
    pub alone : opened_among history (map as_named ss) name partial ambition ≡ opened history partial ambition
    alone = among-opened history (map as_named ss) name partial ambition (some-named ∙ free) (let n = as_many in grind (arith, nat_tests, n, few))

    pub not_opened : (fault : SessionFault) → IsOpeningFault fault (opened history partial ambition) → IsSessionFaultOf (opened_among history (map as_named ss) name partial ambition) fault
    not_opened fault h = fault-opened history (map as_named ss) name partial ambition fault alone h

    -- it is opened under a key of its own, once there is room
    module _ (ready new : Slab SessionValue) (slots : ready.slots ≡ slab.slots) (own : Vec ℕ) (key : ℕ) (entries : Keys) (added : entries ≡ keys ++ (own, key) ∷ []) (s : SessionValue)
        (fresh : get ready key ≡ None) (updates : Updates ready new key (Some s)) where
      ready-kept : AreKept keys ready
      ready-kept = slots-kept keys slab ready slots here

      pub begins-kept : s.name ≡ own.items → IsDistinct same_name (keys_of entries) → slab_len new ≡ slab_len ready + 1 → AreKept entries new
      begins-kept called distinct more =
          subst (λ es. AreKept es new) (sym added)
          (added-kept keys ready new own key s ready-kept fresh updates called (subst (λ es. IsDistinct same_name (keys_of es)) added distinct) more few)

      pub begins-open : AreOpen history ss → IsOpen history s → AreOpen history (kept entries new)
      begins-open are one =
          subst (λ es. AreOpen history (kept es new)) (sym added)
          (added-open keys ready new own key s ready-kept fresh updates history (subst (AreOpen history) (sym (kept-slots keys slab ready slots ∙ is)) are) one)

      pub begins : (answer : Opened) → s.name ≡ name → s.side ≡ True → opened history partial ambition ≡ Ok s.session → answer.base ≡ s.session.base → answer.choice ≡ s.session.choice
          → Makes (opened_among history (map as_named ss) name partial ambition) (λ u. map as_named ss ++ record { name = name; side = True; session = u } ∷ []) answer (map as_named (kept entries new))
      begins answer called everywhere done base choice = record {
        session = s.session;
        made = alone ∙ done;
        left = ap (λ es. map as_named (kept es new)) added ∙ added-named keys ready new own key s ready-kept fresh updates
            ∙ (λ i. map as_named ((kept-slots keys slab ready slots ∙ is) i) ++ record { name = called i; side = everywhere i; session = s.session } ∷ []);
        base = base;
        choice = choice;
      }
