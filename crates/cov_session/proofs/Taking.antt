-- What the calls on one session come to among all.
use Rattle.std.proofs.Common.{◌≡◌, ◌∙◌, sym, ap, subst, ℕ, List, map, Some, None, Ok, Err}
use Rattle.std.specs.Map.{lookup}
use Rattle.std.specs.Option.{option_map_or}
use Rattle.slab.specs.Slab.{Slab, get, with_value}
use Rattle.cov_expr.specs.Formula.{Formula, True}
use Rattle.cov_edit.specs.declared.command.Command.{Command}
use Rattle.cov_edit.specs.declared.edit.Edit.{Edit}
use Rattle.cov_session.specs.Adding.{addition_fault, on_side, with_edits, IsAdditionFault}
use Rattle.cov_session.specs.Calls.{AreOpen, IsSessionFaultOf, Makes, side_set, taken, refreshed_among}
use Rattle.cov_session.specs.Kept.{Keys, AreKept, kept}
use Rattle.cov_session.specs.Named.{named, side_of, with_session}
use Rattle.cov_session.specs.Open.{NamedSession, SessionValue, as_named, IsOpen}
use Rattle.cov_session.specs.Refreshing.{refreshed}
use Rattle.cov_session.specs.Siding.{side_fault, with_side}
use Rattle.cov_session.specs.declared.fault.SessionFault.{SessionFault}
use Rattle.cov_session.specs.declared.fault.SessionFault.TheVariants as faults
use Rattle.cov_session.specs.declared.opened.Opened.{Opened}
use Rattle.cov_session.proofs.Changing.{none-named, its, its-named, changed-named, changed-open}
use Rattle.cov_session.proofs.Faulting.{fault-taken, taken-is, none-taken, set-is, set-refused, none-set, fault-refreshed, refreshed-is, none-refreshed}
use Rattle.cov_session.proofs.Keeping.{is_of}
use Rattle.cov_session.proofs.Naming.{its-name, named-open}

module _ (keys : Keys) (slab : Slab SessionValue) (name : List ℕ) (here : AreKept keys slab) (ss : List SessionValue) (is : kept keys slab ≡ ss) where
  -- none has the name
  pub none-takes : lookup (is_of name) keys ≡ None → (history : List Command) (es : List Edit) → taken history (map as_named ss) name es ≡ Err faults.NoSession
  none-takes h history es = none-taken history (map as_named ss) name es (ap (λ us. named (map as_named us) name) (sym is) ∙ none-named keys slab name here h)

  pub none-sets : lookup (is_of name) keys ≡ None → (side : Formula ℕ) → side_set (map as_named ss) name side ≡ Err faults.NoSession
  none-sets h side = none-set (map as_named ss) name side (ap (λ us. named (map as_named us) name) (sym is) ∙ none-named keys slab name here h)

  pub none-refreshes : lookup (is_of name) keys ≡ None → (history : List Command) → refreshed_among history (map as_named ss) name ≡ Err faults.NoSession
  none-refreshes h history = none-refreshed history (map as_named ss) name (ap (λ us. named (map as_named us) name) (sym is) ∙ none-named keys slab name here h)

  module _ (key : ℕ) (leads : lookup (is_of name) keys ≡ Some key) (s : SessionValue) (there : get slab key ≡ Some s) where
    -- the one that has it
    pub one-named : named (map as_named ss) name ≡ Some (as_named s)
    one-named = ap (λ us. named (map as_named us) name) (sym is) ∙ its-named keys slab name here key leads s there

    pub one-open : (history : List Command) → AreOpen history ss → IsOpen history s
    one-open history are = named-open history name (kept keys slab) s (subst (AreOpen history) (sym is) are) (its keys slab name here key leads s there)

    -- what refuses it edits
    pub refuses : (es : List Edit) (fault : SessionFault) → ((history : List Command) → IsOpen history s → IsAdditionFault fault (addition_fault history s.session es))
        → (history : List Command) → AreOpen history ss → IsSessionFaultOf (taken history (map as_named ss) name es) fault
    refuses es fault h history are = fault-taken history (map as_named ss) name es (as_named s) fault one-named (h history (one-open history are))

    -- and a side
    pub refuses-side : (side : Formula ℕ) (fault : SessionFault) → side_fault s.session side ≡ Some fault → side_set (map as_named ss) name side ≡ Err fault
    refuses-side side fault h = set-refused (map as_named ss) name side (as_named s) fault one-named h

    -- and what refuses to refresh it
    pub refuses-refresh : (history : List Command) (fault : SessionFault) → IsSessionFaultOf (refreshed history s.session) fault → IsSessionFaultOf (refreshed_among history (map as_named ss) name) fault
    refuses-refresh history fault h = fault-refreshed history (map as_named ss) name (as_named s) fault one-named h

    module _ (t : SessionValue) (same : t.name ≡ s.name) where
      -- it is changed in its place
      pub in-place : map as_named (kept keys (with_value slab key t)) ≡ with_session (map as_named ss) (as_named t)
      in-place = changed-named keys slab name here key leads s there t same ∙ ap (λ us. with_session (map as_named us) (as_named t)) is

      pub stay-open : (history : List Command) → AreOpen history ss → (IsOpen history s → IsOpen history t) → AreOpen history (kept keys (with_value slab key t))
      stay-open history are one = changed-open keys slab name here key leads s there t same history (subst (AreOpen history) (sym is) are) one

      -- it took edits
      pub takes : (es : List Edit) → t.side ≡ s.side → ((history : List Command) → IsOpen history s → addition_fault history s.session es ≡ None) → t.session ≡ with_edits s.session (on_side s.side es)
          → (history : List Command) → AreOpen history ss → taken history (map as_named ss) name es ≡ Ok (map as_named (kept keys (with_value slab key t)))
      takes es on accepted grown history are =
          taken-is history (map as_named ss) name es (as_named s) one-named (accepted history (one-open history are))
          ∙ (λ i. Ok (with_session (map as_named ss) (record { name = sym same i; side = sym on i; session = sym grown i }))) ∙ ap Ok (sym in-place)

      -- it took another side
      pub sets : (side : Formula ℕ) → side_fault s.session side ≡ None → as_named t ≡ with_side (as_named s) side
          → side_set (map as_named ss) name side ≡ Ok (map as_named (kept keys (with_value slab key t)))
      sets side accepted set =
          set-is (map as_named ss) name side (as_named s) one-named accepted ∙ ap (λ u. Ok (with_session (map as_named ss) u)) (sym set) ∙ ap Ok (sym in-place)

      -- it was refreshed
      pub refreshes : (history : List Command) (answer : Opened) → t.side ≡ s.side → refreshed history s.session ≡ Ok t.session → answer.base ≡ t.session.base → answer.choice ≡ t.session.choice
          → Makes (refreshed_among history (map as_named ss) name) (λ u. with_session (map as_named ss) (record { name = name; side = side_of (map as_named ss) name; session = u })) answer
          (map as_named (kept keys (with_value slab key t)))
      refreshes history answer on done base choice = record {
        session = t.session;
        made = refreshed-is history (map as_named ss) name (as_named s) one-named ∙ done;
        left = in-place ∙ (λ i. with_session (map as_named ss) (record {
          name = (same ∙ its-name name (kept keys slab) s (its keys slab name here key leads s there)) i;
          side = (on ∙ sym (ap (λ o. option_map_or (λ (u : NamedSession). u.side) o True) one-named)) i;
          session = t.session;
        }));
        base = base;
        choice = choice;
      }
