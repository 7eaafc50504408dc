-- A session that goes on from a later base.
use Rattle.std.proofs.Common.{◌≡◌, ◌∙◌, refl, sym, ap, subst, ℕ, zero, suc, ◌+◌, ◌<◌, ◌≤◌, Bool, true, false, nat_lt, ◌&&◌, List, [], ◌∷◌, ◌++◌, append_assoc, length, length-append, take, get_or, Option, Some, None, Ok, arith}
use Rattle.std.proofs.Math.Nat.{le-max_left, le-max_right}
use Rattle.std.proofs.Math.Seq.{take-length}
use Rattle.std.proofs.lemmas.Bool.{and_parts, not-true}
use Rattle.std.proofs.lemmas.Bool.Decides.{nat_tests}
use Rattle.std.specs.List.{fold, list_all, enumerate_from}
use Rattle.std.proofs.lemmas.List.{map-append}
use Rattle.cov_base.specs.Choices.{is_on}
use Rattle.cov_base.specs.declared.limits.TheConstants.{LIMITS}
use Rattle.cov_edit.proofs.CallerLemmas.{ambition-low, sides-low, opened, rest_of, nodes-append, nodes-most, anchors-append, lines-most}
use Rattle.cov_edit.specs.declared.command.Command.{Command}
use Rattle.cov_edit.specs.declared.edit.Edit.{Edit}
use Rattle.cov_edit.specs.History.{option_count, first_false_in}
use Rattle.cov_edit.specs.Sides.{sided, reach_of_sides, reach_within}
use Rattle.cov_edit.specs.declared.sided.Sided.{Sided}
use Rattle.cov_edit.specs.Variant.{Variant, edited}
use Rattle.cov_edit.specs.Numbering.{Numbers, NumberedEdit, numbers_of, numbers_after, numbered, nodes_made, anchors_of}
use Rattle.cov_edit.specs.Replay.{replay}
use Rattle.cov_expr.specs.Formula.{Formula, True, value, reach}
use Rattle.cov_expr.specs.Validity.{is_valid}
use Rattle.cov_rules.specs.Completion.{Complete, IsCompletion, literals}
use Rattle.cov_rules.specs.Installing.{literal}
use Rattle.cov_rules.proofs.CallerLemmas.{value_same}
use Rattle.cov_view.specs.Refusals.{refusal, refused_at, refused_from, first_refused}
use Rattle.cov_view.specs.Seen.{Seen}
use Rattle.cov_view.specs.Views.{Shows, FaultBy}
use Rattle.cov_view.specs.declared.fault.EditFault.{EditFault}
use Rattle.cov_view.specs.declared.fault.EditFault.TheVariants as edit_faults
use Rattle.cov_history.specs.Completing.{completed_in}
use Rattle.cov_history.specs.KeptLaws.{HoldingStands}
use Rattle.cov_history.specs.Laws.{ReplayStands}
use Rattle.cov_history.specs.Sessions.{Session, edits_of, IsGood, seen}
use Rattle.cov_session.specs.Adding.{IsAdditionFault}
use Rattle.cov_session.specs.Calls.{IsSessionFaultOf}
use Rattle.cov_session.specs.Faults.{by_loss, unless}
use Rattle.cov_session.specs.Open.{SessionValue, IsOpen, numbers_at_base}
use Rattle.cov_session.specs.Refreshing.{IsInReach, IsInside, rebased, as_lost, refreshed, refreshed_on, with_work, first_lost}
use Rattle.cov_session.specs.declared.fault.SessionFault.{SessionFault}
use Rattle.cov_session.specs.declared.fault.SessionFault.TheVariants as faults
use Rattle.cov_engine.proofs.CallerLemmas.{Accepts, Applies, Refuses, declared-less}
use Rattle.cov_session.proofs.Adding.{first-refused, open-after}
use Rattle.cov_session.proofs.Sided.{AreTrue, unsided-on_side}
use Rattle.cov_session.proofs.Staying.{open-first}

-- what is below a number is below a greater one
below-more : (m n : ℕ) (bs : List (ℕ × Bool)) → m ≤ n → list_all (λ b. nat_lt b.0 m) bs ≡ true → list_all (λ b. nat_lt b.0 n) bs ≡ true
below-more m n [] h all = refl
below-more m n (b ∷ bs) h all =
    let parts = and_parts (nat_lt b.0 m) (list_all (λ b. nat_lt b.0 m) bs) all in
    let less = parts.0 in
    let own : nat_lt b.0 n ≡ true = grind (arith, nat_tests, less, h) in
    ap (λ t. t && list_all (λ b. nat_lt b.0 n) bs) own ∙ below-more m n bs h parts.1

-- a choice on which an option has a value
literal-on : (o : ℕ) (on : Bool) (d : List Bool) → value (literal o on) d ≡ true → is_on d o ≡ on
literal-on o true d h = h
literal-on o false d h = not-true (is_on d o) h

-- a choice that agrees with another has its options' values
agrees-on : (k : ℕ) (c d : List Bool) → is_valid (literals (enumerate_from k c)) d ≡ true → (o n : ℕ) → n ≡ k + o → o < length c → is_on d n ≡ is_on c o
agrees-on k [] d h o n is less = absurd (omega (arith, less))
agrees-on k (b ∷ c) d h zero n is less =
    let same : n ≡ k = omega (arith, is) in
    ap (is_on d) same ∙ literal-on k b d (and_parts (value (literal k b) d) (is_valid (literals (enumerate_from (k + 1) c)) d) h).0
agrees-on k (b ∷ c) d h (suc o) n is less =
    agrees-on (k + 1) c d (and_parts (value (literal k b) d) (is_valid (literals (enumerate_from (k + 1) c)) d) h).1 o n (omega (arith, is)) (omega (arith, less))

-- what is true of a choice's options stays so on a choice that agrees with it
still-inside : (e : Formula ℕ) (c d : List Bool) (n : ℕ) → length c ≡ n → reach e ≤ n → value e c ≡ true → is_valid (literals (enumerate_from 0 c)) d ≡ true → value e d ≡ true
still-inside e c d n whole within inside agrees = value_same e d c (λ o less. agrees-on 0 c d agrees o o (omega arith) (omega (arith, less, within, whole))) ∙ inside

-- the choice on which an open session's choice is completed is within its ambition and its sides
pub still-good : (history : List Command) (s : SessionValue) (n : ℕ) (constraints : List (Formula ℕ)) (c : List Bool) (partial : List (ℕ × Bool)) (d : List Bool) → IsOpen history s
    → c ≡ s.session.choice → partial ≡ enumerate_from 0 c → IsCompletion n constraints partial d → IsInside s d
still-good history s n constraints c partial d here is bound completion = record {
  in_ambition = still s.session.ambition (ambition-low declared s.session.ambition s.session.edits here.good.in_reach) here.good.in_ambition;
  in_sides = sides s.session.edits (sides-low declared s.session.ambition s.session.edits here.good.in_reach) here.good.in_sides;
  in_side = still s.side here.side_in_reach here.in_side;
}
  where
    declared : ℕ
    declared = option_count (take s.session.base history)

    still : (e : Formula ℕ) → reach e ≤ declared → value e s.session.choice ≡ true → value e d ≡ true
    still e low own =
        still-inside e s.session.choice d declared here.good.of_all_options low own
        (ap (λ x. is_valid (literals (enumerate_from 0 x)) d) (sym is) ∙ ap (λ bs. is_valid (literals bs) d) (sym bound) ∙ completion.agrees)

    sides : (ss : List Sided) → reach_of_sides ss ≤ declared → AreTrue s.session.choice ss → AreTrue d ss
    sides [] low all = tt
    sides (t ∷ ss) low all =
        let first = le-max_left (reach t.side) (reach_of_sides ss) in
        let rest = le-max_right (reach t.side) (reach_of_sides ss) in
        (still t.side (omega (arith, low, first)) all.0, sides ss (omega (arith, low, rest)) all.1)

-- what an open session names is declared now
pub reach-within : (history : List Command) (s : SessionValue) → IsOpen history s → IsInReach (option_count history) s
reach-within history s here =
    let more = declared-less s.session.base history in
    record {
      in_reach = let named = here.good.in_reach in omega (arith, named, more);
      side_in_reach = let named = here.side_in_reach in omega (arith, named, more);
    }

pub bound-within : (history : List Command) (s : Session) (c : List Bool) (bs : List (ℕ × Bool)) → IsGood history s → c ≡ s.choice → list_all (λ b. nat_lt b.0 (length c)) bs ≡ true
    → list_all (λ b. nat_lt b.0 (option_count history)) bs ≡ true
bound-within history s c bs good is h =
    let same = ap length is in
    let whole = good.of_all_options in
    let more = declared-less s.base history in
    below-more (length c) (option_count history) bs (omega (arith, same, whole, more)) h

-- the fault of an edit that is refused is that of a loss, unless memory is wanting
loss-by : (f : EditFault) (refused : Option EditFault) (wanted : Option SessionFault) (index : ℕ) → (refused ≡ Some f → wanted ≡ Some (faults.EditLost index)) → FaultBy f refused → IsAdditionFault (by_loss index f) wanted
loss-by edit_faults.Memory refused wanted index g h = tt
loss-by f refused wanted index g h = g h

-- each session that is open with no edits and the view before is open with these edits and the view after
abbrev pub Takes : Seen → List Edit → Seen → Type 0
Takes old es new = (history : List Command) (s : SessionValue) → IsOpen history (with_work s [] old) → IsOpen history (with_work s es new)

-- of the edits, those before the place were applied to a view, and the others are ahead
pub record Applied (old view : Seen) (all ahead : List Edit) (index : ℕ) : Type 0 where
  pub begun : List Edit
  pub whole : begun ++ ahead ≡ all
  pub counted : index ≡ length begun
  pub takes : Takes old begun view
  pub nodes : view.nodes_made ≡ nodes_made begun
  pub lines : view.lines_made ≡ length (anchors_of 0 begun)

pub applied-none : (view : Seen) (all : List Edit) → view.nodes_made ≡ 0 → view.lines_made ≡ 0 → Applied view view all all 0
applied-none view all nodes lines = record { begun = []; whole = refl; counted = refl; takes = λ history s here. here; nodes = nodes; lines = lines }

-- with room for all edits there is room for the next
pub room-ahead : (old view : Seen) (all ahead : List Edit) (index : ℕ) → Applied old view all ahead index → 1 ≤ length ahead → length all ≤ LIMITS.edits
    → (view.nodes_made < 4294967295) × (view.lines_made < 4294967295)
room-ahead old view all ahead index h some few =
    let l = length-append h.begun ahead in
    let whole : length (h.begun ++ ahead) ≡ length all = ap length h.whole in
    let n = nodes-most h.begun in
    let m = lines-most 0 h.begun in
    let nodes = h.nodes in
    let lines = h.lines in
    (omega (arith, l, whole, some, few, n, nodes), omega (arith, l, whole, some, few, m, lines))

refused-now : (ns : Numbers) (v : Variant) (i : ℕ) (e : Edit) (es : List Edit) (d : NumberedEdit) (ds : List NumberedEdit) (f : EditFault) → refusal ns v e ≡ Some f
    → refused_from ns v i (e ∷ es) (d ∷ ds) ≡ Some (i, f)
refused-now ns v i e es d ds f h = ap (λ o. refused_at i o (refused_from ns (edited v d) (i + 1) es ds)) h

-- the next of the edits ahead
module _ (old view : Seen) (all ahead : List Edit) (index : ℕ) (e d : Edit) (stands : HoldingStands) (replays : ReplayStands) (h : Applied old view all ahead index) (is : e ≡ get_or ahead 0 d) (some : 1 ≤ length ahead) where
  split : h.begun ++ e ∷ rest_of ahead ≡ all
  split = ap (λ es. h.begun ++ es) (sym (opened e d ahead is some)) ∙ h.whole

  pub applied-next : (new : Seen) → Accepts view e → Applies view e new
      → new.nodes_made ≡ view.nodes_made + nodes_made (e ∷ []) → new.lines_made ≡ view.lines_made + length (anchors_of 0 (e ∷ []))
      → Applied old new all (rest_of ahead) (index + 1)
  applied-next new accepts applies nodes lines = record {
    begun = h.begun ++ e ∷ [];
    whole = append_assoc h.begun (e ∷ []) (rest_of ahead) ∙ split;
    counted = let before = h.counted in let l = length-append h.begun (e ∷ []) in omega (arith, before, l);
    takes = λ history s here.
        subst (λ ss. IsOpen history (record { name = s.name; side = s.side; session = record { base = s.session.base; choice = s.session.choice; ambition = s.session.ambition; edits = ss }; view = new }))
        (sym (map-append (sided True) h.begun (e ∷ [])))
        (open-after history (with_work s h.begun view) e stands replays (h.takes history s here) True new (omega arith) refl accepts applies nodes lines);
    nodes = nodes ∙ ap (λ k. k + nodes_made (e ∷ [])) h.nodes ∙ sym (nodes-append h.begun (e ∷ []));
    lines = lines ∙ ap (λ k. k + length (anchors_of 0 (e ∷ []))) h.lines ∙ sym (ap length (anchors-append 0 h.begun (e ∷ [])) ∙ length-append (anchors_of 0 h.begun) (anchors_of 0 (e ∷ [])));
  }

  -- if it is refused, it is the first that is lost
  lost-first : (history : List Command) (s : SessionValue) (f : EditFault) → IsOpen history (with_work s h.begun view)
      → refusal (numbers_at_base history s.session) (seen (with_work s h.begun view).session history) e ≡ Some f → first_lost history s.session all ≡ Some (faults.EditLost index)
  lost-first history s f here refuses =
      let begun : edits_of (with_work s h.begun view).session ≡ h.begun = unsided-on_side True h.begun in
      ap (first_lost history s.session) (sym split)
      ∙ ap (λ es. first_lost history s.session (es ++ e ∷ rest_of ahead)) (sym begun)
      ∙ ap as_lost (first-refused history (with_work s h.begun view) (e ∷ rest_of ahead) stands replays here ∙ refused-now (numbers_at_base history s.session) (seen (with_work s h.begun view).session history) (length (edits_of (with_work s h.begun view).session)) e (rest_of ahead) _ _ f refuses)
      ∙ ap (λ i. Some (faults.EditLost i)) (ap length begun ∙ sym h.counted)

  pub lost-by : (f : EditFault) → Refuses f view e → (history : List Command) (s : SessionValue) → IsOpen history (with_work s [] old) → IsAdditionFault (by_loss index f) (first_lost history s.session all)
  lost-by f refuses history s here =
      let later = h.takes history s here in
      loss-by f (refusal (numbers_at_base history s.session) (seen (with_work s h.begun view).session history) e) (first_lost history s.session all) index (lost-first history s f later) (refuses _ _ _ later.shows)

-- a fault that is wanted is why nothing comes
as-refusal : {X : Type 0} (fault : SessionFault) (wanted : Option SessionFault) (x : X) → IsAdditionFault fault wanted → IsSessionFaultOf (unless wanted x) fault
as-refusal faults.Memory wanted x h = tt
as-refusal (faults.Edit edit_faults.Memory) wanted x h = h
as-refusal fault wanted x h = ap (λ o. unless o x) h

-- where an edit is lost, this is why the session isn't refreshed
pub loss-refused : (history : List Command) (s : Session) (choice : List Bool) (fault : SessionFault) → completed_in history (enumerate_from 0 s.choice) ≡ Complete choice
    → IsAdditionFault fault (first_lost history (rebased s (length history) choice) (edits_of s)) → IsSessionFaultOf (refreshed history s) fault
loss-refused history s choice fault completed h =
    subst (λ answer. IsSessionFaultOf (refreshed_on history s answer) fault) (sym completed)
    (as-refusal fault (as_lost (first_refused (numbers_of history) (replay choice history) (edits_of s))) (rebased s (length history) choice)
    (subst (λ h. IsAdditionFault fault (as_lost (first_refused (numbers_of h) (replay choice h) (edits_of s)))) (take-length history) h))

-- a session whose edits are all accepted there is refreshed
pub refreshed-is : (history : List Command) (s : Session) (choice : List Bool) → completed_in history (enumerate_from 0 s.choice) ≡ Complete choice → IsGood history (rebased s (length history) choice)
    → refreshed history s ≡ Ok (rebased s (length history) choice)
refreshed-is history s choice completed good =
    let accepted : first_refused (numbers_of history) (replay choice history) (edits_of s) ≡ None =
    ap (λ h. first_refused (numbers_of h) (replay choice h) (edits_of s)) (sym (take-length history)) ∙ good.accepted in
    ap (refreshed_on history s) completed ∙ ap (λ o. unless (as_lost o) (rebased s (length history) choice)) accepted

-- a session on a choice now that meets the constraints, within its ambition and its sides
module _ (history : List Command) (s : SessionValue) (choice : List Bool) (view : Seen) (nodes : view.nodes_made ≡ 0) (lines : view.lines_made ≡ 0) (count : length choice ≡ option_count history)
    (named : IsInReach (option_count history) s) (valid : first_false_in history choice ≡ None) (inside : IsInside s choice)
    (shows : Shows (numbers_of history) (numbers_of history).addresses view (replay choice history)) where
  abbrev pub now : SessionValue
  now = record { name = s.name; side = s.side; session = rebased s.session (length history) choice; view = view }

  -- it is open without edits
  pub begins-again : IsOpen history (with_work now [] view)
  begins-again =
      open-first history s.name (length history) choice s.session.ambition s.side [] view refl refl nodes lines count (ambition-low (option_count history) s.session.ambition s.session.edits named.in_reach)
      valid inside.in_ambition named.side_in_reach inside.in_side shows

  -- if it is open with its edits on no side, it is so with them on their sides
  pub goes-on : (es : List Edit) (new : Seen) → es ≡ edits_of s.session → IsOpen history (with_work now es new)
      → IsOpen history (record { name = s.name; side = s.side; session = rebased s.session (length history) choice; view = new })
  goes-on es new own here = record {
    good = record {
      within = here.good.within;
      of_all_options = here.good.of_all_options;
      valid = here.good.valid;
      in_ambition = here.good.in_ambition;
      in_sides = inside.in_sides;
      in_reach = subst (λ h. reach_within s.session.ambition s.session.edits ≤ option_count h) (sym (take-length history)) named.in_reach;
      accepted = ap (first_refused ns base) same ∙ here.good.accepted;
    };
    side_in_reach = here.side_in_reach;
    in_side = here.in_side;
    shows = subst (λ fs. Shows ns (numbers_after ns fs).addresses new (fold edited base (numbered ns fs))) (sym same) here.shows;
    nodes = here.nodes ∙ ap nodes_made (sym same);
    lines = here.lines ∙ ap (λ fs. length (anchors_of 0 fs)) (sym same);
  }
    where
      ns : Numbers
      ns = numbers_at_base history now.session

      base : Variant
      base = replay choice (take (length history) history)

      same : edits_of s.session ≡ edits_of (with_work now es new).session
      same = sym own ∙ sym (unsided-on_side True es)

-- a session that is open at a later base is so by an equal history, base and session
pub open-at : (h g : List Command) (s t : SessionValue) (choice : List Bool) (view : Seen) (base : ℕ) → g ≡ h → base ≡ length g → t ≡ s
    → IsOpen g (record { name = s.name; side = s.side; session = rebased s.session (length g) choice; view = view })
    → IsOpen h (record { name = t.name; side = t.side; session = rebased t.session base choice; view = view })
open-at h g s t choice view base same at is here =
    subst (λ k. IsOpen k (record { name = t.name; side = t.side; session = rebased t.session base choice; view = view })) same
    (subst (λ b. IsOpen g (record { name = t.name; side = t.side; session = rebased t.session b choice; view = view })) (sym at)
    (subst (λ (u : SessionValue). IsOpen g (record { name = u.name; side = u.side; session = rebased u.session (length g) choice; view = view })) (sym is) here))
