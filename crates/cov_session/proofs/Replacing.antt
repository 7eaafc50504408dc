-- A line that is replaced: another is inserted directly after it, and then it is deleted.
use Rattle.std.proofs.Common.{◌≡◌, ◌∙◌, refl, sym, ap, subst, ℕ, ◌+◌, ◌<◌, ◌≤◌, Bool, true, false, ◌||◌, not, List, [], ◌∷◌, ◌++◌, append_assoc, append-nil, length, length-append, take, Option, Some, None, option_map, arith}
use Rattle.std.specs.List.{fold}
use Rattle.cov_base.specs.Addresses.{with_lines}
use Rattle.cov_base.specs.declared.number.NodeRef.{NodeRef}
use Rattle.cov_base.specs.declared.number.LineRef.{LineRef}
use Rattle.cov_base.specs.declared.number.LineRef.TheVariants as lines
use Rattle.cov_base.specs.declared.limits.TheConstants.{LIMITS}
use Rattle.cov_edit.specs.declared.edit.Edit.{Edit}
use Rattle.cov_edit.specs.declared.edit.Edit.TheVariants as edits
use Rattle.cov_edit.specs.declared.command.Command.{Command}
use Rattle.cov_edit.specs.History.{text_bytes}
use Rattle.cov_edit.specs.Numbering.{Numbers, NumberedEdit, node_number, nodes_made, anchors_of, numbers_after, numbered_from, numbered}
use Rattle.cov_edit.specs.Replay.{replay}
use Rattle.cov_edit.specs.Variant.{Variant, edited}
use Rattle.cov_edit.proofs.CallerLemmas.{anchors-append, numbered-append, bytes-append}
use Rattle.cov_view.specs.References.{is_head}
use Rattle.cov_view.specs.Refusals.{when, first_of, shows_node, is_dir, shows_line, refusal, refused_at, refused_from, first_refused}
use Rattle.cov_view.specs.Seen.{Seen}
use Rattle.cov_view.specs.Views.{table_after, next_by_number, FaultBy}
use Rattle.cov_view.specs.declared.fault.EditFault.{EditFault}
use Rattle.cov_view.specs.declared.fault.EditFault.TheVariants as edit_faults
use Rattle.cov_history.specs.KeptLaws.{HoldingStands}
use Rattle.cov_history.specs.Laws.{ReplayStands}
use Rattle.cov_history.specs.Sessions.{edits_of, seen}
use Rattle.cov_session.specs.Adding.{on_side, with_edits, as_fault, addition_fault, IsAdditionFault}
use Rattle.cov_session.specs.Faults.{by_edit}
use Rattle.cov_session.specs.Open.{SessionValue, IsOpen, numbers_at_base, table_of}
use Rattle.cov_session.specs.declared.fault.SessionFault.TheVariants as faults
use Rattle.cov_engine.proofs.CallerLemmas.{Accepts, Applies}
use Rattle.cov_session.proofs.Adding.{refused-behind, is-table, first-refused, by-first, by-fault, by-edit, fault-at, no-fault-at, refused-as, seen-after, open-after}

-- a refused edit stays the first with more edits behind it
refused-stays : (ns : Numbers) (v : Variant) (k : ℕ) (es fs : List Edit) (ds gs : List NumberedEdit) (r : ℕ × EditFault)
    → refused_from ns v k es ds ≡ Some r → refused_from ns v k (es ++ fs) (ds ++ gs) ≡ Some r
refused-stays ns v k [] fs ds gs r h = absurd (cc)
refused-stays ns v k (e ∷ es) fs [] gs r h = absurd (cc)
refused-stays ns v k (e ∷ es) fs (d ∷ ds) gs r h = at (refusal ns v e) (λ m. refused-stays ns (edited v d) (k + 1) es fs ds gs r m) h
  where
    at : (o : Option EditFault) → (refused_from ns (edited v d) (k + 1) es ds ≡ Some r → refused_from ns (edited v d) (k + 1) (es ++ fs) (ds ++ gs) ≡ Some r)
        → refused_at k o (refused_from ns (edited v d) (k + 1) es ds) ≡ Some r → refused_at k o (refused_from ns (edited v d) (k + 1) (es ++ fs) (ds ++ gs)) ≡ Some r
    at None rest m = rest m
    at (Some f) rest m = m

module _ (history : List Command) (s : SessionValue) (file : NodeRef) (line : LineRef) (text : List ℕ) (room : length (edits_of s.session) + 2 ≤ LIMITS.edits)
    (light : text_bytes (edits_of s.session ++ edits.Insert file line text ∷ []) ≤ LIMITS.commit_bytes) (stands : HoldingStands) (replays : ReplayStands) (here : IsOpen history s) where
  abbrev insert : Edit
  insert = edits.Insert file line text

  abbrev delete : Edit
  delete = edits.Delete file line

  abbrev ns : Numbers
  ns = numbers_at_base history s.session

  abbrev base : Variant
  base = replay s.session.choice (take s.session.base history)

  abbrev v : Variant
  v = seen s.session history

  abbrev one : List Edit
  one = edits_of s.session ++ insert ∷ []

  abbrev table : List (List ℕ)
  table = (numbers_after ns one).addresses

  abbrev more : List NumberedEdit
  more = numbered_from ns table (ns.nodes + nodes_made one) (length ns.addresses + length (anchors_of (length ns.addresses) one)) (delete ∷ [])

  both-is : edits_of s.session ++ insert ∷ delete ∷ [] ≡ one ++ delete ∷ []
  both-is = sym (append_assoc (edits_of s.session) (insert ∷ []) (delete ∷ []))

  -- a deletion has no line of its own
  numbered-both : numbered ns (one ++ delete ∷ []) ≡ numbered ns one ++ more
  numbered-both =
      ap (λ anchors. numbered_from ns (with_lines ns.addresses anchors) ns.nodes (length ns.addresses) (one ++ delete ∷ []))
      (anchors-append (length ns.addresses) one (delete ∷ []) ∙ append-nil (anchors_of (length ns.addresses) one))
      ∙ numbered-append ns table ns.nodes (length ns.addresses) _ _ (length ns.addresses) one (delete ∷ []) refl refl

  one-fits : length one ≤ LIMITS.edits
  one-fits = let l = length-append (edits_of s.session) (insert ∷ []) in omega (arith, l, room)

  one-room : length (edits_of s.session) < LIMITS.edits
  one-room = omega (arith, room)

  by-both : addition_fault history s.session (insert ∷ delete ∷ []) ≡ as_fault (first_refused ns base (one ++ delete ∷ []))
  by-both =
      let l = length-append (edits_of s.session) (insert ∷ delete ∷ []) in
      let sum = ap text_bytes both-is ∙ bytes-append one (delete ∷ []) in
      by-first history s.session (insert ∷ delete ∷ []) (omega (arith, l, room)) (omega (arith, sum, light)) ∙ ap (λ es. as_fault (first_refused ns base es)) both-is

  -- where the insertion is refused, so are both
  first-refuses : (f : EditFault) → addition_fault history s.session (insert ∷ []) ≡ Some (faults.Edit f) → addition_fault history s.session (insert ∷ delete ∷ []) ≡ Some (faults.Edit f)
  first-refuses f h = by-both ∙ at (first_refused ns base one) refl (sym (by-first history s.session (insert ∷ []) one-fits light) ∙ h)
    where
      at : (o : Option (ℕ × EditFault)) → first_refused ns base one ≡ o → as_fault o ≡ Some (faults.Edit f) → as_fault (first_refused ns base (one ++ delete ∷ [])) ≡ Some (faults.Edit f)
      at None e k = absurd (cc)
      at (Some r) e k = ap as_fault (ap (refused_from ns base 0 (one ++ delete ∷ [])) numbered-both ∙ refused-stays ns base 0 one (delete ∷ []) (numbered ns one) more r e) ∙ k

  pub both-refused : (f : EditFault) → FaultBy f (refusal ns v insert) → IsAdditionFault (by_edit f) (addition_fault history s.session (insert ∷ delete ∷ []))
  both-refused f h =
      by-fault f (refusal ns v insert) (addition_fault history s.session (insert ∷ delete ∷ []))
      (λ is. first-refuses f (refused-as history s insert stands replays here one-room light f is)) h

  -- the variant with the insertion
  abbrev inserted : Variant
  inserted = fold edited v (next_by_number ns (table_of history s.session) s.view insert)

  -- where it isn't, the deletion decides
  after-first : refusal ns v insert ≡ None → addition_fault history s.session (insert ∷ delete ∷ []) ≡ as_fault (refused_at (length one) (refusal ns inserted delete) None)
  after-first h =
      let first : first_refused ns base one ≡ None = first-refused history s (insert ∷ []) stands replays here ∙ ap (λ o. refused_at (length (edits_of s.session)) o None) h in
      by-both
      ∙ ap as_fault (ap (refused_from ns base 0 (one ++ delete ∷ [])) numbered-both ∙ refused-behind ns base 0 (length one) table ns.nodes (length ns.addresses) one (delete ∷ []) more (omega arith) first)
      ∙ ap (λ w. as_fault (refused_at (length one) (refusal ns w delete) None)) (seen-after history s insert stands replays here)

  -- where neither is refused, both are taken
  pub both-accepted : (view : Seen) → Accepts s.view insert → Applies s.view insert view → Accepts view delete → addition_fault history s.session (insert ∷ delete ∷ []) ≡ None
  both-accepted view accepts applies second =
      after-first (accepts ns (table_of history s.session) v here.shows) ∙ no-fault-at (length one) (refusal ns inserted delete)
      (second ns (table_after ns (table_of history s.session) insert) inserted (applies ns (table_of history s.session) v (is-table history s.session stands) here.shows))

  -- a session that took both is open
  pub both-open : (view last : Seen) → Accepts s.view insert → Applies s.view insert view
      → view.nodes_made ≡ s.view.nodes_made + nodes_made (insert ∷ []) → view.lines_made ≡ s.view.lines_made + length (anchors_of 0 (insert ∷ []))
      → Accepts view delete → Applies view delete last → last.nodes_made ≡ view.nodes_made → last.lines_made ≡ view.lines_made
      → IsOpen history (record { name = s.name; side = s.side; session = with_edits s.session (on_side s.side (insert ∷ delete ∷ [])); view = last })
  both-open view last accepts applies nodes lines_same second deletes nodes_then lines_then =
      subst (λ ss. IsOpen history (record { name = s.name; side = s.side; session = record { base = s.session.base; choice = s.session.choice; ambition = s.session.ambition; edits = ss }; view = last }))
      (append_assoc s.session.edits (on_side s.side (insert ∷ [])) (on_side s.side (delete ∷ [])))
      (open-after history (record { name = s.name; side = s.side; session = with_edits s.session (on_side s.side (insert ∷ [])); view = view }) delete stands replays
      (open-after history s insert stands replays here s.side view here.side_in_reach here.in_side accepts applies nodes lines_same)
      s.side last here.side_in_reach here.in_side second deletes (omega (arith, nodes_then)) (omega (arith, lines_then)))

  abbrev n : ℕ
  n = node_number ns.nodes file

  -- the head isn't deleted
  pub head-refused : is_head line ≡ true → (f : EditFault) → refusal ns v (edits.Delete file (lines.Old 0)) ≡ Some f → IsAdditionFault (by_edit f) (addition_fault history s.session (insert ∷ delete ∷ []))
  head-refused head f h = by-edit f (addition_fault history s.session (insert ∷ delete ∷ [])) (at (not (shows_node ns v file)) (is_dir v.rows n) refl refl h)
    where
      at : (a b : Bool) → not (shows_node ns v file) ≡ a → is_dir v.rows n ≡ b → first_of (when a edit_faults.NoSuchNode ∷ when b edit_faults.NotFile ∷ Some edit_faults.NoSuchLine ∷ []) ≡ Some f
          → addition_fault history s.session (insert ∷ delete ∷ []) ≡ Some (faults.Edit f)
      at true b d e k =
          first-refuses f
          (refused-as history s insert stands replays here one-room light f
          (ap (λ x. first_of (when x edit_faults.NoSuchNode ∷ when (is_dir v.rows n) edit_faults.NotFile ∷ when (not (is_head line || shows_line ns v n line)) edit_faults.NoSuchLine ∷ [])) d ∙ k))
      at false true d e k =
          first-refuses f
          (refused-as history s insert stands replays here one-room light f
          (ap (λ x. first_of (when x edit_faults.NoSuchNode ∷ when (is_dir v.rows n) edit_faults.NotFile ∷ when (not (is_head line || shows_line ns v n line)) edit_faults.NoSuchLine ∷ [])) d
          ∙ ap (λ y. first_of (when y edit_faults.NotFile ∷ when (not (is_head line || shows_line ns v n line)) edit_faults.NoSuchLine ∷ [])) e ∙ k))
      at false false d e k =
          let accepts : refusal ns v insert ≡ None =
          ap (λ x. first_of (when x edit_faults.NoSuchNode ∷ when (is_dir v.rows n) edit_faults.NotFile ∷ when (not (is_head line || shows_line ns v n line)) edit_faults.NoSuchLine ∷ [])) d
          ∙ ap (λ y. first_of (when y edit_faults.NotFile ∷ when (not (is_head line || shows_line ns v n line)) edit_faults.NoSuchLine ∷ [])) e
          ∙ ap (λ z. first_of (when (not (z || shows_line ns v n line)) edit_faults.NoSuchLine ∷ [])) head in
          let second = after-first accepts in
          let refuses : refusal ns inserted delete ≡ Some edit_faults.NoSuchLine =
          ap (λ x. first_of (when x edit_faults.NoSuchNode ∷ when (is_dir v.rows n) edit_faults.NotFile ∷ when (is_head line || not (shows_line ns inserted n line)) edit_faults.NoSuchLine ∷ [])) d
          ∙ ap (λ y. first_of (when y edit_faults.NotFile ∷ when (is_head line || not (shows_line ns inserted n line)) edit_faults.NoSuchLine ∷ [])) e
          ∙ ap (λ z. first_of (when (z || not (shows_line ns inserted n line)) edit_faults.NoSuchLine ∷ [])) head in
          second ∙ fault-at (length one) (refusal ns inserted delete) edit_faults.NoSuchLine refuses ∙ ap (option_map (λ g. faults.Edit g)) k
