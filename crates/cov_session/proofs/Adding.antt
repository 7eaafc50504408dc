-- One edit more in a session.
use Rattle.std.proofs.Common.{◌≡◌, ◌∙◌, refl, sym, ap, subst, ℕ, ◌+◌, ◌<◌, ◌≤◌, true, false, nat_lt, List, [], ◌∷◌, ◌++◌, length, length-append, take, Option, Some, None, arith}
use Rattle.std.proofs.lemmas.Bool.Decides.{nat_tests}
use Rattle.std.proofs.lemmas.List.{length_push}
use Rattle.std.specs.List.{fold, cons_option}
use Rattle.cov_base.specs.Addresses.{address_in, with_lines, IsTable}
use Rattle.cov_base.proofs.CallerLemmas.{length-with_lines, address_in-with_lines}
use Rattle.cov_base.specs.declared.limits.TheConstants.{LIMITS}
use Rattle.cov_edit.specs.declared.edit.Edit.{Edit}
use Rattle.cov_edit.specs.declared.edit.Edit.TheVariants as edits
use Rattle.cov_edit.specs.declared.command.Command.{Command}
use Rattle.cov_edit.specs.declared.command.Command.TheVariants as commands
use Rattle.cov_edit.specs.History.{option_count, text_bytes}
use Rattle.cov_edit.specs.Numbering.{Numbers, NumberedEdit, Inserted, Deleted, node_count_after, line_count_after, anchor_of, numbered_edit, no_numbers, node_number, line_number, nodes_made, anchors_of, numbers_after, numbered_from, numbered}
use Rattle.cov_edit.specs.Variant.{Variant, edited}
use Rattle.cov_edit.specs.Replay.{replay}
use Rattle.cov_edit.proofs.CallerLemmas.{line_count_after-is, anchors-append, nodes-append, with_lines-append, numbered-append, bytes-append, fold-append, numbers_from-append}
use Rattle.cov_expr.specs.Formula.{Formula, False, reach, value}
use Rattle.cov_view.specs.Refusals.{refusal, refused_at, refused_from, first_refused}
use Rattle.cov_view.specs.Seen.{Seen}
use Rattle.cov_view.specs.Views.{Shows, table_after, next_by_number, FaultBy}
use Rattle.cov_view.specs.declared.fault.EditFault.{EditFault}
use Rattle.cov_view.specs.declared.fault.EditFault.TheVariants as edit_faults
use Rattle.cov_history.specs.KeptLaws.{HoldingStands}
use Rattle.cov_history.specs.Laws.{ReplayStands}
use Rattle.cov_history.specs.Sessions.{Session, edits_of, seen}
use Rattle.cov_history.proofs.CallerLemmas.{edit-accepted, rest-accepted}
use Rattle.cov_session.specs.Adding.{on_side, with_edits, as_fault, addition_fault, IsAdditionFault}
use Rattle.cov_session.specs.Faults.{by_edit}
use Rattle.cov_session.specs.Open.{SessionValue, IsOpen, numbers_at_base, table_of}
use Rattle.cov_session.specs.declared.fault.SessionFault.{SessionFault}
use Rattle.cov_session.specs.declared.fault.SessionFault.TheVariants as faults
use Rattle.cov_engine.proofs.CallerLemmas.{Accepts, Applies}
use Rattle.cov_view.proofs.CallerLemmas.{first-not_when, first-when, first-one, fault-by}
use Rattle.cov_session.proofs.DeletesWithin.{DeleteWithin, DeletesWithin, deletes-within, replay-within}
use Rattle.cov_session.proofs.Sided.{edits-grown, reach-grown, true-grown}

-- an edit is the same by another table in which its lines have the same addresses
edit-same : (ns : Numbers) (t u : List (List ℕ)) (node line m most : ℕ) (e : Edit) (ms : List ℕ) → ((x : ℕ) → x ≤ most → address_in u x ≡ address_in t x) → line + length (cons_option (anchor_of m e) ms) ≤ most
    → DeleteWithin (length ns.addresses) most e → numbered_edit ns u node line e ≡ numbered_edit ns t node line e
edit-same ns t u node line m most (edits.New kind parent name) ms same h made = refl
edit-same ns t u node line m most (edits.Insert file after text) ms same h made = ap (λ a. Inserted (node_number ns.nodes file) a text) (same (line + 1) (omega (arith, h)))
edit-same ns t u node line m most (edits.Delete file which) ms same h made = ap (λ a. Deleted (node_number ns.nodes file) a) (same (line_number (length ns.addresses) which) made)
edit-same ns t u node line m most (edits.Rename which name) ms same h made = refl
edit-same ns t u node line m most (edits.Move which parent) ms same h made = refl
edit-same ns t u node line m most (edits.Remove which) ms same h made = refl

-- so are edits
numbered-same : (ns : Numbers) (t u : List (List ℕ)) (node line m most : ℕ) (es : List Edit) → ((x : ℕ) → x ≤ most → address_in u x ≡ address_in t x)
    → line + length (anchors_of m es) ≤ most → DeletesWithin (length ns.addresses) most es → numbered_from ns u node line es ≡ numbered_from ns t node line es
numbered-same ns t u node line m most [] same h made = refl
numbered-same ns t u node line m most (e ∷ es) same h made =
    let counted = line_count_after-is line m e (anchors_of m es) in
    ap (λ d. d ∷ numbered_from ns u (node_count_after node e) (line_count_after line e) es) (edit-same ns t u node line m most e (anchors_of m es) same h made.0)
    ∙ ap (λ ds. numbered_edit ns t node line e ∷ ds) (numbered-same ns t u (node_count_after node e) (line_count_after line e) m most es same (omega (arith, h, counted)) made.1)

module _ (ns : Numbers) (es fs : List Edit) where
  abbrev n : ℕ
  n = length ns.addresses

  abbrev table : List (List ℕ)
  table = (numbers_after ns es).addresses

  abbrev longer : List (List ℕ)
  longer = (numbers_after ns (es ++ fs)).addresses

  pub longer-split : longer ≡ with_lines table (anchors_of n fs)
  longer-split = ap (with_lines ns.addresses) (anchors-append n es fs) ∙ with_lines-append ns.addresses (anchors_of n es) (anchors_of n fs)

  pub table-length : length table ≡ n + length (anchors_of n es)
  table-length = length-with_lines ns.addresses (anchors_of n es)

  -- edits and others behind them are numbered as the edits are, and then the others
  pub numbered-behind : (made : ℕ) → made ≡ nodes_made es → DeletesWithin n (length table) es
      → numbered ns (es ++ fs) ≡ numbered ns es ++ numbered_from ns longer (ns.nodes + made) (length table) fs
  numbered-behind made is within =
      let k : ns.nodes + made ≡ ns.nodes + nodes_made es = omega (arith, is) in
      numbered-append ns longer ns.nodes n (ns.nodes + made) (length table) n es fs k table-length
      ∙ ap (λ ds. ds ++ numbered_from ns longer (ns.nodes + made) (length table) fs)
      (numbered-same ns table longer ns.nodes n n (length table) es
      (λ x h. ap (λ t. address_in t x) longer-split ∙ address_in-with_lines table (anchors_of n fs) x h)
      (omega (arith, table-length)) within)

module _ (ns : Numbers) (es : List Edit) (e : Edit) where
  one-anchor : (t : List (List ℕ)) (f : Edit) → with_lines t (anchors_of (length ns.addresses) (f ∷ [])) ≡ table_after ns t f
  one-anchor t (edits.New kind parent name) = refl
  one-anchor t (edits.Insert file after text) = refl
  one-anchor t (edits.Delete file line) = refl
  one-anchor t (edits.Rename node name) = refl
  one-anchor t (edits.Move node parent) = refl
  one-anchor t (edits.Remove node) = refl

  pub longer-is : (numbers_after ns (es ++ e ∷ [])).addresses ≡ table_after ns (numbers_after ns es).addresses e
  longer-is = longer-split ns es (e ∷ []) ∙ one-anchor (numbers_after ns es).addresses e

  -- the edits with one more are those before and the next
  pub numbered-next : (s : Seen) → s.nodes_made ≡ nodes_made es → DeletesWithin (length ns.addresses) (length (numbers_after ns es).addresses) es
      → numbered ns (es ++ e ∷ []) ≡ numbered ns es ++ next_by_number ns (numbers_after ns es).addresses s e
  numbered-next s made within =
      numbered-behind ns es (e ∷ []) s.nodes_made made within
      ∙ ap (λ t. numbered ns es ++ numbered_from ns t (ns.nodes + s.nodes_made) (length (numbers_after ns es).addresses) (e ∷ [])) longer-is

-- after an accepted edit, the first refused is among those after it
skip-accepted : (k : ℕ) (o : Option EditFault) (later : Option (ℕ × EditFault)) → o ≡ None → refused_at k o later ≡ later
skip-accepted k o later h = ap (λ x. refused_at k x later) h

-- after accepted edits, the first refused is among those behind them
pub refused-behind : (ns : Numbers) (v : Variant) (k i : ℕ) (t : List (List ℕ)) (node line : ℕ) (es fs : List Edit) (gs : List NumberedEdit) → i ≡ k + length es
    → refused_from ns v k es (numbered_from ns t node line es) ≡ None
    → refused_from ns v k (es ++ fs) (numbered_from ns t node line es ++ gs) ≡ refused_from ns (fold edited v (numbered_from ns t node line es)) i fs gs
refused-behind ns v k i t node line [] fs gs is h = let same : k ≡ i = omega (arith, is) in ap (λ j. refused_from ns v j fs gs) same
refused-behind ns v k i t node line (e ∷ es) fs gs is h =
    skip-accepted k (refusal ns v e) _ (edit-accepted k (refusal ns v e) _ h)
    ∙ refused-behind ns (edited v (numbered_edit ns t node line e)) (k + 1) i t (node_count_after node e) (line_count_after line e) es fs gs (omega (arith, is))
    (rest-accepted k (refusal ns v e) _ h)

-- the table of a session is one
pub is-table : (history : List Command) (s : Session) → HoldingStands → IsTable (table_of history s)
is-table history s stands =
    subst (λ ns. IsTable ns.addresses) (numbers_from-append no_numbers (take s.base history) (commands.Commit 0 [] False s.edits ∷ []))
    (stands (take s.base history ++ commands.Commit 0 [] False s.edits ∷ [])).0

-- the lines that a session deletes are made
pub session-deletes : (history : List Command) (s : SessionValue) → HoldingStands → ReplayStands → IsOpen history s
    → DeletesWithin (length (numbers_at_base history s.session).addresses) (length (table_of history s.session)) (edits_of s.session)
session-deletes history s stands replays here =
    let ns : Numbers = numbers_at_base history s.session in
    let made = length-with_lines ns.addresses (anchors_of (length ns.addresses) (edits_of s.session)) in
    deletes-within ns (table_of history s.session) ns.nodes (length ns.addresses) 0 (length ns.addresses) (replay s.session.choice (take s.session.base history)) (edits_of s.session)
    (is-table history s.session stands) (omega (arith, made))
    (replay-within s.session.choice (take s.session.base history) (length (table_of history s.session)) stands replays (omega (arith, made))) here.good.accepted

-- edits behind those of a session, by numbers
abbrev pub numbered_more : List Command → SessionValue → List Edit → List NumberedEdit
numbered_more history s es =
    let ns = numbers_at_base history s.session in
    numbered_from ns (numbers_after ns (edits_of s.session ++ es)).addresses (ns.nodes + s.view.nodes_made) (length (table_of history s.session)) es

-- the first refused edit of a session with more is the first of these that what it sees refuses
pub first-refused : (history : List Command) (s : SessionValue) (es : List Edit) → HoldingStands → ReplayStands → IsOpen history s
    → first_refused (numbers_at_base history s.session) (replay s.session.choice (take s.session.base history)) (edits_of s.session ++ es)
    ≡ refused_from (numbers_at_base history s.session) (seen s.session history) (length (edits_of s.session)) es (numbered_more history s es)
first-refused history s es stands replays here =
    let ns : Numbers = numbers_at_base history s.session in
    let v : Variant = replay s.session.choice (take s.session.base history) in
    ap (refused_from ns v 0 (edits_of s.session ++ es)) (numbered-behind ns (edits_of s.session) es s.view.nodes_made here.nodes (session-deletes history s stands replays here))
    ∙ refused-behind ns v 0 (length (edits_of s.session)) (table_of history s.session) ns.nodes (length ns.addresses) (edits_of s.session) es (numbered_more history s es) (omega arith) here.good.accepted

pub fault-at : (i : ℕ) (o : Option EditFault) (f : EditFault) → o ≡ Some f → as_fault (refused_at i o None) ≡ Some (faults.Edit f)
fault-at i None f h = absurd (cc)
fault-at i (Some g) f h = ap (λ x. as_fault (refused_at i x None)) h

pub no-fault-at : (i : ℕ) (o : Option EditFault) → o ≡ None → as_fault (refused_at i o None) ≡ None
no-fault-at i o h = ap (λ x. as_fault (refused_at i x None)) h

-- what a view refuses is the fault that is wanted, where the refusal says so, unless memory is wanting
pub by-fault : (f : EditFault) (refused : Option EditFault) (wanted : Option SessionFault) → (refused ≡ Some f → wanted ≡ Some (faults.Edit f)) → FaultBy f refused → IsAdditionFault (by_edit f) wanted
by-fault edit_faults.Memory refused wanted g h = tt
by-fault f refused wanted g h = g h

pub by-edit : (f : EditFault) (wanted : Option SessionFault) → wanted ≡ Some (faults.Edit f) → IsAdditionFault (by_edit f) wanted
by-edit f wanted h = by-fault f (Some f) wanted (λ e. h) (fault-by f (Some f) refl)

-- too many edits
pub refused-many : (history : List Command) (s : Session) (es : List Edit) (k : ℕ) → length es ≡ k → LIMITS.edits < length (edits_of s) + k → addition_fault history s es ≡ Some faults.TooManyEdits
refused-many history s es k is h =
    let l = length-append (edits_of s) es in
    let more : nat_lt LIMITS.edits (length (edits_of s ++ es)) ≡ true = grind (arith, nat_tests, l, is, h) in
    first-when (nat_lt LIMITS.edits (length (edits_of s ++ es))) faults.TooManyEdits _ more

-- too much text
pub refused-heavy : (history : List Command) (s : Session) (es : List Edit) (k b : ℕ) → length es ≡ k → text_bytes es ≡ b → length (edits_of s) + k ≤ LIMITS.edits → LIMITS.commit_bytes < text_bytes (edits_of s) + b
    → addition_fault history s es ≡ Some faults.TooManyBytes
refused-heavy history s es k b is said h heavy =
    let l = length-append (edits_of s) es in
    let sum = bytes-append (edits_of s) es in
    let few : nat_lt LIMITS.edits (length (edits_of s ++ es)) ≡ false = grind (arith, nat_tests, l, is, h) in
    let more : nat_lt LIMITS.commit_bytes (text_bytes (edits_of s ++ es)) ≡ true = grind (arith, nat_tests, sum, said, heavy) in
    first-not_when (nat_lt LIMITS.edits (length (edits_of s ++ es))) faults.TooManyEdits _ few
    ∙ first-when (nat_lt LIMITS.commit_bytes (text_bytes (edits_of s ++ es))) faults.TooManyBytes _ more

-- within the limits, the first refused edit decides
pub by-first : (history : List Command) (s : Session) (es : List Edit) → length (edits_of s ++ es) ≤ LIMITS.edits → text_bytes (edits_of s ++ es) ≤ LIMITS.commit_bytes
    → addition_fault history s es ≡ as_fault (first_refused (numbers_at_base history s) (replay s.choice (take s.base history)) (edits_of s ++ es))
by-first history s es room light =
    let few : nat_lt LIMITS.edits (length (edits_of s ++ es)) ≡ false = grind (arith, nat_tests, room) in
    let less : nat_lt LIMITS.commit_bytes (text_bytes (edits_of s ++ es)) ≡ false = grind (arith, nat_tests, light) in
    first-not_when (nat_lt LIMITS.edits (length (edits_of s ++ es))) faults.TooManyEdits _ few
    ∙ first-not_when (nat_lt LIMITS.commit_bytes (text_bytes (edits_of s ++ es))) faults.TooManyBytes _ less
    ∙ first-one (as_fault (first_refused (numbers_at_base history s) (replay s.choice (take s.base history)) (edits_of s ++ es)))

module _ (history : List Command) (s : SessionValue) (e : Edit) (stands : HoldingStands) (replays : ReplayStands) (here : IsOpen history s) where
  abbrev ns : Numbers
  ns = numbers_at_base history s.session

  abbrev base : Variant
  base = replay s.session.choice (take s.session.base history)

  -- with one edit more, what is seen is the variant after this edit
  pub seen-after : fold edited base (numbered ns (edits_of s.session ++ e ∷ [])) ≡ fold edited (seen s.session history) (next_by_number ns (table_of history s.session) s.view e)
  seen-after =
      ap (fold edited base) (numbered-next ns (edits_of s.session) e s.view here.nodes (session-deletes history s stands replays here))
      ∙ fold-append edited base (numbered ns (edits_of s.session)) (next_by_number ns (table_of history s.session) s.view e)

  -- a session that took an edit is open, if its side names no option beyond the base and is true on the choice
  pub open-after : (side : Formula ℕ) (view : Seen) → reach side ≤ option_count (take s.session.base history) → value side s.session.choice ≡ true → Accepts s.view e → Applies s.view e view
      → view.nodes_made ≡ s.view.nodes_made + nodes_made (e ∷ []) → view.lines_made ≡ s.view.lines_made + length (anchors_of 0 (e ∷ []))
      → IsOpen history (record { name = s.name; side = s.side; session = with_edits s.session (on_side side (e ∷ [])); view = view })
  open-after side view low own accepts applies nodes lines = record {
    good = record {
      within = here.good.within;
      of_all_options = here.good.of_all_options;
      valid = here.good.valid;
      in_ambition = here.good.in_ambition;
      in_sides = true-grown s.session.choice s.session.edits side (e ∷ []) here.good.in_sides own;
      in_reach = reach-grown (option_count (take s.session.base history)) s.session.ambition s.session.edits side (e ∷ []) here.good.in_reach low;
      accepted = ap (first_refused ns base) longer ∙ passes;
    };
    side_in_reach = here.side_in_reach;
    in_side = here.in_side;
    shows = subst (λ es. Shows ns (numbers_after ns es).addresses view (fold edited base (numbered ns es))) (sym longer) shown;
    nodes = nodes ∙ ap (λ k. k + nodes_made (e ∷ [])) here.nodes ∙ sym (nodes-append (edits_of s.session) (e ∷ [])) ∙ ap nodes_made (sym longer);
    lines = lines ∙ ap (λ k. k + length (anchors_of 0 (e ∷ []))) here.lines
        ∙ sym (ap length (anchors-append 0 (edits_of s.session) (e ∷ [])) ∙ length-append (anchors_of 0 (edits_of s.session)) (anchors_of 0 (e ∷ [])))
        ∙ ap (λ es. length (anchors_of 0 es)) (sym longer);
  }
    where
      longer : edits_of (with_edits s.session (on_side side (e ∷ []))) ≡ edits_of s.session ++ e ∷ []
      longer = edits-grown s.session side (e ∷ [])

      none : refusal ns (seen s.session history) e ≡ None
      none = accepts ns (table_of history s.session) (seen s.session history) here.shows

      passes : first_refused ns base (edits_of s.session ++ e ∷ []) ≡ None
      passes = first-refused history s (e ∷ []) stands replays here ∙ ap (λ o. refused_at (length (edits_of s.session)) o None) none

      shown : Shows ns (numbers_after ns (edits_of s.session ++ e ∷ [])).addresses view (fold edited base (numbered ns (edits_of s.session ++ e ∷ [])))
      shown =
          subst (λ t. Shows ns t view (fold edited base (numbered ns (edits_of s.session ++ e ∷ [])))) (sym (longer-is ns (edits_of s.session) e))
          (subst (Shows ns (table_after ns (table_of history s.session) e) view) (sym seen-after)
          (applies ns (table_of history s.session) (seen s.session history) (is-table history s.session stands) here.shows))

  module _ (room : length (edits_of s.session) < LIMITS.edits) (light : text_bytes (edits_of s.session ++ e ∷ []) ≤ LIMITS.commit_bytes) where
    -- within the limits, what the session sees decides
    by-view : addition_fault history s.session (e ∷ []) ≡ as_fault (refused_at (length (edits_of s.session)) (refusal (numbers_at_base history s.session) (seen s.session history) e) None)
    by-view =
        by-first history s.session (e ∷ []) (let l = length_push (edits_of s.session) e in omega (arith, l, room)) light
        ∙ ap as_fault (first-refused history s (e ∷ []) stands replays here)

    pub accepted-by : refusal (numbers_at_base history s.session) (seen s.session history) e ≡ None → addition_fault history s.session (e ∷ []) ≡ None
    accepted-by h = by-view ∙ no-fault-at (length (edits_of s.session)) (refusal (numbers_at_base history s.session) (seen s.session history) e) h

    pub refused-as : (f : EditFault) → refusal (numbers_at_base history s.session) (seen s.session history) e ≡ Some f → addition_fault history s.session (e ∷ []) ≡ Some (faults.Edit f)
    refused-as f h = by-view ∙ fault-at (length (edits_of s.session)) (refusal (numbers_at_base history s.session) (seen s.session history) e) f h

    pub refused-by : (f : EditFault) → FaultBy f (refusal (numbers_at_base history s.session) (seen s.session history) e)
        → IsAdditionFault (by_edit f) (addition_fault history s.session (e ∷ []))
    refused-by f h = by-fault f (refusal (numbers_at_base history s.session) (seen s.session history) e) (addition_fault history s.session (e ∷ [])) (refused-as f) h
