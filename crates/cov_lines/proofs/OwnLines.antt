-- A session's own line does the same in two states that see the session alike.
use Rattle.std.proofs.Common.{◌≡◌, ◌∙◌, refl, sym, ap, ap₂, subst, ℕ, Bool, true, false, nat_lt, List, [], ◌∷◌, length, map, take, Option, Some, None, Result, Ok, Err, ok_or}
use Rattle.std.specs.Prelude.{if◌then◌else◌}
use Rattle.std.specs.Str.{bytes_eq}
use Rattle.cov_base.specs.declared.limits.TheConstants.{MOST_SCRIPT_LINE_BYTES}
use Rattle.cov_base.specs.declared.number.Kind.{Kind}
use Rattle.cov_base.specs.declared.number.Kind.TheVariants as kinds
use Rattle.cov_script.specs.Lines.{form_of}
use Rattle.cov_script.specs.declared.code.Code.TheVariants.{Long, NoSuchPath, NotFile, NotDirectory}
use Rattle.cov_script.specs.Grouping.{grouped}
use Rattle.cov_script.specs.declared.grouped.EditLine.{EditLine}
use Rattle.cov_script.specs.declared.grouped.EditLine.TheVariants as edit_lines
use Rattle.cov_script.specs.declared.grouped.GroupedLine.{GroupedLine}
use Rattle.cov_script.specs.declared.grouped.GroupedLine.TheVariants as groups
use Rattle.cov_script.specs.declared.grouped.Question.{Question}
use Rattle.cov_script.specs.declared.grouped.Question.TheVariants as questions
use Rattle.cov_script.specs.declared.line.Line.{Line}
use Rattle.cov_script.specs.declared.line.LineField.{LineField}
use Rattle.cov_script.specs.declared.line.LineSyntax.{LineSyntax}
use Rattle.cov_script.specs.Replies.{new_line_reply, refused_reply}
use Rattle.cov_edit.specs.declared.command.Command.{Command}
use Rattle.cov_edit.specs.declared.edit.Edit.{Edit}
use Rattle.cov_edit.specs.declared.edit.Edit.TheVariants as edits
use Rattle.cov_edit.specs.History.{options_of}
use Rattle.cov_edit.specs.Numbering.{anchors_of, line_count, numbers_of}
use Rattle.cov_edit.specs.Variant.{lines_of}
use Rattle.cov_view.specs.Listing.{listed}
use Rattle.cov_view.specs.Paths.{path_node}
use Rattle.cov_view.specs.Refusals.{is_dir}
use Rattle.cov_view.specs.Views.{by_number}
use Rattle.cov_session.specs.Adding.{grown}
use Rattle.cov_session.specs.Faults.{unless}
use Rattle.cov_session.specs.Counting.{own_lines}
use Rattle.cov_session.specs.Named.{with_session}
use Rattle.cov_session.specs.Open.{NamedSession}
use Rattle.cov_session.specs.declared.fault.SessionFault.{SessionFault}
use Rattle.cov_codes.specs.Codes.{session_code, syntax_code}
use Rattle.cov_cond.specs.Fitting.{directory_of, last_name}
use Rattle.cov_lines.specs.Editing.{line_ref, node_ref}
use Rattle.cov_lines.specs.Finding.{Found, ◌>>=◌, by_code}
use Rattle.cov_lines.specs.Isolation.{HasSession, SeeAlike, UnsidedSession, asks_in, has_form, is_own, without_sides, works_in}
use Rattle.cov_lines.specs.Replies.{directory_reply, seen_reply}
use Rattle.cov_lines.specs.States.{State, with_sessions}
use Rattle.cov_lines.specs.Step.{Act, Done, acted, added, as_outcome, deleted, inserted, listed_at, made_in, moved, node_at, plainly, ref_at, removed, renamed, replaced, served, served_edit, served_question, shown, step}
use Rattle.cov_lines.proofs.NamedSessions.{same-name}
use Rattle.cov_lines.proofs.OwnActs.{IsNamed, IsQuiet, IsQuietFault, added-is, fault-quiet, fault_on, has-grown, has-named, node-is, node_on, view_on, with_more}

-- two acts are refused by one code, or tell the same and leave states that see a session alike
abbrev pub AreAlike : List ℕ → Act → Act → Type 0
AreAlike name (Ok one) (Ok other) = SeeAlike name one.0 other.0 × (one.1 ≡ other.1)
AreAlike name (Err code) (Err fault) = (code ≡ fault) × IsQuiet code
AreAlike name _ _ = ⊥

-- the same of lines that may write rows
abbrev AreDoneAlike : List ℕ → Found Done → Found Done → Type 0
AreDoneAlike name (Ok one) (Ok other) = SeeAlike name one.state other.state × (one.reply ≡ other.reply)
AreDoneAlike name (Err code) (Err fault) = (code ≡ fault) × IsQuiet code
AreDoneAlike name _ _ = ⊥

module _ (name : List ℕ) (t u : NamedSession) (before : List Command) (one other : State)
    (in_one : IsNamed name t before one) (in_other : IsNamed name u before other) (like : without_sides t ≡ without_sides u) where
  abbrev s : UnsidedSession
  s = without_sides t

  as_before : SeeAlike name one other
  as_before = record {
    session = s;
    before = before;
    in_one = has-named name t before one in_one;
    in_other = subst (λ v. HasSession name v before other) (sym like) (has-named name u before other in_other);
  }

  -- what goes on from a node does so from the same node
  on-node : (path : List (List ℕ)) (f g : NamedSession × ℕ → Act) → ((node : ℕ) → AreAlike name (f (t, node)) (g (u, node)))
      → AreAlike name (node_at one name path >>= f) (node_at other name path >>= g)
  on-node path f g later =
      subst (λ x. AreAlike name (x >>= f) (node_at other name path >>= g)) (sym (node-is name t before one in_one path))
      (subst (λ x. AreAlike name (node_on before t path >>= f) (x >>= g)) (sym (node-is name u before other in_other path))
      (subst (λ v. AreAlike name (found t s >>= f) (found u v >>= g)) like
      (at (path_node (view_on before s).rows 0 path))))
    where
      found : NamedSession → UnsidedSession → Found (NamedSession × ℕ)
      found r v = ok_or (path_node (view_on before v).rows 0 path) NoSuchPath >>= (λ node. Ok (r, node))

      at : (o : Option ℕ) → AreAlike name ((ok_or o NoSuchPath >>= (λ node. Ok (t, node))) >>= f) ((ok_or o NoSuchPath >>= (λ node. Ok (u, node))) >>= g)
      at None = (refl, λ names others. refl)
      at (Some node) = later node

  -- the same edits are added, and the same is told
  on-added : (es fs : List Edit) (reply answer : List ℕ) → es ≡ fs → reply ≡ answer
      → AreAlike name (added one name es >>= (λ next. Ok (next, reply))) (added other name fs >>= (λ next. Ok (next, answer)))
  on-added es fs reply answer same told =
      subst (λ gs. AreAlike name (added one name es >>= (λ next. Ok (next, reply))) (added other name gs >>= (λ next. Ok (next, answer)))) same
      (subst (λ r. AreAlike name (added one name es >>= (λ next. Ok (next, reply))) (added other name es >>= (λ next. Ok (next, r)))) told
      (subst (λ x. AreAlike name (x >>= (λ next. Ok (next, reply))) (added other name es >>= (λ next. Ok (next, reply)))) (sym (added-is name t before one in_one es))
      (subst (λ x. AreAlike name (taking one t (fault_on before s es)) (x >>= (λ next. Ok (next, reply)))) (sym (added-is name u before other in_other es))
      (subst (λ v. AreAlike name (taking one t (fault_on before s es)) (taking other u (fault_on before v es))) like
      (at (fault_on before s es) (fault-quiet _ _ _))))))
    where
      taking : State → NamedSession → Option SessionFault → Act
      taking st v o = (by_code session_code (unless o (with_session st.sessions (grown v es))) >>= (λ ss. Ok (with_sessions st ss))) >>= (λ next. Ok (next, reply))

      alike : SeeAlike name (with_sessions one (with_session one.sessions (grown t es))) (with_sessions other (with_session other.sessions (grown u es)))
      alike = record {
        session = with_more s es;
        before = before;
        in_one = has-grown name t before one in_one es;
        in_other =
            subst (λ v. HasSession name (with_more v es) before (with_sessions other (with_session other.sessions (grown u es)))) (sym like)
            (has-grown name u before other in_other es);
      }

      at : (o : Option SessionFault) → IsQuietFault o → AreAlike name (taking one t o) (taking other u o)
      at None quiet = (alike, refl)
      at (Some fault) quiet = (refl, quiet)

  -- a node is called by the same reference
  ref-same : (node : ℕ) → ref_at one (t, node) ≡ ref_at other (u, node)
  ref-same node = ap (λ h. node_ref (numbers_of h).nodes node) (in_one.same ∙ sym in_other.same)

  -- a new line has the same number
  line-same : new_line_reply (own_lines t.session) ≡ new_line_reply (own_lines u.session)
  line-same = ap (λ (v : UnsidedSession). new_line_reply (length (anchors_of 0 v.edits))) like

  made-alike : (kind : Kind) (path : List (List ℕ)) (own : List ℕ) → AreAlike name (made_in one kind name path own) (made_in other kind name path own)
  unfolding made_in
  made-alike kind path own = on-node path _ _ (λ node. on-added _ _ _ _ (ap (λ r. edits.New kind r own ∷ []) (ref-same node)) refl)

  renamed-alike : (path : List (List ℕ)) (to : List ℕ) → AreAlike name (renamed one name path to) (renamed other name path to)
  unfolding renamed
  renamed-alike path to = on-node path _ _ (λ node. on-added _ _ _ _ (ap (λ r. edits.Rename r to ∷ []) (ref-same node)) refl)

  moved-alike : (path target : List (List ℕ)) → AreAlike name (moved one name path target) (moved other name path target)
  unfolding moved
  moved-alike path target =
      on-node path _ _ (λ node. on-node target _ _ (λ dir. on-added _ _ _ _ (ap₂ (λ r d. edits.Move r d ∷ []) (ref-same node) (ref-same dir)) refl))

  removed-alike : (path : List (List ℕ)) → AreAlike name (removed one name path) (removed other name path)
  unfolding removed
  removed-alike path = on-node path _ _ (λ node. on-added _ _ _ _ (ap (λ r. edits.Remove r ∷ []) (ref-same node)) refl)

  inserted-alike : (path : List (List ℕ)) (line : LineField) (text : List ℕ) → AreAlike name (inserted one name path line text) (inserted other name path line text)
  unfolding inserted
  inserted-alike path line text =
      on-node path _ _ (λ node. on-added _ _ _ _ (ap (λ r. edits.Insert r (line_ref line) text ∷ []) (ref-same node)) line-same)

  deleted-alike : (path : List (List ℕ)) (line : LineField) → AreAlike name (deleted one name path line) (deleted other name path line)
  unfolding deleted
  deleted-alike path line = on-node path _ _ (λ node. on-added _ _ _ _ (ap (λ r. edits.Delete r (line_ref line) ∷ []) (ref-same node)) refl)

  replaced-alike : (path : List (List ℕ)) (line : LineField) (text : List ℕ) → AreAlike name (replaced one name path line text) (replaced other name path line text)
  unfolding replaced
  replaced-alike path line text =
      on-node path _ _ (λ node. on-added _ _ _ _ (ap (λ r. edits.Insert r (line_ref line) text ∷ edits.Delete r (line_ref line) ∷ []) (ref-same node)) line-same)

  -- what is told of the history up to the base is the same
  on-base : (f : State → List Command → UnsidedSession → Act) → AreAlike name (f one before s) (f other before s)
      → AreAlike name (f one (take t.session.base one.history) s) (f other (take u.session.base other.history) (without_sides u))
  on-base f same =
      subst (λ h. AreAlike name (f one h s) (f other (take u.session.base other.history) (without_sides u))) (sym in_one.same)
      (subst (λ h. AreAlike name (f one before s) (f other h (without_sides u))) (sym in_other.same)
      (subst (λ v. AreAlike name (f one before s) (f other before v)) like same))

  shown-alike : (path : List (List ℕ)) → AreAlike name (shown one name path) (shown other name path)
  unfolding shown
  shown-alike path = on-node path _ _ (λ node. on-base
      (λ st h v. if is_dir (view_on h v).rows node then Err NotFile else Ok (st, seen_reply (line_count h) (map by_number (lines_of (view_on h v) node))))
      (at (is_dir (view_on before s).rows node) _))
    where
      at : (b : Bool) (reply : List ℕ) → AreAlike name (if b then Err NotFile else Ok (one, reply)) (if b then Err NotFile else Ok (other, reply))
      at true reply = (refl, λ names others. refl)
      at false reply = (as_before, refl)

  listed-alike : (path : List (List ℕ)) → AreAlike name (listed_at one name path) (listed_at other name path)
  unfolding listed_at
  listed-alike path = on-node path _ _ (λ node. on-base
      (λ st h v. if is_dir (view_on h v).rows node then Ok (st, directory_reply (listed (view_on h v).rows node)) else Err NotDirectory)
      (at (is_dir (view_on before s).rows node) _))
    where
      at : (b : Bool) (reply : List ℕ) → AreAlike name (if b then Ok (one, reply) else Err NotDirectory) (if b then Ok (other, reply) else Err NotDirectory)
      at true reply = (as_before, refl)
      at false reply = (refl, λ names others. refl)

  -- what is alike for the session's own name is so for a name that is spelt like it
  by-name : (n : List ℕ) (f g : List ℕ → Act) → bytes_eq n name ≡ true → AreAlike name (f name) (g name) → AreAlike name (f n) (g n)
  by-name n f g own same = subst (λ m. AreAlike name (f m) (g m)) (sym (same-name n name own)) same

  edit-alike : (edit : EditLine) → AreAlike name (served_edit one name edit) (served_edit other name edit)
  unfolding served_edit
  edit-alike (edit_lines.MakeDir path) = made-alike kinds.Dir (directory_of path) (last_name path)
  edit-alike (edit_lines.MakeFile path) = made-alike kinds.File (directory_of path) (last_name path)
  edit-alike (edit_lines.Rename path to) = renamed-alike path to
  edit-alike (edit_lines.Move path target) = moved-alike path target
  edit-alike (edit_lines.Remove path) = removed-alike path
  edit-alike (edit_lines.Insert path line text) = inserted-alike path line text
  edit-alike (edit_lines.Delete path line) = deleted-alike path line
  edit-alike (edit_lines.Replace path line text) = replaced-alike path line text

  question-alike : (question : Question) → asks_in name question ≡ true → AreAlike name (served_question one question) (served_question other question)
  unfolding served_question
  question-alike (questions.Show n path) own = by-name n (λ m. shown one m path) (λ m. shown other m path) own (shown-alike path)
  question-alike (questions.List n path) own = by-name n (λ m. listed_at one m path) (λ m. listed_at other m path) own (listed-alike path)
  question-alike _ own = absurd (cc)

  plainly-alike : (x y : Act) → AreAlike name x y → AreDoneAlike name (plainly x) (plainly y)
  plainly-alike (Ok x) (Ok y) h = h
  plainly-alike (Err c) (Err d) h = h
  plainly-alike (Ok x) (Err d) h = absurd h
  plainly-alike (Err c) (Ok y) h = absurd h

  served-alike : (line : GroupedLine) → works_in name line ≡ true → AreDoneAlike name (served one line) (served other line)
  unfolding served
  served-alike (groups.Edit n edit) own =
      plainly-alike (served_edit one n edit) (served_edit other n edit) (by-name n (λ m. served_edit one m edit) (λ m. served_edit other m edit) own (edit-alike edit))
  served-alike (groups.Question question) own = plainly-alike (served_question one question) (served_question other question) (question-alike question own)
  served-alike _ own = absurd (cc)

  acted-alike : (line : List ℕ) → is_own name line ≡ true → AreDoneAlike name (acted one line) (acted other line)
  unfolding acted
  acted-alike line own = at (nat_lt MOST_SCRIPT_LINE_BYTES (length line))
    where
      of : (form : Result Line LineSyntax) → has_form (works_in name) form ≡ true → AreDoneAlike name (by_code syntax_code form >>= (λ f. served one (grouped f))) (by_code syntax_code form >>= (λ f. served other (grouped f)))
      of (Ok form) h = served-alike (grouped form) h
      of (Err fault) h = absurd (cc)

      at : (long : Bool) → AreDoneAlike name ((if long then Err Long else Ok line) >>= (λ short. by_code syntax_code (form_of short) >>= (λ form. served one (grouped form))))
          ((if long then Err Long else Ok line) >>= (λ short. by_code syntax_code (form_of short) >>= (λ form. served other (grouped form))))
      at true = (refl, λ names others. refl)
      at false = of (form_of line) own

  -- a session's own line is answered the same, and leaves states that see the session alike
  pub own-alike : (line : List ℕ) → is_own name line ≡ true → ((step one line).reply ≡ (step other line).reply) × SeeAlike name (step one line).state (step other line).state
  unfolding step
  own-alike line own = at (acted one line) (acted other line) (acted-alike line own)
    where
      at : (x y : Found Done) → AreDoneAlike name x y → ((as_outcome one x).reply ≡ (as_outcome other y).reply) × SeeAlike name (as_outcome one x).state (as_outcome other y).state
      at (Ok x) (Ok y) h = (h.1, h.0)
      at (Err c) (Err d) h = (h.1 (options_of one.history) (options_of other.history) ∙ ap (refused_reply (options_of other.history)) h.0, as_before)
      at (Ok x) (Err d) h = absurd h
      at (Err c) (Ok y) h = absurd h
