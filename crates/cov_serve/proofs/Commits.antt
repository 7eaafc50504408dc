-- The turns of commits, and what a server that adds them is answered.
use Rattle.std.proofs.Common.{◌≡◌, ◌∙◌, ◌⊎◌, inl, inr, refl, sym, ap, subst, false, ℕ, zero, suc, ◌+◌, ◌*◌, ◌-◌, ◌<◌, ◌≤◌, arith, List, [], ◌∷◌, ◌++◌, length, map, take, slice_get, Some, None, Ok, Err, append-nil, append_assoc, length-append}
use Rattle.std.proofs.Math.Seq.{take-append_seam}
use Rattle.std.proofs.lemmas.Bool.{false≢true}
use Rattle.cov_base.specs.Lines.{lines_of}
use Rattle.cov_edit.specs.declared.command.Command.{Command}
use Rattle.cov_history.specs.Verdict.{IsLegalFrom, verdict}
use Rattle.cov_history.specs.declared.refusal.Refusal.{Refusal}
use Rattle.cov_codes.specs.Codes.{refusal_code}
use Rattle.cov_base.specs.declared.limits.TheConstants.{LIMITS, TOO_MANY_SCRIPT_BYTES}
use Rattle.cov_import.specs.Serving.{ImportValue, Importing, commit_comes, import_count, import_step, import_stored, importing, next_commit, onto, with_next}
use Rattle.cov_lines.specs.Adding.{commit_added}
use Rattle.cov_lines.specs.Growth.{no_reply}
use Rattle.cov_lines.specs.States.{ServerValue, State, starting, with_command}
use Rattle.cov_lines.specs.Step.{as_outcome, plainly}
use Rattle.cov_loop.specs.Keeping.{AddsNoCommand, KeepsAnswered, Reaches}
use Rattle.cov_loop.specs.Outcome.{Outcome, answers, followed_by}
use Rattle.cov_script.specs.Replies.{commit_reply}
use Rattle.cov_serve.specs.Jobs.{StandsForFront, StandsForTold, Turn, commit_turns, history_after, replies, rows_of}
use Rattle.cov_serve.specs.Program.{commit_text}
use Rattle.cov_store.specs.Stands.{IsStored, StandsFor}
use Rattle.cov_serve.proofs.Crashing.{stands_for}

-- the history after the turns of commits
pub turned : (now ks : List Command) → history_after now (commit_turns now ks) ≡ now ++ ks
turned now [] = sym (append-nil now)
turned now (k ∷ ks) = turned (now ++ k ∷ []) ks ∙ append_assoc now (k ∷ []) ks

-- they have no rows
pub rowless : (now ks : List Command) → rows_of (commit_turns now ks) ≡ []
rowless now [] = refl
rowless now (k ∷ ks) = rowless (now ++ k ∷ []) ks

-- the first few turns are those of the first few commits
pub record TurnsOf (now ks : List Command) (ts : List Turn) : Type 0 where
  pub first : List Command
  pub rest : List Command
  pub front : ks ≡ first ++ rest
  pub are : ts ≡ commit_turns now first

pub turns_of : (now ks : List Command) (ts us : List Turn) → commit_turns now ks ≡ ts ++ us → TurnsOf now ks ts
turns_of now ks [] us e = record { first = []; rest = ks; front = refl; are = refl }
turns_of now [] (t ∷ ts) us e = absurd (cc)
turns_of now (k ∷ ks) (t ∷ ts) us e =
    let turn : Turn = record { reply = commit_reply (length now + 1); rows = []; history = now ++ k ∷ [] } in
    let head : turn ≡ t = cc in
    let tail : commit_turns (now ++ k ∷ []) ks ≡ ts ++ us = cc in
    let on : TurnsOf (now ++ k ∷ []) ks ts = turns_of (now ++ k ∷ []) ks ts us tail in
    record {
      first = k ∷ on.first;
      rest = on.rest;
      front = ap (λ xs. k ∷ xs) on.front;
      are = ap (λ x. x ∷ ts) (sym head) ∙ ap (λ xs. turn ∷ xs) on.are;
    }

-- the lines that ask for commits, one each
abbrev pub marks : List Command → List (List ℕ)
marks ks = map (λ k. 120 ∷ []) ks

pub lines_are : (ks : List Command) → lines_of (commit_text (length ks)) ≡ marks ks
lines_are [] = refl
lines_are (k ∷ ks) = ap (λ ls. (120 ∷ []) ∷ ls) (lines_are ks)

pub text_size : (n : ℕ) → length (commit_text n) ≡ 2 * n
text_size zero = refl
text_size (suc n) = let own = text_size n in omega (arith, own)

-- one line more
pub text_more : (text : List ℕ) (left : ℕ) → 0 < left → (text ++ 120 ∷ 10 ∷ []) ++ commit_text (left - 1) ≡ text ++ commit_text left
text_more text zero some = absurd (omega (arith, some))
text_more text (suc n) some =
    let one : suc n - 1 ≡ n = omega arith in
    ap (λ k. (text ++ 120 ∷ 10 ∷ []) ++ commit_text k) one ∙ append_assoc text (120 ∷ 10 ∷ []) (commit_text n)

-- the first few lines are those of the first few commits
pub record MarksOf (ks : List Command) (ls : List (List ℕ)) : Type 0 where
  pub first : List Command
  pub rest : List Command
  pub front : ks ≡ first ++ rest
  pub are : ls ≡ marks first

pub marks_of : (ks : List Command) (ls ms : List (List ℕ)) → marks ks ≡ ls ++ ms → MarksOf ks ls
marks_of ks [] ms e = record { first = []; rest = ks; front = refl; are = refl }
marks_of [] (l ∷ ls) ms e = absurd (cc)
marks_of (k ∷ ks) (l ∷ ls) ms e =
    let head : 120 ∷ [] ≡ l = cc in
    let tail : marks ks ≡ ls ++ ms = cc in
    let on : MarksOf ks ls = marks_of ks ls ms tail in
    record {
      first = k ∷ on.first;
      rest = on.rest;
      front = ap (λ xs. k ∷ xs) on.front;
      are = ap (λ x. x ∷ ls) (sym head) ∙ ap (λ xs. (120 ∷ []) ∷ xs) on.are;
    }

marks_both : (js ks : List Command) → marks (js ++ ks) ≡ marks js ++ marks ks
marks_both [] ks = refl
marks_both (j ∷ js) ks = ap (λ ls. (120 ∷ []) ∷ ls) (marks_both js ks)

seam : (xs : List Command) (x : Command) (ys : List Command) → slice_get (xs ++ x ∷ ys) (length xs) ≡ Some x
seam [] x ys = refl
seam (a ∷ xs) x ys = seam xs x ys

module _ (all : List Command) (base : ℕ) where
  -- a run that adds these commits, with a history
  abbrev pub at : List Command → Importing
  at now = record { state = starting now; commits = all; base = base }

  -- what was answered so far
  abbrev pub answered : List Command → List ℕ → Outcome Importing
  answered now reply = record { state = at now; reply = reply; rows = []; is_refused = false }

  module _ (now done : List Command) (k : Command) (more : List Command) (e : all ≡ done ++ k ∷ more) (size : length now ≡ base + length done) where
    next_is : next_commit (at now) ≡ Some k
    next_is =
        let index : length now - base ≡ length done = omega (arith, size) in
        ap (slice_get all) index ∙ ap (λ xs. slice_get xs (length done)) e ∙ seam done k more

    one_added : verdict now k ≡ None → import_step (at now) (120 ∷ []) ≡ answered (now ++ k ∷ []) (commit_reply (length now + 1))
    unfolding import_step
    one_added accepted = ap (with_next (at now)) next_is ∙ of (commit_comes (starting now) k)
      where
        of : ((verdict now k ≡ None) × (commit_added (starting now) k ≡ Ok (with_command (starting now) k, commit_reply (length now + 1))))
            ⊎ ((refusal : Refusal) × (verdict now k ≡ Some refusal) × (commit_added (starting now) k ≡ Err (refusal_code refusal)))
            → with_next (at now) (Some k) ≡ answered (now ++ k ∷ []) (commit_reply (length now + 1))
        of (inl (is, added)) = ap (λ act. onto (at now) (as_outcome (starting now) (plainly act))) added
        of (inr (refusal, refused, added)) = absurd (cc)

  -- commits are added one after another
  pub all_added : (now done js ms : List Command) → all ≡ done ++ (js ++ ms) → length now ≡ base + length done → IsLegalFrom now (js ++ ms)
      → answers import_step (at now) (marks js) ≡ answered (now ++ js) (replies (commit_turns now js))
  all_added now done [] ms e size legal = ap (λ h. answered h []) (sym (append-nil now))
  all_added now done (j ∷ js) ms e size legal =
      let reply = commit_reply (length now + 1) in
      let one : import_step (at now) (120 ∷ []) ≡ answered (now ++ j ∷ []) reply = one_added now done j (js ++ ms) e size legal.1 in
      let longer : length (now ++ j ∷ []) ≡ base + length (done ++ j ∷ []) = omega (arith, size, length-append now (j ∷ []), length-append done (j ∷ [])) in
      let rest = all_added (now ++ j ∷ []) (done ++ j ∷ []) js ms (e ∙ sym (append_assoc done (j ∷ []) (js ++ ms))) longer legal.2 in
      ap (λ (o : Outcome Importing). followed_by o (answers import_step o.state (marks js))) one
      ∙ ap (followed_by (answered (now ++ j ∷ []) reply)) rest
      ∙ ap (λ h. answered h (reply ++ replies (commit_turns (now ++ j ∷ []) js))) (append_assoc now (j ∷ []) js)

module _ (history commits : List Command) where
  abbrev turns : List Turn
  turns = commit_turns history commits

  -- an image that stands for the history with the first few of the commits
  abbrev pub front_at : (js ms : List Command) → commits ≡ js ++ ms → (image : List ℕ) → StandsFor image (history ++ js) → StandsForFront history turns image
  front_at js ms e image stands =
      let whole : history_after history turns ≡ (history ++ js) ++ ms = turned history commits ∙ ap (λ ks. history ++ ks) e ∙ sym (append_assoc history js ms) in
      record {
        count = length (history ++ js);
        least = omega (arith, length-append history js);
        most = omega (arith, ap length whole, length-append (history ++ js) ms);
        stands = subst (StandsFor image) (sym (ap (take (length (history ++ js))) whole ∙ take-append_seam (history ++ js) ms)) stands;
      }

  -- no commit is added yet
  abbrev pub front_none : (image : List ℕ) → StandsFor image history → StandsForFront history turns image
  front_none image stands = front_at [] commits refl image (subst (StandsFor image) (sym (append-nil history)) stands)

  some_reply : (now : List Command) (j : Command) (js : List Command) (bs : List ℕ) → replies (commit_turns now (j ∷ js)) ≡ bs → length bs ≤ 0 → ⊥
  some_reply now j js [] e short = false≢true (ap no_reply e)
  some_reply now j js (b ∷ bs) e short = absurd (omega (arith, short))

  replied : (now js : List Command) → length (replies (commit_turns now js)) ≤ 0 → js ≡ []
  replied now [] short = refl
  replied now (j ∷ js) short = absurd (some_reply now j js (replies (commit_turns now (j ∷ js))) refl short)

  -- and no reply is written
  pub told_none : (image : List ℕ) → StandsFor image history → StandsForTold history turns [] image
  told_none image stands = record {
    front = front_none image stands;
    told = λ ts us e short.
        let on : TurnsOf history commits ts = turns_of history commits ts us e in
        let none : on.first ≡ [] = replied history on.first (subst (λ xs. length (replies xs) ≤ 0) on.are short) in
        let same : history_after history ts ≡ history = ap (history_after history) on.are ∙ ap (λ js. history_after history (commit_turns history js)) none in
        omega (arith, ap length same, length-append history []);
  }

  module _ (legal : IsLegalFrom history commits) where
    abbrev start : Importing
    start = at commits (length history) history

    -- what the first few lines are answered
    reached : (js ms : List Command) → commits ≡ js ++ ms → answers import_step start (marks js) ≡ answered commits (length history) (history ++ js) (replies (commit_turns history js))
    reached js ms e = all_added commits (length history) history [] js ms e (omega arith) (subst (IsLegalFrom history) e legal)

    -- and what all are
    pub whole : answers import_step start (marks commits) ≡ answered commits (length history) (history ++ commits) (replies turns)
    whole = reached commits [] (sym (append-nil commits))

    history_at : (js ms : List Command) → commits ≡ js ++ ms → (answers import_step start (marks js)).state.state.history ≡ history ++ js
    history_at js ms e = ap (λ (o : Outcome Importing). o.state.state.history) (reached js ms e)

    pub front_reached : (image : List ℕ) → Reaches import_step import_stored start (marks commits) image → StandsForFront history turns image
    front_reached image on =
        let m : MarksOf commits on.first = marks_of commits on.first on.rest on.front in
        let is : (answers import_step start on.first).state.state.history ≡ history ++ m.first = ap (λ ls. (answers import_step start ls).state.state.history) m.are ∙ history_at m.first m.rest m.front in
        front_at m.first m.rest m.front image (subst (StandsFor image) is (stands_for image (answers import_step start on.first).state.state.history on.stands))

    pub told_reached : (bytes image : List ℕ) → KeepsAnswered import_step import_stored import_count start (marks commits) bytes image → StandsForTold history turns bytes image
    told_reached bytes image on =
        let m : MarksOf commits on.first = marks_of commits on.first on.rest on.front in
        let is : (answers import_step start on.first).state.state.history ≡ history ++ m.first = ap (λ ls. (answers import_step start ls).state.state.history) m.are ∙ history_at m.first m.rest m.front in
        record {
          front = front_at m.first m.rest m.front image (subst (StandsFor image) is (stands_for image (answers import_step start on.first).state.state.history on.stands));
          told = λ ts us e short.
              let t : TurnsOf history commits ts = turns_of history commits ts us e in
              let reply : (answers import_step start (marks t.first)).reply ≡ replies ts = ap (λ (o : Outcome Importing). o.reply) (reached t.first t.rest t.front) ∙ ap replies (sym t.are) in
              let after : history_after history ts ≡ history ++ t.first = ap (history_after history) t.are ∙ turned history t.first in
              let few = on.answered (marks t.first) (marks t.rest) (ap marks t.front ∙ marks_both t.first t.rest) (omega (arith, ap length reply, short)) in
              omega (arith, few, ap length is, ap length after, ap length (history_at t.first t.rest t.front));
        }

-- what is known of a server that adds commits to a history, and of the text that asks for them
pub record Adds (v : ImportValue) (history commits : List Command) (text : List ℕ) : Type 0 where
  pub starts : importing v ≡ at commits (length history) history
  pub lines : lines_of text ≡ marks commits
  pub legal : IsLegalFrom history commits

pub adds : (v : ImportValue) (server : ServerValue) (history commits : List Command) (text : List ℕ) (count : ℕ) → v.server ≡ server → v.commits ≡ commits → v.base ≡ length server.state.history
    → server.state ≡ starting history → text ≡ commit_text count → count ≡ length commits → IsLegalFrom server.state.history commits → Adds v history commits text
adds v server history commits text count server_is commits_are base_is begins is size legal = record {
  starts = ap (λ st. record { state = st; commits = v.commits; base = v.base }) (ap (λ (s : ServerValue). s.state) server_is ∙ begins)
      ∙ ap (λ ks. record { state = starting history; commits = ks; base = v.base }) commits_are
      ∙ ap (λ n. record { state = starting history; commits = commits; base = n }) (base_is ∙ ap (λ (st : State). length st.history) begins);
  lines = ap lines_of (is ∙ ap commit_text size) ∙ lines_are commits;
  legal = subst (λ (st : State). IsLegalFrom st.history commits) begins legal;
}

module _ {v : ImportValue} {history commits : List Command} {text : List ℕ} (a : Adds v history commits text) where
  all_is : answers import_step (importing v) (lines_of text) ≡ answered commits (length history) (history ++ commits) (replies (commit_turns history commits))
  all_is =
      ap (λ s. answers import_step s (lines_of text)) a.starts ∙ ap (answers import_step (at commits (length history) history)) a.lines ∙ whole history commits a.legal

  pub added_reply : (answers import_step (importing v) (lines_of text)).reply ≡ replies (commit_turns history commits)
  added_reply = ap (λ (o : Outcome Importing). o.reply) all_is

  last_is : (answers import_step (importing v) (lines_of text)).state.state.history ≡ history_after history (commit_turns history commits)
  last_is = ap (λ (o : Outcome Importing). o.state.state.history) all_is ∙ sym (turned history commits)

  pub added_was : (image : List ℕ) → IsStored image history → import_stored (importing v) image
  added_was image h = subst (λ s. import_stored s image) (sym a.starts) h

  pub added_stands : (image : List ℕ) → import_stored (answers import_step (importing v) (lines_of text)).state image → StandsFor image (history_after history (commit_turns history commits))
  added_stands image h = subst (StandsFor image) last_is (stands_for image (answers import_step (importing v) (lines_of text)).state.state.history h)

  pub added_front : (image : List ℕ) → Reaches import_step import_stored (importing v) (lines_of text) image → StandsForFront history (commit_turns history commits) image
  added_front image on =
      front_reached history commits a.legal image
      (subst (λ ls. Reaches import_step import_stored (at commits (length history) history) ls image) a.lines (subst (λ s. Reaches import_step import_stored s (lines_of text) image) a.starts on))

  pub added_told : (bytes image : List ℕ) → KeepsAnswered import_step import_stored import_count (importing v) (lines_of text) bytes image → StandsForTold history (commit_turns history commits) bytes image
  added_told bytes image on =
      told_reached history commits a.legal bytes image
      (subst (λ ls. KeepsAnswered import_step import_stored import_count (at commits (length history) history) ls bytes image) a.lines
      (subst (λ s. KeepsAnswered import_step import_stored import_count s (lines_of text) bytes image) a.starts on))

  pub added_few : length (history_after history (commit_turns history commits)) ≤ length history → AddsNoCommand import_count (importing v) (answers import_step (importing v) (lines_of text))
  added_few few = omega (arith, few, ap length last_is, ap (λ (s : Importing). length s.state.history) a.starts)

-- the text is short enough to be served
pub text_short : (text : List ℕ) (count left : ℕ) → text ++ commit_text left ≡ commit_text count → count ≤ LIMITS.commands → length text < TOO_MANY_SCRIPT_BYTES
text_short text count left e few = omega (arith, ap length e, length-append text (commit_text left), text_size count, few)
