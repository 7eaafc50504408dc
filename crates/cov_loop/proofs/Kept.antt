-- What is stored for the states on the way, and which commands these have.
use Rattle.std.proofs.Common.{◌≡◌, ◌∙◌, refl, sym, ap, subst, ℕ, ◌⊎◌, inl, inr, ◌+◌, ◌≤◌, arith, List, [], ◌∷◌, ◌++◌, length, length-append, append-nil, append_assoc, Option, Some, Result, Ok, Err, OnErr}
use Rattle.std.proofs.lemmas.List.{append_cancel_left, nil_from_length}
use Rattle.cov_io.specs.Devices.{AppendsSome}
use Rattle.cov_loop.specs.Keeping.{AddsNoCommand, AreAll, FirstAddsNone, IsEither, KeepsAnswered, Reaches}
use Rattle.cov_loop.specs.Outcome.{Outcome, answers}
use Rattle.cov_loop.specs.Turns.{turn_of}
use Rattle.cov_loop.specs.declared.answer.Answer.{Answer}
use Rattle.cov_loop.specs.declared.ending.Ending.{Ending}
use Rattle.cov_loop.proofs.Outcomes.{answers_append, cut_twice, nothing_first, nothing_next}

-- what is added where nothing changes
pub nothing_added : {X : Type 0} (xs ys : List X) → xs ≡ xs ++ ys → ys ≡ []
nothing_added xs ys e = nil_from_length ys (omega (arith, ap length e, length-append xs ys))

-- the state after some lines and then others
state_later : {S : Type 0} (step : S → List ℕ → Outcome S) (start state : S) (served more : List (List ℕ)) → state ≡ (answers step start served).state
    → (answers step start (served ++ more)).state ≡ (answers step state more).state
state_later {S} step start state served more is =
    ap (λ (o : Outcome S). o.state) (answers_append step start served more) ∙ ap (λ s. (answers step s more).state) (sym is)

-- a state that stays has no command more
pub kept_adds_none : {S : Type 0} (count : S → ℕ) (state : S) (o : Outcome S) → o.state ≡ state → AddsNoCommand count state o
kept_adds_none count state o is = omega (arith, ap count is)

-- lines that add no command, none of which takes one away
module _ {S : Type 0} (step : S → List ℕ → Outcome S) (count : S → ℕ) (rise : (s : S) (line : List ℕ) → count s ≤ count (step s line).state) where
  pub rise_all : (s : S) (ls : List (List ℕ)) → count s ≤ count (answers step s ls).state
  rise_all s [] = omega arith
  rise_all s (l ∷ ls) = omega (arith, rise s l, rise_all (step s l).state ls)

  -- the first adds none
  pub first_adds_none : (start : S) (lines : List (List ℕ)) → AddsNoCommand count start (answers step start lines) → FirstAddsNone step count start lines
  first_adds_none start [] none = tt
  first_adds_none start (line ∷ rest) none = omega (arith, rise_all (step start line).state rest, none)

  -- those that were served have added none, and the others add none
  pub later_adds_none : (start state : S) (lines served more : List (List ℕ)) → lines ≡ served ++ more → state ≡ (answers step start served).state
      → AddsNoCommand count start (answers step start lines) → (count state ≤ count start) × AddsNoCommand count state (answers step state more)
  later_adds_none start state lines served more e is none =
      let same : count (answers step start lines).state ≡ count (answers step state more).state = ap (λ ls. count (answers step start ls).state) e ∙ ap count (state_later step start state served more is) in
      (omega (arith, same, none, rise_all state more), omega (arith, same, none, rise_all start served, ap count is))

module _ {S : Type 0} (step : S → List ℕ → Outcome S) (stored : S → List ℕ → Type 0) where
  -- before the first line
  pub reaches_none : (start : S) (lines : List (List ℕ)) (image : List ℕ) → stored start image → Reaches step stored start lines image
  reaches_none start lines image is = record { first = []; rest = lines; front = refl; stands = is }

  -- before the first line or after it
  pub reaches_first : (start : S) (line : List ℕ) (lines rest : List (List ℕ)) → lines ≡ line ∷ rest
      → (image : List ℕ) → IsEither (stored start) (stored (step start line).state) image → Reaches step stored start lines image
  reaches_first start line lines rest e image (inl was) = reaches_none start lines image was
  reaches_first start line lines rest e image (inr now) = record { first = line ∷ []; rest = rest; front = e; stands = now }

  -- some lines having been served
  pub reaches_later : (start state : S) (lines served more : List (List ℕ)) → lines ≡ served ++ more → state ≡ (answers step start served).state
      → (image : List ℕ) → Reaches step stored state more image → Reaches step stored start lines image
  reaches_later start state lines served more e is image on = record {
    first = served ++ on.first;
    rest = on.rest;
    front = e ∙ ap (λ ls. served ++ ls) on.front ∙ sym (append_assoc served on.first on.rest);
    stands = subst (λ s. stored s image) (sym (state_later step start state served on.first is)) on.stands;
  }

module _ {S : Type 0} (step : S → List ℕ → Outcome S) (stored : S → List ℕ → Type 0) (count : S → ℕ)
    (rise : (s : S) (line : List ℕ) → count s ≤ count (step s line).state) where
  -- the first few of some lines leave no more commands than all
  fewer_commands : (start : S) (lines ls ms : List (List ℕ)) → lines ≡ ls ++ ms → count (answers step start ls).state ≤ count (answers step start lines).state
  fewer_commands start lines ls ms e =
      let same : count (answers step start lines).state ≡ count (answers step (answers step start ls).state ms).state =
      ap (λ all. count (answers step start all).state) e ∙ ap (λ (o : Outcome S). count o.state) (answers_append step start ls ms) in
      omega (arith, same, rise_all step count rise (answers step start ls).state ms)

  -- all lines were served
  pub keeps_all : (start : S) (lines : List (List ℕ)) (bytes image : List ℕ) → stored (answers step start lines).state image → KeepsAnswered step stored count start lines bytes image
  keeps_all start lines bytes image is = record {
    first = lines;
    rest = [];
    front = sym (append-nil lines);
    stands = is;
    answered = λ ls ms e short. fewer_commands start lines ls ms e;
  }

  -- some lines were served, and an image has each command that is answered of the others
  module _ (start state : S) (lines served more : List (List ℕ)) (all : lines ≡ served ++ more) (is : state ≡ (answers step start served).state) (bytes image : List ℕ)
      (on : KeepsAnswered step stored count state more bytes image) where
    now_kept : (answers step start (served ++ on.first)).state ≡ (answers step state on.first).state
    now_kept = state_later step start state served on.first is

    before_now : (ls k : List (List ℕ)) → served ≡ ls ++ k → count (answers step start ls).state ≤ count (answers step start (served ++ on.first)).state
    before_now ls k e = omega (arith, fewer_commands start served ls k e, ap count is, rise_all step count rise state on.first, ap count now_kept)

    others : (k ms : List (List ℕ)) → more ≡ k ++ ms → length (answers step start (served ++ k)).reply ≤ length ((answers step start served).reply ++ bytes)
        → count (answers step start (served ++ k)).state ≤ count (answers step start (served ++ on.first)).state
    others k ms e short =
        let first : Outcome S = answers step start served in
        let replies : length (answers step start (served ++ k)).reply ≡ length first.reply + length (answers step state k).reply =
        ap (λ (o : Outcome S). length o.reply) (answers_append step start served k)
        ∙ length-append first.reply (answers step first.state k).reply
        ∙ ap (λ s. length first.reply + length (answers step s k).reply) (sym is) in
        let here : count (answers step state k).state ≤ count (answers step state on.first).state = on.answered k ms e (omega (arith, short, replies, length-append first.reply bytes)) in
        omega (arith, here, ap count (state_later step start state served k is), ap count now_kept)

    each_answered : (ls ms : List (List ℕ)) → lines ≡ ls ++ ms → length (answers step start ls).reply ≤ length ((answers step start served).reply ++ bytes)
        → count (answers step start ls).state ≤ count (answers step start (served ++ on.first)).state
    each_answered ls ms e short = cases (cut_twice served more ls ms (sym all ∙ e)) where
      cases : ((k : List (List ℕ)) × (served ≡ ls ++ k)) ⊎ ((k : List (List ℕ)) × (ls ≡ served ++ k) × (more ≡ k ++ ms))
          → count (answers step start ls).state ≤ count (answers step start (served ++ on.first)).state
      cases (inl c) = before_now ls c.0 c.1
      cases (inr c) =
          subst (λ zs. length (answers step start zs).reply ≤ length ((answers step start served).reply ++ bytes) → count (answers step start zs).state ≤ count (answers step start (served ++ on.first)).state)
          (sym c.1) (others c.0 ms c.2) short

    pub keeps_later : KeepsAnswered step stored count start lines ((answers step start served).reply ++ bytes) image
    keeps_later = record {
      first = served ++ on.first;
      rest = on.rest;
      front = all ∙ ap (λ ls. served ++ ls) on.front ∙ sym (append_assoc served on.first on.rest);
      stands = subst (λ s. stored s image) (sym now_kept) on.stands;
      answered = each_answered;
    }

  module _ (quiet : (s : S) (line : List ℕ) → (step s line).reply ≡ [] → count (step s line).state ≤ count s) where
    -- lines without a reply add no command
    quiet_all : (s : S) (ls : List (List ℕ)) → (answers step s ls).reply ≡ [] → count (answers step s ls).state ≤ count s
    quiet_all s [] e = omega arith
    quiet_all s (l ∷ ls) e =
        let o : Outcome S = step s l in
        let rest : Outcome S = answers step o.state ls in
        omega (arith, quiet s l (nothing_first o.reply rest.reply e), quiet_all o.state ls (nothing_next o.reply rest.reply e))

    -- nothing was written of the first line's reply
    pub keeps_none : (start : S) (lines : List (List ℕ)) (image : List ℕ) → stored start image → KeepsAnswered step stored count start lines [] image
    keeps_none start lines image is = record {
      first = [];
      rest = lines;
      front = refl;
      stands = is;
      answered = λ ls ms e short. quiet_all start ls (nil_from_length (answers step start ls).reply (omega (arith, short)));
    }

    module _ (start : S) (line : List ℕ) (lines rest : List (List ℕ)) (all : lines ≡ line ∷ rest) (bytes more : List ℕ) (part : (step start line).reply ≡ bytes ++ more) where
      size : (ls : List (List ℕ)) → length (answers step start (line ∷ ls)).reply ≡ length bytes + length more + length (answers step (step start line).state ls).reply
      size ls =
          let o : Outcome S = step start line in
          let next : Outcome S = answers step o.state ls in
          omega (arith, length-append o.reply next.reply, ap length part, length-append bytes more)

      -- the first line was served
      after_first : (ls ms : List (List ℕ)) → lines ≡ ls ++ ms → length (answers step start ls).reply ≤ length bytes → count (answers step start ls).state ≤ count (step start line).state
      after_first [] ms e short = rise start line
      after_first (l ∷ ls) ms e short =
          let is : line ≡ l = cc in
          subst (λ x. length (answers step start (x ∷ ls)).reply ≤ length bytes → count (answers step start (x ∷ ls)).state ≤ count (step start line).state) is
          (λ few. quiet_all (step start line).state ls (nil_from_length (answers step (step start line).state ls).reply (omega (arith, few, size ls)))) short

      keeps_first : (image : List ℕ) → stored (step start line).state image → KeepsAnswered step stored count start lines bytes image
      keeps_first image now = record { first = line ∷ []; rest = rest; front = all; stands = now; answered = after_first }

      -- its reply wasn't written whole
      before_first : 1 ≤ length more → (ls ms : List (List ℕ)) → lines ≡ ls ++ ms → length (answers step start ls).reply ≤ length bytes → count (answers step start ls).state ≤ count start
      before_first some [] ms e short = omega arith
      before_first some (l ∷ ls) ms e short =
          let is : line ≡ l = cc in
          subst (λ x. length (answers step start (x ∷ ls)).reply ≤ length bytes → count (answers step start (x ∷ ls)).state ≤ count start) is
          (λ few. absurd (omega (arith, few, some, size ls))) short

      keeps_before : 1 ≤ length more → (image : List ℕ) → stored start image → KeepsAnswered step stored count start lines bytes image
      keeps_before some image was = record { first = []; rest = lines; front = refl; stands = was; answered = before_first some }

    -- some of the first line's reply was written, and once it was all, what is stored is that after the line
    keeps_either : (start : S) (line : List ℕ) (lines rest : List (List ℕ)) → lines ≡ line ∷ rest → (bytes more : List ℕ) → (step start line).reply ≡ bytes ++ more
        → (image : List ℕ) → IsEither (stored start) (stored (step start line).state) image → (more ≡ [] → stored (step start line).state image)
        → KeepsAnswered step stored count start lines bytes image
    keeps_either start line lines rest all bytes more part image (inr now) whole = keeps_first start line lines rest all bytes more part image now
    keeps_either start line lines rest all bytes [] part image (inl was) whole = keeps_first start line lines rest all bytes [] part image (whole refl)
    keeps_either start line lines rest all bytes (b ∷ bs) part image (inl was) whole = keeps_before start line lines rest all bytes (b ∷ bs) part (omega arith) image was

    -- the run stopped within a line
    pub line_keeps : (start : S) (line : List ℕ) (lines rest : List (List ℕ)) → lines ≡ line ∷ rest
        → (before bytes : List ℕ) (old new : Option (List ℕ)) → old ≡ Some before → new ≡ Some (before ++ bytes)
        → (images : List ℕ → Type 0) → AreAll (IsEither (stored start) (stored (step start line).state)) images
        → (new ≡ Some (before ++ (step start line).reply) → AreAll (stored (step start line).state) images)
        → (r : Result Answer Ending) → OnErr r (AppendsSome (step start line).reply old new)
        → OnErr (turn_of r) (AreAll (KeepsAnswered step stored count start lines bytes) images)
    line_keeps start line lines rest all before bytes old new was is images either whole (Ok answer) some = tt
    line_keeps start line lines rest all before bytes old new was is images either whole (Err ending) some =
        let o : Outcome S = step start line in
        let told : AppendsSome o.reply (Some before) new = rw was at some in
        let same : before ++ bytes ≡ before ++ told.0 = cc in
        let part : o.reply ≡ bytes ++ told.1 = told.2 ∙ ap (λ xs. xs ++ told.1) (sym (append_cancel_left before bytes told.0 same)) in
        λ image here.
        keeps_either start line lines rest all bytes told.1 part image (either image here)
        (λ none. whole (is ∙ ap (λ xs. Some (before ++ xs)) (sym (part ∙ ap (λ xs. bytes ++ xs) none ∙ append-nil bytes))) image here)
