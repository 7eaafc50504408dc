-- The checkouts that end each generated script.
use Rattle.std.proofs.Common.{◌≡◌, ◌∙◌, refl, sym, subst, ℕ, Bool, true, false, List, [], ◌∷◌, ◌++◌, length, Ok, Err}
use Rattle.std.specs.Prelude.{codes, nat_lt, if◌then◌else◌}
use Rattle.std.specs.Str.{is_utf8, chars}
use Rattle.std.specs.Fmt.{digits}
use lib.Utf8.{encode}
use Rattle.cov_base.specs.Lines.{lines_of}
use Rattle.cov_base.specs.declared.limits.TheConstants.{MOST_SCRIPT_LINE_BYTES}
use Rattle.cov_codes.specs.Codes.{syntax_code}
use Rattle.cov_loop.specs.Outcome.{answers}
use Rattle.cov_script.specs.Commits.{each_below}
use Rattle.cov_script.specs.Demonstration.{checkout_lines}
use Rattle.cov_script.specs.Grouping.{grouped}
use Rattle.cov_script.specs.Lines.{form_of}
use Rattle.cov_script.specs.declared.code.Code.TheVariants.{Long, TreeTaken}
use Rattle.cov_script.specs.declared.line.Line.TheVariants as lines
use Rattle.cov_lines.specs.Finding.{Found, ◌>>=◌, by_code, completed_choice, found_partial}
use Rattle.cov_lines.specs.Growth.{without_reply}
use Rattle.cov_lines.specs.States.{State}
use Rattle.cov_lines.specs.Step.{Done, acted, as_outcome, checked_out, is_taken, served, served_tree, step}

-- the first of them, and the others
abbrev pub first_checkout : List ℕ
first_checkout = codes "checkout t0 -"

abbrev pub other_checkouts : List (List ℕ)
other_checkouts =
    codes "checkout t1 o13=on"
    ∷ codes "checkout t2 o20=on"
    ∷ codes "checkout t3 o27=on"
    ∷ codes "checkout t4 o34=on"
    ∷ codes "checkout t5 o41=on"
    ∷ codes "checkout t6 o48=on"
    ∷ codes "checkout t7 o55=on"
    ∷ []

pub checkouts_are : lines_of checkout_lines ≡ first_checkout ∷ other_checkouts
unfolding each_below digits
checkouts_are = refl

-- each of them has the form of a checkout
abbrev IsCheckout : List ℕ → Type 0
IsCheckout line = (tree : List ℕ) × (bindings : List (List ℕ × Bool)) × (form_of line ≡ Ok (lines.Checkout tree bindings))

abbrev AreCheckouts : List (List ℕ) → Type 0
AreCheckouts [] = Unit {0}
AreCheckouts (l ∷ ls) = IsCheckout l × AreCheckouts ls

first_form : form_of first_checkout ≡ Ok (lines.Checkout (codes "t0") [])
unfolding is_utf8 chars encode digits
first_form = refl

all_forms : AreCheckouts (first_checkout ∷ other_checkouts)
unfolding is_utf8 chars encode digits
all_forms = ((codes "t0", [], refl), ((codes "t1", (codes "o13", true) ∷ [], refl), ((codes "t2", (codes "o20", true) ∷ [], refl), ((codes "t3", (codes "o27", true) ∷ [], refl), ((codes "t4", (codes "o34", true) ∷ [], refl), ((codes "t5", (codes "o41", true) ∷ [], refl), ((codes "t6", (codes "o48", true) ∷ [], refl), ((codes "t7", (codes "o55", true) ∷ [], refl), tt))))))))

-- a checkout keeps the history
module _ (st : State) where
  abbrev Kept : Found Done → Type 0
  Kept (Ok done) = done.state.history ≡ st.history
  Kept (Err code) = Unit {0}

  found_kept : {X : Type 0} (found : Found X) (later : X → Found Done) → ((x : X) → Kept (later x)) → Kept (found >>= later)
  found_kept (Ok x) later h = h x
  found_kept (Err code) later h = tt

  checkout_kept : (tree : List ℕ) (bindings : List (List ℕ × Bool)) → Kept (checked_out st tree bindings)
  unfolding checked_out
  checkout_kept tree bindings =
      found_kept (found_partial st.history bindings) _ (λ partial. found_kept (if is_taken st tree then Err TreeTaken else Ok tree) _ (λ new.
      found_kept (completed_choice st.history partial) _ (λ c. refl)))

  acted_kept : (line : List ℕ) → IsCheckout line → Kept (acted st line)
  unfolding acted served served_tree
  acted_kept line (tree, bindings, is) = at (nat_lt MOST_SCRIPT_LINE_BYTES (length line))
    where
      at : (long : Bool) → Kept ((if long then Err Long else Ok line) >>= (λ short. by_code syntax_code (form_of short) >>= (λ form. served st (grouped form))))
      at true = tt
      at false = subst (λ form. Kept (by_code syntax_code form >>= (λ f. served st (grouped f)))) (sym is) (checkout_kept tree bindings)

  step_kept : (line : List ℕ) → IsCheckout line → (step st line).state.history ≡ st.history
  unfolding step
  step_kept line is = at (acted st line) (acted_kept line is)
    where
      at : (act : Found Done) → Kept act → (as_outcome st act).state.history ≡ st.history
      at (Ok done) h = h
      at (Err code) h = refl

all_kept : (st : State) (all ls ms : List (List ℕ)) → AreCheckouts all → all ≡ ls ++ ms → (answers step st ls).state.history ≡ st.history
all_kept st all [] ms are e = refl
all_kept st [] (l ∷ ls) ms are e = absurd (cc)
all_kept st (a ∷ all) (l ∷ ls) ms (is, are) e =
    let same : a ≡ l = cc in
    let tail : all ≡ ls ++ ms = cc in
    all_kept (step st l).state all ls ms are tail ∙ subst (λ x. (step st x).state.history ≡ st.history) same (step_kept st a is)

pub checkouts_keep : (st : State) (ls ms : List (List ℕ)) → lines_of checkout_lines ≡ ls ++ ms → (answers step st ls).state.history ≡ st.history
checkouts_keep st ls ms e = all_kept st (first_checkout ∷ other_checkouts) ls ms all_forms (sym checkouts_are ∙ e)

-- the first of them is answered
pub checkout_answered : (st : State) → (step st first_checkout).reply ≡ [] → ⊥
checkout_answered st none =
    let nothing : form_of first_checkout ≡ Ok lines.Nothing = (without_reply st first_checkout none).0 in
    let other : Ok (lines.Checkout (codes "t0") []) ≡ Ok lines.Nothing = sym first_form ∙ nothing in
    absurd (cc)
