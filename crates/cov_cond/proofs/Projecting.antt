-- What a choice shows of lines that each have one expression.
use Rattle.std.proofs.Common.{◌≡◌, ℕ, ◌+◌, ◌≤◌, Bool, true, false, cond, ◌&&◌, nat_le, List, [], ◌∷◌, ◌++◌, length, map, None, is_some, if◌then◌else◌, refl, sym, ap, ◌∙◌, arith}
use Rattle.std.specs.List.{filter}
use Rattle.std.proofs.lemmas.Bool.Decides.{nat_tests}
use Rattle.std.proofs.lemmas.List.{map-append}
use Rattle.std.proofs.lemmas.List.Elements.{filter-append}
use Rattle.cov_base.specs.Choices.{all_choices}
use Rattle.cov_base.proofs.CallerLemmas.{is_some-find}
use Rattle.cov_expr.specs.Formula.{Formula, value}
use Rattle.cov_edit.specs.declared.command.Command.{Command}
use Rattle.cov_edit.specs.History.{option_count, is_valid_in}
use Rattle.cov_rules.proofs.CallerLemmas.{fails_on_each}
use Rattle.cov_history.specs.Files.{DatedLine, ShownLine, dated_as_shown, is_dated_seen, dated_shown}
use Rattle.cov_history.specs.Kept.{seen_at}
use Rattle.cov_engine.specs.Meeting.{least_valid}
use Rattle.cov_cond.proofs.Chained.{new_lines}

-- where no valid choice meets an expression, it is false on each
pub none-meets : (history : List Command) (e : Formula ℕ) (c : List Bool) → least_valid history e ≡ None → length c ≡ option_count history → is_valid_in history c ≡ true → value e c ≡ false
none-meets history e c none whole valid = at (is_valid_in history c) valid fails
  where
    test : List Bool → Bool
    test d = is_valid_in history d && value e d

    fails : (is_valid_in history c && value e c) ≡ false
    fails = fails_on_each (option_count history) test (sym (is_some-find test (all_choices (option_count history))) ∙ ap is_some none) c whole

    at : (b : Bool) → b ≡ true → (b && value e c) ≡ false → value e c ≡ false
    at true h k = k
    at false h k = absurd (cc)

-- the text of a line, and the expression on whose choices it is seen at a position
abbrev pub told : ℕ → DatedLine → List ℕ × Formula ℕ
told p d = (d.text, seen_at d.changes p)

-- the texts that are seen on a choice
abbrev pub told_texts : List Bool → List (List ℕ × Formula ℕ) → List (List ℕ)
told_texts c ts = map (λ t. t.0) (filter (λ t. value t.1 c) ts)

abbrev pub shown_text : ShownLine → List ℕ
shown_text l = l.text

pub shown-told : (c : List Bool) (p : ℕ) (ds : List DatedLine) → map shown_text (dated_shown c p ds) ≡ told_texts c (map (told p) ds)
shown-told c p [] = refl
shown-told c p (d ∷ ds) = at (value (seen_at d.changes p) c) (shown-told c p ds)
  where
    at : (b : Bool) → map shown_text (dated_shown c p ds) ≡ told_texts c (map (told p) ds)
        → map shown_text (map dated_as_shown (cond b (d ∷ filter (is_dated_seen c p) ds) (filter (is_dated_seen c p) ds)))
        ≡ map (λ t. t.0) (cond b (told p d ∷ filter (λ t. value t.1 c) (map (told p) ds)) (filter (λ t. value t.1 c) (map (told p) ds)))
    at true rest = ap (λ l. d.text ∷ l) rest
    at false rest = rest

-- a text within an expression
abbrev pub within : Formula ℕ → List ℕ → List ℕ × Formula ℕ
within e text = (text, e)

pub told-new : (p n q : ℕ) (e : Formula ℕ) (texts : List (List ℕ)) → q ≤ p → map (told p) (new_lines n q e texts) ≡ map (within e) texts
told-new p n q e [] h = refl
told-new p n q e (text ∷ texts) h =
    let test : nat_le q p ≡ true = grind (arith, nat_tests, h) in
    (λ i. (text, seen test i) ∷ told-new p (n + 1) q e texts h i)
  where
    seen : nat_le q p ≡ true → seen_at ((q, e) ∷ []) p ≡ e
    seen test = ap (λ b. if b then e else seen_at [] p) test

pub texts-append : (c : List Bool) (ts us : List (List ℕ × Formula ℕ)) → told_texts c (ts ++ us) ≡ told_texts c ts ++ told_texts c us
texts-append c ts us =
    ap (map (λ t. t.0)) (filter-append (λ t. value t.1 c) ts us) ∙ map-append (λ t. t.0) (filter (λ t. value t.1 c) ts) (filter (λ t. value t.1 c) us)

-- texts within one expression are all seen where it is true, and else none
pub texts-within : (c : List Bool) (e : Formula ℕ) (texts : List (List ℕ)) → told_texts c (map (within e) texts) ≡ (if value e c then texts else [])
texts-within c e texts = at (value e c) refl
  where
    at : (b : Bool) → value e c ≡ b → told_texts c (map (within e) texts) ≡ (if b then texts else [])
    at true h = all texts
      where
        all : (us : List (List ℕ)) → told_texts c (map (within e) us) ≡ us
        all [] = refl
        all (u ∷ us) = ap (λ b. map (λ t. t.0) (cond b ((u, e) ∷ filter (λ t. value t.1 c) (map (within e) us)) (filter (λ t. value t.1 c) (map (within e) us)))) h ∙ ap (λ l. u ∷ l) (all us)
    at false h = none texts
      where
        none : (us : List (List ℕ)) → told_texts c (map (within e) us) ≡ []
        none [] = refl
        none (u ∷ us) = ap (λ b. map (λ t. t.0) (cond b ((u, e) ∷ filter (λ t. value t.1 c) (map (within e) us)) (filter (λ t. value t.1 c) (map (within e) us)))) h ∙ none us
