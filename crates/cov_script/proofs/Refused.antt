-- A line that is mistaken or too long is refused as that.
use Rattle.std.proofs.Common.{◌≡◌, ℕ, ◌+◌, ◌-◌, Bool, true, false, nat_eq, List, [], ◌∷◌, ◌++◌, length, Option, Some, None, Ok, Err, refl, ap, sym, inl, inr, ◌∙◌, append_assoc, arith}
use Rattle.std.specs.Prelude.{if◌then◌else◌}
use Rattle.std.specs.List.{prefix_len}
use Rattle.std.proofs.lemmas.Bool.{eqb-true}
use Rattle.std.proofs.lemmas.List.{append-nil, length-append}
use Rattle.cov_expr.specs.Laws.{ReadsByGrammar}
use Rattle.cov_expr.specs.declared.spelling.ExprFault.TheVariants as faults
use Rattle.cov_script.specs.Fields.{go_on, field, expression_at, first_field, behind_field}
use Rattle.cov_script.specs.Forms.{IsField, IsSilent}
use Rattle.cov_script.specs.Kinds.{Kind, Expression, Text, is_of, ends_at_space, field_ahead, word_for, kinds_behind}
use Rattle.cov_script.specs.Lines.{form_of, spoken, if_keyword, keyword_of}
use Rattle.cov_script.specs.Mistakes.{IsRight, AreRight, IsFront, IsWrong, ComesTo, HasUnknownKeyword, HasWrongField, LacksField, HasMore, IsMistaken, IsTooLong}
use Rattle.cov_script.specs.declared.keyword.Keyword.{Keyword}
use Rattle.cov_script.specs.declared.line.Line.TheVariants as lines
use Rattle.cov_script.specs.declared.line.LineSyntax.TheVariants.{Syntax, TooLong}
use Rattle.cov_script.proofs.Checking.{told, passed, test, to_end, checked, told-err, behind-told}
use Rattle.cov_script.proofs.Keywords.{keyword_read}
use Rattle.cov_script.proofs.KindLemmas.{first_is_wrong, wrong_stops, missing_stops}
use Rattle.cov_script.proofs.Spelling.{is_other, field_read}
use Rattle.cov_script.proofs.Unspelling.{was_keyword}

-- fields begin with a space
fields_begin : (kinds : List Kind) (fields tail : List ℕ) → AreRight kinds fields → prefix_len is_other tail ≡ 0 → prefix_len is_other (fields ++ tail) ≡ 0
fields_begin [] fields tail nothing none = ap (λ bs. prefix_len is_other (bs ++ tail)) nothing ∙ none
fields_begin (kind ∷ kinds) fields tail (field, later, all, right, are) none = ap (λ bs. prefix_len is_other (bs ++ tail)) all

-- a field that is of its kind is passed over
right_read : (kind : Kind) (kinds : List Kind) (field tail : List ℕ) (size : ℕ) → IsRight kind field → prefix_len is_other tail ≡ 0 → checked (kind ∷ kinds) (size, 32 ∷ (field ++ tail)) ≡ checked kinds (size, tail)
right_read kind kinds bytes tail size right none =
    let is : IsField (test kind) tt bytes = record { spaceless = right.spaceless; of_kind = ap passed right.of_kind } in
    ap (λ b. if b then go_on (field (test kind) (size, 32 ∷ (bytes ++ tail))) (λ a. checked kinds a.1) else to_end kind (size, 32 ∷ (bytes ++ tail))) right.ends
    ∙ ap (λ g. go_on g (λ a. checked kinds a.1)) (field_read (test kind) tt bytes tail size is none)

-- fields that are of their kinds are passed over
are_right_read : (before kinds : List Kind) (fields tail : List ℕ) (size : ℕ) → AreRight before fields → prefix_len is_other tail ≡ 0 → checked (before ++ kinds) (size, fields ++ tail) ≡ checked kinds (size, tail)
are_right_read [] kinds fields tail size nothing none = ap (λ bs. checked kinds (size, bs ++ tail)) nothing
are_right_read (kind ∷ before) kinds fields tail size (first, later, all, right, are) none =
    ap (λ bs. checked (kind ∷ (before ++ kinds)) (size, bs)) (ap (λ bs. bs ++ tail) all ∙ ap (λ bs. 32 ∷ bs) (append_assoc first later tail))
    ∙ right_read kind (before ++ kinds) first (later ++ tail) size right (fields_begin before later tail are none)
    ∙ are_right_read before kinds later tail size are none

-- a line is read from behind its front on
front_read : (keyword : Keyword) (before kinds : List Kind) (front tail line : List ℕ) → kinds_behind keyword ≡ before ++ kinds → IsFront keyword before front → line ≡ front ++ tail → prefix_len is_other tail ≡ 0
    → told (form_of line) ≡ checked kinds (length line, tail)
front_read keyword before kinds front tail line wanted (fields, spelt, are) all none =
    let whole : line ≡ word_for keyword ++ (fields ++ tail) = all ∙ ap (λ bs. bs ++ tail) spelt ∙ append_assoc (word_for keyword) fields tail in
    let size : length (word_for keyword ++ (fields ++ tail)) ≡ length line = ap length (sym whole) in
    ap told (ap form_of whole ∙ keyword_read keyword (fields ++ tail) (fields_begin before fields tail are none))
    ∙ behind-told keyword (length (word_for keyword ++ (fields ++ tail)), fields ++ tail)
    ∙ ap (λ n. checked (kinds_behind keyword) (n, fields ++ tail)) size
    ∙ ap (λ ks. checked ks (length line, fields ++ tail)) wanted
    ∙ are_right_read before kinds fields tail (length line) are none

-- so up to a field that is wanted
come_read : (line : List ℕ) (kind : Kind) (ahead : List ℕ) (h : ComesTo line kind ahead) → told (form_of line) ≡ checked (kind ∷ h.wanted.0) (length line, 32 ∷ ahead)
come_read line kind ahead h = front_read h.keyword h.before (kind ∷ h.wanted.0) h.front (32 ∷ ahead) line h.wanted.1 h.right h.all refl

-- the place behind a front and a space
place_behind : (line front ahead : List ℕ) (within : ℕ) → line ≡ front ++ 32 ∷ ahead → length line - length ahead + within ≡ length front + 1 + within
place_behind line front ahead within all =
    let size : length line ≡ length front + length (32 ∷ ahead) = ap length all ∙ length-append front (32 ∷ ahead) in
    omega (arith, size)

-- a field that ends at a space and isn't of its kind
wrong_first : (kind : Kind) (kinds : List Kind) (ahead : List ℕ) (size within : ℕ) → ends_at_space kind ≡ true → IsWrong kind (field_ahead kind ahead) within → checked (kind ∷ kinds) (size, 32 ∷ ahead) ≡ Err (Syntax (size - length ahead + within))
wrong_first kind kinds ahead size within ends wrong =
    let parts = first_is_wrong kind (field_ahead kind ahead) within ends wrong in
    let no_field : field_ahead kind ahead ≡ first_field ahead = ap (λ b. if b then first_field ahead else ahead) ends in
    let place : size - length ahead ≡ size - length ahead + within = omega (arith, parts.1) in
    ap (λ b. if b then go_on (field (test kind) (size, 32 ∷ ahead)) (λ a. checked kinds a.1) else to_end kind (size, 32 ∷ ahead)) ends
    ∙ wrong_stops kind (checked kinds) size ahead (ap (is_of kind) (sym no_field) ∙ parts.0)
    ∙ ap (λ n. Err (Syntax n)) place

wrong_text : (kinds : List Kind) (ahead : List ℕ) (size within : ℕ) → IsWrong Text ahead within → checked (Text ∷ kinds) (size, 32 ∷ ahead) ≡ Err (Syntax (size - length ahead + within))
wrong_text kinds ahead size within wrong =
    let place : size - length ahead ≡ size - length ahead + within = omega (arith, wrong.1) in
    ap (λ b. told (if b then Ok ahead else Err (Syntax (size - length ahead)))) wrong.0 ∙ ap (λ n. Err (Syntax n)) place

module _ (grammar : ReadsByGrammar) where
  wrong_read : (kind : Kind) (kinds : List Kind) (ahead : List ℕ) (size within : ℕ) → IsWrong kind (field_ahead kind ahead) within → checked (kind ∷ kinds) (size, 32 ∷ ahead) ≡ Err (Syntax (size - length ahead + within))
  wrong_read Text kinds ahead size within wrong = wrong_text kinds ahead size within wrong
  wrong_read Expression kinds ahead size within wrong =
      ap (λ r. told (expression_at (size - length ahead) r)) ((grammar ahead (Err (faults.Syntax within))).1 wrong)
  wrong_read kind kinds ahead size within wrong = wrong_first kind kinds ahead size within refl wrong

  wrong_refused : (line : List ℕ) (at : ℕ) → HasWrongField line at → told (form_of line) ≡ Err (Syntax at)
  wrong_refused line at h =
      come_read line h.kind h.ahead h.comes
      ∙ wrong_read h.kind h.comes.wanted.0 h.ahead (length line) h.within h.wrong
      ∙ ap (λ n. Err (Syntax n)) (place_behind line h.comes.front h.ahead h.within h.comes.all ∙ sym h.place)

  -- a line that is too long is refused as that
  pub too_long_refused : (line : List ℕ) → IsTooLong line → form_of line ≡ Err TooLong
  too_long_refused line h =
      told-err (form_of line) TooLong
      (come_read line Expression h.ahead h.comes
      ∙ ap (λ r. told (expression_at (length line - length h.ahead) r)) ((grammar h.ahead (Err faults.TooLong)).1 h.long))

missing_field : (kind : Kind) (kinds : List Kind) (size : ℕ) → ends_at_space kind ≡ true → checked (kind ∷ kinds) (size, []) ≡ Err (Syntax size)
missing_field kind kinds size ends =
    ap (λ b. if b then go_on (field (test kind) (size, [])) (λ a. checked kinds a.1) else to_end kind (size, [])) ends
    ∙ missing_stops kind (checked kinds) size ends

missing_read : (kind : Kind) (kinds : List Kind) (size : ℕ) → (kind ≡ Text → ⊥) → checked (kind ∷ kinds) (size, []) ≡ Err (Syntax size)
missing_read Text kinds size needed = absurd (needed refl)
missing_read Expression kinds size needed =
    let place : size - 0 + 0 ≡ size = omega arith in
    ap (λ n. Err (Syntax n)) place
missing_read kind kinds size needed = missing_field kind kinds size refl

lack_refused : (line : List ℕ) (at : ℕ) → LacksField line at → told (form_of line) ≡ Err (Syntax at)
lack_refused line at h =
    front_read h.keyword h.before (h.kind ∷ h.wanted.0) line [] line h.wanted.1 h.right (sym (append-nil line)) refl
    ∙ missing_read h.kind h.wanted.0 (length line) h.needed
    ∙ ap (λ n. Err (Syntax n)) (sym h.place)

more_refused : (line : List ℕ) (at : ℕ) → HasMore line at → told (form_of line) ≡ Err (Syntax at)
more_refused line at h =
    let size : length line ≡ length h.front + length (32 ∷ h.more) = ap length h.all ∙ length-append h.front (32 ∷ h.more) in
    let place : length line - length (32 ∷ h.more) ≡ at = omega (arith, size, h.place) in
    front_read h.keyword (kinds_behind h.keyword) [] h.front (32 ∷ h.more) line (sym (append-nil (kinds_behind h.keyword))) h.right h.all refl
    ∙ ap (λ n. Err (Syntax n)) place

unknown_refused : (line : List ℕ) (at : ℕ) → HasUnknownKeyword line at → form_of line ≡ Err (Syntax at)
unknown_refused line at h = speaks line h.speaks ∙ no_keyword (keyword_of (first_field line)) refl ∙ ap (λ n. Err (Syntax n)) (sym h.place)
  where
    begun : (b : ℕ) (bs : List ℕ) → (IsSilent (b ∷ bs) → ⊥) → (o : Bool) → nat_eq b 35 ≡ o → (if o then Ok lines.Nothing else spoken (b ∷ bs)) ≡ spoken (b ∷ bs)
    begun b bs heard true e = absurd (heard (inr (bs, ap (λ c. c ∷ bs) (eqb-true b 35 e))))
    begun b bs heard false e = refl

    speaks : (bs : List ℕ) → (IsSilent bs → ⊥) → form_of bs ≡ spoken bs
    speaks [] heard = absurd (heard (inl refl))
    speaks (b ∷ bs) heard = begun b bs heard (nat_eq b 35) refl

    no_keyword : (o : Option Keyword) → keyword_of (first_field line) ≡ o → spoken line ≡ Err (Syntax 0)
    no_keyword None found = ap (λ o. if_keyword o (length line, behind_field line)) found
    no_keyword (Some k) found = absurd (h.unknown k (sym (was_keyword (first_field line) k found)))

-- a line that is mistaken at a place is refused with it
pub mistake_refused : (grammar : ReadsByGrammar) (line : List ℕ) (at : ℕ) → IsMistaken line at → form_of line ≡ Err (Syntax at)
mistake_refused grammar line at (inl h) = unknown_refused line at h
mistake_refused grammar line at (inr (inl h)) = told-err (form_of line) (Syntax at) (wrong_refused grammar line at h)
mistake_refused grammar line at (inr (inr (inl h))) = told-err (form_of line) (Syntax at) (lack_refused line at h)
mistake_refused grammar line at (inr (inr (inr h))) = told-err (form_of line) (Syntax at) (more_refused line at h)
