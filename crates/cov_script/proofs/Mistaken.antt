-- A line that isn't read is mistaken where reading stops, or too long.
use Rattle.std.proofs.Common.{◌≡◌, ◌⊎◌, ℕ, ◌+◌, ◌-◌, Bool, true, false, nat_eq, List, [], ◌∷◌, ◌++◌, length, Option, Some, None, Result, Ok, Err, refl, ap, subst, sym, inl, inr, ◌∙◌, append_assoc, arith}
use Rattle.std.specs.Prelude.{if◌then◌else◌}
use Rattle.std.proofs.lemmas.List.{append-nil, length-append}
use Rattle.cov_base.specs.Spelling.{is_line_text}
use Rattle.cov_expr.specs.Formula.{Formula}
use Rattle.cov_expr.specs.Laws.{ReadsByGrammar}
use Rattle.cov_expr.specs.Reading.{parsed}
use Rattle.cov_expr.specs.declared.spelling.ExprFault.{ExprFault}
use Rattle.cov_expr.specs.declared.spelling.ExprFault.TheVariants as faults
use Rattle.cov_script.specs.Fields.{go_on, field, taken, place, behind, at_end, expression, expression_at, text, first_field, behind_field}
use Rattle.cov_script.specs.Forms.{IsSilent, HasForm}
use Rattle.cov_script.specs.Kinds.{Kind, Expression, Text, is_of, ends_at_space, field_ahead, word_for, kinds_behind}
use Rattle.cov_script.specs.Lines.{form_of, spoken, if_keyword, keyword_of}
use Rattle.cov_script.specs.Mistakes.{IsRight, AreRight, IsFront, IsWrong, ComesTo, HasMore, IsMistaken, IsTooLong}
use Rattle.cov_script.specs.declared.keyword.Keyword.{Keyword}
use Rattle.cov_script.specs.declared.line.Line.{Line}
use Rattle.cov_script.specs.declared.line.Line.TheVariants as lines
use Rattle.cov_script.specs.declared.line.LineSyntax.{LineSyntax}
use Rattle.cov_script.specs.declared.line.LineSyntax.TheVariants.{Syntax, TooLong, Memory}
use Rattle.cov_script.proofs.Checking.{told, passed, test, to_end, checked, behind-told}
use Rattle.cov_script.proofs.Keywords.{word_found}
use Rattle.cov_script.proofs.KindLemmas.{wrong_at_first, wrong_stops, missing_stops}
use Rattle.cov_script.proofs.Places.{never_memory}
use Rattle.cov_script.proofs.Unspelling.{Starts, cut, was_keyword, spelt_as_read}

-- what an answer without its value says of a line
abbrev Tells : List ℕ → Result (Unit {0}) LineSyntax → Type 0
Tells line (Ok x) = Unit {0}
Tells line (Err (Syntax at)) = IsMistaken line at
Tells line (Err TooLong) = IsTooLong line
Tells line (Err Memory) = ⊥

are_right-more : (kinds : List Kind) (kind : Kind) (bytes field : List ℕ) → AreRight kinds bytes → IsRight kind field → AreRight (kinds ++ kind ∷ []) (bytes ++ 32 ∷ field)
are_right-more [] kind bytes field nothing right =
    (field, [], ap (λ bs. bs ++ 32 ∷ field) nothing ∙ ap (λ f. 32 ∷ f) (sym (append-nil field)), right, refl)
are_right-more (k ∷ kinds) kind bytes field (first, later, all, is, are) right =
    (first, later ++ 32 ∷ field, ap (λ bs. bs ++ 32 ∷ field) all ∙ ap (λ f. 32 ∷ f) (append_assoc first later (32 ∷ field)), is, are_right-more kinds kind later field are right)

front-more : (keyword : Keyword) (kinds : List Kind) (kind : Kind) (front field : List ℕ) → IsFront keyword kinds front → IsRight kind field → IsFront keyword (kinds ++ kind ∷ []) (front ++ 32 ∷ field)
front-more keyword kinds kind front field (fields, all, are) right =
    (fields ++ 32 ∷ field, ap (λ bs. bs ++ 32 ∷ field) all ∙ append_assoc (word_for keyword) fields (32 ∷ field), are_right-more kinds kind fields field are right)

-- a line that begins with another byte than # isn't silent
pub not_silent : (b : ℕ) (bs : List ℕ) → nat_eq b 35 ≡ false → IsSilent (b ∷ bs) → ⊥
not_silent b bs other (inl e) = cc
not_silent b bs other (inr (cs, e)) =
    let same : b ≡ 35 = cc in
    let wrong : true ≡ false = sym (ap (λ c. nat_eq c 35) same) ∙ other in
    cc

-- where the bytes behind a front begin
place_behind : (line front tail : List ℕ) → line ≡ front ++ tail → length line ≡ length front + length tail
place_behind line front tail all = ap length all ∙ length-append front tail

module _ (grammar : ReadsByGrammar) (keyword : Keyword) (line : List ℕ) where
  -- where reading has come to: the kinds that are left, and the fields that stand before a tail
  record IsAt (before kinds : List Kind) (front tail : List ℕ) : Type 0 where
    pub wanted : kinds_behind keyword ≡ before ++ kinds
    pub right : IsFront keyword before front
    pub all : line ≡ front ++ tail

  at_line_end : (before kinds : List Kind) (front : List ℕ) → IsAt before kinds front [] → IsFront keyword before line
  at_line_end before kinds front h = subst (IsFront keyword before) (sym (h.all ∙ append-nil front)) h.right

  lacks : (before : List Kind) (kind : Kind) (kinds : List Kind) (front : List ℕ) (at : ℕ) → IsAt before (kind ∷ kinds) front [] → (kind ≡ Text → ⊥) → at ≡ length line → IsMistaken line at
  lacks before kind kinds front at h needed place =
      inr (inr (inl (record {
        keyword = keyword;
        before = before;
        kind = kind;
        wanted = (kinds, h.wanted);
        needed = needed;
        right = at_line_end before (kind ∷ kinds) front h;
        place = place;
      })))

  abbrev comes_to : (before : List Kind) (kind : Kind) (kinds : List Kind) (front ahead : List ℕ) → IsAt before (kind ∷ kinds) front (32 ∷ ahead) → ComesTo line kind ahead
  comes_to before kind kinds front ahead h = record { keyword = keyword; before = before; wanted = (kinds, h.wanted); front = front; right = h.right; all = h.all }

  is_wrong : (before : List Kind) (kind : Kind) (kinds : List Kind) (front ahead : List ℕ) (within at : ℕ) → IsAt before (kind ∷ kinds) front (32 ∷ ahead) → IsWrong kind (field_ahead kind ahead) within → at ≡ length line - length ahead + within → IsMistaken line at
  is_wrong before kind kinds front ahead within at h wrong place =
      inr (inl (record {
        kind = kind;
        ahead = ahead;
        comes = comes_to before kind kinds front ahead h;
        within = within;
        wrong = wrong;
        place = (let here : at ≡ length front + 1 + within = omega (arith, place, place_behind line front (32 ∷ ahead) h.all) in here);
      }))

  -- behind the last field
  end-tells : (before : List Kind) (front tail : List ℕ) → IsAt before [] front tail → Starts tail → Tells line (at_end tt (length line, tail))
  end-tells before front tail h (inl nothing) = subst (λ t. Tells line (at_end tt (length line, t))) (sym nothing) tt
  end-tells before front tail h (inr more) =
      let all : line ≡ front ++ 32 ∷ more.0 = h.all ∙ ap (λ t. front ++ t) more.1 in
      let size = place_behind line front (32 ∷ more.0) all in
      let mistaken : HasMore line (length line - length (32 ∷ more.0)) = record {
        keyword = keyword;
        front = front;
        right = subst (λ ks. IsFront keyword ks front) (sym (h.wanted ∙ append-nil before)) h.right;
        more = more.0;
        all = all;
        place = omega (arith, size);
      } in
      subst (λ t. Tells line (at_end tt (length line, t))) (sym more.1) (inr (inr (inr mistaken)))

  -- a field that ends at a space
  module _ (before : List Kind) (kind : Kind) (kinds : List Kind) (front : List ℕ) (ends : ends_at_space kind ≡ true)
      (later : (before' : List Kind) (front' tail' : List ℕ) → IsAt before' kinds front' tail' → Starts tail' → Tells line (checked kinds (length line, tail'))) where
    not_text : kind ≡ Text → ⊥
    not_text e = let wrong : true ≡ false = sym ends ∙ ap ends_at_space e in cc

    found-tells : (ahead : List ℕ) → IsAt before (kind ∷ kinds) front (32 ∷ ahead) → (b : Bool) → is_of kind (first_field ahead) ≡ b → Tells line (go_on (field (test kind) (length line, 32 ∷ ahead)) (λ a. checked kinds a.1))
    found-tells ahead h false of_kind =
        let no_field : field_ahead kind ahead ≡ first_field ahead = ap (λ b. if b then first_field ahead else ahead) ends in
        let wrong : IsWrong kind (field_ahead kind ahead) 0 = subst (λ f. IsWrong kind f 0) (sym no_field) (wrong_at_first kind (first_field ahead) ends of_kind) in
        subst (Tells line) (sym (wrong_stops kind (checked kinds) (length line) ahead of_kind)) (is_wrong before kind kinds front ahead 0 (length line - length ahead) h wrong (omega arith))
    found-tells ahead h true of_kind =
        let parts = cut ahead in
        let is : IsRight kind (first_field ahead) = record { ends = ends; spaceless = parts.spaceless; of_kind = of_kind } in
        let goes_on : IsAt (before ++ kind ∷ []) kinds (front ++ 32 ∷ first_field ahead) (behind_field ahead) = record {
          wanted = h.wanted ∙ sym (append_assoc before (kind ∷ []) kinds);
          right = front-more keyword before kind front (first_field ahead) h.right is;
          all = h.all ∙ ap (λ bs. front ++ 32 ∷ bs) parts.whole ∙ sym (append_assoc front (32 ∷ first_field ahead) (behind_field ahead));
        } in
        subst (Tells line) (sym (ap (λ b. go_on (taken (place (length line, 32 ∷ ahead)) (behind (length line, 32 ∷ ahead)) (passed b)) (λ a. checked kinds a.1)) of_kind))
        (later (before ++ kind ∷ []) (front ++ 32 ∷ first_field ahead) (behind_field ahead) goes_on parts.starts)

    field-tells : (tail : List ℕ) → IsAt before (kind ∷ kinds) front tail → Starts tail → Tells line (go_on (field (test kind) (length line, tail)) (λ a. checked kinds a.1))
    field-tells tail h (inl nothing) =
        let here : IsAt before (kind ∷ kinds) front [] = subst (IsAt before (kind ∷ kinds) front) nothing h in
        subst (λ t. Tells line (go_on (field (test kind) (length line, t)) (λ a. checked kinds a.1))) (sym nothing)
        (subst (Tells line) (sym (missing_stops kind (checked kinds) (length line) ends)) (lacks before kind kinds front (length line) here not_text refl))
    field-tells tail h (inr more) =
        let here : IsAt before (kind ∷ kinds) front (32 ∷ more.0) = subst (IsAt before (kind ∷ kinds) front) more.1 h in
        subst (λ t. Tells line (go_on (field (test kind) (length line, t)) (λ a. checked kinds a.1))) (sym more.1)
        (found-tells more.0 here (is_of kind (first_field more.0)) refl)

  -- a field that runs to the line's end
  parsed-tells : (before kinds : List Kind) (front ahead : List ℕ) → IsAt before (Expression ∷ kinds) front (32 ∷ ahead) → (r : Result (Formula (List ℕ)) ExprFault) → parsed ahead ≡ r → Tells line (told (expression_at (length line - length ahead) r))
  parsed-tells before kinds front ahead h (Ok e) read = tt
  parsed-tells before kinds front ahead h (Err (faults.Syntax within)) read =
      is_wrong before Expression kinds front ahead within (length line - length ahead + within) h ((grammar ahead (Err (faults.Syntax within))).0 read) refl
  parsed-tells before kinds front ahead h (Err faults.TooLong) read =
      record { ahead = ahead; comes = comes_to before Expression kinds front ahead h; long = (grammar ahead (Err faults.TooLong)).0 read }
  parsed-tells before kinds front ahead h (Err faults.Memory) read = absurd (never_memory ahead read)

  text-tells : (before kinds : List Kind) (front ahead : List ℕ) → IsAt before (Text ∷ kinds) front (32 ∷ ahead) → (b : Bool) → is_line_text ahead ≡ b → Tells line (told (if b then Ok ahead else Err (Syntax (length line - length ahead))))
  text-tells before kinds front ahead h true is = tt
  text-tells before kinds front ahead h false is =
      is_wrong before Text kinds front ahead 0 (length line - length ahead) h (is, refl) (omega arith)

  to_end-tells : (before : List Kind) (kind : Kind) (kinds : List Kind) (front tail : List ℕ) → IsAt before (kind ∷ kinds) front tail → Starts tail → Tells line (to_end kind (length line, tail))
  to_end-tells before Expression kinds front tail h (inl nothing) =
      let here : IsAt before (Expression ∷ kinds) front [] = subst (IsAt before (Expression ∷ kinds) front) nothing h in
      subst (λ t. Tells line (told (expression (length line, t)))) (sym nothing) (lacks before Expression kinds front (length line - 0 + 0) here (λ e. let wrong = e in cc) (omega arith))
  to_end-tells before Expression kinds front tail h (inr more) =
      let here : IsAt before (Expression ∷ kinds) front (32 ∷ more.0) = subst (IsAt before (Expression ∷ kinds) front) more.1 h in
      subst (λ t. Tells line (told (expression (length line, t)))) (sym more.1) (parsed-tells before kinds front more.0 here (parsed more.0) refl)
  to_end-tells before Text kinds front tail h (inl nothing) = subst (λ t. Tells line (told (text (length line, t)))) (sym nothing) tt
  to_end-tells before Text kinds front tail h (inr more) =
      let here : IsAt before (Text ∷ kinds) front (32 ∷ more.0) = subst (IsAt before (Text ∷ kinds) front) more.1 h in
      subst (λ t. Tells line (told (text (length line, t)))) (sym more.1) (text-tells before kinds front more.0 here (is_line_text more.0) refl)
  to_end-tells before kind kinds front tail h starts = tt

  either-tells : (before : List Kind) (kind : Kind) (kinds : List Kind) (front tail : List ℕ)
      → ((before' : List Kind) (front' tail' : List ℕ) → IsAt before' kinds front' tail' → Starts tail' → Tells line (checked kinds (length line, tail')))
      → IsAt before (kind ∷ kinds) front tail → Starts tail → (b : Bool) → ends_at_space kind ≡ b → Tells line (if b then go_on (field (test kind) (length line, tail)) (λ a. checked kinds a.1) else to_end kind (length line, tail))
  either-tells before kind kinds front tail later h starts true ends = field-tells before kind kinds front ends later tail h starts
  either-tells before kind kinds front tail later h starts false ends = to_end-tells before kind kinds front tail h starts

  checked-tells : (kinds before : List Kind) (front tail : List ℕ) → IsAt before kinds front tail → Starts tail → Tells line (checked kinds (length line, tail))
  checked-tells [] before front tail h starts = end-tells before front tail h starts
  checked-tells (kind ∷ kinds) before front tail h starts =
      either-tells before kind kinds front tail (λ before' front' tail'. checked-tells kinds before' front' tail') h starts (ends_at_space kind) refl

module _ (grammar : ReadsByGrammar) where
  word-tells : (line : List ℕ) → (IsSilent line → ⊥) → (o : Option Keyword) → keyword_of (first_field line) ≡ o → Tells line (told (if_keyword o (length line, behind_field line)))
  word-tells line speaks None unknown =
      inl (record {
        speaks = speaks;
        unknown = λ keyword same. let found = sym (word_found keyword) ∙ ap keyword_of same ∙ unknown in cc;
        place = refl;
      })
  word-tells line speaks (Some keyword) found =
      let parts = cut line in
      let word = was_keyword (first_field line) keyword found in
      let front : IsFront keyword [] (word_for keyword) = ([], sym (append-nil (word_for keyword)), refl) in
      subst (Tells line) (sym (behind-told keyword (length line, behind_field line)))
      (checked-tells grammar keyword line (kinds_behind keyword) [] (word_for keyword) (behind_field line) (record { wanted = refl; right = front; all = parts.whole ∙ ap (λ w. w ++ behind_field line) word }) parts.starts)

  line-tells : (line : List ℕ) → Tells line (told (form_of line))
  line-tells [] = tt
  line-tells (b ∷ bs) = cases (nat_eq b 35) refl
    where
      cases : (o : Bool) → nat_eq b 35 ≡ o → Tells (b ∷ bs) (told (if o then Ok lines.Nothing else spoken (b ∷ bs)))
      cases true e = tt
      cases false e = word-tells (b ∷ bs) (not_silent b bs e) (keyword_of (first_field (b ∷ bs))) refl

  -- a line that is refused with a place is mistaken there
  pub mistaken_as_read : (line : List ℕ) (at : ℕ) → form_of line ≡ Err (Syntax at) → IsMistaken line at
  mistaken_as_read line at e = subst (Tells line) (ap told e) (line-tells line)

  -- a line that is refused as too long is too long
  pub too_long_as_read : (line : List ℕ) → form_of line ≡ Err TooLong → IsTooLong line
  too_long_as_read line e = subst (Tells line) (ap told e) (line-tells line)

  -- each line has a form, is mistaken or is too long
  pub each_told : (line : List ℕ) → ((f : Line) × HasForm line f) ⊎ (((at : ℕ) × IsMistaken line at) ⊎ IsTooLong line)
  each_told line = cases (form_of line) refl
    where
      cases : (r : Result Line LineSyntax) → form_of line ≡ r → ((f : Line) × HasForm line f) ⊎ (((at : ℕ) × IsMistaken line at) ⊎ IsTooLong line)
      cases (Ok f) e = inl (f, spelt_as_read line f e)
      cases (Err (Syntax at)) e = inr (inl (at, mistaken_as_read line at e))
      cases (Err TooLong) e = inr (inr (too_long_as_read line e))
      cases (Err Memory) e = absurd (subst (Tells line) (ap told e) (line-tells line))
