-- What reads as a form is spelt by it.
use Rattle.std.proofs.Common.{◌≡◌, ◌⊎◌, ℕ, suc, ◌+◌, ◌-◌, Bool, true, false, cond, nat_eq, List, [], ◌∷◌, ◌++◌, map, length, take, drop, Option, Some, None, Result, Ok, Err, refl, ap, subst, sym, inl, inr, ◌∙◌, one-add}
use Rattle.std.specs.Prelude.{codes, ◌&&◌, if◌then◌else◌}
use Rattle.std.specs.List.{list_all, prefix_len}
use Rattle.std.specs.Str.{bytes_eq}
use Rattle.std.proofs.lemmas.Bool.{eqb-true, not-false}
use Rattle.std.proofs.lemmas.List.{append-nil}
use Rattle.std.proofs.lemmas.Slice.Eq.{bytes_eq-Decides}
use Rattle.cov_base.specs.Spelling.{is_line_text, path_of}
use Rattle.cov_expr.specs.ChoiceText.{bindings_of, switch_of}
use Rattle.cov_expr.specs.Formula.{Formula}
use Rattle.cov_expr.specs.Reading.{parsed}
use Rattle.cov_expr.specs.declared.spelling.ExprFault.{ExprFault}
use Rattle.cov_expr.specs.declared.spelling.ExprFault.TheVariants as faults
use Rattle.cov_script.specs.Fields.{Rest, Got, go_on, field, taken, place, behind, at_end, expression, expression_at, text, token_of, name_of, new_path_of, word_of, number_of, line_field_of, first_field, behind_field}
use Rattle.cov_script.specs.Forms.{IsField, One, Two, Behind, Only, Named, LineAndText, Ambition, HasForm}
use Rattle.cov_script.specs.Kinds.{word_for}
use Rattle.cov_script.specs.Lines.{form_of, spoken, if_keyword, line_behind, keyword_of, every_keyword, looked_up, two_fields, alone, pair, triple, made, line_and_text, named_text, ambition, opening, named_expression}
use Rattle.cov_script.specs.declared.keyword.Keyword.{Keyword}
use Rattle.cov_script.specs.declared.keyword.Keyword.TheVariants as keywords
use Rattle.cov_script.specs.declared.line.Line.{Line}
use Rattle.cov_script.specs.declared.line.Line.TheVariants as lines
use Rattle.cov_script.specs.declared.line.LineField.{LineField}
use Rattle.cov_script.specs.declared.line.LineSyntax.{LineSyntax}
use Rattle.cov_script.specs.declared.line.LineSyntax.TheVariants.{Syntax}
use Rattle.cov_script.proofs.Spelling.{is_other}

pub same_bytes : (xs ys : List ℕ) → bytes_eq xs ys ≡ true → xs ≡ ys
same_bytes xs ys h = (bytes_eq-Decides xs ys).0 h

-- nothing, or a space and what follows it
abbrev pub Starts : List ℕ → Type 0
Starts bs = (bs ≡ []) ⊎ ((r : List ℕ) × (bs ≡ 32 ∷ r))

pub record IsCut (bs : List ℕ) : Type 0 where
  pub spaceless : list_all is_other (first_field bs) ≡ true
  pub whole : bs ≡ first_field bs ++ behind_field bs
  pub starts : Starts (behind_field bs)

cut_cons : (b : ℕ) (bs : List ℕ) (o : Bool) → is_other b ≡ o → IsCut bs → IsCut (b ∷ bs)
cut_cons b bs true h later =
    let len : prefix_len is_other (b ∷ bs) ≡ suc (prefix_len is_other bs) = ap (λ o. cond o (1 + prefix_len is_other bs) 0) h ∙ one-add (prefix_len is_other bs) in
    let front : first_field (b ∷ bs) ≡ b ∷ first_field bs = ap (λ n. take n (b ∷ bs)) len in
    let back : behind_field (b ∷ bs) ≡ behind_field bs = ap (λ n. drop n (b ∷ bs)) len in
    record {
      spaceless = ap (list_all is_other) front ∙ ap (λ o. o && list_all is_other (first_field bs)) h ∙ later.spaceless;
      whole = ap (λ xs. b ∷ xs) later.whole ∙ sym (ap (λ f. f ++ behind_field (b ∷ bs)) front ∙ ap (λ g. (b ∷ first_field bs) ++ g) back);
      starts = subst Starts (sym back) later.starts;
    }
cut_cons b bs false h later =
    let len : prefix_len is_other (b ∷ bs) ≡ 0 = ap (λ o. cond o (1 + prefix_len is_other bs) 0) h in
    let front : first_field (b ∷ bs) ≡ [] = ap (λ n. take n (b ∷ bs)) len in
    let back : behind_field (b ∷ bs) ≡ b ∷ bs = ap (λ n. drop n (b ∷ bs)) len in
    let space : b ≡ 32 = eqb-true b 32 (not-false (nat_eq b 32) h) in
    record {
      spaceless = ap (list_all is_other) front;
      whole = sym (ap (λ f. f ++ behind_field (b ∷ bs)) front ∙ back);
      starts = inr (bs, back ∙ ap (λ c. c ∷ bs) space);
    }

-- a line is its first field and what stands behind it
pub cut : (bs : List ℕ) → IsCut bs
cut [] = record { spaceless = refl; whole = refl; starts = inl refl }
cut (b ∷ bs) = cut_cons b bs (is_other b) refl (cut bs)

went_on : {X Y : Type 0} (r : Result X LineSyntax) (k : X → Result Y LineSyntax) (f : Y) → go_on r k ≡ Ok f → (x : X) × (r ≡ Ok x) × (k x ≡ Ok f)
went_on (Ok x) k f e = (x, refl, e)
went_on (Err fault) k f e = cc

was_taken : {X : Type 0} (at : ℕ) (later : Rest) (o : Option X) (g : X × Rest) → taken at later o ≡ Ok g → (x : X) × (o ≡ Some x) × (g ≡ (x, later))
was_taken at later None g e = cc
was_taken at later (Some x) g e = (x, refl, cc)

ended : {X : Type 0} (x f : X) (size : ℕ) (tail : List ℕ) → at_end x (size, tail) ≡ Ok f → (tail ≡ []) × (f ≡ x)
ended x f size [] e = (refl, cc)
ended x f size (b ∷ bs) e = cc

-- a field was read, and what is left behind it
record WasField {X : Type 0} (kind : List ℕ → Option X) (size : ℕ) (bs : List ℕ) (g : X × Rest) : Type 0 where
  pub value : X
  pub bytes : List ℕ
  pub tail : List ℕ
  pub is : IsField kind value bytes
  pub got : g ≡ (value, (size, tail))
  pub all : bs ≡ 32 ∷ (bytes ++ tail)
  pub starts : Starts tail

was_field : {X : Type 0} (kind : List ℕ → Option X) → kind [] ≡ None → (size : ℕ) (bs : List ℕ) (g : X × Rest) → Starts bs → field kind (size, bs) ≡ Ok g → WasField kind size bs g
was_field kind none size bs g (inl nothing) e =
    let read : field kind (size, []) ≡ Ok g = ap (λ v. field kind (size, v)) (sym nothing) ∙ e in
    let fault : field kind (size, []) ≡ Err (Syntax (place (size, []))) = ap (taken (place (size, [])) (behind (size, []))) none in
    let wrong : Err (Syntax (place (size, []))) ≡ Ok g = sym fault ∙ read in
    cc
was_field kind none size bs g (inr more) e =
    let r = more.0 in
    let read : field kind (size, 32 ∷ r) ≡ Ok g = ap (λ v. field kind (size, v)) (sym more.1) ∙ e in
    let value = was_taken (place (size, 32 ∷ r)) (behind (size, 32 ∷ r)) (kind (first_field r)) g read in
    let parts = cut r in
    record {
      value = value.0;
      bytes = first_field r;
      tail = behind_field r;
      is = record { spaceless = parts.spaceless; of_kind = value.1 };
      got = value.2;
      all = more.1 ∙ ap (λ xs. 32 ∷ xs) parts.whole;
      starts = parts.starts;
    }

-- the last field
was_last : {X : Type 0} (kind : List ℕ → Option X) → kind [] ≡ None → (size : ℕ) (bs : List ℕ) (x : X) → Starts bs → alone kind (size, bs) ≡ Ok x → (a : List ℕ) × IsField kind x a × (bs ≡ 32 ∷ a)
was_last kind none size bs x starts e =
    let read = went_on (field kind (size, bs)) (λ r. at_end r.0 r.1) x e in
    let part = was_field kind none size bs read.0 starts read.1 in
    let last = ended part.value x size part.tail (ap (λ g. at_end g.0 g.1) (sym part.got) ∙ read.2) in
    (part.bytes, subst (λ v. IsField kind v part.bytes) (sym last.1) part.is, part.all ∙ ap (λ t. 32 ∷ (part.bytes ++ t)) last.0 ∙ ap (λ w. 32 ∷ w) (append-nil part.bytes))

was_one : {X : Type 0} (word : List ℕ) (kind : List ℕ → Option X) → kind [] ≡ None → (size : ℕ) (bs : List ℕ) (x : X) → Starts bs → alone kind (size, bs) ≡ Ok x → One word kind x (word ++ bs)
was_one word kind none size bs x starts e =
    let r = was_last kind none size bs x starts e in
    record { a = r.0; first = r.1; all = ap (λ v. word ++ v) r.2 }

-- two fields, and what is left behind them
record WereFields {X Y : Type 0} (kind : List ℕ → Option X) (kind' : List ℕ → Option Y) (size : ℕ) (bs : List ℕ) (g : (X × Y) × Rest) : Type 0 where
  pub x : X
  pub y : Y
  pub a : List ℕ
  pub b : List ℕ
  pub tail : List ℕ
  pub first : IsField kind x a
  pub second : IsField kind' y b
  pub got : g ≡ ((x, y), (size, tail))
  pub all : bs ≡ 32 ∷ (a ++ 32 ∷ (b ++ tail))
  pub starts : Starts tail

were_fields : {X Y : Type 0} (kind : List ℕ → Option X) (kind' : List ℕ → Option Y) → kind [] ≡ None → kind' [] ≡ None → (size : ℕ) (bs : List ℕ) (g : (X × Y) × Rest) → Starts bs → two_fields kind kind' (size, bs) ≡ Ok g → WereFields kind kind' size bs g
were_fields {X} {Y} kind kind' none none' size bs g starts e =
    let k : X × Rest → Got (X × Y) = λ a. go_on (field kind' a.1) (λ b. Ok ((a.0, b.0), b.1)) in
    let read = went_on (field kind (size, bs)) k g e in
    let part = was_field kind none size bs read.0 starts read.1 in
    let read' = went_on (field kind' (size, part.tail)) (λ b. Ok ((part.value, b.0), b.1)) g (ap k (sym part.got) ∙ read.2) in
    let part' = was_field kind' none' size part.tail read'.0 part.starts read'.1 in
    let same : Ok ((part.value, part'.value), (size, part'.tail)) ≡ Ok g = ap (λ b. Ok ((part.value, b.0), b.1)) (sym part'.got) ∙ read'.2 in
    record {
      x = part.value;
      y = part'.value;
      a = part.bytes;
      b = part'.bytes;
      tail = part'.tail;
      first = part.is;
      second = part'.is;
      got = cc;
      all = part.all ∙ ap (λ t. 32 ∷ (part.bytes ++ t)) part'.all;
      starts = part'.starts;
    }

was_two : {X Y : Type 0} (word : List ℕ) (kind : List ℕ → Option X) (kind' : List ℕ → Option Y) → kind [] ≡ None → kind' [] ≡ None → (size : ℕ) (bs : List ℕ) (r : X × Y) → Starts bs → pair kind kind' (size, bs) ≡ Ok r
    → Two word kind kind' r.0 r.1 (word ++ bs)
was_two word kind kind' none none' size bs r starts e =
    let read = went_on (two_fields kind kind' (size, bs)) (λ a. at_end a.0 a.1) r e in
    let part = were_fields kind kind' none none' size bs read.0 starts read.1 in
    let last = ended (part.x, part.y) r size part.tail (ap (λ a. at_end a.0 a.1) (sym part.got) ∙ read.2) in
    subst (λ v. Two word kind kind' v.0 v.1 (word ++ bs)) (sym last.1)
    (record {
      a = part.a;
      b = part.b;
      first = part.first;
      second = part.second;
      all = ap (λ v. word ++ v) (part.all ∙ ap (λ t. 32 ∷ (part.a ++ 32 ∷ (part.b ++ t))) last.0 ∙ ap (λ w. 32 ∷ (part.a ++ 32 ∷ w)) (append-nil part.b));
    })

-- two fields and what follows them, where the latter is read as what it spells
was_behind : {X Y Z R : Type 0} (word : List ℕ) (kind : List ℕ → Option X) (kind' : List ℕ → Option Y) (later : Rest → Result Z LineSyntax) (all : X → Y → Z → R) (Last : Z → List ℕ → Type 0)
    → kind [] ≡ None → kind' [] ≡ None → (size : ℕ) → ((tail : List ℕ) (z : Z) → Starts tail → later (size, tail) ≡ Ok z → (d : List ℕ) × Last z d × (tail ≡ 32 ∷ d))
    → (bs : List ℕ) (r : R) → Starts bs → go_on (two_fields kind kind' (size, bs)) (λ a. go_on (later a.1) (λ z. Ok (all a.0.0 a.0.1 z))) ≡ Ok r
    → (x : X) × (y : Y) × (z : Z) × Behind word kind kind' x y (Last z) (word ++ bs) × (all x y z ≡ r)
was_behind {X} {Y} {Z} {R} word kind kind' later all Last none none' size spelt bs r starts e =
    let k : (X × Y) × Rest → Result R LineSyntax = λ a. go_on (later a.1) (λ z. Ok (all a.0.0 a.0.1 z)) in
    let read = went_on (two_fields kind kind' (size, bs)) k r e in
    let part = were_fields kind kind' none none' size bs read.0 starts read.1 in
    let read' = went_on (later (size, part.tail)) (λ z. Ok (all part.x part.y z)) r (ap k (sym part.got) ∙ read.2) in
    let last = spelt part.tail read'.0 part.starts read'.1 in
    let same : all part.x part.y read'.0 ≡ r = let is = read'.2 in cc in (
      part.x,
      part.y,
      read'.0,
      record {
        a = part.a;
        b = part.b;
        last = last.0;
        first = part.first;
        second = part.second;
        third = last.1;
        all = ap (λ v. word ++ v) (part.all ∙ ap (λ t. 32 ∷ (part.a ++ 32 ∷ (part.b ++ t))) last.2);
      },
      same,
    )

was_three : {X Y Z : Type 0} (word : List ℕ) (kind : List ℕ → Option X) (kind' : List ℕ → Option Y) (kind'' : List ℕ → Option Z) → kind [] ≡ None → kind' [] ≡ None → kind'' [] ≡ None
    → (size : ℕ) (bs : List ℕ) (r : X × Y × Z) → Starts bs → triple kind kind' kind'' (size, bs) ≡ Ok r → Behind word kind kind' r.0 r.1 (IsField kind'' r.2) (word ++ bs)
was_three word kind kind' kind'' none none' none'' size bs r starts e =
    let b = was_behind word kind kind' (alone kind'') (λ x y z. (x, y, z)) (IsField kind'') none none' size (was_last kind'' none'' size) bs r starts e in
    subst (λ v. Behind word kind kind' v.0 v.1 (IsField kind'' v.2) (word ++ bs)) b.4 b.3

was_expression : (at : ℕ) (r : Result (Formula (List ℕ)) ExprFault) (e : Formula (List ℕ)) → expression_at at r ≡ Ok e → r ≡ Ok e
was_expression at (Ok x) e h = cc
was_expression at (Err (faults.Syntax within)) e h = cc
was_expression at (Err faults.TooLong) e h = cc
was_expression at (Err faults.Memory) e h = cc

-- an expression and what stands before it
spelt_expression : (size : ℕ) (bs : List ℕ) (e : Formula (List ℕ)) → Starts bs → expression (size, bs) ≡ Ok e → (a : List ℕ) × (parsed a ≡ Ok e) × (bs ≡ 32 ∷ a)
spelt_expression size bs e (inl nothing) h =
    let read : expression (size, []) ≡ Ok e = ap (λ v. expression (size, v)) (sym nothing) ∙ h in
    cc
spelt_expression size bs e (inr more) h =
    let read : expression (size, 32 ∷ more.0) ≡ Ok e = ap (λ v. expression (size, v)) (sym more.1) ∙ h in
    (more.0, was_expression (place (size, 32 ∷ more.0)) (parsed more.0) e read, more.1)

was_only : (word : List ℕ) (size : ℕ) (bs : List ℕ) (e : Formula (List ℕ)) → Starts bs → expression (size, bs) ≡ Ok e → Only word e (word ++ bs)
was_only word size bs e starts h =
    let a = spelt_expression size bs e starts h in
    record { a = a.0; spells = a.1; all = ap (λ v. word ++ v) a.2 }

when-text : (b : Bool) (bytes t : List ℕ) (at : ℕ) → (if b then Ok bytes else Err (Syntax at)) ≡ Ok t → (b ≡ true) × (bytes ≡ t)
when-text true bytes t at h = (refl, cc)
when-text false bytes t at h = let wrong : Err (Syntax at) ≡ Ok t = h in cc

was_text : (size : ℕ) (bs t : List ℕ) → text (size, bs) ≡ Ok t → (is_line_text t ≡ true) × (drop 1 bs ≡ t)
was_text size bs t h =
    let parts = when-text (is_line_text (drop 1 bs)) (drop 1 bs) t (place (size, bs)) h in
    (ap is_line_text (sym parts.1) ∙ parts.0, parts.1)

ends_or_goes_on : (w tail t : List ℕ) → Starts tail → drop 1 tail ≡ t → (w ++ tail ≡ w ++ 32 ∷ t) ⊎ ((w ++ tail ≡ w) × (t ≡ []))
ends_or_goes_on w tail t (inl nothing) h = inr (ap (λ v. w ++ v) nothing ∙ append-nil w, sym h ∙ ap (drop 1) nothing)
ends_or_goes_on w tail t (inr more) h =
    let same : more.0 ≡ t = sym (ap (drop 1) more.1) ∙ h in
    inl (ap (λ v. w ++ v) more.1 ∙ ap (λ v. w ++ 32 ∷ v) same)

was_line_and_text : (size : ℕ) (bs : List ℕ) (g : LineField × List ℕ) → Starts bs → line_and_text (size, bs) ≡ Ok g → (d : List ℕ) × LineAndText g.0 g.1 d × (bs ≡ 32 ∷ d)
was_line_and_text size bs g starts h =
    let k : LineField × Rest → Result (LineField × List ℕ) LineSyntax = λ a. go_on (text a.1) (λ t. Ok (a.0, t)) in
    let read = went_on (field line_field_of (size, bs)) k g h in
    let part = was_field line_field_of refl size bs read.0 starts read.1 in
    let read' = went_on (text (size, part.tail)) (λ t. Ok (part.value, t)) g (ap k (sym part.got) ∙ read.2) in
    let t = was_text size part.tail read'.0 read'.1 in
    let same : (part.value, read'.0) ≡ g = let all = read'.2 in cc in
    (part.bytes ++ part.tail, subst (λ v. LineAndText v.0 v.1 (part.bytes ++ part.tail)) same (record { a = part.bytes; first = part.is; short = t.0; all = ends_or_goes_on part.bytes part.tail read'.0 part.starts t.1 }), part.all)

was_with_text : (word : List ℕ) (size : ℕ) (bs : List ℕ) (r : List ℕ × List (List ℕ) × LineField × List ℕ) → Starts bs → named_text (size, bs) ≡ Ok r → Behind word name_of path_of r.0 r.1 (LineAndText r.2 r.3) (word ++ bs)
was_with_text word size bs r starts e =
    let b = was_behind word name_of path_of line_and_text (λ n p g. (n, p, g.0, g.1)) (λ g. LineAndText g.0 g.1) refl refl size (was_line_and_text size) bs r starts e in
    subst (λ v. Behind word name_of path_of v.0 v.1 (LineAndText v.2 v.3) (word ++ bs)) b.4 b.3

was_word : (word bytes : List ℕ) (x : Unit {0}) → word_of word bytes ≡ Some x → bytes ≡ word
was_word word bytes x h = cases (bytes_eq bytes word) refl where
  cases : (b : Bool) → bytes_eq bytes word ≡ b → bytes ≡ word
  cases true e = same_bytes bytes word e
  cases false e =
      let wrong : None ≡ Some x = sym (ap (λ b. if b then Some tt else None) e) ∙ h in
      cc

was_ambition : (size : ℕ) (bs : List ℕ) (e : Formula (List ℕ)) → Starts bs → ambition (size, bs) ≡ Ok e → (d : List ℕ) × Ambition e d × (bs ≡ 32 ∷ d)
was_ambition size bs e starts h =
    let word = codes "for" in
    let k : Unit {0} × Rest → Result (Formula (List ℕ)) LineSyntax = λ a. expression a.1 in
    let read = went_on (field (word_of word) (size, bs)) k e h in
    let part = was_field (word_of word) refl size bs read.0 starts read.1 in
    let a = spelt_expression size part.tail e part.starts (ap k (sym part.got) ∙ read.2) in
    let bytes = was_word word part.bytes part.value part.is.of_kind in
    (part.bytes ++ part.tail, record { a = a.0; spells = a.1; all = ap (λ w. w ++ part.tail) bytes ∙ ap (λ t. word ++ t) a.2 }, part.all)

was_open : (word : List ℕ) (size : ℕ) (bs : List ℕ) (r : List ℕ × List (List ℕ × Bool) × Formula (List ℕ)) → Starts bs → opening (size, bs) ≡ Ok r → Behind word name_of bindings_of r.0 r.1 (Ambition r.2) (word ++ bs)
was_open word size bs r starts e =
    let b = was_behind word name_of bindings_of ambition (λ n c e. (n, c, e)) Ambition refl refl size (was_ambition size) bs r starts e in
    subst (λ v. Behind word name_of bindings_of v.0 v.1 (Ambition v.2) (word ++ bs)) b.4 b.3

was_named : (word : List ℕ) (size : ℕ) (bs : List ℕ) (r : List ℕ × Formula (List ℕ)) → Starts bs → named_expression (size, bs) ≡ Ok r → Named word r.0 r.1 (word ++ bs)
was_named word size bs r starts h =
    let k : List ℕ × Rest → Result (List ℕ × Formula (List ℕ)) LineSyntax = λ a. go_on (expression a.1) (λ e. Ok (a.0, e)) in
    let read = went_on (field name_of (size, bs)) k r h in
    let part = was_field name_of refl size bs read.0 starts read.1 in
    let read' = went_on (expression (size, part.tail)) (λ e. Ok (part.value, e)) r (ap k (sym part.got) ∙ read.2) in
    let last = spelt_expression size part.tail read'.0 part.starts read'.1 in
    let same : (part.value, read'.0) ≡ r = let all = read'.2 in cc in
    subst (λ v. Named word v.0 v.1 (word ++ bs)) same
    (record {
      a = part.bytes;
      b = last.0;
      first = part.is;
      spells = last.1;
      all = ap (λ v. word ++ v) (part.all ∙ ap (λ t. 32 ∷ (part.bytes ++ t)) last.2);
    })

was_looked_up : (ks : List Keyword) (bytes : List ℕ) (k : Keyword) → looked_up (map (λ k. (word_for k, k)) ks) bytes ≡ Some k → bytes ≡ word_for k
was_looked_up [] bytes k h = cc
was_looked_up (j ∷ ks) bytes k h = cases (bytes_eq bytes (word_for j)) refl (λ e. was_looked_up ks bytes k e) where
  others : Option Keyword
  others = looked_up (map (λ k. (word_for k, k)) ks) bytes

  cases : (b : Bool) → bytes_eq bytes (word_for j) ≡ b → (others ≡ Some k → bytes ≡ word_for k) → bytes ≡ word_for k
  cases true e later =
      let found : Some j ≡ Some k = sym (ap (λ b. if b then Some j else others) e) ∙ h in
      let same : j ≡ k = cc in
      same_bytes bytes (word_for j) e ∙ ap word_for same
  cases false e later = later (sym (ap (λ b. if b then Some j else others) e) ∙ h)

pub was_keyword : (bytes : List ℕ) (k : Keyword) → keyword_of bytes ≡ Some k → bytes ≡ word_for k
was_keyword bytes k h = was_looked_up every_keyword bytes k h

-- a line has a form where what it was made of is what the form's fields spell
was_made : {X : Type 0} (line : List ℕ) (read : Result X LineSyntax) (form : X → Line) (f : Line) → ((x : X) → read ≡ Ok x → HasForm line (form x)) → made read form ≡ Ok f → HasForm line f
was_made line (Ok x) form f spelt e =
    let same : form x ≡ f = cc in
    subst (HasForm line) same (spelt x refl)
was_made line (Err fault) form f spelt e = cc

-- a line ends where nothing more is read
was_end : (size : ℕ) (bs : List ℕ) (form f : Line) → at_end form (size, bs) ≡ Ok f → (bs ≡ []) × (form ≡ f)
was_end size [] form f h = (refl, cc)
was_end size (b ∷ bs) form f h = let wrong : Err (Syntax (size - length (b ∷ bs))) ≡ Ok f = h in absurd (cc)

was_bare : (k : Keyword) (size : ℕ) (bs : List ℕ) (form f : Line) → HasForm (word_for k ++ []) form → at_end form (size, bs) ≡ Ok f → HasForm (word_for k ++ bs) f
was_bare k size bs form f spelt e =
    let end = was_end size bs form f e in
    subst (λ (r : List ℕ × Line). HasForm (word_for k ++ r.0) r.1) (λ j. (sym end.0 j, end.1 j)) spelt

-- what reads as a form behind a keyword is spelt by it
behind_keyword : (k : Keyword) (f : Line) (size : ℕ) (bs : List ℕ) → Starts bs → line_behind k (size, bs) ≡ Ok f → HasForm (word_for k ++ bs) f
behind_keyword keywords.Option f size bs starts e = was_made _ _ _ f (λ x. was_one _ token_of refl size bs x starts) e
behind_keyword keywords.Constraint f size bs starts e = was_made _ _ _ f (λ x. was_only _ size bs x starts) e
behind_keyword keywords.Prefer f size bs starts e = was_made _ _ _ f (λ x. was_only _ size bs x starts) e
behind_keyword keywords.Default f size bs starts e = was_made _ _ _ f (λ x. was_two _ token_of switch_of refl refl size bs x starts) e
behind_keyword keywords.Complete f size bs starts e = was_made _ _ _ f (λ x. was_one _ bindings_of refl size bs x starts) e
behind_keyword keywords.Open f size bs starts e = was_made _ _ _ f (λ x. was_open _ size bs x starts) e
behind_keyword keywords.Side f size bs starts e = was_made _ _ _ f (λ x. was_named _ size bs x starts) e
behind_keyword keywords.MakeDir f size bs starts e = was_made _ _ _ f (λ x. was_two _ name_of new_path_of refl refl size bs x starts) e
behind_keyword keywords.MakeFile f size bs starts e = was_made _ _ _ f (λ x. was_two _ name_of new_path_of refl refl size bs x starts) e
behind_keyword keywords.Rename f size bs starts e = was_made _ _ _ f (λ x. was_three _ name_of path_of name_of refl refl refl size bs x starts) e
behind_keyword keywords.Move f size bs starts e = was_made _ _ _ f (λ x. was_three _ name_of path_of path_of refl refl refl size bs x starts) e
behind_keyword keywords.Remove f size bs starts e = was_made _ _ _ f (λ x. was_two _ name_of path_of refl refl size bs x starts) e
behind_keyword keywords.Insert f size bs starts e = was_made _ _ _ f (λ x. was_with_text _ size bs x starts) e
behind_keyword keywords.Delete f size bs starts e = was_made _ _ _ f (λ x. was_three _ name_of path_of line_field_of refl refl refl size bs x starts) e
behind_keyword keywords.Replace f size bs starts e = was_made _ _ _ f (λ x. was_with_text _ size bs x starts) e
behind_keyword keywords.Show f size bs starts e = was_made _ _ _ f (λ x. was_two _ name_of path_of refl refl size bs x starts) e
behind_keyword keywords.List f size bs starts e = was_made _ _ _ f (λ x. was_two _ name_of path_of refl refl size bs x starts) e
behind_keyword keywords.Refresh f size bs starts e = was_made _ _ _ f (λ x. was_one _ name_of refl size bs x starts) e
behind_keyword keywords.Commit f size bs starts e = was_made _ _ _ f (λ x. was_one _ name_of refl size bs x starts) e
behind_keyword keywords.Drop f size bs starts e = was_made _ _ _ f (λ x. was_one _ name_of refl size bs x starts) e
behind_keyword keywords.Cat f size bs starts e = was_made _ _ _ f (λ x. was_two _ bindings_of path_of refl refl size bs x starts) e
behind_keyword keywords.Checkout f size bs starts e = was_made _ _ _ f (λ x. was_two _ name_of bindings_of refl refl size bs x starts) e
behind_keyword keywords.Alt f size bs starts e = was_made _ _ _ f (λ x. was_three _ bindings_of token_of path_of refl refl refl size bs x starts) e
behind_keyword keywords.Cond f size bs starts e = was_made _ _ _ f (λ x. was_two _ bindings_of path_of refl refl size bs x starts) e
behind_keyword keywords.Where f size bs starts e = was_made _ _ _ f (λ x. was_one _ number_of refl size bs x starts) e
behind_keyword keywords.Upgrade f size bs starts e = was_bare keywords.Upgrade size bs lines.Upgrade f refl e
behind_keyword keywords.Analyse f size bs starts e = was_bare keywords.Analyse size bs lines.Analyse f refl e
behind_keyword keywords.Nearest f size bs starts e = was_made _ _ _ f (λ x. was_one _ bindings_of refl size bs x starts) e
behind_keyword keywords.Log f size bs starts e = was_made _ _ _ f (λ x. was_one _ bindings_of refl size bs x starts) e
behind_keyword keywords.Blame f size bs starts e = was_made _ _ _ f (λ x. was_two _ bindings_of path_of refl refl size bs x starts) e
behind_keyword keywords.Past f size bs starts e = was_made _ _ _ f (λ x. was_three _ number_of bindings_of path_of refl refl refl size bs x starts) e
behind_keyword keywords.PastOut f size bs starts e = was_made _ _ _ f (λ x. was_three _ name_of number_of bindings_of refl refl refl size bs x starts) e

was_spoken : (o : Option Keyword) (rest : Rest) (f : Line) → if_keyword o rest ≡ Ok f → (k : Keyword) × (o ≡ Some k) × (line_behind k rest ≡ Ok f)
was_spoken None rest f h = cc
was_spoken (Some k) rest f h = (k, refl, h)

spoken_spelt : (line : List ℕ) (f : Line) → spoken line ≡ Ok f → HasForm line f
spoken_spelt line f h =
    let read = was_spoken (keyword_of (first_field line)) (length line, behind_field line) f h in
    let parts = cut line in
    let word : first_field line ≡ word_for read.0 = was_keyword (first_field line) read.0 read.1 in
    let all : word_for read.0 ++ behind_field line ≡ line = sym (parts.whole ∙ ap (λ w. w ++ behind_field line) word) in
    subst (λ l. HasForm l f) all (behind_keyword read.0 f (length line) (behind_field line) parts.starts read.2)

abbrev as_read : Line → Result Line LineSyntax
as_read f = Ok f

nothing_spelt : (line : List ℕ) (f : Line) → (line ≡ []) ⊎ ((bs : List ℕ) × (line ≡ 35 ∷ bs)) → as_read lines.Nothing ≡ as_read f → HasForm line f
nothing_spelt line f silent h =
    let same : lines.Nothing ≡ f = cc in
    subst (HasForm line) same silent

-- what reads as a form is spelt by it
pub spelt_as_read : (line : List ℕ) (f : Line) → form_of line ≡ Ok f → HasForm line f
spelt_as_read [] f h = nothing_spelt [] f (inl refl) h
spelt_as_read (b ∷ bs) f h = cases (nat_eq b 35) refl where
  cases : (o : Bool) → nat_eq b 35 ≡ o → HasForm (b ∷ bs) f
  cases true e =
      nothing_spelt (b ∷ bs) f (inr (bs, ap (λ c. c ∷ bs) (eqb-true b 35 e))) (sym (ap (λ o. if o then Ok lines.Nothing else spoken (b ∷ bs)) e) ∙ h)
  cases false e =
      spoken_spelt (b ∷ bs) f (sym (ap (λ o. if o then Ok lines.Nothing else spoken (b ∷ bs)) e) ∙ h)
