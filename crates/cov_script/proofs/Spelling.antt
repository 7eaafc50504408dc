-- What the spelling of a form reads as.
use Rattle.std.proofs.Common.{◌≡◌, ◌⊎◌, ℕ, ◌+◌, Bool, true, not, nat_eq, List, [], ◌∷◌, ◌++◌, length, take, drop, Option, Some, Ok, refl, ap, subst, sym, inl, inr, ◌∙◌, one-add}
use Rattle.std.specs.List.{list_all, prefix_len}
use Rattle.cov_base.specs.Spelling.{is_line_text, path_of}
use Rattle.std.proofs.Math.Seq.{take-append_seam, drop-append_seam}
use Rattle.std.proofs.lemmas.Bool.{and_parts}
use Rattle.std.proofs.lemmas.List.{append-nil}
use Rattle.cov_expr.specs.ChoiceText.{bindings_of, switch_of}
use Rattle.cov_expr.specs.Formula.{Formula}
use Rattle.cov_expr.specs.Reading.{parsed}
use Rattle.cov_script.specs.Fields.{go_on, field, taken, place, behind, at_end, expression, expression_at, text, token_of, name_of, new_path_of, number_of, line_field_of, first_field, behind_field}
use Rattle.cov_script.specs.Forms.{IsField, LineAndText, Ambition, HasForm}
use Rattle.cov_script.specs.Lines.{form_of, two_fields, alone, pair, triple, made, line_and_text, named_text, ambition, opening, named_expression}
use Rattle.cov_script.specs.declared.line.Line.{Line}
use Rattle.cov_script.specs.declared.line.Line.TheVariants as lines
use Rattle.cov_script.specs.declared.line.LineField.{LineField}

-- whether a byte is none of the spaces
abbrev pub is_other : ℕ → Bool
is_other b = not (nat_eq b 32)

-- bytes without a space before a space, or at the end
spaceless_len : (w tail : List ℕ) → list_all is_other w ≡ true → prefix_len is_other tail ≡ 0 → prefix_len is_other (w ++ tail) ≡ length w
spaceless_len [] tail h none = none
spaceless_len (b ∷ bs) tail h none =
    let parts = and_parts (is_other b) (list_all is_other bs) h in
    rw parts.0 (ap (λ n. 1 + n) (spaceless_len bs tail parts.1 none) ∙ one-add (length bs))

pub first : (w tail : List ℕ) → list_all is_other w ≡ true → prefix_len is_other tail ≡ 0 → first_field (w ++ tail) ≡ w
first w tail h none = ap (λ n. take n (w ++ tail)) (spaceless_len w tail h none) ∙ take-append_seam w tail

pub later : (w tail : List ℕ) → list_all is_other w ≡ true → prefix_len is_other tail ≡ 0 → behind_field (w ++ tail) ≡ tail
later w tail h none = ap (λ n. drop n (w ++ tail)) (spaceless_len w tail h none) ∙ drop-append_seam w tail

-- a field is read where it stands
pub field_read : {X : Type 0} (kind : List ℕ → Option X) (x : X) (w tail : List ℕ) (size : ℕ) → IsField kind x w → prefix_len is_other tail ≡ 0 → field kind (size, 32 ∷ (w ++ tail)) ≡ Ok (x, (size, tail))
field_read kind x w tail size h none =
    let front = first w tail h.spaceless none in
    let rest = later w tail h.spaceless none in
    let value : kind (first_field (w ++ tail)) ≡ Some x = ap kind front ∙ h.of_kind in
    ap (taken (place (size, 32 ∷ (w ++ tail))) (behind (size, 32 ∷ (w ++ tail)))) value ∙ ap (λ t. Ok (x, (size, t))) rest

-- the last field
field_last : {X : Type 0} (kind : List ℕ → Option X) (x : X) (w : List ℕ) (size : ℕ) → IsField kind x w → field kind (size, 32 ∷ w) ≡ Ok (x, (size, []))
field_last kind x w size h = subst (λ v. field kind (size, 32 ∷ v) ≡ Ok (x, (size, []))) (append-nil w) (field_read kind x w [] size h refl)

alone_read : {X : Type 0} (kind : List ℕ → Option X) (x : X) (a : List ℕ) (size : ℕ) → IsField kind x a → alone kind (size, 32 ∷ a) ≡ Ok x
alone_read kind x a size h = ap (λ g. go_on g (λ r. at_end r.0 r.1)) (field_last kind x a size h)

one_read : {X : Type 0} (kind : List ℕ → Option X) (form : X → Line) (x : X) (a : List ℕ) (size : ℕ) → IsField kind x a → made (alone kind (size, 32 ∷ a)) form ≡ Ok (form x)
one_read kind form x a size h = ap (λ r. made r form) (alone_read kind x a size h)

two_fields_read : {X Y : Type 0} (kind : List ℕ → Option X) (kind' : List ℕ → Option Y) (x : X) (y : Y) (a b tail : List ℕ) (size : ℕ) → IsField kind x a → IsField kind' y b → prefix_len is_other tail ≡ 0
    → two_fields kind kind' (size, 32 ∷ (a ++ 32 ∷ (b ++ tail))) ≡ Ok ((x, y), (size, tail))
two_fields_read kind kind' x y a b tail size h k none =
    ap (λ g. go_on g (λ r. go_on (field kind' r.1) (λ s. Ok ((r.0, s.0), s.1)))) (field_read kind x a (32 ∷ (b ++ tail)) size h refl)
    ∙ ap (λ g. go_on g (λ s. Ok ((x, s.0), s.1))) (field_read kind' y b tail size k none)

two_read : {X Y : Type 0} (kind : List ℕ → Option X) (kind' : List ℕ → Option Y) (form : X → Y → Line) (x : X) (y : Y) (a b : List ℕ) (size : ℕ) → IsField kind x a → IsField kind' y b
    → made (pair kind kind' (size, 32 ∷ (a ++ 32 ∷ b))) (λ r. form r.0 r.1) ≡ Ok (form x y)
two_read kind kind' form x y a b size h k =
    let all : two_fields kind kind' (size, 32 ∷ (a ++ 32 ∷ b)) ≡ Ok ((x, y), (size, [])) = subst (λ v. two_fields kind kind' (size, 32 ∷ (a ++ 32 ∷ v)) ≡ Ok ((x, y), (size, []))) (append-nil b) (two_fields_read kind kind' x y a b [] size h k refl) in
    ap (λ g. made (go_on g (λ r. at_end r.0 r.1)) (λ r. form r.0 r.1)) all

three_read : {X Y Z : Type 0} (kind : List ℕ → Option X) (kind' : List ℕ → Option Y) (kind'' : List ℕ → Option Z) (form : X → Y → Z → Line) (x : X) (y : Y) (z : Z) (a b d : List ℕ) (size : ℕ)
    → IsField kind x a → IsField kind' y b → IsField kind'' z d → made (triple kind kind' kind'' (size, 32 ∷ (a ++ 32 ∷ (b ++ 32 ∷ d)))) (λ r. form r.0 r.1 r.2) ≡ Ok (form x y z)
three_read {X} {Y} {Z} kind kind' kind'' form x y z a b d size h k l =
    ap (λ g. made {X = X × Y × Z} (go_on g (λ r. go_on (alone kind'' r.1) (λ z. Ok (r.0.0, r.0.1, z)))) (λ r. form r.0 r.1 r.2)) (two_fields_read kind kind' x y a b (32 ∷ d) size h k refl)
    ∙ ap (λ g. made {X = X × Y × Z} (go_on g (λ z. Ok (x, y, z))) (λ r. form r.0 r.1 r.2)) (alone_read kind'' z d size l)

only_read : (form : Formula (List ℕ) → Line) (e : Formula (List ℕ)) (a : List ℕ) (size : ℕ) → parsed a ≡ Ok e → made (expression (size, 32 ∷ a)) form ≡ Ok (form e)
only_read form e a size h = ap (λ g. made (expression_at (place (size, 32 ∷ a)) g) form) h

text_read : (t : List ℕ) (size : ℕ) → is_line_text t ≡ true → text (size, 32 ∷ t) ≡ Ok t
text_read t size h = rw h refl

line_and_text_read : (l : LineField) (t bytes : List ℕ) (size : ℕ) → LineAndText l t bytes → line_and_text (size, 32 ∷ bytes) ≡ Ok (l, t)
line_and_text_read l t bytes size h = cases h.all where
  cases : (bytes ≡ h.a ++ 32 ∷ t) ⊎ ((bytes ≡ h.a) × (t ≡ [])) → line_and_text (size, 32 ∷ bytes) ≡ Ok (l, t)
  cases (inl all) =
      ap (λ v. line_and_text (size, 32 ∷ v)) all
      ∙ ap (λ g. go_on g (λ r. go_on (text r.1) (λ t. Ok (r.0, t)))) (field_read line_field_of l h.a (32 ∷ t) size h.first refl)
      ∙ ap (λ g. go_on g (λ t. Ok (l, t))) (text_read t size h.short)
  cases (inr all) =
      ap (λ v. line_and_text (size, 32 ∷ v)) all.0
      ∙ ap (λ g. go_on g (λ r. go_on (text r.1) (λ t. Ok (r.0, t)))) (field_last line_field_of l h.a size h.first)
      ∙ ap (λ t. Ok (l, t)) (sym all.1)

with_text_read : (form : List ℕ → List (List ℕ) → LineField → List ℕ → Line) (n : List ℕ) (p : List (List ℕ)) (l : LineField) (t a b d : List ℕ) (size : ℕ)
    → IsField name_of n a → IsField path_of p b → LineAndText l t d → made (named_text (size, 32 ∷ (a ++ 32 ∷ (b ++ 32 ∷ d)))) (λ r. form r.0 r.1 r.2 r.3) ≡ Ok (form n p l t)
with_text_read form n p l t a b d size h k m =
    ap (λ g. made {X = List ℕ × List (List ℕ) × LineField × List ℕ} (go_on g (λ r. go_on (line_and_text r.1) (λ s. Ok (r.0.0, r.0.1, s.0, s.1)))) (λ r. form r.0 r.1 r.2 r.3)) (two_fields_read name_of path_of n p a b (32 ∷ d) size h k refl)
    ∙ ap (λ g. made {X = List ℕ × List (List ℕ) × LineField × List ℕ} (go_on g (λ s. Ok (n, p, s.0, s.1))) (λ r. form r.0 r.1 r.2 r.3)) (line_and_text_read l t d size m)

ambition_read : (e : Formula (List ℕ)) (bytes : List ℕ) (size : ℕ) → Ambition e bytes → ambition (size, 32 ∷ bytes) ≡ Ok e
ambition_read e bytes size h =
    ap (λ v. ambition (size, 32 ∷ v)) h.all ∙ ap (expression_at (place (size, 32 ∷ h.a))) h.spells

open_read : (n : List ℕ) (c : List (List ℕ × Bool)) (e : Formula (List ℕ)) (a b d : List ℕ) (size : ℕ) → IsField name_of n a → IsField bindings_of c b → Ambition e d
    → made (opening (size, 32 ∷ (a ++ 32 ∷ (b ++ 32 ∷ d)))) (λ r. lines.OpenSession r.0 r.1 r.2) ≡ Ok (lines.OpenSession n c e)
open_read n c e a b d size h k m =
    ap (λ g. made {X = List ℕ × List (List ℕ × Bool) × Formula (List ℕ)} (go_on g (λ r. go_on (ambition r.1) (λ e. Ok (r.0.0, r.0.1, e)))) (λ r. lines.OpenSession r.0 r.1 r.2)) (two_fields_read name_of bindings_of n c a b (32 ∷ d) size h k refl)
    ∙ ap (λ g. made {X = List ℕ × List (List ℕ × Bool) × Formula (List ℕ)} (go_on g (λ e. Ok (n, c, e))) (λ r. lines.OpenSession r.0 r.1 r.2)) (ambition_read e d size m)

side_read : (n : List ℕ) (e : Formula (List ℕ)) (a b : List ℕ) (size : ℕ) → IsField name_of n a → parsed b ≡ Ok e → made (named_expression (size, 32 ∷ (a ++ 32 ∷ b))) (λ r. lines.Side r.0 r.1) ≡ Ok (lines.Side n e)
side_read n e a b size h k =
    ap (λ g. made {X = List ℕ × Formula (List ℕ)} (go_on g (λ r. go_on (expression r.1) (λ e. Ok (r.0, e)))) (λ r. lines.Side r.0 r.1)) (field_read name_of n a (32 ∷ b) size h refl)
    ∙ ap (λ g. made {X = List ℕ × Formula (List ℕ)} (go_on (expression_at (place (size, 32 ∷ b)) g) (λ e. Ok (n, e))) (λ r. lines.Side r.0 r.1)) k

silent_read : (line : List ℕ) → (line ≡ []) ⊎ ((bs : List ℕ) × (line ≡ 35 ∷ bs)) → form_of line ≡ Ok lines.Nothing
silent_read line (inl e) = ap form_of e
silent_read line (inr h) = ap form_of h.1

-- a line that is spelt by a form reads as it
pub reads_as_spelt : (line : List ℕ) (f : Line) → HasForm line f → form_of line ≡ Ok f
reads_as_spelt line lines.Nothing h = silent_read line h
reads_as_spelt line (lines.Option x) h = ap form_of h.all ∙ one_read token_of (λ x. lines.Option x) x h.a _ h.first
reads_as_spelt line (lines.Complete x) h = ap form_of h.all ∙ one_read bindings_of (λ x. lines.Complete x) x h.a _ h.first
reads_as_spelt line (lines.Refresh x) h = ap form_of h.all ∙ one_read name_of (λ x. lines.Refresh x) x h.a _ h.first
reads_as_spelt line (lines.Commit x) h = ap form_of h.all ∙ one_read name_of (λ x. lines.Commit x) x h.a _ h.first
reads_as_spelt line (lines.Discard x) h = ap form_of h.all ∙ one_read name_of (λ x. lines.Discard x) x h.a _ h.first
reads_as_spelt line (lines.Presence x) h = ap form_of h.all ∙ one_read number_of (λ x. lines.Presence x) x h.a _ h.first
reads_as_spelt line lines.Upgrade h = ap form_of h
reads_as_spelt line lines.Analyse h = ap form_of h
reads_as_spelt line (lines.Nearest x) h = ap form_of h.all ∙ one_read bindings_of (λ x. lines.Nearest x) x h.a _ h.first
reads_as_spelt line (lines.Log x) h = ap form_of h.all ∙ one_read bindings_of (λ x. lines.Log x) x h.a _ h.first
reads_as_spelt line (lines.Blame x y) h = ap form_of h.all ∙ two_read bindings_of path_of (λ x y. lines.Blame x y) x y h.a h.b _ h.first h.second
reads_as_spelt line (lines.Constraint e) h = ap form_of h.all ∙ only_read (λ e. lines.Constraint e) e h.a _ h.spells
reads_as_spelt line (lines.Prefer e) h = ap form_of h.all ∙ only_read (λ e. lines.Prefer e) e h.a _ h.spells
reads_as_spelt line (lines.Default x y) h = ap form_of h.all ∙ two_read token_of switch_of (λ x y. lines.Default x y) x y h.a h.b _ h.first h.second
reads_as_spelt line (lines.MakeDir x y) h = ap form_of h.all ∙ two_read name_of new_path_of (λ x y. lines.MakeDir x y) x y h.a h.b _ h.first h.second
reads_as_spelt line (lines.MakeFile x y) h = ap form_of h.all ∙ two_read name_of new_path_of (λ x y. lines.MakeFile x y) x y h.a h.b _ h.first h.second
reads_as_spelt line (lines.Remove x y) h = ap form_of h.all ∙ two_read name_of path_of (λ x y. lines.Remove x y) x y h.a h.b _ h.first h.second
reads_as_spelt line (lines.Show x y) h = ap form_of h.all ∙ two_read name_of path_of (λ x y. lines.Show x y) x y h.a h.b _ h.first h.second
reads_as_spelt line (lines.List x y) h = ap form_of h.all ∙ two_read name_of path_of (λ x y. lines.List x y) x y h.a h.b _ h.first h.second
reads_as_spelt line (lines.Cat x y) h = ap form_of h.all ∙ two_read bindings_of path_of (λ x y. lines.Cat x y) x y h.a h.b _ h.first h.second
reads_as_spelt line (lines.Checkout x y) h = ap form_of h.all ∙ two_read name_of bindings_of (λ x y. lines.Checkout x y) x y h.a h.b _ h.first h.second
reads_as_spelt line (lines.Conditional x y) h = ap form_of h.all ∙ two_read bindings_of path_of (λ x y. lines.Conditional x y) x y h.a h.b _ h.first h.second
reads_as_spelt line (lines.Rename x y z) h = ap form_of h.all ∙ three_read name_of path_of name_of (λ x y z. lines.Rename x y z) x y z h.a h.b h.last _ h.first h.second h.third
reads_as_spelt line (lines.Move x y z) h = ap form_of h.all ∙ three_read name_of path_of path_of (λ x y z. lines.Move x y z) x y z h.a h.b h.last _ h.first h.second h.third
reads_as_spelt line (lines.Delete x y z) h = ap form_of h.all ∙ three_read name_of path_of line_field_of (λ x y z. lines.Delete x y z) x y z h.a h.b h.last _ h.first h.second h.third
reads_as_spelt line (lines.Alt x y z) h = ap form_of h.all ∙ three_read bindings_of token_of path_of (λ x y z. lines.Alt x y z) x y z h.a h.b h.last _ h.first h.second h.third
reads_as_spelt line (lines.Past x y z) h = ap form_of h.all ∙ three_read number_of bindings_of path_of (λ x y z. lines.Past x y z) x y z h.a h.b h.last _ h.first h.second h.third
reads_as_spelt line (lines.PastOut x y z) h = ap form_of h.all ∙ three_read name_of number_of bindings_of (λ x y z. lines.PastOut x y z) x y z h.a h.b h.last _ h.first h.second h.third
reads_as_spelt line (lines.Insert n p l t) h = ap form_of h.all ∙ with_text_read (λ n p l t. lines.Insert n p l t) n p l t h.a h.b h.last _ h.first h.second h.third
reads_as_spelt line (lines.Replace n p l t) h = ap form_of h.all ∙ with_text_read (λ n p l t. lines.Replace n p l t) n p l t h.a h.b h.last _ h.first h.second h.third
reads_as_spelt line (lines.OpenSession n c e) h = ap form_of h.all ∙ open_read n c e h.a h.b h.last _ h.first h.second h.third
reads_as_spelt line (lines.Side n e) h = ap form_of h.all ∙ side_read n e h.a h.b _ h.first h.spells
