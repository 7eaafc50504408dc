-- What follows a keyword, read by the kinds of its fields alone.
use Rattle.std.proofs.Common.{◌≡◌, ℕ, Bool, true, false, List, [], ◌∷◌, Option, Some, None, Result, Ok, Err, refl, ◌∙◌}
use Rattle.std.specs.Prelude.{codes, is_some, if◌then◌else◌}
use Rattle.cov_base.specs.Spelling.{path_of}
use Rattle.cov_expr.specs.ChoiceText.{bindings_of, switch_of}
use Rattle.cov_script.specs.Fields.{Rest, ahead, place, behind, go_on, field, taken, at_end, expression, text, token_of, name_of, new_path_of, word_of, number_of, line_field_of, first_field}
use Rattle.cov_script.specs.Kinds.{Kind, Expression, Text, is_of, ends_at_space, kinds_behind}
use Rattle.cov_script.specs.Lines.{line_behind, two_fields, alone, pair, triple, made, line_and_text, named_text, ambition, opening, named_expression}
use Rattle.cov_script.specs.declared.keyword.Keyword.{Keyword}
use Rattle.cov_script.specs.declared.keyword.Keyword.TheVariants as keywords
use Rattle.cov_script.specs.declared.line.Line.{Line}
use Rattle.cov_script.specs.declared.line.Line.TheVariants as lines
use Rattle.cov_script.specs.declared.line.LineField.{LineField}
use Rattle.cov_script.specs.declared.line.LineSyntax.{LineSyntax}

-- an answer without its value
abbrev pub told : {X : Type 0} → Result X LineSyntax → Result (Unit {0}) LineSyntax
told (Ok x) = Ok tt
told (Err fault) = Err fault

-- whether a field is of its kind, as a reader's answer without a value
abbrev pub passed : Bool → Option (Unit {0})
passed true = Some tt
passed false = None

-- a kind without its values
abbrev pub tested : {X : Type 0} → (List ℕ → Option X) → List ℕ → Option (Unit {0})
tested kind bytes = passed (is_some (kind bytes))

abbrev pub test : Kind → List ℕ → Option (Unit {0})
test kind bytes = passed (is_of kind bytes)

-- a field that runs to the line's end
abbrev pub to_end : Kind → Rest → Result (Unit {0}) LineSyntax
to_end Expression rest = told (expression rest)
to_end Text rest = told (text rest)
to_end _ rest = Ok tt

-- fields of kinds, and nothing behind them
abbrev pub checked : List Kind → Rest → Result (Unit {0}) LineSyntax
checked [] rest = at_end tt rest
checked (kind ∷ kinds) rest =
    if ends_at_space kind then go_on (field (test kind) rest) (λ a. checked kinds a.1) else to_end kind rest

pub told-err : {X : Type 0} (r : Result X LineSyntax) (fault : LineSyntax) → told r ≡ Err fault → r ≡ Err fault
told-err (Ok x) fault h = cc
told-err (Err other) fault h = cc

value-told : {X Y : Type 0} (r : Result X LineSyntax) (form : X → Y) → told (go_on r (λ x. Ok (form x))) ≡ told r
value-told (Ok x) form = refl
value-told (Err fault) form = refl

at_end-told : {X : Type 0} (x : X) (rest : Rest) → told (at_end x rest) ≡ at_end tt rest
at_end-told x (size, []) = refl
at_end-told x (size, b ∷ bs) = refl

taken-told : {X Y : Type 0} (at : ℕ) (later : Rest) (o : Option X) (g : X × Rest → Result Y LineSyntax) (h : Rest → Result (Unit {0}) LineSyntax) → ((x : X) → told (g (x, later)) ≡ h later)
    → told (go_on (taken at later o) g) ≡ go_on (taken at later (passed (is_some o))) (λ a. h a.1)
taken-told at later None g h same = refl
taken-told at later (Some x) g h same = same x

field-told : {X Y : Type 0} (kind : List ℕ → Option X) (g : X × Rest → Result Y LineSyntax) (h : Rest → Result (Unit {0}) LineSyntax) → ((x : X) (r : Rest) → told (g (x, r)) ≡ h r)
    → (rest : Rest) → told (go_on (field kind rest) g) ≡ go_on (field (tested kind) rest) (λ a. h a.1)
field-told kind g h same rest = taken-told (place rest) (behind rest) (kind (first_field (ahead rest))) g h (λ x. same x (behind rest))

two_fields-told : {X Y Z : Type 0} (kind : List ℕ → Option X) (kind' : List ℕ → Option Y) (g : (X × Y) × Rest → Result Z LineSyntax) (h : Rest → Result (Unit {0}) LineSyntax) → ((x : X) (y : Y) (r : Rest) → told (g ((x, y), r)) ≡ h r)
    → (rest : Rest) → told (go_on (two_fields kind kind' rest) g) ≡ go_on (field (tested kind) rest) (λ a. go_on (field (tested kind') a.1) (λ b. h b.1))
two_fields-told {X} {Y} {Z} kind kind' g h same rest = first (kind (first_field (ahead rest)))
  where
    second : (x : X) (later : Rest) (o : Option Y) → told (go_on (go_on (taken (place later) (behind later) o) (λ b. Ok ((x, b.0), b.1))) g) ≡ go_on (taken (place later) (behind later) (passed (is_some o))) (λ b. h b.1)
    second x later None = refl
    second x later (Some y) = same x y (behind later)

    first : (o : Option X) → told (go_on (go_on (taken (place rest) (behind rest) o) (λ a. go_on (field kind' a.1) (λ b. Ok ((a.0, b.0), b.1)))) g)
        ≡ go_on (taken (place rest) (behind rest) (passed (is_some o))) (λ a. go_on (field (tested kind') a.1) (λ b. h b.1))
    first None = refl
    first (Some x) = second x (behind rest) (kind' (first_field (ahead (behind rest))))

alone-told : {X : Type 0} (kind : List ℕ → Option X) (rest : Rest) → told (alone kind rest) ≡ go_on (field (tested kind) rest) (λ a. at_end tt a.1)
alone-told kind rest = field-told kind (λ a. at_end a.0 a.1) (λ r. at_end tt r) (λ x r. at_end-told x r) rest

one-told : {X : Type 0} (kind : List ℕ → Option X) (form : X → Line) (rest : Rest) → told (made (alone kind rest) form) ≡ go_on (field (tested kind) rest) (λ a. at_end tt a.1)
one-told kind form rest = value-told (alone kind rest) form ∙ alone-told kind rest

two-told : {X Y : Type 0} (kind : List ℕ → Option X) (kind' : List ℕ → Option Y) (form : X → Y → Line) (rest : Rest)
    → told (made (pair kind kind' rest) (λ a. form a.0 a.1)) ≡ go_on (field (tested kind) rest) (λ a. go_on (field (tested kind') a.1) (λ b. at_end tt b.1))
two-told kind kind' form rest =
    value-told (pair kind kind' rest) (λ a. form a.0 a.1)
    ∙ two_fields-told kind kind' (λ a. at_end a.0 a.1) (λ r. at_end tt r) (λ x y r. at_end-told (x, y) r) rest

three-told : {X Y Z : Type 0} (kind : List ℕ → Option X) (kind' : List ℕ → Option Y) (kind'' : List ℕ → Option Z) (form : X → Y → Z → Line) (rest : Rest)
    → told (made (triple kind kind' kind'' rest) (λ a. form a.0 a.1 a.2)) ≡ go_on (field (tested kind) rest) (λ a. go_on (field (tested kind') a.1) (λ b. go_on (field (tested kind'') b.1) (λ c. at_end tt c.1)))
three-told kind kind' kind'' form rest =
    value-told (triple kind kind' kind'' rest) (λ a. form a.0 a.1 a.2)
    ∙ two_fields-told kind kind' (λ a. go_on (alone kind'' a.1) (λ z. Ok (a.0.0, a.0.1, z))) (λ r. go_on (field (tested kind'') r) (λ c. at_end tt c.1))
    (λ x y r. value-told (alone kind'' r) (λ z. (x, y, z)) ∙ alone-told kind'' r)
    rest

line_and_text-told : (rest : Rest) → told (line_and_text rest) ≡ go_on (field (tested line_field_of) rest) (λ a. told (text a.1))
line_and_text-told rest =
    field-told line_field_of (λ a. go_on (text a.1) (λ t. Ok (a.0, t))) (λ r. told (text r)) (λ l r. value-told (text r) (λ t. (l, t))) rest

with_text-told : (form : List ℕ → List (List ℕ) → LineField → List ℕ → Line) (rest : Rest)
    → told (made (named_text rest) (λ a. form a.0 a.1 a.2 a.3)) ≡ go_on (field (tested name_of) rest) (λ a. go_on (field (tested path_of) a.1) (λ b. go_on (field (tested line_field_of) b.1) (λ c. told (text c.1))))
with_text-told form rest =
    value-told (named_text rest) (λ a. form a.0 a.1 a.2 a.3)
    ∙ two_fields-told name_of path_of (λ a. go_on (line_and_text a.1) (λ b. Ok (a.0.0, a.0.1, b.0, b.1))) (λ r. go_on (field (tested line_field_of) r) (λ c. told (text c.1)))
    (λ n p r. value-told (line_and_text r) (λ b. (n, p, b.0, b.1)) ∙ line_and_text-told r)
    rest

ambition-told : (rest : Rest) → told (ambition rest) ≡ go_on (field (tested (word_of (codes "for"))) rest) (λ a. told (expression a.1))
ambition-told rest =
    field-told (word_of (codes "for")) (λ a. expression a.1) (λ r. told (expression r)) (λ x r. refl) rest

open-told : (rest : Rest)
    → told (line_behind keywords.Open rest) ≡ go_on (field (tested name_of) rest) (λ a. go_on (field (tested bindings_of) a.1) (λ b. go_on (field (tested (word_of (codes "for"))) b.1) (λ c. told (expression c.1))))
open-told rest =
    value-told (opening rest) (λ a. lines.OpenSession a.0 a.1 a.2)
    ∙ two_fields-told name_of bindings_of (λ a. go_on (ambition a.1) (λ e. Ok (a.0.0, a.0.1, e))) (λ r. go_on (field (tested (word_of (codes "for"))) r) (λ c. told (expression c.1)))
    (λ n c r. value-told (ambition r) (λ e. (n, c, e)) ∙ ambition-told r)
    rest

side-told : (rest : Rest) → told (line_behind keywords.Side rest) ≡ go_on (field (tested name_of) rest) (λ a. told (expression a.1))
side-told rest =
    value-told (named_expression rest) (λ a. lines.Side a.0 a.1)
    ∙ field-told name_of (λ a. go_on (expression a.1) (λ e. Ok (a.0, e))) (λ r. told (expression r)) (λ n r. value-told (expression r) (λ e. (n, e))) rest

-- a keyword's form is read by the kinds of its fields
pub behind-told : (k : Keyword) (rest : Rest) → told (line_behind k rest) ≡ checked (kinds_behind k) rest
behind-told keywords.Option rest = one-told token_of (λ t. lines.Option t) rest
behind-told keywords.Constraint rest = value-told (expression rest) (λ e. lines.Constraint e)
behind-told keywords.Prefer rest = value-told (expression rest) (λ e. lines.Prefer e)
behind-told keywords.Default rest = two-told token_of switch_of (λ t on. lines.Default t on) rest
behind-told keywords.Complete rest = one-told bindings_of (λ c. lines.Complete c) rest
behind-told keywords.Open rest = open-told rest
behind-told keywords.Side rest = side-told rest
behind-told keywords.MakeDir rest = two-told name_of new_path_of (λ n p. lines.MakeDir n p) rest
behind-told keywords.MakeFile rest = two-told name_of new_path_of (λ n p. lines.MakeFile n p) rest
behind-told keywords.Rename rest = three-told name_of path_of name_of (λ n p to. lines.Rename n p to) rest
behind-told keywords.Move rest = three-told name_of path_of path_of (λ n p target. lines.Move n p target) rest
behind-told keywords.Remove rest = two-told name_of path_of (λ n p. lines.Remove n p) rest
behind-told keywords.Insert rest = with_text-told (λ n p l t. lines.Insert n p l t) rest
behind-told keywords.Delete rest = three-told name_of path_of line_field_of (λ n p l. lines.Delete n p l) rest
behind-told keywords.Replace rest = with_text-told (λ n p l t. lines.Replace n p l t) rest
behind-told keywords.Show rest = two-told name_of path_of (λ n p. lines.Show n p) rest
behind-told keywords.List rest = two-told name_of path_of (λ n p. lines.List n p) rest
behind-told keywords.Refresh rest = one-told name_of (λ n. lines.Refresh n) rest
behind-told keywords.Commit rest = one-told name_of (λ n. lines.Commit n) rest
behind-told keywords.Drop rest = one-told name_of (λ n. lines.Discard n) rest
behind-told keywords.Cat rest = two-told bindings_of path_of (λ c p. lines.Cat c p) rest
behind-told keywords.Checkout rest = two-told name_of bindings_of (λ t c. lines.Checkout t c) rest
behind-told keywords.Alt rest = three-told bindings_of token_of path_of (λ c t p. lines.Alt c t p) rest
behind-told keywords.Cond rest = two-told bindings_of path_of (λ c p. lines.Conditional c p) rest
behind-told keywords.Where rest = one-told number_of (λ n. lines.Presence n) rest
behind-told keywords.Upgrade rest = at_end-told lines.Upgrade rest
behind-told keywords.Analyse rest = at_end-told lines.Analyse rest
behind-told keywords.Nearest rest = one-told bindings_of (λ c. lines.Nearest c) rest
behind-told keywords.Log rest = one-told bindings_of (λ c. lines.Log c) rest
behind-told keywords.Blame rest = two-told bindings_of path_of (λ c p. lines.Blame c p) rest
behind-told keywords.Past rest = three-told number_of bindings_of path_of (λ n c p. lines.Past n c p) rest
behind-told keywords.PastOut rest = three-told name_of number_of bindings_of (λ t n c. lines.PastOut t n c) rest
