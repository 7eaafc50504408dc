-- Expressions in bytes, both ways.
use Rattle.std.proofs.Common.{◌≡◌, ℕ, zero, suc, ◌+◌, ◌-◌, ◌<◌, ◌≤◌, true, nat_lt, nat_le, List, [], ◌∷◌, ◌++◌, length, Some, None, refl, sym, ap, subst, ◌∙◌, arith, append_assoc}
use Rattle.std.specs.Prelude.{Result, Ok, Err, IfOk, IsErrOf}
use Rattle.cov_base.specs.declared.limits.TheConstants.{CHOICE_WIDTH, MOST_PARTS}
use Rattle.cov_base.specs.declared.error.MemoryOr.{MemoryOr}
use Rattle.cov_base.specs.declared.error.MemoryOr.TheVariants.{Memory, Refused}
use Rattle.cov_record.specs.declared.fault.NotARecord.{NotARecord}
use Rattle.std.specs.List.{AllByRecursion}
use Rattle.std.proofs.lemmas.Option.{none-some, same_Some}
use Rattle.std.proofs.lemmas.Bool.{and_from, and_parts, le-leb, leb-true, lt-ltb, ltb-true}
use Rattle.cov_expr.specs.Formula.{Formula, False, True, On, Not, And, Or, part_count, reach}
use Rattle.cov_edit.specs.Fits.{fits_expr}
use Rattle.cov_record.specs.Payload.{expression_spelling, run_of}
use Rattle.cov_record.specs.Reading.{Front, behind, front_u8, front_sign, sign_of, named_of, front_forest, front_expression, awaited, taken, lone, first, Gives}
use Rattle.cov_record.specs.declared.expression.Sign.{Sign}
use Rattle.cov_record.specs.declared.expression.Sign.TheVariants.{Never, Always, Named, Negates, Joins, Chooses}
use Rattle.cov_record.proofs.Fronts.{Begins, begins_with, pair_of, given_some, given_true, behind_some, behind_at}
use Rattle.cov_record.proofs.Bytes.{u8_forth}

-- expressions in front of others
abbrev in_front : Front (List (Formula ℕ)) → (List (Formula ℕ) → List (Formula ℕ)) → Front (List (Formula ℕ))
in_front f g = behind f (λ es r. Some (g es, r))

regroup : (f : Front (List (Formula ℕ))) (g h : List (Formula ℕ) → List (Formula ℕ)) → in_front (in_front f g) h ≡ in_front f (λ es. h (g es))
regroup None g h = refl
regroup (Some p) g h = refl

-- two expressions in front are read first, if each is
two_first : (a b : Formula ℕ) (left need : ℕ) (r : List ℕ) (g : List (Formula ℕ) → List (Formula ℕ)) → (let inner = part_count a + (part_count b + left) in
    front_forest inner (suc (suc need)) (expression_spelling a ++ (expression_spelling b ++ r)) ≡ in_front (front_forest (part_count b + left) (suc need) (expression_spelling b ++ r)) (λ es. a ∷ es)
    → front_forest (part_count b + left) (suc need) (expression_spelling b ++ r) ≡ in_front (front_forest left need r) (λ es. b ∷ es)
    → in_front (front_forest inner (suc (suc need)) ((expression_spelling a ++ expression_spelling b) ++ r)) g ≡ in_front (front_forest left need r) (λ es. g (a ∷ b ∷ es)))
two_first a b left need r g first second =
    ap (λ bs. in_front (front_forest (part_count a + (part_count b + left)) (suc (suc need)) bs) g) (append_assoc (expression_spelling a) (expression_spelling b) r)
    ∙ ap (λ f. in_front f g) first
    ∙ ap (λ f. in_front (in_front f (λ es. a ∷ es)) g) second
    ∙ ap (λ f. in_front f g) (regroup (front_forest left need r) (λ es. b ∷ es) (λ es. a ∷ es))
    ∙ regroup (front_forest left need r) (λ es. a ∷ b ∷ es) g

-- an expression in front is read first
pub expression_first : (e : Formula ℕ) (room left need : ℕ) (r : List ℕ) → room ≡ part_count e + left → reach e ≤ CHOICE_WIDTH
    → front_forest room (suc need) (expression_spelling e ++ r) ≡ in_front (front_forest left need r) (λ es. e ∷ es)
expression_first False room left need r e h = ap (λ n. front_forest n (suc need) (0 ∷ r)) {y = suc left} (omega (arith, e))
expression_first True room left need r e h = ap (λ n. front_forest n (suc need) (1 ∷ r)) {y = suc left} (omega (arith, e))
expression_first (On o) room left need r e h =
    ap (λ n. front_forest n (suc need) (2 ∷ o ∷ r)) {y = suc left} (omega (arith, e))
    ∙ ap (λ f. behind f (λ s r. in_front (front_forest left (awaited s need) r) (taken s))) (given_true (nat_lt o CHOICE_WIDTH) (Named o) r (lt-ltb o CHOICE_WIDTH (omega (arith, h))))
expression_first (Not a) room left need r e h =
    ap (λ n. front_forest n (suc need) (3 ∷ (expression_spelling a ++ r))) {y = suc (part_count a + left)} (omega (arith, e))
    ∙ ap (λ f. in_front f (taken Negates)) (expression_first a (part_count a + left) left need r refl h)
    ∙ regroup (front_forest left need r) (λ es. a ∷ es) (taken Negates)
expression_first (And a b) room left need r e h =
    let inner = part_count a + (part_count b + left) in
    ap (λ n. front_forest n (suc need) (4 ∷ ((expression_spelling a ++ expression_spelling b) ++ r))) {y = suc inner} (omega (arith, e))
    ∙ two_first a b left need r (taken Joins) (expression_first a inner (part_count b + left) (suc need) (expression_spelling b ++ r) refl (omega (arith, h)))
    (expression_first b (part_count b + left) left need r refl (omega (arith, h)))
expression_first (Or a b) room left need r e h =
    let inner = part_count a + (part_count b + left) in
    ap (λ n. front_forest n (suc need) (5 ∷ ((expression_spelling a ++ expression_spelling b) ++ r))) {y = suc inner} (omega (arith, e))
    ∙ two_first a b left need r (taken Chooses) (expression_first a inner (part_count b + left) (suc need) (expression_spelling b ++ r) refl (omega (arith, h)))
    (expression_first b (part_count b + left) left need r refl (omega (arith, h)))

-- what a fitting expression has at most
pub fits_both : (e : Formula ℕ) → fits_expr e ≡ true → (part_count e ≤ MOST_PARTS) × (reach e ≤ CHOICE_WIDTH)
fits_both e h =
    let both = and_parts (nat_le (part_count e) MOST_PARTS) (nat_le (reach e) CHOICE_WIDTH) h in
    (leb-true (part_count e) MOST_PARTS both.0, leb-true (reach e) CHOICE_WIDTH both.1)

fits_from : (e : Formula ℕ) → part_count e ≤ MOST_PARTS → reach e ≤ CHOICE_WIDTH → fits_expr e ≡ true
fits_from e few small =
    and_from (nat_le (part_count e) MOST_PARTS) (nat_le (reach e) CHOICE_WIDTH) (le-leb (part_count e) MOST_PARTS few) (le-leb (reach e) CHOICE_WIDTH small)

pub expression_back : (e : Formula ℕ) (r : List ℕ) → fits_expr e ≡ true → front_expression (expression_spelling e ++ r) ≡ Some (e, r)
expression_back e r h =
    let both = fits_both e h in
    let k : MOST_PARTS ≡ part_count e + (MOST_PARTS - part_count e) = omega (arith, both.0) in
    ap (λ f. behind f lone) (expression_first e MOST_PARTS (MOST_PARTS - part_count e) 0 r k both.1)

-- how many parts expressions have together
abbrev pub parts_of : List (Formula ℕ) → ℕ
parts_of [] = 0
parts_of (e ∷ es) = part_count e + parts_of es

abbrev pub Reaches : Formula ℕ → Type 0
Reaches e = reach e ≤ CHOICE_WIDTH

pub record IsForest (room need : ℕ) (bs : List ℕ) (es : List (Formula ℕ)) (r : List ℕ) : Type 0 where
  pub count : length es ≡ need
  pub parts : parts_of es ≤ room
  pub reaches : AllByRecursion Reaches es
  pub bytes : bs ≡ run_of expression_spelling es ++ r

abbrev sign_spelling : Sign → List ℕ
sign_spelling Never = 0 ∷ []
sign_spelling Always = 1 ∷ []
sign_spelling (Named o) = 2 ∷ o ∷ []
sign_spelling Negates = 3 ∷ []
sign_spelling Joins = 4 ∷ []
sign_spelling Chooses = 5 ∷ []

abbrev FitsSign : Sign → Type 0
FitsSign Never = Unit {0}
FitsSign Always = Unit {0}
FitsSign (Named o) = o < CHOICE_WIDTH
FitsSign Negates = Unit {0}
FitsSign Joins = Unit {0}
FitsSign Chooses = Unit {0}

sign_of_forth : (tag : ℕ) (bs : List ℕ) (s : Sign) (r : List ℕ) → sign_of tag bs ≡ Some (s, r) → Begins sign_spelling FitsSign (tag ∷ bs) s r
sign_of_forth zero bs s r h = begins_with sign_spelling FitsSign Never s bs r (0 ∷ bs) (tt, refl) h
sign_of_forth (suc zero) bs s r h = begins_with sign_spelling FitsSign Always s bs r (1 ∷ bs) (tt, refl) h
sign_of_forth (suc (suc zero)) bs s r h =
    let a = behind_some (front_u8 bs) named_of s r h in
    let g = given_some (nat_lt a.0 CHOICE_WIDTH) (Named a.0) s a.1 r a.3 in
    let k = ltb-true a.0 CHOICE_WIDTH g.0 in
    (subst FitsSign g.1 k, ap (λ m. 2 ∷ m) (u8_forth bs a.0 a.1 a.2) ∙ (λ i. sign_spelling (g.1 i) ++ g.2 i))
sign_of_forth (suc (suc (suc zero))) bs s r h = begins_with sign_spelling FitsSign Negates s bs r (3 ∷ bs) (tt, refl) h
sign_of_forth (suc (suc (suc (suc zero)))) bs s r h = begins_with sign_spelling FitsSign Joins s bs r (4 ∷ bs) (tt, refl) h
sign_of_forth (suc (suc (suc (suc (suc zero))))) bs s r h = begins_with sign_spelling FitsSign Chooses s bs r (5 ∷ bs) (tt, refl) h
sign_of_forth (suc (suc (suc (suc (suc (suc n)))))) bs s r h = absurd (none-some (s, r) h)

sign_forth : (bs : List ℕ) (s : Sign) (r : List ℕ) → front_sign bs ≡ Some (s, r) → Begins sign_spelling FitsSign bs s r
sign_forth bs s r h =
    let a = behind_some (front_u8 bs) sign_of s r h in
    let w = sign_of_forth a.0 a.1 s r a.3 in
    (w.0, u8_forth bs a.0 a.1 a.2 ∙ w.1)

-- a part takes the expressions that it stands over
taken_forest : (s : Sign) (room need : ℕ) (mid : List ℕ) (es : List (Formula ℕ)) (r : List ℕ) → FitsSign s → IsForest room (awaited s need) mid es r → IsForest (suc room) (suc need) (sign_spelling s ++ mid) (taken s es) r
taken_forest Never room need mid es r k f = record { count = ap suc f.count; parts = omega (arith, f.parts); reaches = (omega arith, f.reaches); bytes = ap (λ m. 0 ∷ m) f.bytes }
taken_forest Always room need mid es r k f = record { count = ap suc f.count; parts = omega (arith, f.parts); reaches = (omega arith, f.reaches); bytes = ap (λ m. 1 ∷ m) f.bytes }
taken_forest (Named o) room need mid es r k f = record { count = ap suc f.count; parts = omega (arith, f.parts); reaches = (omega (arith, k), f.reaches); bytes = ap (λ m. 2 ∷ o ∷ m) f.bytes }
taken_forest Negates room need mid [] r k f = absurd (omega (arith, f.count))
taken_forest Negates room need mid (e ∷ es) r k f = record { count = f.count; parts = omega (arith, f.parts); reaches = f.reaches; bytes = ap (λ m. 3 ∷ m) f.bytes }
taken_forest Joins room need mid [] r k f = absurd (omega (arith, f.count))
taken_forest Joins room need mid (a ∷ []) r k f = absurd (omega (arith, f.count))
taken_forest Joins room need mid (a ∷ b ∷ es) r k f = record {
  count = omega (arith, f.count);
  parts = omega (arith, f.parts);
  reaches = (omega (arith, f.reaches.0, f.reaches.1.0), f.reaches.1.1);
  bytes = ap (λ m. 4 ∷ m) (f.bytes ∙ ap (λ m. m ++ r) (sym (append_assoc (expression_spelling a) (expression_spelling b) (run_of expression_spelling es))));
}
taken_forest Chooses room need mid [] r k f = absurd (omega (arith, f.count))
taken_forest Chooses room need mid (a ∷ []) r k f = absurd (omega (arith, f.count))
taken_forest Chooses room need mid (a ∷ b ∷ es) r k f = record {
  count = omega (arith, f.count);
  parts = omega (arith, f.parts);
  reaches = (omega (arith, f.reaches.0, f.reaches.1.0), f.reaches.1.1);
  bytes = ap (λ m. 5 ∷ m) (f.bytes ∙ ap (λ m. m ++ r) (sym (append_assoc (expression_spelling a) (expression_spelling b) (run_of expression_spelling es))));
}

pub forest_forth : (room need : ℕ) (bs : List ℕ) (es : List (Formula ℕ)) (r : List ℕ) → front_forest room need bs ≡ Some (es, r) → IsForest room need bs es r
forest_forth room zero bs es r h =
    let p = pair_of [] es bs r h in
    let none : IsForest room 0 bs [] bs = record { count = refl; parts = omega arith; reaches = tt; bytes = refl } in
    subst (λ (q : List (Formula ℕ) × List ℕ). IsForest room 0 bs q.0 q.1) (λ i. (p.0 i, p.1 i)) none
forest_forth zero (suc need) bs es r h = absurd (none-some (es, r) h)
forest_forth (suc room) (suc need) bs es r h =
    let a = behind_some (front_sign bs) (λ s r. in_front (front_forest room (awaited s need) r) (taken s)) es r h in
    let b = behind_some (front_forest room (awaited a.0 need) a.1) (λ es r. Some (taken a.0 es, r)) es r a.3 in
    let p = pair_of (taken a.0 b.0) es b.1 r b.3 in
    let s = sign_forth bs a.0 a.1 a.2 in
    let t = taken_forest a.0 room need a.1 b.0 b.1 s.0 (forest_forth room (awaited a.0 need) a.1 b.0 b.1 b.2) in
    subst (λ (q : List ℕ × List (Formula ℕ) × List ℕ). IsForest (suc room) (suc need) q.0 q.1 q.2) (λ i. (sym s.1 i, p.0 i, p.1 i)) t

-- the first of one expression
pub lone_forth : (bs : List ℕ) (es : List (Formula ℕ)) (e : Formula ℕ) (r : List ℕ) → front_forest MOST_PARTS 1 bs ≡ Some (es, r) → first es ≡ Some e
    → (fits_expr e ≡ true) × (bs ≡ expression_spelling e ++ r)
lone_forth bs [] e r h k = absurd (none-some e k)
lone_forth bs (a ∷ []) e r h k =
    let f = forest_forth MOST_PARTS 1 bs (a ∷ []) r h in
    let p = same_Some a e k in (
      subst (λ x. fits_expr x ≡ true) p (fits_from a (omega (arith, f.parts)) f.reaches.0),
      f.bytes ∙ append_assoc (expression_spelling a) [] r ∙ ap (λ a. expression_spelling a ++ r) p,
    )
lone_forth bs (a ∷ b ∷ es) e r h k = absurd (omega (arith, (forest_forth MOST_PARTS 1 bs (a ∷ b ∷ es) r h).count))

lone_first : (es : List (Formula ℕ)) (mid : List ℕ) (e : Formula ℕ) (r : List ℕ) → lone es mid ≡ Some (e, r) → (first es ≡ Some e) × (mid ≡ r)
lone_first [] mid e r h = absurd (none-some (e, r) h)
lone_first (a ∷ es) mid e r h = let p = pair_of a e mid r h in (ap (λ a. Some a) p.0, p.1)

pub expression_forth : (bs : List ℕ) (e : Formula ℕ) (r : List ℕ) → front_expression bs ≡ Some (e, r) → (fits_expr e ≡ true) × (bs ≡ expression_spelling e ++ r)
expression_forth bs e r h =
    let a = behind_some (front_forest MOST_PARTS 1 bs) lone e r h in
    let l = lone_first a.0 a.1 e r a.3 in
    let w = lone_forth bs a.0 e a.1 a.2 l.0 in
    (w.0, w.1 ∙ ap (λ m. expression_spelling e ++ m) l.1)

pub lone_at : (es : List (Formula ℕ)) (e : Formula ℕ) (r : List ℕ) → first es ≡ Some e → lone es r ≡ Some (e, r)
lone_at [] e r h = absurd (none-some e h)
lone_at (a ∷ es) e r h = ap (λ x. Some (x, r)) (same_Some a e h)

-- the first of one expression, given within its bound
pub bounded_gives : (bs : List ℕ) (es : List (Formula ℕ)) (e : Formula ℕ) (r : List ℕ) (result : Result (Formula ℕ) (MemoryOr NotARecord))
    → front_forest MOST_PARTS 1 bs ≡ Some (es, r) → first es ≡ Some e
    → IfOk result (λ x. x ≡ e) → (IsErrOf result (Refused (record {})) → MOST_PARTS < part_count e)
    → Gives (front_expression bs) result r
bounded_gives bs es e r (Ok x) h k same many = behind_at (front_forest MOST_PARTS 1 bs) lone (Some (x, r)) es r h (lone_at es e r k ∙ ap (λ x. Some (x, r)) (sym same))
bounded_gives bs es e r (Err Memory) h k same many = tt
bounded_gives bs es e r (Err (Refused u)) h k same many = absurd (omega (arith, (fits_both e (lone_forth bs es e r h k).0).0, many refl))

-- the same of an expression in front
pub alone_gives : (bs : List ℕ) (e : Formula ℕ) (r : List ℕ) (result : Result (Formula ℕ) (MemoryOr NotARecord)) → front_expression bs ≡ Some (e, r)
    → IfOk result (λ x. x ≡ e) → (IsErrOf result (Refused (record {})) → MOST_PARTS < part_count e)
    → Gives (front_expression bs) result r
alone_gives bs e r (Ok x) h same many = h ∙ ap (λ x. Some (x, r)) (sym same)
alone_gives bs e r (Err Memory) h same many = tt
alone_gives bs e r (Err (Refused u)) h same many = absurd (omega (arith, (fits_both e (expression_forth bs e r h).0).0, many refl))

-- the rest of a part's expression
abbrev behind_part : (left : ℕ) → Front Sign → Front (Formula ℕ)
behind_part left f = behind (behind f (λ s r. behind (front_forest left (awaited s 0) r) (λ es r. Some (taken s es, r)))) lone

-- a part that stands over none is an expression by itself
pub never_alone : (bytes r : List ℕ) → front_sign bytes ≡ Some (Never, r) → front_expression bytes ≡ Some (False, r)
never_alone bytes r f = ap (behind_part 255) f

pub always_alone : (bytes r : List ℕ) → front_sign bytes ≡ Some (Always, r) → front_expression bytes ≡ Some (True, r)
always_alone bytes r f = ap (behind_part 255) f

pub named_alone : (o : ℕ) (bytes r : List ℕ) → front_sign bytes ≡ Some (Named o, r) → front_expression bytes ≡ Some (On o, r)
named_alone o bytes r f = ap (behind_part 255) f
