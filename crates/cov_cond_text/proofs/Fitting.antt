-- What is read is a conditional text over the options.
use Rattle.std.proofs.Common.{◌≡◌, ℕ, suc, ◌+◌, ◌<◌, ◌≤◌, Bool, true, false, cond, ◌||◌, not, nat_lt, List, [], ◌∷◌, ◌++◌, map, drop, length, Option, Some, None, Result, Ok, Err, if◌then◌else◌, refl, sym, ap, subst, ◌∙◌, arith}
use Rattle.std.specs.Prelude.{codes, unwrap_or}
use Rattle.std.specs.List.{find, list_any, position_or_len, AllByRecursion}
use Rattle.std.specs.Str.{bytes_eq}
use Rattle.std.proofs.lemmas.Bool.Decides.{nat_tests}
use Rattle.std.proofs.lemmas.Grind.{reverse_onto}
use Rattle.std.proofs.lemmas.List.Sums.{sum_by-append, sum_by-cons}
use Rattle.cov_base.specs.Spelling.{is_line_text}
use Rattle.cov_base.specs.declared.limits.TheConstants.{MOST_PARTS}
use Rattle.cov_expr.specs.Formula.{Formula, False, True, On, Not, And, Or, names_in, part_count, reach}
use Rattle.cov_expr.specs.Naming.{bound_expression, first_unknown, known_or, with_numbers}
use Rattle.cov_expr.specs.Options.{is_declared, option_number}
use Rattle.cov_expr.specs.Reading.{parsed}
use Rattle.cov_expr.specs.declared.naming.NameFault.{NameFault}
use Rattle.cov_expr.specs.declared.naming.NameFault.TheVariants as name_faults
use Rattle.cov_expr.specs.declared.spelling.ExprFault.{ExprFault}
use Rattle.cov_expr.specs.declared.spelling.ExprFault.TheVariants as expr_faults
use Rattle.cov_cond_text.specs.Conditional.{CondLine, joined, conjunction, AreGrouped, IsFitLine, IsCondText}
use Rattle.cov_cond_text.specs.Reading.{CondForm, TextForm, IfForm, ElseForm, EndForm, NoForm, begins_with, text_form, form_of, Reading, nothing_read, conditions_of, parts_of, parts_with, after_directive, opened_if, after_if, if_few, after_else, after_end, line_read, adding_none, after_line, lines_then, then_read, at_end, read_from, read_text}
use Rattle.cov_cond_text.specs.declared.fault.CondFault.{CondFault}
use Rattle.cov_cond_text.specs.declared.fault.CondFault.TheVariants as faults
use Rattle.cov_cond_text.specs.declared.reader.Block.{Block}
use Rattle.cov_cond_text.proofs.ReadSteps.{weights, parts-weights, parts_bound, with-weights}

-- the conditions that are open are few, and have only options below a count
record IsFitState (count : ℕ) (s : Reading) : Type 0 where
  few : weights (conditions_of s.blocks) ≤ MOST_PARTS + 1
  declared : AllByRecursion (λ b. reach b.condition ≤ count) s.blocks

module _ (count : ℕ) where
  reach-joined : (e : Formula ℕ) (es : List (Formula ℕ)) → reach e ≤ count → AllByRecursion (λ f. reach f ≤ count) es → reach (joined e es) ≤ count
  reach-joined e [] h all = h
  reach-joined e (f ∷ fs) h all = reach-joined (And e f) fs (let own = all.0 in omega (arith, h, own)) all.1

  reach-conjunction : (es : List (Formula ℕ)) → AllByRecursion (λ f. reach f ≤ count) es → reach (conjunction es) ≤ count
  reach-conjunction [] all = omega arith
  reach-conjunction (e ∷ es) all = reach-joined e es all.0 all.1

  all-conditions : (bs : List Block) → AllByRecursion (λ b. reach b.condition ≤ count) bs → AllByRecursion (λ f. reach f ≤ count) (conditions_of bs)
  all-conditions [] all = tt
  all-conditions (b ∷ bs) all =
      subst (AllByRecursion (λ f. reach f ≤ count)) (sym (reverse_onto (map (λ (d : Block). d.condition) bs) b.condition []))
      (both (conditions_of bs) (all-conditions bs all.1))
    where
      both : (es : List (Formula ℕ)) → AllByRecursion (λ f. reach f ≤ count) es → AllByRecursion (λ f. reach f ≤ count) (es ++ b.condition ∷ [])
      both [] h = (all.0, tt)
      both (e ∷ es) h = (h.0, both es h.1)

  few-parts : (es : List (Formula ℕ)) → weights es ≤ MOST_PARTS + 1 → part_count (conjunction es) ≤ MOST_PARTS
  few-parts [] h = omega arith
  few-parts (e ∷ es) h = let all = parts-weights e es in omega (arith, h, all)

  -- a text within the open blocks is a fit line
  line-fit : (s : Reading) (text : List ℕ) → IsFitState count s → is_line_text text ≡ true → IsFitLine count (line_read s text)
  line-fit s text fit spelt = record {
    spelt = spelt;
    few = few-parts (conditions_of s.blocks) fit.few;
    declared = reach-conjunction (conditions_of s.blocks) (all-conditions s.blocks fit.declared);
  }

  weights-push : (bs : List Block) (b : Block) → weights (conditions_of (b ∷ bs)) ≡ weights (conditions_of bs) + (part_count b.condition + 1)
  weights-push bs b =
      let all = ap weights (reverse_onto (map (λ (d : Block). d.condition) bs) b.condition []) ∙ sum_by-append (λ (e : Formula ℕ). part_count e + 1) (conditions_of bs) (b.condition ∷ []) in
      let one = sum_by-cons (λ (e : Formula ℕ). part_count e + 1) b.condition [] in
      omega (arith, all, one)

-- none found in two lists is none found in each
none-both : {X : Type 0} (p : X → Bool) (xs ys : List X) → find p (xs ++ ys) ≡ None → (find p xs ≡ None) × (find p ys ≡ None)
none-both p [] ys h = (refl, h)
none-both p (x ∷ xs) ys h = at (p x) h (none-both p xs ys)
  where
    at : (b : Bool) → cond b (Some x) (find p (xs ++ ys)) ≡ None → (find p (xs ++ ys) ≡ None → (find p xs ≡ None) × (find p ys ≡ None)) → (cond b (Some x) (find p xs) ≡ None) × (find p ys ≡ None)
    at true k rest = absurd (cc)
    at false k rest = rest k

place-low : (t : List ℕ → Bool) (xs : List (List ℕ)) → list_any t xs ≡ true → position_or_len t xs < length xs
place-low t [] h = absurd (cc)
place-low t (x ∷ xs) h = at (t x) h (place-low t xs)
  where
    at : (b : Bool) → (b || list_any t xs) ≡ true → (list_any t xs ≡ true → position_or_len t xs < length xs) → cond (not b) (1 + position_or_len t xs) 0 < suc (length xs)
    at true k rest = omega arith
    at false k rest = let low = rest k in omega (arith, low)

-- the options of a bound expression are declared
module _ (names : List (List ℕ)) where
  number-low : (name : List ℕ) → is_declared names name ≡ true → option_number names name < length names
  number-low name h =
      let low = place-low (bytes_eq name) names h in
      let test : nat_lt (position_or_len (bytes_eq name) names) (length names) ≡ true = grind (arith, nat_tests, low) in
      subst (λ b. unwrap_or (cond b (Some (position_or_len (bytes_eq name) names)) None) (length names) < length names) (sym test) low

  reach-known : (raw : Formula (List ℕ)) → first_unknown names raw ≡ None → reach (with_numbers names raw) ≤ length names
  reach-known False h = omega arith
  reach-known True h = omega arith
  reach-known (On name) h = let low = number-low name (at (is_declared names name) h) in omega (arith, low)
    where
      at : (b : Bool) → cond (not b) (Some name) None ≡ None → b ≡ true
      at true k = refl
      at false k = absurd (cc)
  reach-known (Not e) h = reach-known e h
  reach-known (And a b) h =
      let parts = none-both (λ name. not (is_declared names name)) (names_in a) (names_in b) h in
      omega (arith, reach-known a parts.0, reach-known b parts.1)
  reach-known (Or a b) h =
      let parts = none-both (λ name. not (is_declared names name)) (names_in a) (names_in b) h in
      omega (arith, reach-known a parts.0, reach-known b parts.1)

  reach-bound : (raw : Formula (List ℕ)) (e : Formula ℕ) → bound_expression names raw ≡ Ok e → reach e ≤ length names
  reach-bound raw e h = at (first_unknown names raw) refl h
    where
      at : (o : Option (List ℕ)) → first_unknown names raw ≡ o → known_or o (with_numbers names raw) ≡ Ok e → reach e ≤ length names
      at None is k = let same : with_numbers names raw ≡ e = cc in subst (λ f. reach f ≤ length names) same (reach-known raw is)
      at (Some name) is k = absurd (cc)

  -- a state after a directive is fit, and counts it
  abbrev IsNext : Reading → Reading → Type 0
  IsNext s t = IsFitState (length names) t × (t.directives ≡ s.directives + 1)

  opened-fit : (n : ℕ) (s t : Reading) (raw : Formula (List ℕ)) → IsFitState (length names) s → after_if names n s (Ok raw) ≡ Ok t → IsNext s t
  opened-fit n s t raw fit h = at (nat_lt MOST_PARTS (parts_with (conditions_of s.blocks) (part_count raw))) refl h
    where
      by : (r : Result (Formula ℕ) NameFault) → bound_expression names raw ≡ r → parts_with (conditions_of s.blocks) (part_count raw) ≤ MOST_PARTS → opened_if n s r ≡ Ok t → IsNext s t
      by (Ok e) is low k =
          let next : Reading = after_directive s (record { condition = e; has_else = false } ∷ s.blocks) in
          let same : next ≡ t = cc in
          subst (λ u. IsNext s u) same (
            record {
              few =
                  let all = weights-push (length names) s.blocks (record { condition = e; has_else = false }) in
                  let with = with-weights (conditions_of s.blocks) (part_count raw) in
                  let parts = parts_bound names raw e is in
                  omega (arith, low, all, with, parts);
              declared = (reach-bound raw e is, fit.declared);
            },
            refl,
          )
      by (Err (name_faults.UnknownOption name)) is low k = absurd (cc)
      by (Err name_faults.Memory) is low k = absurd (cc)

      at : (b : Bool) → nat_lt MOST_PARTS (parts_with (conditions_of s.blocks) (part_count raw)) ≡ b → (if b then Err (faults.TooLong n) else opened_if n s (bound_expression names raw)) ≡ Ok t → IsNext s t
      at true e k = absurd (cc)
      at false e k = by (bound_expression names raw) refl (low MOST_PARTS (parts_with (conditions_of s.blocks) (part_count raw)) e) k
        where
          low : (most m : ℕ) → nat_lt most m ≡ false → m ≤ most
          low most m f = grind (arith, nat_tests, f)

  if-fit : (n : ℕ) (s t : Reading) (r : Result (Formula (List ℕ)) ExprFault) → IsFitState (length names) s → after_if names n s r ≡ Ok t → IsNext s t
  if-fit n s t (Ok raw) fit h = opened-fit n s t raw fit h
  if-fit n s t (Err (expr_faults.Syntax at)) fit h = absurd (cc)
  if-fit n s t (Err expr_faults.TooLong) fit h = absurd (cc)
  if-fit n s t (Err expr_faults.Memory) fit h = absurd (cc)

  turned-fit : (n : ℕ) (s t : Reading) (b : Block) (bs : List Block) → reach b.condition ≤ length names → AllByRecursion (λ d. reach d.condition ≤ length names) bs
      → after_else n s (b ∷ bs) ≡ Ok t → IsNext s t
  turned-fit n s t b bs low all h = at b.has_else h
    where
      other : Block
      other = record { condition = Not b.condition; has_else = true }

      by : (x : Bool) → nat_lt MOST_PARTS (parts_of (conditions_of (other ∷ bs))) ≡ x → (if x then Err (faults.TooLong n) else Ok (after_directive s (other ∷ bs))) ≡ Ok t → IsNext s t
      by true e k = absurd (cc)
      by false e k =
          let same : after_directive s (other ∷ bs) ≡ t = cc in
          subst (λ u. IsNext s u) same (record { few = few (not-above MOST_PARTS (parts_of (conditions_of (other ∷ bs))) e); declared = (low, all) }, refl)
        where
          not-above : (most m : ℕ) → nat_lt most m ≡ false → m ≤ most
          not-above most m f = grind (arith, nat_tests, f)

          few : parts_of (conditions_of (other ∷ bs)) ≤ MOST_PARTS → weights (conditions_of (other ∷ bs)) ≤ MOST_PARTS + 1
          few = of (conditions_of (other ∷ bs))
            where
              of : (es : List (Formula ℕ)) → parts_of es ≤ MOST_PARTS → weights es ≤ MOST_PARTS + 1
              of [] f = omega arith
              of (d ∷ ds) f = let whole = parts-weights d ds in omega (arith, f, whole)

      at : (x : Bool) → (if x then Err (faults.Syntax n) else if_few n s (other ∷ bs)) ≡ Ok t → IsNext s t
      at true k = absurd (cc)
      at false k = by (nat_lt MOST_PARTS (parts_of (conditions_of (other ∷ bs)))) refl k

  else-fit : (n : ℕ) (s t : Reading) (bs : List Block) → AllByRecursion (λ d. reach d.condition ≤ length names) bs → after_else n s bs ≡ Ok t → IsNext s t
  else-fit n s t [] all h = absurd (cc)
  else-fit n s t (b ∷ bs) all h = turned-fit n s t b bs all.0 all.1 h

  end-fit : (n : ℕ) (s t : Reading) (bs : List Block) → weights (conditions_of bs) ≤ MOST_PARTS + 1 → AllByRecursion (λ d. reach d.condition ≤ length names) bs → after_end n s bs ≡ Ok t → IsNext s t
  end-fit n s t [] few all h = absurd (cc)
  end-fit n s t (b ∷ bs) few all h =
      let same : after_directive s bs ≡ t = cc in
      subst (λ u. IsNext s u) same (record { few = let whole = weights-push (length names) bs b in omega (arith, few, whole); declared = all.1 }, refl)

  -- the first of later lines may follow a line that would be read now
  abbrev Begins : Reading → List CondLine → Type 0
  Begins s [] = Unit {0}
  Begins s (m ∷ ms) = (s.directives ≤ m.group) × (s.directives ≡ m.group → conditions_of s.blocks ≡ m.conditions)

  abbrev IsRead : Reading → List CondLine → Type 0
  IsRead s ls = AreGrouped ls × Begins s ls × AllByRecursion (IsFitLine (length names)) ls

  line-then : (s : Reading) (l : CondLine) (ls : List CondLine) → IsFitLine (length names) l → l.group ≡ s.directives → l.conditions ≡ conditions_of s.blocks → IsRead s ls → IsRead s (l ∷ ls)
  line-then s l [] fit group conditions read = (tt, ((omega (arith, group)), λ e. sym conditions), (fit, tt))
  line-then s l (m ∷ ms) fit group conditions read = (
    (record { later = (let low : s.directives ≤ m.group = read.1.0 in omega (arith, group, low)); same = λ e. conditions ∙ read.1.1 (sym group ∙ e) }, read.0),
    ((omega (arith, group)), λ e. sym conditions),
    (fit, read.2),
  )

  directive-then : (s t : Reading) (ls : List CondLine) → t.directives ≡ s.directives + 1 → IsRead t ls → IsRead s ls
  directive-then s t [] one read = (tt, tt, tt)
  directive-then s t (m ∷ ms) one read =
      let low : t.directives ≤ m.group = read.1.0 in
      (read.0, ((omega (arith, low, one)), λ e. absurd (omega (arith, low, one, e))), read.2)

  -- what lines give is grouped and fit
  text-spelt : (text kept : List ℕ) → text_form text ≡ TextForm kept → is_line_text kept ≡ true
  text-spelt text kept h = at (is_line_text text) refl h
    where
      at : (b : Bool) → is_line_text text ≡ b → (if b then TextForm text else NoForm) ≡ TextForm kept → is_line_text kept ≡ true
      at true e k = let same : text ≡ kept = cc in subst (λ t. is_line_text t ≡ true) same e
      at false e k = absurd (cc)

  form-spelt : (line kept : List ℕ) → form_of line ≡ TextForm kept → is_line_text kept ≡ true
  form-spelt line kept h = one (begins_with (codes "#if ") line) h
    where
      five : (b : Bool) → (if b then NoForm else text_form line) ≡ TextForm kept → is_line_text kept ≡ true
      five true k = absurd (cc)
      five false k = text-spelt line kept k

      four : (b : Bool) → (if b then text_form (drop 1 line) else (if begins_with (codes "#") line then NoForm else text_form line)) ≡ TextForm kept → is_line_text kept ≡ true
      four true k = text-spelt (drop 1 line) kept k
      four false k = five (begins_with (codes "#") line) k

      three : (b : Bool) → (if b then EndForm else (if begins_with (codes "##") line then text_form (drop 1 line) else (if begins_with (codes "#") line then NoForm else text_form line))) ≡ TextForm kept → is_line_text kept ≡ true
      three true k = absurd (cc)
      three false k = four (begins_with (codes "##") line) k

      two : (b : Bool) → (if b then ElseForm else (if bytes_eq line (codes "#endif") then EndForm else (if begins_with (codes "##") line then text_form (drop 1 line) else (if begins_with (codes "#") line then NoForm else text_form line)))) ≡ TextForm kept
          → is_line_text kept ≡ true
      two true k = absurd (cc)
      two false k = three (bytes_eq line (codes "#endif")) k

      one : (b : Bool) → (if b then IfForm (drop 4 line) else (if bytes_eq line (codes "#else") then ElseForm else (if bytes_eq line (codes "#endif") then EndForm else (if begins_with (codes "##") line then text_form (drop 1 line)
          else (if begins_with (codes "#") line then NoForm else text_form line))))) ≡ TextForm kept → is_line_text kept ≡ true
      one true k = absurd (cc)
      one false k = two (bytes_eq line (codes "#else")) k

  -- after a directive
  then-fit : (s : Reading) (r : Result Reading CondFault) (later : Reading → Result (List CondLine) CondFault) (ls : List CondLine) → ((t : Reading) → r ≡ Ok t → IsNext s t)
      → ((t : Reading) (ms : List CondLine) → IsFitState (length names) t → later t ≡ Ok ms → IsRead t ms) → then_read (adding_none r) later ≡ Ok ls → IsRead s ls
  then-fit s (Err fault) later ls next rest h = absurd (cc)
  then-fit s (Ok t) later ls next rest h = at (later t) refl h
    where
      at : (a : Result (List CondLine) CondFault) → later t ≡ a → lines_then [] a ≡ Ok ls → IsRead s ls
      at (Err fault) e k = absurd (cc)
      at (Ok ms) e k =
          let same : ms ≡ ls = cc in
          let n = next t refl in
          subst (IsRead s) same (directive-then s t ms n.1 (rest t ms n.0 e))

  form-fit : (n : ℕ) (s : Reading) (form : CondForm) (later : Reading → Result (List CondLine) CondFault) (ls : List CondLine) → IsFitState (length names) s
      → ((text : List ℕ) → form ≡ TextForm text → is_line_text text ≡ true)
      → ((t : Reading) (ms : List CondLine) → IsFitState (length names) t → later t ≡ Ok ms → IsRead t ms) → then_read (after_line names n s form) later ≡ Ok ls → IsRead s ls
  form-fit n s (TextForm text) later ls fit spelt rest h = at (later s) refl h
    where
      at : (a : Result (List CondLine) CondFault) → later s ≡ a → lines_then (line_read s text ∷ []) a ≡ Ok ls → IsRead s ls
      at (Err fault) e k = absurd (cc)
      at (Ok ms) e k =
          let same : line_read s text ∷ ms ≡ ls = cc in
          subst (IsRead s) same (line-then s (line_read s text) ms (line-fit (length names) s text fit (spelt text refl)) refl refl (rest s ms fit e))
  form-fit n s (IfForm expression) later ls fit spelt rest h = then-fit s (after_if names n s (parsed expression)) later ls (λ t e. if-fit n s t (parsed expression) fit e) rest h
  form-fit n s ElseForm later ls fit spelt rest h = then-fit s (after_else n s s.blocks) later ls (λ t e. else-fit n s t s.blocks fit.declared e) rest h
  form-fit n s EndForm later ls fit spelt rest h = then-fit s (after_end n s s.blocks) later ls (λ t e. end-fit n s t s.blocks fit.few fit.declared e) rest h
  form-fit n s NoForm later ls fit spelt rest h = absurd (cc)

  lines-fit : (n : ℕ) (s : Reading) (lines : List (List ℕ)) (ls : List CondLine) → IsFitState (length names) s → read_from names n s lines ≡ Ok ls → IsRead s ls
  lines-fit n s [] ls fit h = at s.blocks h
    where
      at : (bs : List Block) → at_end n bs ≡ Ok ls → IsRead s ls
      at [] k = let same : [] ≡ ls = cc in subst (IsRead s) same (tt, tt, tt)
      at (b ∷ bs) k = absurd (cc)
  lines-fit n s (line ∷ lines) ls fit h =
      form-fit n s (form_of line) (λ t. read_from names (n + 1) t lines) ls fit (λ text e. form-spelt line text e) (λ t ms f e. lines-fit (n + 1) t lines ms f e) h

  -- what is read is a conditional text over the options
  pub read_fits : (lines : List (List ℕ)) (ls : List CondLine) → read_text names lines ≡ Ok ls → IsCondText (length names) ls
  read_fits lines ls h =
      let read = lines-fit 1 nothing_read lines ls (record { few = omega arith; declared = tt }) h in
      record { grouped = read.0; lines = read.2 }
