-- What has been read when tokens led to a state, and that an expression begins with them.
use Rattle.std.proofs.Common.{◌≡◌, ℕ, zero, suc, ◌+◌, ◌≤◌, List, [], ◌∷◌, ◌++◌, length, replicate, refl, ap, sym, ◌∙◌, arith, append_assoc, subst, Bool, true, false, length-append}
use Rattle.std.specs.Prelude.{Option, Some, None, option_and_then, codes}
use Rattle.std.specs.Str.{bytes_eq}
use Rattle.std.proofs.lemmas.List.{append-nil, length-replicate, replicate-append-replicate}
use Rattle.std.proofs.lemmas.Slice.Eq.{bytes_eq-Decides}
use Rattle.cov_expr.specs.Formula.{Formula, part_count}
use Rattle.cov_expr.specs.Grammar.{Rule, OrRule, AndRule, NotRule, AtomRule, Spells, lone_and, either, lone_not, both, negated, single, named, always, never, in_parentheses, IsExpression, BeginsExpression, constant_of, constant_or_name, word_formula}
use Rattle.cov_expr.specs.Reading.{ParserState, run, fresh, start, with_nots, after_and, after_or, settled, after_token, next, whole, finished}
use Rattle.cov_expr.specs.declared.reading.Level.{Level}
use Rattle.cov_expr.specs.declared.token.Token.{Token}
use Rattle.cov_expr.specs.declared.token.Token.TheVariants.{Word, Bang, Amp, Bar, Open, Close}
use Rattle.cov_expr.proofs.Spelt.{run-append, run-after, spelt-finished}

-- a left part and the operator after it
abbrev IsLeft : Rule → Token → Option (Formula (List ℕ)) → List Token → Type 0
IsLeft rule operator None ts = ts ≡ []
IsLeft rule operator (Some e) ts = (us : List Token) × Spells rule us e × (ts ≡ us ++ operator ∷ [])

-- what was read within one pair of parentheses before an operand
record IsLevel (level : Level) (ts : List Token) : Type 0 where
  ors : List Token
  ands : List Token
  or_left : IsLeft OrRule Bar level.or_left ors
  and_left : IsLeft AndRule Amp level.and_left ands
  all : ts ≡ ors ++ (ands ++ replicate level.nots Bang)

-- what was read round the innermost parentheses
abbrev IsOuter : List Level → List Token → Type 0
IsOuter [] ts = ts ≡ []
IsOuter (level ∷ outer) ts = (us : List Token) × (vs : List Token) × IsOuter outer us × IsLevel level vs × (ts ≡ us ++ (vs ++ Open ∷ []))

-- an operand that was read, with what binds it tighter than an |
abbrev IsOperand : Level → Option (Formula (List ℕ)) → List Token → Type 0
IsOperand level None ts = ts ≡ []
IsOperand level (Some e) ts = Spells AndRule ts e × (level.and_left ≡ None) × (level.nots ≡ 0)

-- the tokens that led to a state
pub record IsFront (s : ParserState) (ts : List Token) : Type 0 where
  outers : List Token
  levels : List Token
  operands : List Token
  outer : IsOuter s.outer outers
  level : IsLevel s.level levels
  operand : IsOperand s.level s.operand operands
  all : ts ≡ outers ++ (levels ++ operands)

fresh-IsLevel : IsLevel fresh []
fresh-IsLevel = record { ors = []; ands = []; or_left = refl; and_left = refl; all = refl }

start-IsFront : IsFront start []
start-IsFront = record { outers = []; levels = []; operands = []; outer = refl; level = fresh-IsLevel; operand = refl; all = refl }

with_nots-spelt : (n : ℕ) {ts : List Token} {e : Formula (List ℕ)} → Spells NotRule ts e → Spells NotRule (replicate n Bang ++ ts) (with_nots n e)
with_nots-spelt zero h = h
with_nots-spelt (suc n) h = negated (with_nots-spelt n h)

after_and-spelt : (left : Option (Formula (List ℕ))) (ts : List Token) {us : List Token} {e : Formula (List ℕ)} → IsLeft AndRule Amp left ts → Spells NotRule us e → Spells AndRule (ts ++ us) (after_and left e)
after_and-spelt None ts {us = us} {e = e} h k = subst (λ x. Spells AndRule (x ++ us) e) (sym h) (lone_not k)
after_and-spelt (Some a) ts {us = us} (vs, h, split) k = both (ap (λ x. x ++ us) split ∙ append_assoc vs (Amp ∷ []) us) h k

after_or-spelt : (left : Option (Formula (List ℕ))) (ts : List Token) {us : List Token} {e : Formula (List ℕ)} → IsLeft OrRule Bar left ts → Spells AndRule us e → Spells OrRule (ts ++ us) (after_or left e)
after_or-spelt None ts {us = us} {e = e} h k = subst (λ x. Spells OrRule (x ++ us) e) (sym h) (lone_and k)
after_or-spelt (Some a) ts {us = us} (vs, h, split) k = either (ap (λ x. x ++ us) split ∙ append_assoc vs (Bar ∷ []) us) h k

-- an operand more
settled-IsFront : (outer : List Level) (level : Level) (e : Formula (List ℕ)) (us vs ws : List Token) → IsOuter outer us → IsLevel level vs → Spells AtomRule ws e → IsFront (settled outer level e) (us ++ (vs ++ ws))
settled-IsFront outer level e us vs ws o l h = record {
  outers = us;
  levels = l.ors;
  operands = l.ands ++ (replicate level.nots Bang ++ ws);
  outer = o;
  level = record { ors = l.ors; ands = []; or_left = l.or_left; and_left = refl; all = sym (append-nil l.ors) };
  operand = (after_and-spelt level.and_left l.ands l.and_left (with_nots-spelt level.nots (single h)), refl, refl);
  all = ap (λ x. us ++ (x ++ ws)) l.all ∙ simp append_assoc;
}

-- a word is what it stands for
word-spelt : (word : List ℕ) → Spells AtomRule (Word word ∷ []) (word_formula word)
word-spelt word = cases (bytes_eq word (codes "true")) (bytes_eq word (codes "false")) refl refl
  where
    cases : (b c : Bool) → bytes_eq word (codes "true") ≡ b → bytes_eq word (codes "false") ≡ c → Spells AtomRule (Word word ∷ []) (word_formula word)
    cases true c h k = subst (λ w. Spells AtomRule (Word w ∷ []) (word_formula w)) (sym ((bytes_eq-Decides word (codes "true")).0 h)) always
    cases false true h k = subst (λ w. Spells AtomRule (Word w ∷ []) (word_formula w)) (sym ((bytes_eq-Decides word (codes "false")).0 k)) never
    cases false false h k =
        let no : constant_of word ≡ None = rw h (rw k refl) in
        subst (λ o. Spells AtomRule (Word word ∷ []) (constant_or_name o word)) (sym no) (named word no)

-- nothing stands between the | and an operand that was read
only_ors : {level : Level} {ts : List Token} (l : IsLevel level ts) → level.and_left ≡ None → level.nots ≡ 0 → ts ≡ l.ors
only_ors {level} {ts} l no_and no_nots =
    let no_ands : l.ands ≡ [] = subst (λ o. IsLeft AndRule Amp o l.ands) no_and l.and_left in
    l.all ∙ ap (λ n. l.ors ++ (l.ands ++ replicate n Bang)) no_nots ∙ ap (λ x. l.ors ++ (x ++ [])) no_ands ∙ append-nil l.ors

replicate-suc_end : (n : ℕ) → replicate n Bang ++ Bang ∷ [] ≡ replicate (n + 1) Bang
replicate-suc_end n = replicate-append-replicate n 1 Bang

-- one token more
next-IsFront : (outer : List Level) (level : Level) (operand : Option (Formula (List ℕ))) (t : Token) (ts : List Token) (s : ParserState) → IsFront (record { outer = outer; level = level; operand = operand }) ts → after_token outer level operand t ≡ Some s → IsFront s (ts ++ t ∷ [])
next-IsFront outer level None (Word word) ts s f h =
    let same : settled outer level (word_formula word) ≡ s = cc in
    let all : f.outers ++ (f.levels ++ Word word ∷ []) ≡ ts ++ Word word ∷ [] = rw (f.all, f.operand) (simp (append_assoc, append-nil)) in
    subst (λ x. IsFront x (ts ++ Word word ∷ [])) same
    (subst (λ x. IsFront (settled outer level (word_formula word)) x) all
    (settled-IsFront outer level (word_formula word) f.outers f.levels (Word word ∷ []) f.outer f.level (word-spelt word)))
next-IsFront outer level None Bang ts s f h =
    let same : record { outer = outer; level = record level { nots = level.nots + 1 }; operand = None } ≡ s = cc in
    subst (λ x. IsFront x (ts ++ Bang ∷ [])) same (record {
      outers = f.outers;
      levels = f.levels ++ Bang ∷ [];
      operands = [];
      outer = f.outer;
      level = record {
        ors = f.level.ors;
        ands = f.level.ands;
        or_left = f.level.or_left;
        and_left = f.level.and_left;
        all = rw (f.level.all, ← replicate-suc_end level.nots) (simp append_assoc);
      };
      operand = refl;
      all = rw (f.all, f.operand) (simp (append_assoc, append-nil));
    })
next-IsFront outer level None Open ts s f h =
    let same : record { outer = level ∷ outer; level = fresh; operand = None } ≡ s = cc in
    subst (λ x. IsFront x (ts ++ Open ∷ [])) same (record {
      outers = ts ++ Open ∷ [];
      levels = [];
      operands = [];
      outer = (f.outers, f.levels, f.outer, f.level, rw (f.all, f.operand) (simp (append_assoc, append-nil)));
      level = fresh-IsLevel;
      operand = refl;
      all = sym (append-nil (ts ++ Open ∷ []));
    })
next-IsFront outer level (Some e) Amp ts s f h =
    let same : record { outer = outer; level = record level { and_left = Some e }; operand = None } ≡ s = cc in
    let ors : f.levels ≡ f.level.ors = only_ors f.level f.operand.1 f.operand.2 in
    subst (λ x. IsFront x (ts ++ Amp ∷ [])) same (record {
      outers = f.outers;
      levels = f.level.ors ++ (f.operands ++ Amp ∷ []);
      operands = [];
      outer = f.outer;
      level = record {
        ors = f.level.ors;
        ands = f.operands ++ Amp ∷ [];
        or_left = f.level.or_left;
        and_left = (f.operands, f.operand.0, refl);
        all = rw f.operand.2 (simp append-nil);
      };
      operand = refl;
      all = rw (f.all, ors) (simp (append_assoc, append-nil));
    })
next-IsFront outer level (Some e) Bar ts s f h =
    let same : record { outer = outer; level = record level { or_left = Some (after_or level.or_left e) }; operand = None } ≡ s = cc in
    let ors : f.levels ≡ f.level.ors = only_ors f.level f.operand.1 f.operand.2 in
    subst (λ x. IsFront x (ts ++ Bar ∷ [])) same (record {
      outers = f.outers;
      levels = (f.level.ors ++ f.operands) ++ Bar ∷ [];
      operands = [];
      outer = f.outer;
      level = record {
        ors = (f.level.ors ++ f.operands) ++ Bar ∷ [];
        ands = [];
        or_left = (f.level.ors ++ f.operands, after_or-spelt level.or_left f.level.ors f.level.or_left f.operand.0, refl);
        and_left = rw f.operand.1 refl;
        all = rw f.operand.2 (simp append-nil);
      };
      operand = refl;
      all = rw (f.all, ors) (simp (append_assoc, append-nil));
    })
next-IsFront [] level (Some e) Close ts s f h = cc
next-IsFront (m ∷ outer) level (Some e) Close ts s f h =
    let same : settled outer m (after_or level.or_left e) ≡ s = cc in
    let ors : f.levels ≡ f.level.ors = only_ors f.level f.operand.1 f.operand.2 in
    let inner = f.level.ors ++ f.operands in
    let atom : Spells AtomRule (Open ∷ (inner ++ Close ∷ [])) (after_or level.or_left e) = in_parentheses refl (after_or-spelt level.or_left f.level.ors f.level.or_left f.operand.0) in
    let all : f.outer.0 ++ (f.outer.1 ++ Open ∷ (inner ++ Close ∷ [])) ≡ ts ++ Close ∷ [] = rw (f.all, f.outer.4, ors) (simp append_assoc) in
    subst (λ x. IsFront x (ts ++ Close ∷ [])) same
    (subst (λ x. IsFront (settled outer m (after_or level.or_left e)) x) all
    (settled-IsFront outer m (after_or level.or_left e) f.outer.0 f.outer.1 (Open ∷ (inner ++ Close ∷ [])) f.outer.2 f.outer.3 atom))
next-IsFront outer level None Amp ts s f h = cc
next-IsFront outer level None Bar ts s f h = cc
next-IsFront outer level None Close ts s f h = cc
next-IsFront outer level (Some e) (Word word) ts s f h = cc
next-IsFront outer level (Some e) Bang ts s f h = cc
next-IsFront outer level (Some e) Open ts s f h = cc

-- tokens more
pub run-IsFront : (us ts : List Token) (s s' : ParserState) → IsFront s ts → run us s ≡ Some s' → IsFront s' (ts ++ us)
run-IsFront [] ts s s' f h =
    let same : s ≡ s' = cc in
    subst (λ x. IsFront x (ts ++ [])) same (subst (λ x. IsFront s x) (sym (append-nil ts)) f)
run-IsFront (u ∷ us) ts s s' f h = onward (next s u) refl h (λ m. run-IsFront us (ts ++ u ∷ []) m s')
  where
    onward : (o : Option ParserState) → next s u ≡ o → option_and_then (run us) o ≡ Some s' → ((m : ParserState) → IsFront m (ts ++ u ∷ []) → run us m ≡ Some s' → IsFront s' ((ts ++ u ∷ []) ++ us)) → IsFront s' (ts ++ u ∷ us)
    onward None first h later = cc
    onward (Some m) first h later =
        subst (λ x. IsFront s' x) (append_assoc ts (u ∷ []) us) (later m (next-IsFront s.outer s.level s.operand u ts m f first) h)

-- the tokens that led from the start to a state
pub started-IsFront : (ts : List Token) (s : ParserState) → run ts start ≡ Some s → IsFront s ts
started-IsFront ts s h = run-IsFront ts [] start s start-IsFront h

-- where a whole expression was read, the tokens spell it
finished-spelt : (outer : List Level) (level : Level) (operand : Option (Formula (List ℕ))) (ts : List Token) (e : Formula (List ℕ)) → IsFront (record { outer = outer; level = level; operand = operand }) ts → whole outer level operand ≡ Some e → IsExpression ts e
finished-spelt [] level (Some operand) ts e f h =
    let same : after_or level.or_left operand ≡ e = cc in
    let ors : f.levels ≡ f.level.ors = only_ors f.level f.operand.1 f.operand.2 in
    let all : f.level.ors ++ f.operands ≡ ts = rw (f.all, f.outer, ors) refl in
    subst (IsExpression ts) same (subst (λ x. IsExpression x (after_or level.or_left operand)) all (after_or-spelt level.or_left f.level.ors f.level.or_left f.operand.0))
finished-spelt [] level None ts e f h = cc
finished-spelt (l ∷ outer) level operand ts e f h = cc

pub run-spelt : (ts : List Token) (s : ParserState) (e : Formula (List ℕ)) → run ts start ≡ Some s → finished s ≡ Some e → IsExpression ts e
run-spelt ts s e h k = finished-spelt s.outer s.level s.operand ts e (started-IsFront ts s h) k

-- tokens with which a reading ends as a whole expression
abbrev pub Ends : ParserState → Type 0
Ends s = (ts : List Token) × (m : ParserState) × (e : Formula (List ℕ)) × (run ts s ≡ Some m) × (finished m ≡ Some e)

-- after an operand the open parentheses are closed
closes : (outer : List Level) (level : Level) (operand : Formula (List ℕ)) → Ends (record { outer = outer; level = level; operand = Some operand })
closes [] level operand = ([], _, _, refl, refl)
closes (m ∷ outer) level operand =
    let closed = settled outer m (after_or level.or_left operand) in
    let later : Ends closed = closes outer closed.level (after_and m.and_left (with_nots m.nots (after_or level.or_left operand))) in
    (Close ∷ later.0, later.1, later.2, later.3, later.4)

ends : (outer : List Level) (level : Level) (operand : Option (Formula (List ℕ))) → Ends (record { outer = outer; level = level; operand = operand })
ends outer level (Some operand) = closes outer level operand
ends outer level None =
    let word = codes "a" in
    let read = settled outer level (word_formula word) in
    let later : Ends read = closes outer read.level (after_and level.and_left (with_nots level.nots (word_formula word))) in
    (Word word ∷ later.0, later.1, later.2, later.3, later.4)

-- an expression begins with tokens that can be read
pub run-begins : (ts : List Token) (s : ParserState) → run ts start ≡ Some s → BeginsExpression ts
run-begins ts s h =
    let later = ends s.outer s.level s.operand in
    (later.0, later.2, run-spelt (ts ++ later.0) later.1 later.2 (run-after ts later.0 start s h ∙ later.3) later.4)

-- tokens that can't be read begin no expression
pub stuck-begins_none : (ts : List Token) → run ts start ≡ None → BeginsExpression ts → ⊥
stuck-begins_none ts h (rest, e, spelt) =
    let whole_reading = spelt-finished spelt in
    let split = run-append ts rest start in
    cc

-- no more ! stand before an operand than there are tokens
pub front-nots : (s : ParserState) (ts : List Token) → IsFront s ts → s.level.nots ≤ length ts
front-nots s ts f = rw (f.all, f.level.all) (omega (arith, length-append {A = Token}, length-replicate s.level.nots Bang))

-- an expression has at most as many parts as its text has tokens
pub part_count-spelt : {rule : Rule} {ts : List Token} {e : Formula (List ℕ)} → Spells rule ts e → part_count e ≤ length ts
part_count-spelt (lone_and h) = part_count-spelt h
part_count-spelt (either {ts = ts} {us = us} split h k) = omega (arith, part_count-spelt h, part_count-spelt k, ap length split, length-append ts (Bar ∷ us))
part_count-spelt (lone_not h) = part_count-spelt h
part_count-spelt (both {ts = ts} {us = us} split h k) = omega (arith, part_count-spelt h, part_count-spelt k, ap length split, length-append ts (Amp ∷ us))
part_count-spelt (negated h) = omega (arith, part_count-spelt h)
part_count-spelt (single h) = part_count-spelt h
part_count-spelt (named n h) = omega arith
part_count-spelt always = omega arith
part_count-spelt never = omega arith
part_count-spelt (in_parentheses {ts = ts} split h) = omega (arith, part_count-spelt h, ap length split, length-append ts (Close ∷ []))
