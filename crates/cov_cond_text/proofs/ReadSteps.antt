-- What a reader has read, step by step.
use mathlib.Core.List.{reverse_aux}
use Rattle.std.proofs.Common.{◌≡◌, ℕ, ◌+◌, ◌≤◌, true, nat_lt, List, [], ◌∷◌, ◌++◌, map, append-nil, Option, Some, None, Ok, refl, sym, ap, ◌∙◌, arith}
use Rattle.std.specs.Prelude.{reverse}
use Rattle.std.specs.List.{sum_by}
use Rattle.std.proofs.lemmas.Bool.Decides.{nat_tests}
use Rattle.std.proofs.lemmas.Grind.{flat_map-append, reverse_onto}
use Rattle.std.proofs.lemmas.List.{reverse-append, reverse-reverse}
use Rattle.std.proofs.lemmas.List.Sums.{sum_by-append, sum_by-cons}
use Rattle.cov_base.specs.declared.limits.TheConstants.{MOST_PARTS}
use Rattle.cov_expr.specs.Formula.{Formula, False, True, On, Not, And, Or, part_count}
use Rattle.cov_expr.specs.Naming.{bound_expression, first_unknown, known_or, with_numbers}
use Rattle.cov_cond_text.specs.Conditional.{joined, conjunction, line_in, lines_in}
use Rattle.cov_cond_text.specs.Reading.{conditions_of, parts_of, parts_with, line_read}
use Rattle.cov_cond_text.specs.Readers.{state_of, done_of, condition_in, weight, HasRoom}
use Rattle.cov_cond_text.specs.declared.reader.Block.{Block}
use Rattle.cov_cond_text.specs.declared.reader.Reader.{Reader}
use Rattle.cov_cond_text.specs.declared.run.Run.{Run}

map-turned : {X Y : Type 0} (f : X → Y) (xs ys : List X) → reverse_aux (map f xs) (map f ys) ≡ map f (reverse_aux xs ys)
map-turned f [] ys = refl
map-turned f (x ∷ xs) ys = map-turned f xs (x ∷ ys)

-- the conditions of blocks from the inside are those from the outside, turned twice
pub conditions-items : (bs : List Block) → conditions_of (reverse bs) ≡ map condition_in bs
conditions-items bs = ap reverse (sym (map-turned condition_in bs [])) ∙ reverse-reverse (map condition_in bs)

-- a run that ends has the lines of its texts
pub ended-run : (r new : Reader) (run : Run) → new.runs.runs ≡ r.runs.runs ++ run ∷ [] → new.texts ≡ [] → state_of new ≡ state_of r
    → run.group ≡ r.directives → run.conditions ≡ map condition_in r.blocks.items → run.texts ≡ r.texts → done_of new ≡ done_of r
ended-run r new run runs none state group conditions texts =
    ap (λ rs. lines_in rs ++ map (line_read (state_of new)) new.texts) runs
    ∙ ap (λ ts. lines_in (r.runs.runs ++ run ∷ []) ++ map (line_read (state_of new)) ts) none
    ∙ append-nil (lines_in (r.runs.runs ++ run ∷ []))
    ∙ flat_map-append (λ (s : Run). map (line_in s) s.texts) r.runs.runs (run ∷ [])
    ∙ ap (λ ls. lines_in r.runs.runs ++ ls) (append-nil (map (line_in run) run.texts) ∙ each run.texts ∙ ap (map (line_read (state_of r))) texts)
  where
    each : (ts : List (List ℕ)) → map (line_in run) ts ≡ map (line_read (state_of r)) ts
    each [] = refl
    each (t ∷ ts) = λ i. record { conditions = same i; text = t; group = group i } ∷ each ts i
      where
        same : run.conditions ≡ conditions_of (state_of r).blocks
        same = conditions ∙ sym (conditions-items r.blocks.items)

-- the parts of a conjunction, each part of it with one for the operator before it
abbrev pub weights : List (Formula ℕ) → ℕ
weights es = sum_by (λ e. part_count e + 1) es

pub joined-parts : (e : Formula ℕ) (es : List (Formula ℕ)) → part_count (joined e es) ≡ part_count e + weights es
joined-parts e [] = omega arith
joined-parts e (f ∷ fs) =
    let rest = joined-parts (And e f) fs in
    let all = sum_by-cons (λ (d : Formula ℕ). part_count d + 1) f fs in
    omega (arith, rest, all)

pub parts-weights : (e : Formula ℕ) (es : List (Formula ℕ)) → parts_of (e ∷ es) + 1 ≡ weights (e ∷ es)
parts-weights e es =
    let rest = joined-parts e es in
    let all = sum_by-cons (λ (d : Formula ℕ). part_count d + 1) e es in
    omega (arith, rest, all)

-- with one condition more
pub with-weights : (es : List (Formula ℕ)) (parts : ℕ) → parts_with es parts + 1 ≡ weights es + (parts + 1)
with-weights [] parts = omega arith
with-weights (e ∷ es) parts = let all = parts-weights e es in omega (arith, all)

weights-items : (bs : List Block) → weights (map condition_in bs) ≡ sum_by weight bs
weights-items [] = refl
weights-items (b ∷ bs) =
    let rest = weights-items bs in
    let all = sum_by-cons weight b bs in
    let each = sum_by-cons (λ (d : Formula ℕ). part_count d + 1) b.condition (map condition_in bs) in
    omega (arith, rest, all, each)

-- the conditions of blocks for which there is room have no more parts than the limit
pub few_parts : (bs : List Block) → sum_by weight bs ≤ MOST_PARTS + 1 → part_count (conjunction (map condition_in bs)) ≤ MOST_PARTS
few_parts bs h = at (map condition_in bs) (weights-items bs)
  where
    at : (es : List (Formula ℕ)) → weights es ≡ sum_by weight bs → part_count (conjunction es) ≤ MOST_PARTS
    at [] k = omega arith
    at (e ∷ es) k = let all = parts-weights e es in omega (arith, h, k, all)

-- a condition more is too long where there is no room for its parts and one more
pub open_few : (r : Reader) (parts : ℕ) → HasRoom r → nat_lt MOST_PARTS (parts_with (conditions_of (state_of r).blocks) parts) ≡ nat_lt r.room (parts + 1)
open_few r parts room = ap (λ es. nat_lt MOST_PARTS (parts_with es parts)) (conditions-items r.blocks.items) ∙ same MOST_PARTS r.room (parts_with (map condition_in r.blocks.items) parts) (parts + 1) (sum_by weight r.blocks.items) room
    (with-weights (map condition_in r.blocks.items) parts ∙ ap (λ n. n + (parts + 1)) (weights-items r.blocks.items))
  where
    same : (most here n m w : ℕ) → here + w ≡ most + 1 → n + 1 ≡ w + m → nat_lt most n ≡ nat_lt here m
    same most here n m w a b = grind (arith, nat_tests, a, b)

-- what was read doesn't depend on the state where no texts are kept
pub done_without : (r new : Reader) → new.runs ≡ r.runs → new.texts ≡ [] → r.texts ≡ [] → done_of new ≡ done_of r
done_without r new runs none before =
    ap (λ rs. lines_in rs.runs ++ map (line_read (state_of new)) new.texts) runs ∙ ap (λ ts. lines_in r.runs.runs ++ map (line_read (state_of new)) ts) none
    ∙ sym (ap (λ ts. lines_in r.runs.runs ++ map (line_read (state_of r)) ts) before)

reverse_push : {X : Type 0} (xs : List X) (x : X) → reverse (xs ++ x ∷ []) ≡ x ∷ reverse xs
reverse_push xs x = reverse-append xs (x ∷ [])

-- a block more
pub pushed_blocks : (r new : Reader) (b : Block) → new.blocks.items ≡ r.blocks.items ++ b ∷ [] → (state_of new).blocks ≡ b ∷ (state_of r).blocks
pushed_blocks r new b blocks = ap reverse blocks ∙ reverse_push r.blocks.items b

pub pushed_room : (r new : Reader) (b : Block) → HasRoom r → new.blocks.items ≡ r.blocks.items ++ b ∷ [] → new.room + weight b ≡ r.room → HasRoom new
pushed_room r new b room blocks less =
    let all = ap (λ bs. sum_by weight bs) blocks ∙ sum_by-append weight r.blocks.items (b ∷ []) in
    let one = sum_by-cons weight b [] in
    omega (arith, room, less, all, one)

-- a block less
pub popped_blocks : (r new : Reader) (b : Block) → r.blocks.items ≡ new.blocks.items ++ b ∷ [] → (state_of r).blocks ≡ b ∷ (state_of new).blocks
popped_blocks r new b blocks = ap reverse blocks ∙ reverse_push new.blocks.items b

pub popped_room : (r new : Reader) (b : Block) → HasRoom r → r.blocks.items ≡ new.blocks.items ++ b ∷ [] → new.room ≡ r.room + weight b → HasRoom new
popped_room r new b room blocks more =
    let all = ap (λ bs. sum_by weight bs) blocks ∙ sum_by-append weight new.blocks.items (b ∷ []) in
    let one = sum_by-cons weight b [] in
    omega (arith, room, more, all, one)

pub none_open : (r : Reader) → r.blocks.items ≡ [] → (state_of r).blocks ≡ []
none_open r none = ap reverse none

-- another condition of the innermost block is too long where there is no room for its parts and one more
pub turned_few : (r : Reader) (e : Formula ℕ) → HasRoom r → nat_lt MOST_PARTS (parts_of (conditions_of (record { condition = e; has_else = true } ∷ (state_of r).blocks))) ≡ nat_lt r.room (part_count e + 1)
turned_few r e room =
    ap (λ es. nat_lt MOST_PARTS (parts_of es)) (reverse_onto (map condition_in (state_of r).blocks) e [] ∙ ap (λ es. es ++ e ∷ []) (conditions-items r.blocks.items))
    ∙ same MOST_PARTS r.room (parts_of (map condition_in r.blocks.items ++ e ∷ [])) (part_count e + 1) (sum_by weight r.blocks.items) room (at (map condition_in r.blocks.items) (weights-items r.blocks.items))
  where
    same : (most here n m w : ℕ) → here + w ≡ most + 1 → n + 1 ≡ w + m → nat_lt most n ≡ nat_lt here m
    same most here n m w a b = grind (arith, nat_tests, a, b)

    at : (es : List (Formula ℕ)) → weights es ≡ sum_by weight r.blocks.items → parts_of (es ++ e ∷ []) + 1 ≡ sum_by weight r.blocks.items + (part_count e + 1)
    at [] h = omega (arith, h)
    at (d ∷ ds) h =
        let all = parts-weights d (ds ++ e ∷ []) in
        let two = sum_by-append (λ (f : Formula ℕ). part_count f + 1) (d ∷ ds) (e ∷ []) in
        let one = sum_by-cons (λ (f : Formula ℕ). part_count f + 1) e [] in
        omega (arith, h, all, two, one)

-- numbers in place of names leave the parts as many
pub parts-numbered : (names : List (List ℕ)) (e : Formula (List ℕ)) → part_count (with_numbers names e) ≡ part_count e
parts-numbered names False = refl
parts-numbered names True = refl
parts-numbered names (On o) = refl
parts-numbered names (Not e) = ap (λ n. 1 + n) (parts-numbered names e)
parts-numbered names (And a b) = omega (arith, parts-numbered names a, parts-numbered names b)
parts-numbered names (Or a b) = omega (arith, parts-numbered names a, parts-numbered names b)

-- an expression has as many parts where its names are bound
pub parts_bound : (names : List (List ℕ)) (raw : Formula (List ℕ)) (e : Formula ℕ) → bound_expression names raw ≡ Ok e → part_count e ≡ part_count raw
parts_bound names raw e h = at (first_unknown names raw) h
  where
    at : (o : Option (List ℕ)) → known_or o (with_numbers names raw) ≡ Ok e → part_count e ≡ part_count raw
    at None k = let same : with_numbers names raw ≡ e = cc in ap part_count (sym same) ∙ parts-numbered names raw
    at (Some name) k = absurd (cc)
