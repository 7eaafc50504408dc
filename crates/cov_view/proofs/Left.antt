-- What is left of shared lines, from a place on.
use Rattle.std.proofs.Common.{◌≡◌, ℕ, zero, suc, ◌<◌, ◌≤◌, ◌-◌, ◌++◌, append_assoc, length-append, Bool, true, false, cond, List, [], ◌∷◌, drop, get_or, length, map, replicate, refl, sym, ap, ◌∙◌, arith}
use Rattle.std.proofs.Math.Seq.{drop-nil}
use Rattle.cov_base.specs.declared.file_row.FileRow.{FileRow}
use Rattle.cov_view.specs.Held.{left}
use Rattle.cov_view.specs.Lines.{old_line}
use Rattle.cov_view.specs.declared.line.ViewLine.{ViewLine}

-- the lines left from a place on
abbrev pub left_from : ℕ → List FileRow → List Bool → List ViewLine
left_from i rs gs = left (drop i rs) (drop i gs)

-- the line at a place, if it is left, and then those left behind it
pub left_next : (rs : List FileRow) (gs : List Bool) (i : ℕ) (d : FileRow) → i < length rs
    → left_from i rs gs ≡ cond (get_or gs i false) [] (old_line (get_or rs i d) ∷ []) ++ left_from (suc i) rs gs
left_next [] gs i d h = absurd (omega (arith, h))
left_next (r ∷ rs) [] zero d h = refl
left_next (r ∷ rs) (g ∷ gs) zero d h = by g
  where
    by : (g : Bool) → left (r ∷ rs) (g ∷ gs) ≡ cond g [] (old_line r ∷ []) ++ left rs gs
    by true = refl
    by false = refl
left_next (r ∷ rs) [] (suc i) d h =
    ap (left (drop i rs)) (sym (drop-nil i)) ∙ left_next rs [] i d (omega (arith, h))
    ∙ ap (λ gs. cond (get_or [] i false) [] (old_line (get_or rs i d) ∷ []) ++ left (drop (suc i) rs) gs) (drop-nil (suc i))
left_next (r ∷ rs) (g ∷ gs) (suc i) d h = left_next rs gs i d (omega (arith, h))

-- from the end on there are none
pub left_end : (rs : List FileRow) (gs : List Bool) (i : ℕ) → length rs ≤ i → left_from i rs gs ≡ []
left_end [] gs i h = ap (λ rs. left rs (drop i gs)) (drop-nil i)
left_end (r ∷ rs) gs zero h = absurd (omega (arith, h))
left_end (r ∷ rs) [] (suc i) h = ap (left (drop i rs)) (sym (drop-nil i)) ∙ left_end rs [] i (omega (arith, h))
left_end (r ∷ rs) (g ∷ gs) (suc i) h = left_end rs gs i (omega (arith, h))

-- with no flag all lines are left, and so they are with none that is set
pub all_left : (rs : List FileRow) → left rs [] ≡ map old_line rs
all_left [] = refl
all_left (r ∷ rs) = ap (λ ls. old_line r ∷ ls) (all_left rs)

none_set : (rs : List FileRow) (n : ℕ) → left rs (replicate n false) ≡ left rs []
none_set [] n = refl
none_set (r ∷ rs) zero = refl
none_set (r ∷ rs) (suc n) = ap (λ ls. old_line r ∷ ls) (none_set rs n)

-- flags that aren't set take nothing out
pub left_filled : (rs : List FileRow) (gs : List Bool) (n : ℕ) → left rs (gs ++ replicate n false) ≡ left rs gs
left_filled [] gs n = refl
left_filled (r ∷ rs) [] n = none_set (r ∷ rs) n
left_filled (r ∷ rs) (g ∷ gs) n = ap (λ ls. cond g ls (old_line r ∷ ls)) (left_filled rs gs n)

-- of the flags that aren't set yet, one is given
pub one_flag : (gs : List Bool) (n : ℕ) (more : List Bool) → more ≡ gs ++ false ∷ [] → length gs < n → more ++ replicate (n - length more) false ≡ gs ++ replicate (n - length gs) false
one_flag gs n more is h =
    let next : suc (n - length more) ≡ n - length gs = omega (arith, h, ap length is ∙ length-append gs (false ∷ [])) in
    ap (λ ms. ms ++ replicate (n - length more) false) is
    ∙ append_assoc gs (false ∷ []) (replicate (n - length more) false)
    ∙ ap (λ k. gs ++ replicate k false) next
