-- Lines that are taken out of shared ones, one flag after another.
use Rattle.std.proofs.Common.{◌≡◌, ℕ, zero, suc, ◌+◌, ◌<◌, Bool, true, false, true≢false, cond, not, List, [], ◌∷◌, length, get_or, set, refl, sym, ap, subst, ◌∙◌, arith}
use Rattle.std.proofs.lemmas.List.{length-set}
use Rattle.cov_base.specs.declared.file_row.FileRow.{FileRow}
use Rattle.cov_base.specs.declared.number.LineRef.{LineRef}
use Rattle.cov_base.specs.declared.number.LineRef.TheVariants as lines
use Rattle.cov_view.specs.Held.{left}
use Rattle.cov_view.specs.Lines.{without_ref}
use Rattle.cov_view.specs.References.{same_line}
use Rattle.cov_view.specs.Lines.{old_line}

module _ (line : LineRef) where
  abbrev is : FileRow → Bool
  is r = same_line (lines.Old r.line) line

  -- of the first so many lines, each that is the one has its flag set
  abbrev pub Marked : ℕ → List FileRow → List Bool → Type 0
  Marked zero rs gs = Unit {0}
  Marked (suc i) [] gs = Unit {0}
  Marked (suc i) (r ∷ rs) [] = Unit {0}
  Marked (suc i) (r ∷ rs) (g ∷ gs) = (is r ≡ true → g ≡ true) × Marked i rs gs

  pub marked_next : (rs : List FileRow) (gs : List Bool) (i : ℕ) (d : FileRow) → Marked i rs gs → Marked (suc i) rs (cond (is (get_or rs i d)) (set gs i true) gs)
  marked_next [] gs i d h = tt
  marked_next (r ∷ rs) [] zero d h = by (is r)
    where
      by : (b : Bool) → Marked 1 (r ∷ rs) (cond b (set [] 0 true) [])
      by true = tt
      by false = tt
  marked_next (r ∷ rs) [] (suc i) d h = by (is (get_or rs i d))
    where
      by : (b : Bool) → Marked (suc (suc i)) (r ∷ rs) (cond b (set [] (suc i) true) [])
      by true = tt
      by false = tt
  marked_next (r ∷ rs) (g ∷ gs) zero d h = by (is r) refl
    where
      by : (b : Bool) → is r ≡ b → Marked 1 (r ∷ rs) (cond b (true ∷ gs) (g ∷ gs))
      by true e = (λ k. refl, tt)
      by false e = (λ k. absurd (true≢false (sym k ∙ e)), tt)
  marked_next (r ∷ rs) (g ∷ gs) (suc i) d h = by (is (get_or rs i d)) (marked_next rs gs i d h.1)
    where
      by : (b : Bool) → Marked (suc i) rs (cond b (set gs i true) gs) → Marked (suc (suc i)) (r ∷ rs) (cond b (g ∷ set gs i true) (g ∷ gs))
      by true rest = (h.0, rest)
      by false rest = (h.0, rest)

  -- a flag that is set for the line changes nothing of the others
  pub others_stay : (rs : List FileRow) (gs : List Bool) (i : ℕ) (d : FileRow) → i < length rs → without_ref line (left rs (cond (is (get_or rs i d)) (set gs i true) gs)) ≡ without_ref line (left rs gs)
  others_stay [] gs i d h = absurd (omega (arith, h))
  others_stay (r ∷ rs) [] i d h = by (is (get_or (r ∷ rs) i d))
    where
      by : (b : Bool) → without_ref line (left (r ∷ rs) (cond b (set [] i true) [])) ≡ without_ref line (left (r ∷ rs) [])
      by true = refl
      by false = refl
  others_stay (r ∷ rs) (g ∷ gs) zero d h = by (is r) refl g
    where
      by : (b : Bool) → is r ≡ b → (g : Bool) → without_ref line (left (r ∷ rs) (cond b (true ∷ gs) (g ∷ gs))) ≡ without_ref line (left (r ∷ rs) (g ∷ gs))
      by true e true = refl
      by true e false = sym (ap (λ k. cond (not k) (old_line r ∷ without_ref line (left rs gs)) (without_ref line (left rs gs))) e)
      by false e g = refl
  others_stay (r ∷ rs) (g ∷ gs) (suc i) d h = by (is (get_or rs i d)) g (others_stay rs gs i d (omega (arith, h)))
    where
      by : (b g : Bool) → without_ref line (left rs (cond b (set gs i true) gs)) ≡ without_ref line (left rs gs)
          → without_ref line (left (r ∷ rs) (cond b (g ∷ set gs i true) (g ∷ gs))) ≡ without_ref line (left (r ∷ rs) (g ∷ gs))
      by true true rest = rest
      by true false rest = ap (λ ls. cond (not (is r)) (old_line r ∷ ls) ls) rest
      by false true rest = refl
      by false false rest = refl

  -- once all are marked, the line isn't left
  pub none_left : (rs : List FileRow) (gs : List Bool) → length gs ≡ length rs → Marked (length rs) rs gs → left rs gs ≡ without_ref line (left rs gs)
  none_left [] gs same h = refl
  none_left (r ∷ rs) [] same h = absurd (omega (arith, same))
  none_left (r ∷ rs) (g ∷ gs) same h = by g (is r) refl h.0 (none_left rs gs (omega (arith, same)) h.1)
    where
      by : (g b : Bool) → is r ≡ b → (is r ≡ true → g ≡ true) → left rs gs ≡ without_ref line (left rs gs) → left (r ∷ rs) (g ∷ gs) ≡ without_ref line (left (r ∷ rs) (g ∷ gs))
      by true b e k rest = rest
      by false true e k rest = absurd (true≢false (sym (k e)))
      by false false e k rest = ap (λ ls. old_line r ∷ ls) rest ∙ sym (ap (λ b. cond (not b) (old_line r ∷ without_ref line (left rs gs)) (without_ref line (left rs gs))) e)

-- what holds once the first so many flags are set as the line asks
pub record AreMarked (line : LineRef) (rs : List FileRow) (before gs : List Bool) (i : ℕ) : Type 0 where
  pub same : length gs ≡ length rs
  pub others : without_ref line (left rs gs) ≡ without_ref line (left rs before)
  pub marked : Marked line i rs gs

set_length : (b : Bool) (gs : List Bool) (i : ℕ) → length (cond b (set gs i true) gs) ≡ length gs
set_length true gs i = length-set gs i true
set_length false gs i = refl

pub one_more : (line : LineRef) (rs : List FileRow) (before gs gs' : List Bool) (i : ℕ) (d r : FileRow) (b : Bool) → i < length rs → r ≡ get_or rs i d → b ≡ same_line (lines.Old r.line) line → gs' ≡ cond b (set gs i true) gs
    → AreMarked line rs before gs i → AreMarked line rs before gs' (i + 1)
one_more line rs before gs gs' i d r b within row asked is_set h =
    let flags : gs' ≡ cond (same_line (lines.Old (get_or rs i d).line) line) (set gs i true) gs =
    is_set ∙ ap (λ x. cond x (set gs i true) gs) (asked ∙ ap (λ (q : FileRow). same_line (lines.Old q.line) line) row) in
    let next : suc i ≡ i + 1 = omega arith in
    record {
      same = ap length is_set ∙ set_length b gs i ∙ h.same;
      others = ap (λ fs. without_ref line (left rs fs)) flags ∙ others_stay line rs gs i d within ∙ h.others;
      marked = subst (λ n. Marked line n rs gs') next (subst (Marked line (suc i) rs) (sym flags) (marked_next line rs gs i d h.marked));
    }
