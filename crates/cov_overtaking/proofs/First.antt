-- The first of several commits that overtakes.
use Rattle.std.proofs.Common.{◌≡◌, ℕ, ◌<◌, ◌≤◌, Bool, true, false, ◌&&◌, List, ◌∷◌, length, get_or, Option, Some, inl, inr, refl, sym, subst, ◌∙◌, arith}
use Rattle.cov_dd.specs.declared.triple.Triple.{Triple}
use Rattle.cov_dd.specs.Diagrams.{diagram_size, Extends}
use Rattle.cov_base.proofs.CallerLemmas.{all-map, rest_of, opened}
use Rattle.cov_overtaking.specs.Marks.{AreKept, IsKeptMark}
use Rattle.cov_overtaking.specs.Overtakers.{touches_of, Overtakes, Decides, IsFirstOf}
use Rattle.cov_overtaking.specs.Touches.{RiseByNode, AreOfTable, DoNotMeet, Denies}
use Rattle.cov_overtaking.specs.declared.mark.CommitMark.{CommitMark}
use Rattle.cov_overtaking.specs.declared.touches.Touch.{Touch}
use Rattle.cov_overtaking.proofs.Crossing.{have-same}
use Rattle.cov_overtaking.proofs.Walking.{within-rises, within-known}

-- what a mark that is kept touches rises, and its diagrams are of the table
pub mark-rises : (ts : List Triple) (m : CommitMark) → IsKeptMark ts m → RiseByNode (touches_of m)
mark-rises ts m kept = within-rises m.touched m.node m.each kept.rising

pub mark-known : (ts : List Triple) (m : CommitMark) → IsKeptMark ts m → AreOfTable ts (touches_of m)
mark-known ts m kept = within-known ts m.touched m.node m.each kept.of_table.0 kept.of_table.1

-- marks stay kept in a table with more entries
pub mark-later : (ts us : List Triple) → Extends ts us → (m : CommitMark) → IsKeptMark ts m → IsKeptMark us m
mark-later ts us more m kept = record {
  rising = kept.rising;
  of_table =
      let up : (n : ℕ) → n < diagram_size ts → n < diagram_size us = λ n low. let grown = more.count in omega (arith, low, grown) in
      (up m.node kept.of_table.0, all-map (λ n. n < diagram_size ts) (λ n. n < diagram_size us) up m.each kept.of_table.1);
  long = kept.long;
}

pub kept-later : (ts us : List Triple) (ms : List CommitMark) → Extends ts us → AreKept ts ms → AreKept us ms
kept-later ts us ms more kept = all-map (IsKeptMark ts) (IsKeptMark us) (mark-later ts us more) ms kept

-- whether touches meet is decided alike by a longer table
module _ (ts us : List Triple) (more : Extends ts us) (own : List Touch) (known : AreOfTable ts own) where
  apart-new : (ys : List Touch) → AreOfTable ts ys → DoNotMeet ts ys own → DoNotMeet us ys own
  apart-new ys in_table apart node c long = (λ i. have-same ts us more ys in_table node c i && have-same ts us more own known node c i) ∙ apart node c long

  apart-old : (ys : List Touch) → AreOfTable ts ys → DoNotMeet us ys own → DoNotMeet ts ys own
  apart-old ys in_table apart node c long = (λ i. sym (have-same ts us more ys in_table node c) i && sym (have-same ts us more own known node c) i) ∙ apart node c long

  overtakes-old : (base : ℕ) (m : CommitMark) → AreOfTable ts (touches_of m) → Overtakes us base own m → Overtakes ts base own m
  overtakes-old base m in_table h = record { after = h.after; meets = λ apart. h.meets (apart-new (touches_of m) in_table apart) }

  overtakes-new : (base : ℕ) (m : CommitMark) → AreOfTable ts (touches_of m) → Overtakes ts base own m → Overtakes us base own m
  overtakes-new base m in_table h = record { after = h.after; meets = λ apart. h.meets (apart-old (touches_of m) in_table apart) }

  module _ (base : ℕ) (m d : CommitMark) (ahead : List CommitMark) (is : m ≡ get_or ahead 0 d) (some : 1 ≤ length ahead) (kept : AreKept ts ahead) where
    parts : ahead ≡ m ∷ rest_of ahead
    parts = opened m d ahead is some

    all-kept : AreKept ts (m ∷ rest_of ahead)
    all-kept = subst (AreKept ts) parts kept

    pub here-kept : IsKeptMark us m
    here-kept = mark-later ts us more m all-kept.0

    pub rest-kept : AreKept ts (rest_of ahead)
    rest-kept = all-kept.1

    -- the first of more commits is that of the rest where this one doesn't overtake
    pub first-later : (b : Bool) (found : Option ℕ) → Decides b (Overtakes us base own m) → b ≡ false → IsFirstOf ts base own (rest_of ahead) found → IsFirstOf ts base own ahead found
    first-later b found decides off rest =
        subst (λ ms. IsFirstOf ts base own ms found) (sym parts) (inr ((λ h. decides.no off (overtakes-new base m (mark-known ts m all-kept.0) h)), rest))

    -- and this one's where it does
    pub first-here : (b : Bool) → Decides b (Overtakes us base own m) → b ≡ true → IsFirstOf ts base own ahead (Some m.position)
    first-here b decides on = subst (λ ms. IsFirstOf ts base own ms (Some m.position)) (sym parts) (inl (overtakes-old base m (mark-known ts m all-kept.0) (decides.yes on), refl))

-- one commit is decided by its position and by whether its touches meet others
pub met-decides : (ts : List Triple) (base : ℕ) (own mine : List Touch) (m : CommitMark) (met : Bool) → base < m.position → mine ≡ touches_of m → Denies met (DoNotMeet ts mine own) → Decides met (Overtakes ts base own m)
met-decides ts base own mine m met after is h = record {
  yes = λ on. record { after = after; meets = λ apart. h.yes on (subst (λ ys. DoNotMeet ts ys own) (sym is) apart) };
  no = λ off over. over.meets (subst (λ ys. DoNotMeet ts ys own) is (h.no off));
}

pub early-decides : (ts : List Triple) (base : ℕ) (own : List Touch) (m : CommitMark) → m.position ≤ base → Decides false (Overtakes ts base own m)
early-decides ts base own m early = record {
  yes = λ on. absurd (cc);
  no = λ off over. let after = over.after in omega (arith, after, early);
}
