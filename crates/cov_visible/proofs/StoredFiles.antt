-- Stored files by their nodes.
use Rattle.std.proofs.Common.{◌≡◌, ◌⊎◌, inl, inr, ℕ, zero, suc, ◌<◌, ◌≤◌, Bool, true, false, ◌||◌, nat_eq, List, [], ◌∷◌, ◌++◌, length, map, take, drop, get_or, set, slice_get, Some, Ok, Err, true≢false, refl, sym, ap, subst, ◌∙◌, arith}
use Rattle.std.specs.Prelude.{Result, OnOk}
use Rattle.std.specs.List.{AllByRecursion, AllZip}
use Rattle.std.proofs.lemmas.Bool.{or_parts}
use Rattle.std.proofs.lemmas.List.{length-map}
use Rattle.std.proofs.Math.Seq.{take-append_seam}
use Rattle.std.proofs.lemmas.Bool.Decides.{nat_tests}
use Rattle.cov_base.specs.Rows.{has_node}
use Rattle.cov_edit.specs.Touched.{AreRising}
use Rattle.cov_visible.specs.declared.file_part.FilePart.{FilePart}
use Rattle.cov_visible.specs.declared.resolved_edit.ResolvedEdit.{ResolvedEdit}
use Rattle.cov_visible.specs.declared.resolved_edit.ResolvedEdit.TheVariants as resolved
use Rattle.cov_visible.specs.Staging.{Contents, contents, new_contents}
use Rattle.cov_visible.specs.Carrying.{edited_node, IsCarriedOut, IsChangedIn, AreCarriedOut, CanCarryOutAll, AreAllCarriedOut}
use Rattle.cov_visible.specs.Parts.{part_node}

pub equal : (m n : ℕ) → nat_eq m n ≡ true → m ≡ n
equal m n e = grind (arith, nat_tests, e)

pub all-get : (P : ℕ → Type 0) (xs : List ℕ) (i y : ℕ) → slice_get xs i ≡ Some y → AllByRecursion P xs → P y
all-get P [] i y h all = absurd (cc)
all-get P (x ∷ xs) zero y h all = let same : x ≡ y = cc in subst P same all.0
all-get P (x ∷ xs) (suc i) y h all = all-get P xs i y h all.1

-- a number isn't among greater ones
pub above-absent : (x low : ℕ) (xs : List ℕ) → x ≤ low → AllByRecursion (λ y. low < y) xs → has_node x xs ≡ false
above-absent x low [] le h = refl
above-absent x low (y ∷ xs) le h =
    let above : low < y = h.0 in
    let differs : nat_eq y x ≡ false = grind (arith, nat_tests, le, above) in
    ap (λ b. b || has_node x xs) differs ∙ above-absent x low xs le h.1

module _ (file : ℕ) (P : FilePart → FilePart → Type 0) where
  same-one : (e : FilePart) → nat_eq e.node file ≡ false → IsChangedIn file P e e
  same-one e h = record { here = λ t. absurd (true≢false (sym t ∙ h)); elsewhere = λ t. refl }

  changed-one : (e new : FilePart) → nat_eq e.node file ≡ true → P e new → IsChangedIn file P e new
  changed-one e new h p = record { here = λ t. p; elsewhere = λ t. absurd (true≢false (sym h ∙ t)) }

  -- where the file has no stored file, none is changed
  pub none-changed : (es : List FilePart) → has_node file (map part_node es) ≡ false → AllZip (IsChangedIn file P) es es
  none-changed [] h = tt
  none-changed (e ∷ es) h = (same-one e (or_parts (nat_eq e.node file) (has_node file (map part_node es)) h).0, none-changed es (or_parts (nat_eq e.node file) (has_node file (map part_node es)) h).1)

  -- the file's stored file is changed
  pub one-changed : (es : List FilePart) (i : ℕ) (d new : FilePart) → AreRising (map part_node es) → slice_get (map part_node es) i ≡ Some file → P (get_or es i d) new
      → AllZip (IsChangedIn file P) es (set es i new)
  one-changed [] i d new rising h p = absurd (cc)
  one-changed (e ∷ es) zero d new rising h p =
      let same : e.node ≡ file = cc in
      (changed-one e new (grind (arith, nat_tests, same)) p, none-changed es (above-absent file e.node (map part_node es) (omega (arith, same)) rising.0))
  one-changed (e ∷ es) (suc i) d new rising h p =
      let above : e.node < file = all-get (λ y. e.node < y) (map part_node es) i file h rising.0 in
      (same-one e (grind (arith, nat_tests, above)), one-changed es i d new rising.1 h p)

-- where a change leaves a file as it was, files are paired with themselves
pub unchanged : (file : ℕ) (P : FilePart → FilePart → Type 0) → ((e : FilePart) → P e e) → (es : List FilePart) → AllZip (IsChangedIn file P) es es
unchanged file P same [] = tt
unchanged file P same (e ∷ es) = (record { here = λ t. same e; elsewhere = λ t. refl }, unchanged file P same es)

-- what holds of stored files holds of those that they are paired with
pub all-pairs : (Q : FilePart → FilePart → Type 0) (A B : FilePart → Type 0) → ((e f : FilePart) → Q e f → A e → B f)
    → (es fs : List FilePart) → AllZip Q es fs → AllByRecursion A es → AllByRecursion B fs
all-pairs Q A B f [] [] pairs all = tt
all-pairs Q A B f [] (y ∷ fs) pairs all = absurd pairs
all-pairs Q A B f (x ∷ es) [] pairs all = absurd pairs
all-pairs Q A B f (x ∷ es) (y ∷ fs) pairs all = (f x y pairs.0 all.0, all-pairs Q A B f es fs pairs.1 all.1)

pub get-all : (P : FilePart → Type 0) (es : List FilePart) (i : ℕ) (d : FilePart) → i < length es → AllByRecursion P es → P (get_or es i d)
get-all P [] i d h all = absurd (omega (arith, h))
get-all P (e ∷ es) zero d h all = all.0
get-all P (e ∷ es) (suc i) d h all = get-all P es i d (omega (arith, h)) all.1

-- what each stored file has if it is the file's, the file's has
pub get-here : (P : FilePart → Type 0) (file : ℕ) (es : List FilePart) (i : ℕ) (d : FilePart) → slice_get (map part_node es) i ≡ Some file
    → AllByRecursion (λ e. nat_eq e.node file ≡ true → P e) es → P (get_or es i d)
get-here P file [] i d h all = absurd (cc)
get-here P file (e ∷ es) zero d h all = let same : e.node ≡ file = cc in all.0 (grind (arith, nat_tests, same))
get-here P file (e ∷ es) (suc i) d h all = get-here P file es i d h all.1

pub place-below : (es : List FilePart) (i file : ℕ) → slice_get (map part_node es) i ≡ Some file → i < length es
place-below [] i file h = absurd (cc)
place-below (e ∷ es) zero file h = omega arith
place-below (e ∷ es) (suc i) file h = let rest = place-below es i file h in omega (arith, rest)

pub set-contents : (es : List FilePart) (i : ℕ) (d new : FilePart) → contents new ≡ contents (get_or es i d) → map contents (set es i new) ≡ map contents es
set-contents [] i d new e = refl
set-contents (x ∷ es) zero d new e = ap (λ s. s ∷ map contents es) e
set-contents (x ∷ es) (suc i) d new e = ap (λ l. contents x ∷ l) (set-contents es i d new e)

pub contents-nodes : (xs : List FilePart) → map (λ (s : Contents). s.node) (map contents xs) ≡ map part_node xs
contents-nodes [] = refl
contents-nodes (x ∷ xs) = ap (λ ns. x.node ∷ ns) (contents-nodes xs)

pub new-nodes : (files : List ℕ) → map (λ (s : Contents). s.node) (map new_contents files) ≡ files
new-nodes [] = refl
new-nodes (x ∷ xs) = ap (λ ns. x ∷ ns) (new-nodes xs)

-- stored files that are the same but for their room have the same nodes
pub same-nodes : (xs ys : List FilePart) → map contents ys ≡ map contents xs → map part_node ys ≡ map part_node xs
same-nodes xs ys e = sym (contents-nodes ys) ∙ ap (map (λ (s : Contents). s.node)) e ∙ contents-nodes xs

pub same-length : (xs ys : List FilePart) → map contents ys ≡ map contents xs → length ys ≡ length xs
same-length xs ys e = sym (length-map ys contents) ∙ ap length e ∙ length-map xs contents

-- a slice of a whole vector, written back into it
pub written-back : (old new : List FilePart) (n : ℕ) → length new ≡ n → take n (new ++ drop (length new) old) ≡ new
written-back old new n same = ap (λ k. take k (new ++ drop (length new) old)) (sym same) ∙ take-append_seam new (drop (length new) old)

pub same-rising : (xs ys : List FilePart) → map contents ys ≡ map contents xs → AreRising (map part_node xs) → AreRising (map part_node ys)
same-rising xs ys e = subst AreRising (sym (same-nodes xs ys e))

pub node-contents : (e f : FilePart) → contents e ≡ contents f → e.node ≡ f.node
node-contents e f h = ap (λ (s : Contents). s.node) h

-- an edit changes no numbers
pub carried-node : (at : ℕ) (s : ResolvedEdit) (old new : FilePart) → IsChangedIn (edited_node s) (IsCarriedOut at s) old new → new.node ≡ old.node
carried-node at s old new h = by (nat_eq old.node (edited_node s)) refl
  where
    row : (s : ResolvedEdit) → IsCarriedOut at s old new → new.node ≡ old.node
    row (resolved.New node kind parent name on) p = ap (λ (x : FilePart). x.node) p
    row (resolved.Insert file anchor line text vis) p = ap (λ (r : Contents). r.node) p.row
    row (resolved.Delete file line vis) p = ap (λ (r : Contents). r.node) p.row
    row (resolved.Rename node name on) p = ap (λ (x : FilePart). x.node) p
    row (resolved.Move node parent on) p = ap (λ (x : FilePart). x.node) p
    row (resolved.Remove node on) p = ap (λ (x : FilePart). x.node) p

    by : (b : Bool) → nat_eq old.node (edited_node s) ≡ b → new.node ≡ old.node
    by true e = row s (h.here e)
    by false e = ap (λ (x : FilePart). x.node) (h.elsewhere e)

carried-nodes : (at : ℕ) (s : ResolvedEdit) (old new : List FilePart) → AreCarriedOut at s old new → map part_node new ≡ map part_node old
carried-nodes at s [] [] pairs = refl
carried-nodes at s [] (y ∷ new) pairs = absurd pairs
carried-nodes at s (x ∷ old) [] pairs = absurd pairs
carried-nodes at s (x ∷ old) (y ∷ new) pairs = ap (λ k. k ∷ map part_node new) (carried-node at s x y pairs.0) ∙ ap (λ ns. x.node ∷ ns) (carried-nodes at s old new pairs.1)

pub carried-rising : (at : ℕ) (s : ResolvedEdit) (old new : List FilePart) → AreCarriedOut at s old new → AreRising (map part_node old) → AreRising (map part_node new)
carried-rising at s old new pairs = subst AreRising (sym (carried-nodes at s old new pairs))

pub all-carried-rising : (at : ℕ) (ss : List ResolvedEdit) (old new : List FilePart) → AreAllCarriedOut at ss old new → AreRising (map part_node old) → AreRising (map part_node new)
all-carried-rising at [] old new carried rising = subst (λ xs. AreRising (map part_node xs)) (sym carried) rising
all-carried-rising at (s ∷ ss) old new carried rising = all-carried-rising at ss carried.0 new carried.2 (carried-rising at s old carried.0 carried.1 rising)

module _ (at : ℕ) (s : ResolvedEdit) (ss rest : List ResolvedEdit) (old new : List FilePart) where
  -- the edits after the first can be carried out after it
  pub can-rest : ss ≡ s ∷ rest → AreCarriedOut at s old new → CanCarryOutAll at ss old → CanCarryOutAll at rest new
  can-rest is carried can = (subst (λ l. CanCarryOutAll at l old) is can).1 new carried

  pub carried-rest : ss ≡ s ∷ rest → AreCarriedOut at s old new → (after : List FilePart) → AreAllCarriedOut at rest new after → AreAllCarriedOut at ss old after
  carried-rest is carried after h = subst (λ l. AreAllCarriedOut at l old after) (sym is) (new, carried, h)

-- what two facts of an answer give together
pub on_both : {A E : Type 0} (r : Result A E) (P Q R : Type 0) → (P → Q → R) → OnOk r P → OnOk r Q → OnOk r R
on_both (Ok x) P Q R f p q = f p q
on_both (Err e) P Q R f p q = tt

-- what follows from each of four
pub of-four : {A B C D R : Type 0} → (A → R) → (B → R) → (C → R) → (D → R) → A ⊎ (B ⊎ (C ⊎ D)) → R
of-four f g h k (inl a) = f a
of-four f g h k (inr (inl b)) = g b
of-four f g h k (inr (inr (inl c))) = h c
of-four f g h k (inr (inr (inr d))) = k d
