-- Lines by their places: what a new line and its place leave of the others.
use Rattle.std.proofs.Common.{◌≡◌, ℕ, suc, ◌+◌, ◌<◌, ◌≤◌, Bool, true, false, cond, List, [], ◌∷◌, ◌++◌, append_assoc, length-append, get_or, length, map, refl, sym, ap, subst, ◌∙◌, arith}
use Rattle.std.specs.List.{AllByRecursion}
use Rattle.std.proofs.Math.Seq.{get_or-append_seam}
use Rattle.std.proofs.lemmas.List.{get_or-map, get_or_append_left, length-map, map-append}
use Rattle.cov_base.proofs.CallerLemmas.{all-append, all-map}
use Rattle.cov_base.specs.Addresses.{after_first}
use Rattle.cov_base.specs.declared.file_row.FileRow.{FileRow}
use Rattle.cov_base.specs.declared.number.LineRef.{LineRef}
use Rattle.cov_view.specs.AtPlaces.{joined, line_at, at_places, after_place, AreWithin}
use Rattle.cov_view.specs.Lines.{after_ref, old_line}
use Rattle.cov_view.specs.References.{is_head, same_line}
use Rattle.cov_view.specs.declared.line.ViewLine.{ViewLine}
use Rattle.cov_view.proofs.Left.{left_from, left_next}

length-joined : (rows : List FileRow) (own : List ViewLine) → length (joined rows own) ≡ length rows + length own
length-joined rows own = length-append (map old_line rows) own ∙ ap (λ n. n + length own) (length-map rows old_line)

-- lines behind the others leave those at places as they are
same_lines : (ls more : List ViewLine) (ps : List ℕ) → AreWithin ls ps → at_places (ls ++ more) ps ≡ at_places ls ps
same_lines ls more [] h = refl
same_lines ls more (p ∷ ps) h = ap (λ l. l ∷ at_places (ls ++ more) ps) (get_or_append_left ls more _ p h.0) ∙ ap (λ r. line_at ls p ∷ r) (same_lines ls more ps h.1)

still_within : (ls : List ViewLine) (line : ViewLine) (ps : List ℕ) → AreWithin ls ps → AreWithin (ls ++ line ∷ []) ps
still_within ls line ps h = all-map (λ p. p < length ls) (λ p. p < length (ls ++ line ∷ [])) (λ p k. omega (arith, k, length-append ls (line ∷ []))) ps h

module _ {X Y : Type 0} (f : X → Y) (t : Y → Bool) (new : X) where
  map-after_first : (xs : List X) → map f (after_first (λ x. t (f x)) new xs) ≡ after_first t (f new) (map f xs)
  map-after_first [] = refl
  map-after_first (x ∷ xs) = at (t (f x)) (map-after_first xs)
    where
      at : (b : Bool) → map f (after_first (λ y. t (f y)) new xs) ≡ after_first t (f new) (map f xs)
          → map f (cond b (x ∷ new ∷ xs) (x ∷ after_first (λ y. t (f y)) new xs)) ≡ cond b (f x ∷ f new ∷ map f xs) (f x ∷ after_first t (f new) (map f xs))
      at true rest = refl
      at false rest = ap (λ l. f x ∷ l) rest

all-after_first : {X : Type 0} (P : X → Type 0) (t : X → Bool) (new : X) (xs : List X) → P new → AllByRecursion P xs → AllByRecursion P (after_first t new xs)
all-after_first P t new [] p h = (p, tt)
all-after_first P t new (x ∷ xs) p h = at (t x) (all-after_first P t new xs p h.1)
  where
    at : (b : Bool) → AllByRecursion P (after_first t new xs) → AllByRecursion P (cond b (x ∷ new ∷ xs) (x ∷ after_first t new xs))
    at true rest = (h.0, (p, h.1))
    at false rest = (h.0, rest)

-- the line at a place that was put after an anchor's is put after the anchor
at_after : (ls : List ViewLine) (after : LineRef) (new : ℕ) (ps : List ℕ) → at_places ls (after_place ls after new ps) ≡ after_ref after (line_at ls new) (at_places ls ps)
at_after ls after new ps = at (is_head after)
  where
    at : (b : Bool) → at_places ls (cond b (new ∷ ps) (after_first (λ p. same_line (line_at ls p).line after) new ps))
        ≡ cond b (line_at ls new ∷ at_places ls ps) (after_first (λ l. same_line l.line after) (line_at ls new) (at_places ls ps))
    at true = refl
    at false = map-after_first (line_at ls) (λ (l : ViewLine). same_line l.line after) new ps

all_after : (P : ℕ → Type 0) (ls : List ViewLine) (after : LineRef) (new : ℕ) (ps : List ℕ) → P new → AllByRecursion P ps → AllByRecursion P (after_place ls after new ps)
all_after P ls after new ps p h = at (is_head after)
  where
    at : (b : Bool) → AllByRecursion P (cond b (new ∷ ps) (after_first (λ q. same_line (line_at ls q).line after) new ps))
    at true = (p, h)
    at false = all-after_first P (λ q. same_line (line_at ls q).line after) new ps p h

module _ (rows : List FileRow) (own : List ViewLine) (line : ViewLine) (ps : List ℕ) (within : AreWithin (joined rows own) ps) where
  with_line : joined rows (own ++ line ∷ []) ≡ joined rows own ++ line ∷ []
  with_line = sym (append_assoc (map old_line rows) own (line ∷ []))

  -- an own line more shows nothing by itself
  pub nothing_shown : at_places (joined rows (own ++ line ∷ [])) ps ≡ at_places (joined rows own) ps
  nothing_shown = ap (λ ls. at_places ls ps) with_line ∙ same_lines (joined rows own) (line ∷ []) ps within

  pub all_within : AreWithin (joined rows (own ++ line ∷ [])) ps
  all_within = subst (λ ls. AreWithin ls ps) (sym with_line) (still_within (joined rows own) line ps within)

  new_line : (new : ℕ) → new ≡ length rows + length own → line_at (joined rows (own ++ line ∷ [])) new ≡ line
  new_line new is =
      ap (λ ls. line_at ls new) with_line ∙ ap (line_at (joined rows own ++ line ∷ [])) (is ∙ sym (length-joined rows own))
      ∙ get_or-append_seam (joined rows own) line [] _

  same_order : (new : ℕ) (after : LineRef) → after_place (joined rows (own ++ line ∷ [])) after new ps ≡ after_place (joined rows own) after new ps
  same_order new after = ap (λ ls. after_place ls after new ps) with_line ∙ at (is_head after)
    where
      tests : (qs : List ℕ) → AreWithin (joined rows own) qs
          → after_first (λ p. same_line (line_at (joined rows own ++ line ∷ []) p).line after) new qs ≡ after_first (λ p. same_line (line_at (joined rows own) p).line after) new qs
      tests [] h = refl
      tests (q ∷ qs) h =
          ap (λ (l : ViewLine). cond (same_line l.line after) (q ∷ new ∷ qs) (q ∷ after_first (λ p. same_line (line_at (joined rows own ++ line ∷ []) p).line after) new qs))
          (get_or_append_left (joined rows own) (line ∷ []) _ q h.0)
          ∙ ap (λ r. cond (same_line (line_at (joined rows own) q).line after) (q ∷ new ∷ qs) (q ∷ r)) (tests qs h.1)

      at : (b : Bool) → cond b (new ∷ ps) (after_first (λ p. same_line (line_at (joined rows own ++ line ∷ []) p).line after) new ps)
          ≡ cond b (new ∷ ps) (after_first (λ p. same_line (line_at (joined rows own) p).line after) new ps)
      at true = refl
      at false = tests ps within

  -- an own line is shown after the anchor where its place is put after that of the anchor
  pub shown_after : (new : ℕ) (after : LineRef) → new ≡ length rows + length own
      → at_places (joined rows (own ++ line ∷ [])) (after_place (joined rows own) after new ps) ≡ after_ref after line (at_places (joined rows own) ps)
  shown_after new after is =
      ap (at_places (joined rows (own ++ line ∷ []))) (sym (same_order new after))
      ∙ at_after (joined rows (own ++ line ∷ [])) after new ps
      ∙ ap (λ l. after_ref after l (at_places (joined rows (own ++ line ∷ [])) ps)) (new_line new is)
      ∙ ap (after_ref after line) nothing_shown

  pub within_after : (new : ℕ) (after : LineRef) → new ≡ length rows + length own → AreWithin (joined rows (own ++ line ∷ [])) (after_place (joined rows own) after new ps)
  within_after new after is =
      all_after (λ p. p < length (joined rows (own ++ line ∷ []))) (joined rows own) after new ps
      (omega (arith, is, length-joined rows (own ++ line ∷ []), length-append own (line ∷ []))) all_within

module _ (rows : List FileRow) (gone : List Bool) (ps more : List ℕ) (i : ℕ) (flag : Bool) (d : FileRow) where
  -- a place more, where its line is left, is a line more
  pub one_more : i < length rows → flag ≡ get_or gone i false → more ≡ ps ++ cond flag [] (i ∷ [])
      → at_places (joined rows []) more ++ left_from (i + 1) rows gone ≡ at_places (joined rows []) ps ++ left_from i rows gone
  one_more h asked added =
      let next : i + 1 ≡ suc i = omega arith in
      ap (λ qs. at_places (joined rows []) qs ++ left_from (i + 1) rows gone) added
      ∙ ap (λ ls. ls ++ left_from (i + 1) rows gone) (map-append (line_at (joined rows [])) ps (cond flag [] (i ∷ [])))
      ∙ append_assoc (at_places (joined rows []) ps) (at_places (joined rows []) (cond flag [] (i ∷ []))) (left_from (i + 1) rows gone)
      ∙ ap (λ n. at_places (joined rows []) ps ++ (at_places (joined rows []) (cond flag [] (i ∷ [])) ++ left_from n rows gone)) next
      ∙ ap (λ ls. at_places (joined rows []) ps ++ (ls ++ left_from (suc i) rows gone)) (one flag)
      ∙ ap (λ b. at_places (joined rows []) ps ++ (cond b [] (old_line (get_or rows i d) ∷ []) ++ left_from (suc i) rows gone)) asked
      ∙ ap (λ ls. at_places (joined rows []) ps ++ ls) (sym (left_next rows gone i d h))
    where
      there : line_at (joined rows []) i ≡ old_line (get_or rows i d)
      there =
          let less : i < length (map old_line rows) = omega (arith, h, length-map rows old_line) in
          get_or_append_left (map old_line rows) [] _ i less ∙ get_or-map old_line rows i d _ h

      one : (b : Bool) → at_places (joined rows []) (cond b [] (i ∷ [])) ≡ cond b [] (old_line (get_or rows i d) ∷ [])
      one true = refl
      one false = ap (λ l. l ∷ []) there

  pub one_within : i < length rows → more ≡ ps ++ cond flag [] (i ∷ []) → AreWithin (joined rows []) ps → AreWithin (joined rows []) more
  one_within h added within =
      let less : i < length (joined rows []) = omega (arith, h, length-joined rows []) in
      subst (AreWithin (joined rows [])) (sym added) (all-append (λ p. p < length (joined rows [])) ps (cond flag [] (i ∷ [])) within (one less flag))
    where
      one : i < length (joined rows []) → (b : Bool) → AreWithin (joined rows []) (cond b [] (i ∷ []))
      one k true = tt
      one k false = (k, tt)

  pub one_few : more ≡ ps ++ cond flag [] (i ∷ []) → length ps ≤ i → length more ≤ i + 1
  one_few added few = omega (arith, ap length added, length-append ps (cond flag [] (i ∷ [])), one flag, few)
    where
      one : (b : Bool) → length (cond b [] (i ∷ [])) ≤ 1
      one true = omega arith
      one false = omega arith
