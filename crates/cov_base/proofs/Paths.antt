-- The parts of a path.
use Rattle.std.proofs.Common.{◌≡◌, ℕ, ◌+◌, ◌==◌, Bool, true, false, true≢false, cond, nat_eq, List, [], ◌∷◌, length, take, drop, Some, None, Result, Ok, Err, IfOk, position, refl, sym, ap, subst, ◌∙◌, arith}
use Rattle.std.specs.List.{list_all, onto_first, join_with_byte}
use Rattle.std.specs.Str.{is_utf8, IsUtf8}
use Rattle.std.proofs.lemmas.Str.{IsUtf8-from_is_utf8}
use Rattle.std.proofs.lemmas.List.Quantifiers.{position-Some}
use Rattle.std.proofs.lemmas.List.Splits.{slice_split_first, join_with_byte-slice_split}
use Rattle.cov_base.specs.Spelling.{is_name, parts_of, path_of, path_from, if_names}
use Rattle.cov_base.proofs.Lists.{place-found, split-absent}

-- what stands before the first slash is the first part
pub found_first : (xs : List ℕ) (at : ℕ) → position (λ b. nat_eq b 47) xs ≡ Some at → parts_of xs ≡ take at xs ∷ parts_of (drop (at + 1) xs)
found_first xs at h =
    let same = place-found (λ b. nat_eq b 47) xs at h in
    let within = (position-Some (λ b. nat_eq b 47) xs at 0 h).0 in
    subst (λ n. parts_of xs ≡ take n xs ∷ parts_of (drop (n + 1) xs)) same (slice_split_first (λ b. nat_eq b 47) xs 0 (omega (arith, same, within)))

-- bytes without a slash are one part
pub found_none : (xs : List ℕ) → position (λ b. nat_eq b 47) xs ≡ None → parts_of xs ≡ xs ∷ []
found_none xs h = split-absent (λ b. nat_eq b 47) xs h

pub not_utf8 : (bs : List ℕ) → (IsUtf8 bs → ⊥) → is_utf8 bs ≡ false
not_utf8 bs none = tested (is_utf8 bs) refl
  where
    tested : (b : Bool) → is_utf8 bs ≡ b → b ≡ false
    tested true e = absurd (none (IsUtf8-from_is_utf8 bs e))
    tested false e = refl

-- behind the first slash there are names, unless there is nothing
pub path_behind_slash : (bytes rest : List ℕ) (first : ℕ) → bytes ≡ first ∷ rest → first ≡ 47 → (length rest == 0) ≡ false → path_of bytes ≡ if_names (parts_of rest)
path_behind_slash bytes rest first is slash some = ap path_of (is ∙ ap (λ b. b ∷ rest) slash) ∙ from_parts (parts_of rest) (join_with_byte-slice_split 47 rest)
  where
    from_parts : (ps : List (List ℕ)) → join_with_byte 47 ps ≡ rest → path_from ([] ∷ ps) ≡ if_names ps
    from_parts [] h = absurd (let e : (length rest == 0) ≡ true = ap (λ xs. length xs == 0) (sym h) in true≢false (sym e ∙ some))
    from_parts ([] ∷ []) h = absurd (let e : (length rest == 0) ≡ true = ap (λ xs. length xs == 0) (sym h) in true≢false (sym e ∙ some))
    from_parts ([] ∷ q ∷ ps) h = refl
    from_parts ((b ∷ bs) ∷ ps) h = refl

pub no_slash_first : (b : ℕ) (bs : List ℕ) → nat_eq b 47 ≡ false → path_of (b ∷ bs) ≡ None
no_slash_first b bs h = ap (λ t. path_from (cond t ([] ∷ parts_of bs) (onto_first b (parts_of bs)))) h ∙ onto (parts_of bs)
  where
    onto : (ps : List (List ℕ)) → path_from (onto_first b ps) ≡ None
    onto [] = refl
    onto (q ∷ ps) = refl

pub named : (names : List (List ℕ)) → list_all is_name names ≡ true → if_names names ≡ Some names
named names h = ap (λ b. cond b (Some names) None) h

pub unnamed : (names : List (List ℕ)) → list_all is_name names ≡ false → if_names names ≡ None
unnamed names h = ap (λ b. cond b (Some names) None) h

pub path_read : {F : Type 0} (bytes : List ℕ) (names : List (List ℕ)) (result : Result (List (List ℕ)) F) → path_of bytes ≡ if_names names → IfOk result (λ path. path ≡ names)
    → IfOk result (λ path. list_all is_name path ≡ true) → IfOk result (λ path. path_of bytes ≡ Some path)
path_read bytes names (Ok path) is parts spelling = is ∙ ap if_names (sym parts) ∙ named path spelling
path_read bytes names (Err e) is parts spelling = tt
