-- Paths that lead nowhere but down.
use Rattle.std.proofs.Common.{◌≡◌, ℕ, nat_eq, ◌<◌, Bool, true, false, List, [], ◌∷◌, length, Some, None, if◌then◌else◌, refl, arith}
use Rattle.std.specs.List.{list_all}
use Rattle.std.proofs.lemmas.List.Splits.{length-slice_split}
use Rattle.cov_base.specs.Spelling.{is_name, path_from, path_of, parts_of}
use Rattle.cov_out.specs.Rows.{is_below}

not_chosen : (b : Bool) (names : List (List ℕ)) → (if b then Some names else None) ≡ None → false ≡ b
not_chosen true names none = absurd (cc)
not_chosen false names none = refl

not_names : (parts : List (List ℕ)) → 0 < length parts → path_from ([] ∷ parts) ≡ None → false ≡ list_all is_name parts
not_names [] some none = absurd (omega (arith, some))
not_names ([] ∷ []) some none = absurd (cc)
not_names ([] ∷ name ∷ names) some none = refl
not_names ((b ∷ bs) ∷ names) some none = not_chosen (list_all is_name ((b ∷ bs) ∷ names)) ((b ∷ bs) ∷ names) none

-- bytes that are no path behind a slash aren't names with a slash between two
pub not_below : (path : List ℕ) → path_of (47 ∷ path) ≡ None → false ≡ is_below path
not_below path none =
    not_names (parts_of path) (omega (arith, length-slice_split (λ b. nat_eq b 47) path)) none
