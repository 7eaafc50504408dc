-- The path behind the word import.
use Rattle.std.proofs.Common.{◌≡◌, refl, subst, ℕ, arith, Bool, true, false, List, [], ◌∷◌, Some, None, IfSome, if◌then◌else◌}
use Rattle.std.specs.List.{list_all}
use Rattle.cov_base.specs.Spelling.{if_names, is_name, parts_of, path_from, path_of}
use Rattle.cov_script.specs.Fields.{below_root}
use Rattle.cov_serve.specs.Jobs.{IsNewPath}

all_named : (names path : List (List ℕ)) → if_names names ≡ Some path → list_all is_name path ≡ true
all_named names path e = at (list_all is_name names) refl e
  where
    at : (b : Bool) → list_all is_name names ≡ b → (if b then Some names else None) ≡ Some path → list_all is_name path ≡ true
    at true is e = let same : names ≡ path = cc in subst (λ ns. list_all is_name ns ≡ true) same is
    at false is e = absurd (cc)

from_named : (parts path : List (List ℕ)) → path_from parts ≡ Some path → list_all is_name path ≡ true
from_named [] path e = absurd (cc)
from_named ((b ∷ bs) ∷ parts) path e = absurd (cc)
from_named ([] ∷ []) path e = absurd (cc)
from_named ([] ∷ [] ∷ []) path e = let same : [] ≡ path = cc in subst (λ ns. list_all is_name ns ≡ true) same refl
from_named ([] ∷ [] ∷ name ∷ names) path e = all_named ([] ∷ name ∷ names) path e
from_named ([] ∷ (b ∷ bs) ∷ names) path e = all_named ((b ∷ bs) ∷ names) path e

-- a path below the root, as it is spelt, has a name, and each is one
pub new_path_named : (bytes : List ℕ) (path : List (List ℕ)) → path_of bytes ≡ Some path → IfSome (below_root (Some path)) IsNewPath
new_path_named bytes [] e = tt
new_path_named bytes (name ∷ names) e = (omega arith, from_named (parts_of bytes) (name ∷ names) e)
