-- Lines that are joined one after another.
use Rattle.std.proofs.Common.{◌≡◌, ℕ, ◌+◌, ◌<◌, ◌≤◌, List, [], ◌∷◌, ◌++◌, length, take, get_or, ap, sym, ◌∙◌, append_assoc}
use Rattle.std.specs.List.{concat}
use Rattle.std.proofs.lemmas.List.{append-nil, take_all, take_more}
use Rattle.std.proofs.lemmas.List.Folds.{concat-append}

module _ (first : List ℕ) (lines : List (List ℕ)) where
  -- one line more is joined to those before it
  pub joined_more : (text : List ℕ) (i : ℕ) → i < length lines → text ≡ first ++ concat (take i lines) → text ++ get_or lines i [] ≡ first ++ concat (take (i + 1) lines)
  joined_more text i below h =
      let line = get_or lines i [] in
      let more : concat (take (i + 1) lines) ≡ concat (take i lines) ++ line =
      ap concat (take_more lines i [] below) ∙ concat-append (take i lines) (line ∷ []) ∙ ap (λ x. concat (take i lines) ++ x) (append-nil line) in
      ap (λ t. t ++ line) h ∙ append_assoc first (concat (take i lines)) line ∙ ap (λ x. first ++ x) (sym more)

  -- all lines are joined
  pub joined_all : (text : List ℕ) (i : ℕ) → length lines ≤ i → text ≡ first ++ concat (take i lines) → text ≡ first ++ concat lines
  joined_all text i above h = h ∙ ap (λ x. first ++ concat x) (take_all i lines above)
