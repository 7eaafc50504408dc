-- Names of an expression that no option has.
use Rattle.std.proofs.Common.{◌≡◌, ℕ, List, ap, ◌∙◌}
use Rattle.std.specs.Prelude.{not, None}
use Rattle.std.specs.Option.{option_or}
use Rattle.std.proofs.lemmas.List.Folds.{find-append}
use Rattle.cov_expr.specs.Formula.{Formula, And, names_in}
use Rattle.cov_expr.specs.Naming.{first_unknown, IsUnknownName}
use Rattle.cov_expr.specs.Options.{is_declared}
use Rattle.cov_expr.specs.declared.naming.NameFault.{NameFault}
use Rattle.cov_expr.specs.declared.naming.NameFault.TheVariants.{UnknownOption, Memory}

both_unknown : (names : List (List ℕ)) (a b : Formula (List ℕ)) → first_unknown names (And a b) ≡ option_or (first_unknown names a) (first_unknown names b)
both_unknown names a b = find-append (λ name. not (is_declared names name)) (names_in a) (names_in b)

-- an unknown name of the left part
pub unknown_left : (names : List (List ℕ)) (a b : Formula (List ℕ)) (fault : NameFault) → IsUnknownName (first_unknown names a) fault → IsUnknownName (first_unknown names (And a b)) fault
unknown_left names a b (UnknownOption name) h = both_unknown names a b ∙ ap (λ o. option_or o (first_unknown names b)) h
unknown_left names a b Memory h = tt

-- an unknown name of the right part
pub unknown_right : (names : List (List ℕ)) (a b : Formula (List ℕ)) (fault : NameFault) → first_unknown names a ≡ None → IsUnknownName (first_unknown names b) fault → IsUnknownName (first_unknown names (And a b)) fault
unknown_right names a b (UnknownOption name) known h = both_unknown names a b ∙ ap (λ o. option_or o (first_unknown names b)) known ∙ h
unknown_right names a b Memory known h = tt

-- each name is an option's
pub both_known : (names : List (List ℕ)) (a b : Formula (List ℕ)) → first_unknown names a ≡ None → first_unknown names b ≡ None → first_unknown names (And a b) ≡ None
both_known names a b known h = both_unknown names a b ∙ ap (λ o. option_or o (first_unknown names b)) known ∙ h
