-- Worked scripts that analyse the rules.
use Rattle.std.proofs.Common.{◌≡◌, refl, [], ◌∷◌}
use Rattle.std.specs.Prelude.{codes}
use Rattle.std.specs.Fmt.{digits}
use Rattle.cov_lines.specs.Step.{model, step, acted, analysed, nearest_told, served, served_analysis, served_declaration, declared, constrained}
use Rattle.cov_lines.proofs.Examples.{text}

-- two constraints that say the same
redundant : (model [] (text (codes "option a" ∷ codes "option b" ∷ codes "constraint !(a & b)" ∷ codes "constraint !a | !b" ∷ codes "analyse" ∷ codes "nearest a=on,b=on" ∷ []))).reply
    ≡ text (codes "ok option 0" ∷ codes "ok option 1" ∷ codes "ok constraint 1" ∷ codes "ok constraint 2" ∷ codes "ok 4" ∷ codes "free a a=off,b=off a=on,b=off" ∷ codes "free b a=off,b=off a=off,b=on" ∷ codes "redundant 1" ∷ codes "redundant 2" ∷ codes "ok nearest 1 a=off,b=on" ∷ [])
unfolding digits step acted served served_analysis served_declaration declared constrained analysed nearest_told
redundant = refl

-- rules that leave one choice; what is asked for in the order of the refusals
alone : (model [] (text (codes "option a" ∷ codes "option b" ∷ codes "constraint a" ∷ codes "constraint !b" ∷ codes "analyse" ∷ codes "nearest a=off,b=on" ∷ codes "nearest a=on" ∷ codes "nearest -" ∷ codes "nearest c=on" ∷ codes "nearest b=on,b=on" ∷ []))).reply
    ≡ text (codes "ok option 0" ∷ codes "ok option 1" ∷ codes "ok constraint 1" ∷ codes "ok constraint 2" ∷ codes "ok 4" ∷ codes "forced a" ∷ codes "dead b" ∷ codes "needed 1 a=off,b=off" ∷ codes "needed 2 a=on,b=on" ∷ codes "ok nearest 2 a=on,b=off" ∷ codes "refused incomplete b" ∷ codes "refused incomplete a" ∷ codes "refused unknown-option c" ∷ codes "refused repeated b" ∷ [])
unfolding digits step acted served served_analysis served_declaration declared constrained analysed nearest_told
alone = refl

-- no option and no constraint; a constraint without options
undeclared : (model [] (text (codes "analyse" ∷ codes "nearest -" ∷ codes "constraint true" ∷ codes "analyse" ∷ []))).reply
    ≡ text (codes "ok 0" ∷ codes "ok nearest 0 -" ∷ codes "ok constraint 1" ∷ codes "ok 1" ∷ codes "redundant 1" ∷ [])
unfolding digits step acted served served_analysis served_declaration constrained analysed nearest_told
undeclared = refl
