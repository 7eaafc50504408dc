-- What parts of expressions stand for.
use Rattle.std.specs.Prelude.{ℕ, List}
use Rattle.cov_expr.specs.Formula.{Formula, False, True, On, Not, And, Or}
use Rattle.cov_expr.specs.declared.part.Part.{Part}
use Rattle.cov_expr.specs.declared.part.Part.TheVariants as parts
use Rattle.cov_expr.specs.declared.tree.RawPart.{RawPart}
use Rattle.cov_expr.specs.declared.tree.RawPart.TheVariants as raws

-- the formula of a part, without where its parts lie in memory
abbrev pub formula : Part → Formula ℕ
formula parts.False = False
formula parts.True = True
formula (parts.Option o) = On o
formula (parts.Not' p e) = Not (formula e)
formula (parts.And' p a q b) = And (formula a) (formula b)
formula (parts.Or' p a q b) = Or (formula a) (formula b)

-- the formula of a part whose names are texts
abbrev pub raw_formula : RawPart → Formula (List ℕ)
raw_formula raws.False = False
raw_formula raws.True = True
raw_formula (raws.Named name) = On name
raw_formula (raws.Not' p e) = Not (raw_formula e)
raw_formula (raws.And' p a q b) = And (raw_formula a) (raw_formula b)
raw_formula (raws.Or' p a q b) = Or (raw_formula a) (raw_formula b)
