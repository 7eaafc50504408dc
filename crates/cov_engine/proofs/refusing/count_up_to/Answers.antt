use Rattle.std.proofs.Common.{suc, subst, sym, ap, ◌∙◌, arith}
use Rattle.cov_edit.specs.Touched.{AreRising}
use Rattle.cov_visible.specs.Parts.{count_below}
use Rattle.cov_engine.proofs.OptionPositions.{count-before, positions-rise}
use Rattle.cov_engine.proofs.refusing.count_up_to.Goals as goal

pub count_up_to-requires : goal.count_up_to-requires
count_up_to-requires c = subst AreRising (sym c.requires.0.1) (positions-rise 0 c.args.state.now.commands.commands)

pub returns : goal.returns
returns c =
    c.count_up_to.ensures
    ∙ ap (count_below (suc c.args.base)) c.requires.0.1
    ∙ count-before 0 c.args.base c.args.base c.args.state.now.commands.commands (omega arith)
