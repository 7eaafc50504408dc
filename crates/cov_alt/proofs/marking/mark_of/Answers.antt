use Rattle.std.proofs.Common.{◌≡◌, true, sym}
use Rattle.cov_engine.specs.Visibility.{is_no_line}
use Rattle.cov_alt.specs.Marking.{mark_if}
use Rattle.cov_alt.proofs.Seen.{no_line_on}
use Rattle.cov_alt.proofs.marking.mark_of.Goals as goal

pub returns-in-None : goal.returns-in-None
returns-in-None c =
    let history = c.args.engine.now.history in
    let none : is_no_line history c.args.line ≡ true = sym c.in-None.ensures.none in
    λ i. mark_if (sym (no_line_on history c.args.on.now c.args.line none) i) (sym (no_line_on history c.args.off.now c.args.line none) i)
