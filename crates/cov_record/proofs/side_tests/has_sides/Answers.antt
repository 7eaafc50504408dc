use Rattle.std.proofs.Common.{not, ap, sym, subst, ◌∙◌}
use Rattle.cov_edit.specs.Runs.{AreBelow}
use Rattle.cov_edit.specs.Sides.{unsided}
use Rattle.cov_edit.proofs.CallerLemmas.{unsided-length}
use Rattle.cov_record.specs.SideRuns.{has_sides}
use Rattle.cov_record.proofs.Kept.{kept-sided}
use Rattle.cov_record.proofs.side_tests.has_sides.Goals as goal

pub returns : goal.returns
returns c =
    let ss = c.args.edits.now in
    let runs = c.runs.result.now in
    let below = subst (λ n. AreBelow n runs) (sym (unsided-length ss)) c.runs.ensures.below in
    ap not c.is_empty.ensures ∙ sym (kept-sided runs (unsided ss) c.runs.ensures.rise below c.runs.ensures.differ) ∙ ap has_sides (sym c.runs.ensures.sides)
