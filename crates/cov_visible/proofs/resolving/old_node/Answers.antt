use Rattle.std.proofs.Common.{ap, sym, ◌∙◌, ◌≤◌, unwrap_or}
use Rattle.cov_visible.proofs.Rising.{found-place, no-place}
use Rattle.cov_visible.proofs.StoredFiles.{get-all, place-below}
use Rattle.cov_visible.proofs.Resolved.{old-outside, old-at}
use Rattle.cov_visible.proofs.resolving.old_node.Goals as goal

pub returns-in-Some : goal.returns-in-Some
returns-in-Some c = λ p newest.
    let place = found-place _ c.args.file _ _ c.index_of.ensures.place c.in-Some.is in
    c.unwrap_or.ensures
    ∙ ap (λ o. unwrap_or o 0) (c.vis.ensures.latest p (get-all (λ e. e.lines.newest ≤ p) c.args.files.now c.in-Some.index c.index-files-index.result (place-below c.args.files.now c.in-Some.index c.args.file place) newest))
    ∙ sym (old-at p c.args.file c.args.line c.in-Some.index c.args.files.now c.index-files-index.result c.requires.rising place)

pub returns-in-None : goal.returns-in-None
returns-in-None c = λ p newest. sym (old-outside p c.args.file c.args.line c.args.files.now (no-place _ c.args.file _ c.index_of.ensures.place c.in-None.is))
