use Rattle.std.proofs.Common.{◌≡◌, ◌∷◌, ◌∙◌}
use Rattle.cov_base.proofs.CallerLemmas.{opened, rest_of}
use Rattle.cov_expr.specs.Parts.{formula}
use Rattle.cov_record.proofs.Written.{kept-whole, kept-fit, kept-few, kept-fits, kept-rise, kept-within}
use Rattle.cov_record.proofs.encoding.append_kept_runs.Goals as goal

pub runs-preserved : goal.runs-preserved
runs-preserved c =
    let ahead = c.runs.ahead.now in
    let run = c.run-item.result in
    let rest = rest_of ahead in
    let left = c.runs.left.now in
    let own = c.split_at.result.0.now in
    let behind = c.split_at.result.1.now in
    let n = c.own_count.result in
    let is : ahead ≡ run ∷ rest = opened run run ahead c.run-item.is c.in-len1-up.len_at_least in
    let count = c.own_count.ensures in
    let front = c.split_at.ensures.front in
    let back = c.split_at.ensures.back in
    let side = formula c.part.result.now in
    let old = c.runs.invariant in
    record {
      whole = kept-whole ahead run rest left own behind is n count front back c.runs.text c.append_run.new.text side c.part.ensures.part c.in_ok-append_run.ensures.bytes ∙ old.whole;
      fit = λ h. old.fit (kept-fit ahead run rest left own behind is n count front back side c.part.ensures.part c.in_ok-append_run.ensures.fit h);
      few = kept-few ahead run rest left own behind is n count front back old.few;
      fits = kept-fits ahead run rest left own behind is n count front back old.fits;
      rise = kept-rise ahead run rest left own behind is n count front back old.rise;
      within = kept-within ahead run rest left own behind is n count front back old.rise old.within;
    }
