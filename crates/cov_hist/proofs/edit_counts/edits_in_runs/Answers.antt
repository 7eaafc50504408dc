use Rattle.std.proofs.Common.{◌≡◌, ◌+◌, ap, ◌∙◌, arith}
use Rattle.cov_edit.proofs.CallerLemmas.{opened, rest_of}
use Rattle.cov_hist.specs.RunCounts.{edits_in_run, edits_in_runs, place_of}
use Rattle.cov_hist.proofs.edit_counts.edits_in_runs.Goals as goal

pub overflow_add-edits : goal.overflow_add-edits
overflow_add-edits c =
    let choice = c.args.choice in
    let count = c.args.count in
    let run = c.run-item.result in
    let ahead = c.loop-ahead.ahead.now in
    let parts = opened run run ahead c.run-item.is c.in-len1-up.len_at_least in
    let all = c.loop-ahead.invariant.all in
    let own : edits_in_runs choice count ahead ≡ edits_in_run choice run (place_of count (rest_of ahead)) + edits_in_runs choice count (rest_of ahead) = ap (edits_in_runs choice count) parts in
    let is : c.edits_in_run-edits.result ≡ edits_in_run choice run (place_of count (rest_of ahead)) = c.edits_in_run-edits.ensures ∙ ap (edits_in_run choice run) c.place_of.ensures in
    let few = c.requires.few in
    omega (arith, all, own, is, few)
