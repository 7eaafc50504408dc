use Rattle.std.proofs.Common.{◌+◌, ◌<◌, ◌^◌, ◌++◌, length, take, drop, ap, sym, subst, ◌∙◌}
use Rattle.std.specs.Int.{w32, to_be_bytes}
use Rattle.std.specs.List.{AllByRecursion}
use Rattle.std.proofs.lemmas.Result.{on_ok_weaker}
use Rattle.cov_record.specs.FitsRecord.{FitsWritten}
use Rattle.cov_record.specs.KeptRuns.{kept_runs, true_run}
use Rattle.cov_record.specs.Payload.{run_of, run_spelling}
use Rattle.cov_record.proofs.Written.{all-few, all-fit, all-written}
use Rattle.cov_record.proofs.encoding.append_by_runs.Goals as goal

pub run_count-requires : goal.run_count-requires
run_count-requires c =
    let runs = c.runs-runs.result.now in
    let es = c.as_slice-items.result.now in
    let known = c.runs-runs.ensures in
    let before = c.split_at.ensures.front ∙ ap (λ n. take n es) c.count_before.ensures in
    subst (λ b. length (true_run b) + length runs < 2 ^ 32) (sym before)
    (all-few c.args.edits.now runs es known.sides c.as_slice-items.ensures.items known.rise known.below known.differ c.requires)

pub returns-clause-bytes : goal.returns-clause-bytes
returns-clause-bytes c =
    let runs = c.runs-runs.result.now in
    let es = c.as_slice-items.result.now in
    let known = c.runs-runs.ensures in
    let before = c.split_at.ensures.front ∙ ap (λ n. take n es) c.count_before.ensures in
    let rest = c.split_at.ensures.back ∙ ap (λ n. drop n es) c.count_before.ensures in
    let text = c.args.text.now in
    on_ok_weaker c.append_kept_runs.result
    (λ h. h
    ∙ ap (λ l. l ++ run_of run_spelling (kept_runs runs c.split_at.result.1.now)) (c.in_ok-append_true_run.ensures.bytes ∙ ap (λ l. l ++ run_of run_spelling (true_run c.split_at.result.0.now)) c.in_ok-append_u32.ensures)
    ∙ (λ i. ((text ++ to_be_bytes w32 c.run_count.result) ++ run_of run_spelling (true_run (before i))) ++ run_of run_spelling (kept_runs runs (rest i)))
    ∙ all-written c.args.edits.now runs es known.sides c.as_slice-items.ensures.items known.rise known.below known.differ text c.run_count.result
    (c.run_count.ensures ∙ ap (λ b. length (true_run b) + length runs) before))
    c.append_kept_runs.ensures.bytes

pub returns-clause-fit : goal.returns-clause-fit
returns-clause-fit c =
    let runs = c.runs-runs.result.now in
    let es = c.as_slice-items.result.now in
    let known = c.runs-runs.ensures in
    let before = c.split_at.ensures.front ∙ ap (λ n. take n es) c.count_before.ensures in
    let rest = c.split_at.ensures.back ∙ ap (λ n. drop n es) c.count_before.ensures in
    on_ok_weaker c.append_kept_runs.result
    (λ h. all-fit c.args.edits.now runs es known.sides c.as_slice-items.ensures.items known.rise known.below known.differ
    (subst (λ b. AllByRecursion FitsWritten (true_run b)) before c.in_ok-append_true_run.ensures.fit)
    (subst (λ b. AllByRecursion FitsWritten (kept_runs runs b)) rest h))
    c.append_kept_runs.ensures.fit
