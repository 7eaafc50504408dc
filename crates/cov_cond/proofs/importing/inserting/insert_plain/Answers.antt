use Rattle.std.proofs.Common.{◌+◌, ap, arith}
use Rattle.cov_cond.proofs.Inserting.{run-inserted}
use Rattle.cov_cond.proofs.RunFacts.{first_texts, plain_few}
use Rattle.cov_cond.proofs.importing.inserting.insert_plain.Goals as goal

pub loop-ahead-preserved : goal.loop-ahead-preserved
loop-ahead-preserved c =
    let run = c.run-item.result in
    let ahead = c.loop-ahead.ahead.now in
    record {
      inserted = run-inserted c.args.file.now c.args.first.now c.loop-ahead.edits c.insert_run.new.edits _ c.loop-ahead.inserted (c.loop-ahead.inserted + c.plain_count.result) run run ahead c.run-item.is c.in-len1-up.len_at_least
          (ap (λ n. c.loop-ahead.inserted + n) c.plain_count.ensures) c.loop-ahead.invariant.inserted c.in_ok-insert_run.ensures;
      few =
          let all = first_texts run run ahead c.run-item.is c.in-len1-up.len_at_least in
          let low = plain_few run in
          let is = c.plain_count.ensures in
          let before = c.loop-ahead.invariant.few in
          omega (arith, all, low, is, before);
    }
