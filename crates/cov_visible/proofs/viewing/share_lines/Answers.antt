use Rattle.std.proofs.Common.{◌≡◌, ◌≤◌, suc, [], length, refl, ap, ◌∙◌, arith}
use Rattle.cov_base.proofs.CallerLemmas.{opened, rest_of}
use Rattle.cov_visible.proofs.Fresh.{once-fresh}
use Rattle.cov_visible.proofs.SharedLines.{partly-kind, partly-next, partly-all}
use Rattle.cov_visible.proofs.viewing.share_lines.Goals as goal

pub loop-ahead-init : goal.loop-ahead-init
loop-ahead-init c = record {
  rows = ([], c.requires.rows, once-fresh c.args.table.now c.args.choice c.args.at c.args.files.now c.args.rows.now c.requires.once, refl);
  within = omega arith;
  nodes = refl;
  lines = refl;
}

pub share_lines_of-requires : goal.share_lines_of-requires
share_lines_of-requires c = record {
  rising = c.requires.rising;
  kind = partly-kind c.args.table.now c.args.choice c.args.at c.args.files.now c.args.rows.now c.loop-ahead.view.rows c.loop-ahead.ahead.now c.row-item.result c.row-item.is c.in-len1-up.len_at_least
      c.loop-ahead.invariant.rows;
}

pub loop-ahead-preserved : goal.loop-ahead-preserved
loop-ahead-preserved c =
    let ahead = c.loop-ahead.ahead.now in
    let shorter : length ahead ≡ suc (length (rest_of ahead)) = ap length (opened c.row-item.result c.row-item.result ahead c.row-item.is c.in-len1-up.len_at_least) in
    let within : length ahead ≤ length c.args.rows.now = c.loop-ahead.invariant.within in
    record {
      rows = partly-next c.args.table.now c.args.choice c.args.at c.args.files.now c.args.rows.now c.loop-ahead.view.rows c.share_lines_of.new.view.rows ahead c.row-item.result c.row-item.is c.in-len1-up.len_at_least
          c.in_ok-share_lines_of.ensures.rows c.loop-ahead.invariant.rows;
      within = omega (arith, shorter, within);
      nodes = c.share_lines_of.ensures.nodes ∙ c.loop-ahead.invariant.nodes;
      lines = c.share_lines_of.ensures.lines ∙ c.loop-ahead.invariant.lines;
    }

pub returns-clause-rows : goal.returns-clause-rows
returns-clause-rows c =
    partly-all c.args.table.now c.args.choice c.args.at c.args.files.now c.args.rows.now c.loop-ahead.view.rows c.loop-ahead.ahead.now c.in_default.len_below c.loop-ahead.invariant.rows
