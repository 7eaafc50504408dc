use Rattle.std.proofs.Common.{◌∙◌, ◌+◌, ◌++◌, sym, ap, refl, [], ◌∷◌, arith}
use Rattle.cov_dd.proofs.CallerLemmas.{value-constant}
use Rattle.cov_file.proofs.Shown.{rows_of, rows_next, rows_end, row_next}
use Rattle.cov_file.proofs.lines.visible_rows.Goals as goal

pub loop-line-init : goal.loop-line-init
loop-line-init c = record {
  rows = ap (λ rs. rs ++ rows_of c.args.sight.now.table.now c.args.sight.now.choice c.args.sight.now.at c.args.texts.now.entries c.args.changes.now.lists c.args.lines.now) c.new-rows.ensures;
  last = sym (value-constant c.args.sight.now.table.now 0 c.args.sight.now.choice (omega arith));
  short = omega arith;
}

pub loop-line-preserved : goal.loop-line-preserved
loop-line-preserved c = record {
  rows =
      rows_next (rows_of c.args.sight.now.table.now c.args.sight.now.choice c.args.sight.now.at c.args.texts.now.entries c.args.changes.now.lists) c.args.lines.now c.loop-line.index (c.loop-line.index + 1) c.in-Some.line
      c.loop-line.rows c.add_visible.new.rows _ (rows_of c.args.sight.now.table.now c.args.sight.now.choice c.args.sight.now.at c.args.texts.now.entries c.args.changes.now.lists (c.in-Some.line ∷ []))
      (sym c.get.ensures ∙ c.in-Some.is) refl
      (row_next c.args.sight.now.table.now c.args.sight.now.choice c.args.sight.now.at c.args.texts.now.entries c.args.changes.now.lists c.in-Some.line)
      c.in_ok-add_visible.ensures.rows c.loop-line.invariant.rows;
  last = c.add_visible.ensures.last;
  short = c.loop-line.invariant.short;
}

pub returns : goal.returns
returns c =
    rows_end (rows_of c.args.sight.now.table.now c.args.sight.now.choice c.args.sight.now.at c.args.texts.now.entries c.args.changes.now.lists) c.args.lines.now c.loop-line.index c.loop-line.rows _
    (sym c.get.ensures ∙ c.in_default.is) refl c.loop-line.invariant.rows
