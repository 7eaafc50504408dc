use Rattle.std.proofs.Common.{refl, sym, ap, subst}
use Rattle.cov_dd.proofs.CallerLemmas.{extends_none}
use Rattle.cov_edit.specs.Sides.{unsided}
use Rattle.cov_engine.specs.Holdings.{AreRowsAndLinesOf}
use Rattle.cov_engine.specs.Staged.{IsStaged}
use Rattle.cov_engine.proofs.Keeping.{declared-again}
use Rattle.cov_engine.proofs.Readied.{held-rising, held-few, held-lines, is-ready, held-again, on-any, counted}
use Rattle.cov_engine.proofs.state.commit_ready.Goals as goal

pub stage_commit-requires-clause-lines : goal.stage_commit-requires-clause-lines
stage_commit-requires-clause-lines c = held-lines c.commit_planned.new.state.commands.commands c.args.edits.now c.commit_planned.new.state.counts c.commit_planned.new.state.visible.table c.commit_planned.new.state.index.commits.items c.commit_planned.new.state.index.file_of_line.items c.commit_planned.new.state.visible.entries c.commit_planned.new.state.visible.files c.commit_planned.ensures.kept.0.0.counted c.commit_planned.ensures.kept.1 c.in_ok-mark.ensures.planned.0 c.args.ambition.now c.in_ok-mark.mark c.in_ok-mark.edits.items c.as_slice-2.result.now c.in_ok-mark.rows c.in_ok-mark.ensures.planned.1 c.as_slice-2.ensures.value

pub stage_commit-requires-clause-rising : goal.stage_commit-requires-clause-rising
stage_commit-requires-clause-rising c = held-rising c.commit_planned.new.state.commands.commands c.args.edits.now c.commit_planned.new.state.counts c.commit_planned.new.state.visible.table c.commit_planned.new.state.index.commits.items c.commit_planned.new.state.index.file_of_line.items c.commit_planned.new.state.visible.entries c.commit_planned.new.state.visible.files c.commit_planned.ensures.kept.0.0.counted c.commit_planned.ensures.kept.1 c.in_ok-mark.ensures.planned.0 c.args.ambition.now c.in_ok-mark.mark c.in_ok-mark.edits.items c.as_slice-2.result.now c.in_ok-mark.rows c.in_ok-mark.ensures.planned.1 c.as_slice-2.ensures.value

pub stage_commit-requires-clause-few : goal.stage_commit-requires-clause-few
stage_commit-requires-clause-few c = held-few c.commit_planned.new.state.commands.commands c.args.edits.now c.commit_planned.new.state.counts c.commit_planned.new.state.visible.table c.commit_planned.new.state.index.commits.items c.commit_planned.new.state.index.file_of_line.items c.commit_planned.new.state.visible.entries c.commit_planned.new.state.visible.files c.commit_planned.ensures.kept.0.0.counted c.commit_planned.ensures.kept.1 c.in_ok-mark.ensures.planned.0 c.args.ambition.now c.in_ok-mark.mark c.in_ok-mark.edits.items c.as_slice-2.result.now c.in_ok-mark.rows c.in_ok-mark.ensures.planned.1 c.as_slice-2.ensures.value

pub returns-in_err-stage_commit-clause-kept : goal.returns-in_err-stage_commit-clause-kept
returns-in_err-stage_commit-clause-kept c =
    on-any c.from_residual-in_err-stage_commit.result _ (
      declared-again c.commit_planned.new.state c.commit_planned.new.state.visible.table c.stage_commit.new.visible.table c.commit_planned.ensures.kept (extends_none c.commit_planned.new.state.visible.table) c.stage_commit.ensures.table,
      subst (λ ts. AreRowsAndLinesOf c.commit_planned.new.state.commands.commands ts c.stage_commit.new.index.commits.items c.stage_commit.new.index.file_of_line.items c.stage_commit.new.visible.entries c.stage_commit.new.visible.files) (sym c.stage_commit.ensures.table)
          (held-again c.commit_planned.new.state.commands.commands c.commit_planned.new.state.visible.table c.commit_planned.new.state.index.commits.items c.stage_commit.new.index.commits.items c.commit_planned.new.state.index.file_of_line.items c.stage_commit.new.index.file_of_line.items
          c.commit_planned.new.state.visible.entries c.stage_commit.new.visible.entries c.commit_planned.new.state.visible.files c.stage_commit.new.visible.files c.commit_planned.ensures.kept.1
          c.stage_commit.ensures.commits c.in_err-stage_commit.ensures.same_file_of_line c.stage_commit.ensures.entries c.in_err-stage_commit.ensures.same_files),
    )

pub returns-clause-ready : goal.returns-clause-ready
returns-clause-ready c =
    let all =
    is-ready c.commit_planned.new.state.commands.commands c.args.edits.now c.commit_planned.new.state.counts c.commit_planned.new.state.visible.table c.commit_planned.new.state.index.commits.items c.commit_planned.new.state.index.file_of_line.items c.commit_planned.new.state.visible.entries c.commit_planned.new.state.visible.files c.commit_planned.ensures.kept.0.0.counted c.commit_planned.ensures.kept.1 c.in_ok-mark.ensures.planned.0 c.args.ambition.now c.in_ok-mark.mark c.in_ok-mark.edits.items c.as_slice-2.result.now c.in_ok-mark.rows c.in_ok-mark.ensures.planned.1 c.as_slice-2.ensures.value
    _ c.with_sizes-counts.result
    c.stage_commit.new.index.commits.items c.stage_commit.new.index.file_of_line.items c.stage_commit.new.visible.entries c.stage_commit.new.visible.files
    (counted c.commit_planned.new.state.counts c.args.summary.sizes (unsided c.args.edits.now) (unsided c.args.edits.now) c.with_sizes-counts.result c.with_sizes-counts.ensures (ap (λ s. s.sizes) c.requires.summary) refl)
    c.stage_commit.ensures.commits c.stage_commit.ensures.entries c.in_ok-stage_commit.ensures.file_of_line c.in_ok-stage_commit.ensures.files c.in_ok-stage_commit.ensures.room c.in_ok-stage_commit.ensures.row_room c.in_ok-stage_commit.ensures.commit_room in (
      declared-again c.commit_planned.new.state c.commit_planned.new.state.visible.table c.stage_commit.new.visible.table c.commit_planned.ensures.kept (extends_none c.commit_planned.new.state.visible.table) c.stage_commit.ensures.table,
      (
        subst (λ us. IsStaged c.commit_planned.new.state.commands.commands us c.args.ambition.now c.args.edits.now c.stage_commit.new.index.commits.items c.in_ok-mark.mark c.in_ok-mark.edits.items c.in_ok-mark.rows c.stage_commit.new.index.file_of_line.items c.stage_commit.new.visible.entries c.stage_commit.new.visible.files) (sym c.stage_commit.ensures.table) all.0,
        all.1,
        all.2,
      ),
    )
