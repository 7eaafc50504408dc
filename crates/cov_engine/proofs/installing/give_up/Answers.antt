use Rattle.std.proofs.Common.{sym, subst}
use Rattle.cov_engine.specs.Holdings.{AreRowsAndLinesOf}
use Rattle.cov_engine.specs.Ready.{IsReady}
use Rattle.cov_engine.specs.States.{AreDeclarationsOf}
use Rattle.cov_engine.proofs.Readied.{ready-rising, ready-given-up}
use Rattle.cov_engine.proofs.installing.give_up.Goals as goal

pub cut_off-requires : goal.cut_off-requires
cut_off-requires c = record {
  rising = ready-rising c.args.state.now.commands.commands c.args.state.now.options.names c.args.state.now.visible.table c.args.state.now.rules.standing c.args.state.now.counts c.in-Commit.counts _
      c.args.state.now.index.commits.items c.in-Commit.mark c.in-Commit.edits.items c.in-Commit.rows c.args.state.now.index.file_of_line.items c.args.state.now.visible.entries c.args.state.now.visible.files c.requires.prepared.1.0.0 c.args.command.now _ c.requires.prepared.0
      (subst (IsReady c.args.state.now.commands.commands c.args.command.now _ _ _ _ c.args.state.now.index.commits.items c.args.state.now.index.file_of_line.items c.args.state.now.visible.entries c.args.state.now.visible.files) c.in-Commit.is c.requires.prepared.1.1);
}

pub returns-in-Commit-clause-kept : goal.returns-in-Commit-clause-kept
returns-in-Commit-clause-kept c = (
  (subst (λ ts. AreDeclarationsOf c.args.state.now.commands.commands c.args.state.now.options.names ts c.args.state.now.rules.standing c.args.state.now.counts) (sym c.cut_off.ensures.table) c.requires.prepared.1.0.0, c.requires.prepared.1.0.1, c.requires.prepared.1.0.2),
  subst (λ ts. AreRowsAndLinesOf c.args.state.now.commands.commands ts c.cut_off.new.index.commits.items c.cut_off.new.index.file_of_line.items c.cut_off.new.visible.entries c.cut_off.new.visible.files) (sym c.cut_off.ensures.table)
      (ready-given-up c.args.state.now.commands.commands c.args.state.now.options.names c.args.state.now.visible.table c.args.state.now.rules.standing c.args.state.now.counts c.in-Commit.counts _
      c.args.state.now.index.commits.items c.in-Commit.mark c.in-Commit.edits.items c.in-Commit.rows c.args.state.now.index.file_of_line.items c.args.state.now.visible.entries c.args.state.now.visible.files c.requires.prepared.1.0.0 c.args.command.now
      c.cut_off.new.index.commits.items c.cut_off.new.index.file_of_line.items c.cut_off.new.visible.entries c.cut_off.new.visible.files
      (subst (IsReady c.args.state.now.commands.commands c.args.command.now _ _ _ _ c.args.state.now.index.commits.items c.args.state.now.index.file_of_line.items c.args.state.now.visible.entries c.args.state.now.visible.files) c.in-Commit.is c.requires.prepared.1.1)
      c.cut_off.ensures.commits c.cut_off.ensures.file_of_line c.cut_off.ensures.entries c.cut_off.ensures.files),
)
