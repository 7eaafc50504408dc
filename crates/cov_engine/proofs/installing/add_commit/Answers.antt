use Rattle.std.proofs.Common.{[], ◌∷◌, ◌++◌, map, sym, subst, ◌∙◌}
use Rattle.cov_edit.specs.Touched.{AreRising}
use Rattle.cov_visible.specs.Parts.{part_node}
use Rattle.cov_engine.specs.Holdings.{AreRowsAndLinesOf}
use Rattle.cov_engine.specs.States.{AreDeclarationsOf}
use Rattle.cov_engine.proofs.OptionPositions.{positions-same}
use Rattle.cov_engine.proofs.Readied.{ready-rising, ready-plans, ready-options, ready-raises_none, ready-rows, ready-state, ready-held}
use Rattle.cov_engine.proofs.States.{upgraded-kept}
use Rattle.cov_engine.proofs.installing.add_commit.Goals as goal

pub count_below-first-requires : goal.count_below-first-requires
count_below-first-requires c = record {
  rising = subst (λ xs. AreRising (map part_node xs)) (sym c.as_slice.ensures)
      (ready-rising c.args.state.now.commands.commands c.args.state.now.options.names c.args.state.now.visible.table c.args.state.now.rules.standing c.args.state.now.counts c.args.counts _
      c.args.state.now.index.commits.items c.args.mark c.args.edits.items c.args.rows c.args.state.now.index.file_of_line.items c.args.state.now.visible.entries c.args.state.now.visible.files c.requires.prepared.1.0.0 c.args.command.now _ c.requires.prepared.0 c.requires.prepared.1.1);
}

pub install-requires-clause-rising : goal.install-requires-clause-rising
install-requires-clause-rising c =
    ready-rising c.args.state.now.commands.commands c.args.state.now.options.names c.args.state.now.visible.table c.args.state.now.rules.standing c.args.state.now.counts c.args.counts _
    c.args.state.now.index.commits.items c.args.mark c.args.edits.items c.args.rows c.args.state.now.index.file_of_line.items c.args.state.now.visible.entries c.args.state.now.visible.files c.requires.prepared.1.0.0 c.args.command.now _ c.requires.prepared.0 c.requires.prepared.1.1

pub install-requires-clause-can : goal.install-requires-clause-can
install-requires-clause-can c =
    ready-plans c.args.state.now.commands.commands c.args.state.now.options.names c.args.state.now.visible.table c.args.state.now.rules.standing c.args.state.now.counts c.args.counts _
    c.args.state.now.index.commits.items c.args.mark c.args.edits.items c.args.rows c.args.state.now.index.file_of_line.items c.args.state.now.visible.entries c.args.state.now.visible.files c.requires.prepared.1.0.0 c.args.command.now _ c.requires.prepared.0 c.requires.prepared.1.1

pub install-requires-clause-later : goal.install-requires-clause-later
install-requires-clause-later c =
    (ready-rows c.args.state.now.commands.commands c.args.state.now.options.names c.args.state.now.visible.table c.args.state.now.rules.standing c.args.state.now.counts c.args.counts _
    c.args.state.now.index.commits.items c.args.mark c.args.edits.items c.args.rows c.args.state.now.index.file_of_line.items c.args.state.now.visible.entries c.args.state.now.visible.files c.requires.prepared.1.0.0 c.args.command.now _ c.requires.prepared.0 c.requires.prepared.1.1).0

pub install-requires-clause-row_room : goal.install-requires-clause-row_room
install-requires-clause-row_room c =
    (ready-rows c.args.state.now.commands.commands c.args.state.now.options.names c.args.state.now.visible.table c.args.state.now.rules.standing c.args.state.now.counts c.args.counts _
    c.args.state.now.index.commits.items c.args.mark c.args.edits.items c.args.rows c.args.state.now.index.file_of_line.items c.args.state.now.visible.entries c.args.state.now.visible.files c.requires.prepared.1.0.0 c.args.command.now _ c.requires.prepared.0 c.requires.prepared.1.1).1

pub returns-clause-kept : goal.returns-clause-kept
returns-clause-kept c = (
  (
    subst (λ ts. AreDeclarationsOf (c.args.state.now.commands.commands ++ c.args.command.now ∷ []) c.args.state.now.options.names ts c.args.state.now.rules.standing c.args.counts) (sym c.install.ensures.table)
        (ready-state c.args.state.now.commands.commands c.args.state.now.options.names c.args.state.now.visible.table c.args.state.now.rules.standing c.args.state.now.counts c.args.counts _
        c.args.state.now.index.commits.items c.args.mark c.args.edits.items c.args.rows c.args.state.now.index.file_of_line.items c.args.state.now.visible.entries c.args.state.now.visible.files c.requires.prepared.1.0.0 c.args.command.now _ c.requires.prepared.0 c.requires.prepared.1.1),
    positions-same c.args.state.now.commands.commands c.args.command.now c.args.state.now.option_positions
        (ready-options c.args.state.now.commands.commands c.args.state.now.options.names c.args.state.now.visible.table c.args.state.now.rules.standing c.args.state.now.counts c.args.counts _
        c.args.state.now.index.commits.items c.args.mark c.args.edits.items c.args.rows c.args.state.now.index.file_of_line.items c.args.state.now.visible.entries c.args.state.now.visible.files c.requires.prepared.1.0.0 c.args.command.now c.requires.prepared.1.1)
        c.requires.prepared.1.0.1,
    c.requires.prepared.1.0.2
        ∙ sym (upgraded-kept c.args.state.now.commands.commands c.args.command.now
        (ready-raises_none c.args.state.now.commands.commands c.args.state.now.options.names c.args.state.now.visible.table c.args.state.now.rules.standing c.args.state.now.counts c.args.counts _
        c.args.state.now.index.commits.items c.args.mark c.args.edits.items c.args.rows c.args.state.now.index.file_of_line.items c.args.state.now.visible.entries c.args.state.now.visible.files c.requires.prepared.1.0.0 c.args.command.now c.requires.prepared.1.1)),
  ),
  subst (λ ts. AreRowsAndLinesOf (c.args.state.now.commands.commands ++ c.args.command.now ∷ []) ts c.install.new.index.commits.items c.install.new.index.file_of_line.items c.install.new.visible.entries c.install.new.visible.files) (sym c.install.ensures.table)
      (ready-held c.args.state.now.commands.commands c.args.state.now.options.names c.args.state.now.visible.table c.args.state.now.rules.standing c.args.state.now.counts c.args.counts _
      c.args.state.now.index.commits.items c.args.mark c.args.edits.items c.args.rows c.args.state.now.index.file_of_line.items c.args.state.now.visible.entries c.args.state.now.visible.files c.requires.prepared.1.0.0 c.args.command.now _
      c.install.new.index.commits.items c.install.new.index.file_of_line.items c.install.new.visible.entries c.install.new.visible.files
      c.requires.prepared.0 c.requires.prepared.1.1 c.install.ensures.commits c.install.ensures.file_of_line c.install.ensures.entries c.install.ensures.files),
)
