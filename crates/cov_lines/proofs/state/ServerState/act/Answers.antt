use Rattle.std.proofs.Common.{subst, sym}
use Rattle.cov_lines.specs.Texts.{HasParts}
use Rattle.cov_lines.proofs.Spoken.{has-parts}
use Rattle.cov_lines.proofs.state.ServerState.act.Goals as goal

pub serve-requires : goal.serve-requires
serve-requires c =
    subst HasParts (sym c.grouped.ensures)
    (has-parts c.lines_read_as_spelt.ensures c.args.line.now c.in_ok-form.form c.in_ok-form.ensures)
