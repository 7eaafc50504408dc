use Rattle.std.proofs.Common.{ℕ, not, rules}
use Rattle.std.proofs.lemmas.Fn.{filter_same}
use Rattle.cov_view.specs.AtPlaces.{joined, line_at}
use Rattle.cov_view.specs.References.{same_line}
use Rattle.cov_view.proofs.placed_lines.take_out.Goals as goal

pub returns : goal.returns
returns c =
    filter_same _ (λ (p : ℕ). not (same_line (line_at (joined c.args.rows.now c.args.own.now) p).line c.args.line.now)) _ (λ x b f' k. search rules) _ _ c.retain.ensures.filtered
