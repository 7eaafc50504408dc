use Rattle.std.proofs.Common.{sym, ◌∙◌}
use Rattle.cov_visible.proofs.Rising.{place-none}
use Rattle.cov_visible.proofs.places.index_of.Goals as goal

pub returns-in-false-clause-place : goal.returns-in-false-clause-place
returns-in-false-clause-place c = place-none c.args.files.now c.args.node c.count_below-at.result c.requires.rising c.count_below-at.ensures (sym c.is_at.ensures ∙ c.in-false.is)
