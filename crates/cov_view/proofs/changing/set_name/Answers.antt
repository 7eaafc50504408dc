use Rattle.std.proofs.Common.{sym, ◌∙◌}
use Rattle.cov_view.specs.Seen.{with_name_by}
use Rattle.cov_view.proofs.Changes.{set_found, none_found}
use Rattle.cov_view.proofs.changing.set_name.Goals as goal

pub returns-in-Some : goal.returns-in-Some
returns-in-Some c = set_found c.args.node.now (with_name_by c.args.name) c.args.rows.now c.index-rows-at.result c.in-Some.at (sym c.requires ∙ c.in-Some.is)

pub returns-in-None : goal.returns-in-None
returns-in-None c = sym (none_found c.args.node.now (with_name_by c.args.name) c.args.rows.now (sym c.requires ∙ c.in-None.is))
