use Rattle.std.proofs.Common.{sym, ◌∙◌}
use Rattle.cov_view.specs.Lines.{without_ref}
use Rattle.cov_view.specs.Seen.{with_lines_by}
use Rattle.cov_view.proofs.Changes.{lines_set, none_found}
use Rattle.cov_view.proofs.changing.delete_line.Goals as goal

pub returns-in-Some : goal.returns-in-Some
returns-in-Some c =
    lines_set c.args.file.now (without_ref c.args.line.now) c.args.rows.now c.index-rows-at.result c.in-Some.at c.delete.new.self (sym c.requires ∙ c.in-Some.is) c.delete.ensures

pub returns-in-None : goal.returns-in-None
returns-in-None c = sym (none_found c.args.file.now (with_lines_by (without_ref c.args.line.now)) c.args.rows.now (sym c.requires ∙ c.in-None.is))
