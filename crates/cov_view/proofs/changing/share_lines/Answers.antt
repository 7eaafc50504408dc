use Rattle.std.proofs.Common.{◌++◌, map, sym, ◌∙◌}
use Rattle.std.proofs.lemmas.Result.{on_ok_weaker}
use Rattle.cov_view.specs.Seen.{old_line, with_lines_by}
use Rattle.cov_view.proofs.Changes.{lines_set, none_found}
use Rattle.cov_view.proofs.changing.share_lines.Goals as goal

pub returns-in-Some-clause-ok : goal.returns-in-Some-clause-ok
returns-in-Some-clause-ok c =
    on_ok_weaker c.share.result
    (lines_set c.args.file.now (λ ls. ls ++ map old_line c.args.lines) c.args.rows.now c.index-rows-at.result c.in-Some.at c.share.new.self (sym c.requires ∙ c.in-Some.is))
    c.share.ensures.ok

pub returns-in-None-clause-ok : goal.returns-in-None-clause-ok
returns-in-None-clause-ok c = sym (none_found c.args.file.now (with_lines_by (λ ls. ls ++ map old_line c.args.lines)) c.args.rows.now (sym c.requires ∙ c.in-None.is))
