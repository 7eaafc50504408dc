use Rattle.std.proofs.Common.{sym, ◌∙◌}
use Rattle.std.proofs.lemmas.Result.{on_ok_weaker}
use Rattle.cov_view.specs.Lines.{after_ref}
use Rattle.cov_view.specs.Seen.{with_lines_by}
use Rattle.cov_view.proofs.Changes.{lines_set, none_found}
use Rattle.cov_view.proofs.changing.insert_line.Goals as goal

pub returns-in-Some-clause-ok : goal.returns-in-Some-clause-ok
returns-in-Some-clause-ok c =
    on_ok_weaker c.insert_after.result
    (lines_set c.args.file.now (after_ref c.args.after.now c.args.line) c.args.rows.now c.index-rows-at.result c.in-Some.at c.insert_after.new.self (sym c.requires ∙ c.in-Some.is))
    c.insert_after.ensures.ok

pub returns-in-None-clause-ok : goal.returns-in-None-clause-ok
returns-in-None-clause-ok c = sym (none_found c.args.file.now (with_lines_by (after_ref c.args.after.now c.args.line)) c.args.rows.now (sym c.requires ∙ c.in-None.is))
