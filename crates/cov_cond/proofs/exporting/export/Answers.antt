use Rattle.std.proofs.Common.{◌≡◌, [], false, map, None, Ok, sym, ap, subst, ◌∙◌}
use Rattle.std.specs.Prelude.{IfOk, IfErr}
use Rattle.std.specs.List.{AllByRecursion}
use Rattle.cov_edit.specs.History.{options_of}
use Rattle.cov_engine.specs.Visibility.{is_no_line}
use Rattle.cov_cond.specs.Exporting.{IsExportFaultOf}
use Rattle.cov_cond.specs.Writing.{present_row, writing, written}
use Rattle.cov_cond.proofs.Written.{rows-exported, rows-known}
use Rattle.cov_cond.proofs.exporting.export.Goals as goal

pub export_rows-requires : goal.export_rows-requires
export_rows-requires c =
    let history = c.args.engine.now.history in
    subst (AllByRecursion (λ r. is_no_line history r.line ≡ false)) (sym (c.as_slice.ensures ∙ c.in-Ok.ensures)) (rows-known history c.args.file)

pub returns-clause-lines : goal.returns-clause-lines
returns-clause-lines c =
    let history = c.args.engine.now.history in
    let same = ap (λ rs. written (options_of history) (writing history [] None) (map (present_row history) rs)) (c.as_slice.ensures ∙ c.in-Ok.ensures) ∙ rows-exported history c.args.file in
    subst (λ x. IfOk c.export_rows.result (λ lines. x ≡ Ok lines)) same c.export_rows.ensures.lines

pub returns-clause-fault : goal.returns-clause-fault
returns-clause-fault c =
    let history = c.args.engine.now.history in
    let same = ap (λ rs. written (options_of history) (writing history [] None) (map (present_row history) rs)) (c.as_slice.ensures ∙ c.in-Ok.ensures) ∙ rows-exported history c.args.file in
    subst (λ x. IfErr c.export_rows.result (IsExportFaultOf x)) same c.export_rows.ensures.fault
