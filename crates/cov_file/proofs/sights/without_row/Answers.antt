use Rattle.std.proofs.Common.{sym, ◌∙◌, subst, None, position, nat_eq, ◌≡◌, List}
use Rattle.cov_base.specs.declared.file_row.FileRow.{FileRow}
use Rattle.cov_file.proofs.Forward.{none_taken_out}
use Rattle.cov_file.proofs.sights.without_row.Goals as goal

pub returns-in-None : goal.returns-in-None
returns-in-None c =
    sym (none_taken_out c.args.line c.args.rows
    (subst (λ (rows : List FileRow). position (λ (r : FileRow). nat_eq r.line c.args.line) rows ≡ None) (c.as_slice.ensures ∙ c.lend.ensures) (sym c.place_of.ensures.place ∙ c.in-None.is)))
