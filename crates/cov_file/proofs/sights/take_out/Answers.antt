use Rattle.std.proofs.Common.{nat_eq, not, rules}
use Rattle.std.proofs.lemmas.Fn.{filter_same}
use Rattle.cov_base.specs.declared.file_row.FileRow.{FileRow}
use Rattle.cov_file.proofs.sights.take_out.Goals as goal

pub returns : goal.returns
returns c = filter_same _ (λ (r : FileRow). not (nat_eq r.line c.args.line)) _ (λ x b f' k. search rules) _ _ c.retain.ensures
