use Rattle.std.proofs.Common.{not, rules}
use Rattle.std.proofs.lemmas.Fn.{filter_same}
use Rattle.cov_view.specs.References.{same_line}
use Rattle.cov_view.specs.declared.line.ViewLine.{ViewLine}
use Rattle.cov_view.proofs.line.delete.Goals as goal

pub returns : goal.returns
returns c =
    filter_same _ (λ (l : ViewLine). not (same_line l.line c.args.line.now)) _ (λ x b f' k. search rules) _ _ c.retain.ensures
