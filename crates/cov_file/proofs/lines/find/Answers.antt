use Rattle.std.proofs.Common.{◌≡◌, sym, ap, ◌∙◌, Some, arith}
use Rattle.std.proofs.lemmas.Bool.Decides.{nat_tests}
use Rattle.cov_file.proofs.Finding.{found_at}
use Rattle.cov_file.proofs.lines.find.Goals as goal

pub returns-in-Some-clause-index : goal.returns-in-Some-clause-index
returns-in-Some-clause-index c =
    let same : c.in-Some.other.now ≡ c.args.line = grind (arith, nat_tests, c.eq.ensures, c.if-eq.true) in
    found_at c.args.line c.args.texts.now.entries c.args.first c.in-Some.text.now c.len-count.ensures.unique (sym c.in-Some.ensures.entry ∙ ap (λ n. Some (n, c.in-Some.text.now)) same)
