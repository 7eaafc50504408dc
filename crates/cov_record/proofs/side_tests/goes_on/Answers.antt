use Rattle.std.proofs.Common.{◌<◌, length, arith}
use Rattle.std.proofs.lemmas.Bool.Decides.{nat_tests}
use Rattle.cov_record.proofs.Grouping.{some-goes_on}
use Rattle.cov_record.proofs.side_tests.goes_on.Goals as goal

pub returns : goal.returns
returns c =
    let some : 0 < length c.args.edits.now = grind (arith, nat_tests, c.is_empty.ensures, c.if-is_empty.false) in
    some-goes_on c.args.edits.now c.args.side.now c.ends_with.result some c.ends_with.ensures.same c.ends_with.ensures.alike
