use Rattle.std.proofs.Common.{ap, ◌∙◌}
use Rattle.cov_script.specs.Fields.{is_plain, digits_onto, narrowed}
use Rattle.cov_script.proofs.Numbers.{narrowed-is}
use Rattle.cov_script.proofs.number.read_number.Goals as goal

pub returns : goal.returns
returns c = c.narrow.ensures ∙ ap narrowed c.read_long_number.ensures ∙ narrowed-is (is_plain c.args.bytes.now) (digits_onto 0 c.args.bytes.now)
