use Rattle.cov_edit.specs.Numbering.{no_numbers}
use Rattle.cov_edit.proofs.Replays.{numbers_from-append}
use Rattle.cov_edit.proofs.laws.numbering_goes_on.Goals as goal

pub returns : goal.returns
returns c = numbers_from-append no_numbers
