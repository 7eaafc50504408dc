use Rattle.std.proofs.Common.{[]}
use Rattle.cov_order.proofs.Newest.{filled-in_order}
use Rattle.cov_order.proofs.laws.rising_lines_stand_in_order.Goals as goal

pub returns : goal.returns
returns c = λ t inserts table rising. filled-in_order t table [] inserts tt rising
