use Rattle.cov_file.specs.Sights.{shown_by}
use Rattle.cov_file.proofs.Replaced.{rows_replaced}
use Rattle.cov_file.proofs.lines.renumber_sights.Goals as goal

pub returns-in-Some : goal.returns-in-Some
returns-in-Some c = λ ls ls' replaced right.
    c.renumber.ensures (shown_by ls) (shown_by ls') (λ f g same. rows_replaced c.in-Some.by f g same ls ls' (replaced c.in-Some.by c.in-Some.ensures)) right
