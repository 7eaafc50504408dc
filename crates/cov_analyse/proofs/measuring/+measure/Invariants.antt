use Rattle.cov_analyse.proofs.measuring.+measure.Given as goal

abbrev pub decreases-measure : goal.decreases-measure
decreases-measure l = l.steps
