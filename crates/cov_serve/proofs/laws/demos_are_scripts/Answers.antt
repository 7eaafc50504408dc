use Rattle.cov_serve.proofs.DemoScript.{demos-are-scripts}
use Rattle.cov_serve.proofs.laws.demos_are_scripts.Goals as goal

pub returns : goal.returns
returns c = demos-are-scripts
