use Rattle.cov_history.proofs.KeptTexts.{lines-keep_texts}
use Rattle.cov_history.proofs.kept_laws.lines_keep_their_texts.Goals as goal

pub returns : goal.returns
returns c = lines-keep_texts
