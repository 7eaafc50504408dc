use Rattle.cov_expr.specs.ExpressionText.{text_of}
use Rattle.cov_expr.specs.Naming.{with_names}
use Rattle.cov_expr.specs.Options.{option_name}
use Rattle.cov_expr.proofs.NamesBack.{option_words, bound_again}
use Rattle.cov_expr.proofs.Texts.{text_is, text_read}
use Rattle.cov_expr.proofs.laws.texts_give_their_expressions.Goals as goal

pub returns-clause-spells : goal.returns-clause-spells
returns-clause-spells c = λ names e spelt within. text_is (option_name names) e (option_words names spelt e within)

pub returns-clause-reads : goal.returns-clause-reads
returns-clause-reads c = λ names e count spelt within.
    text_read (text_of (option_name names) e) (with_names names e) count (text_is (option_name names) e (option_words names spelt e within))

pub returns-clause-binds : goal.returns-clause-binds
returns-clause-binds c = λ names e. bound_again names e
