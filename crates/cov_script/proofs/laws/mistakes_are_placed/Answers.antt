use Rattle.cov_script.proofs.Mistaken.{mistaken_as_read, too_long_as_read, each_told}
use Rattle.cov_script.proofs.Refused.{mistake_refused, too_long_refused}
use Rattle.cov_script.proofs.laws.mistakes_are_placed.Goals as goal

pub returns-clause-places : goal.returns-clause-places
returns-clause-places c = λ line at.
    (mistake_refused c.reading_follows_grammar.ensures line at, mistaken_as_read c.reading_follows_grammar.ensures line at)

pub returns-clause-long : goal.returns-clause-long
returns-clause-long c = λ line.
    (too_long_refused c.reading_follows_grammar.ensures line, too_long_as_read c.reading_follows_grammar.ensures line)

pub returns-clause-all : goal.returns-clause-all
returns-clause-all c = each_told c.reading_follows_grammar.ensures
