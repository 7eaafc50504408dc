use Rattle.std.proofs.Common.{sym, ◌∙◌}
use Rattle.std.proofs.lemmas.List.Sums.{prefix_len-le-length}
use Rattle.cov_expr.specs.Tokens.{goes_on}
use Rattle.cov_expr.proofs.Lexing.{word_lexed, word_moves}
use Rattle.cov_expr.proofs.token.lexeme_of.Goals as goal

pub returns-then-is_first_byte-clause-lexed : goal.returns-then-is_first_byte-clause-lexed
returns-then-is_first_byte-clause-lexed c = λ at.
    rw c.word_len.ensures (word_lexed at c.args.text.now c.requires (sym c.is_first_byte.ensures ∙ c.if-is_first_byte.true))

pub returns-then-is_first_byte-clause-fits : goal.returns-then-is_first_byte-clause-fits
returns-then-is_first_byte-clause-fits c = rw c.word_len.ensures (prefix_len-le-length goes_on c.args.text.now)

pub returns-then-is_first_byte-clause-moves : goal.returns-then-is_first_byte-clause-moves
returns-then-is_first_byte-clause-moves c = rw c.word_len.ensures (word_moves c.args.text.now c.requires (sym c.is_first_byte.ensures ∙ c.if-is_first_byte.true))
