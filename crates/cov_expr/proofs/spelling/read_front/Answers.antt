use Rattle.cov_expr.specs.declared.token.Token.TheVariants.{Word}
use Rattle.cov_expr.proofs.FrontReads.{front_read}
use Rattle.cov_expr.proofs.spelling.read_front.Goals as goal

pub returns-in_ok-word-in-Word : goal.returns-in_ok-word-in-Word
returns-in_ok-word-in-Word c =
    front_read _ c.args.text.now (Word c.in_ok-word-in-Word.word) c.in-Word.bytes _ c.in-Word.ensures.moves c.in-Word.ensures.fits
    (λ at. rw c.in_ok-word-in-Word.ensures (c.in-Word.ensures.lexed at))
    c.read_token.ensures.state c.read_token.ensures.bytes

pub returns-in-Sign : goal.returns-in-Sign
returns-in-Sign c =
    front_read _ c.args.text.now c.in-Sign.token 1 _ c.in-Sign.ensures.moves c.in-Sign.ensures.fits c.in-Sign.ensures.lexed
    c.read_token-in-Sign.ensures.state c.read_token-in-Sign.ensures.bytes
