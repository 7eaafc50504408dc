use Rattle.std.proofs.Common.{ap, ◌∙◌, subst, arith, ◌+◌, length, length-drop}
use Rattle.std.proofs.lemmas.List.{drop-drop}
use Rattle.cov_expr.specs.Reading.{read_lexed}
use Rattle.cov_expr.specs.Readings.{state_of}
use Rattle.cov_expr.specs.FrontReads.{HasTokens}
use Rattle.cov_expr.specs.Tokens.{tokens_from}
use Rattle.cov_expr.proofs.Fronts.{started-IsFront, front-nots}
use Rattle.cov_expr.proofs.FrontReads.{read_at, led_on}
use Rattle.cov_expr.proofs.spelling.read_tokens.Goals as goal

-- no more ! stand together than there are bytes
pub read_front-requires-clause-few : goal.read_front-requires-clause-few
read_front-requires-clause-few c =
    let s = state_of c.loop-at.reading in
    let led = c.loop-at.invariant.led in
    omega (arith, c.requires.short, c.loop-at.invariant.within, led.1, front-nots s led.0 (started-IsFront led.0 s led.2))

pub loop-at-preserved : goal.loop-at-preserved
loop-at-preserved c =
    let bytes = c.args.bytes.now in
    let at = c.loop-at.at in
    let front = c.in-Some.front in
    let read = read_at bytes at (state_of c.loop-at.reading) c.in_ok-read_front.field-0 front c.in_ok-read_front.ensures c.in-Some.is in
    let rest = drop-drop front.bytes at bytes in
    record {
      within = omega (arith, read.1, length-drop at bytes);
      tokens = subst (λ x. HasTokens (tokens_from (at + front.bytes) 0 x)) rest (read.2 at c.loop-at.invariant.tokens);
      ahead = c.loop-at.invariant.ahead ∙ read.3 at (length bytes) ∙ ap (λ x. read_lexed (tokens_from (at + front.bytes) 0 x) (length bytes) (state_of front.reading)) rest;
      led = led_on at front.bytes (state_of c.loop-at.reading) (state_of front.reading) read.0 c.loop-at.invariant.led read.4;
    }
