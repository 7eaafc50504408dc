use Rattle.std.proofs.Common.{rules, arith, ◌≡◌, ◌++◌, length, Err, ◌∙◌, ap, sym, subst}
use Rattle.cov_base.specs.declared.error.MemoryOr.TheVariants.{Memory}
use Rattle.cov_replica.specs.Reading.{TakesPiece}
use Rattle.cov_replica.proofs.Steps.{caught_up}
use Rattle.cov_replica.proofs.Telling.{fault_taken, fed_part, fed_whole, none_is, not_both, told_again, told_found}
use Rattle.cov_replica.proofs.replica.Replica.feed.Goals as goal

pub returns-then-is_some-clause-feeds : goal.returns-then-is_some-clause-feeds
returns-then-is_some-clause-feeds c =
    let r = c.self.inside.reading in
    let fault = fault_taken r.bytes.items c.args.self.now r.at r.digest r.engine.history c.self.inside.fault c.self.invariant c.self.view_is in
    (told_again (Unit {0}) c.args.self.now c.args.piece.now c.self.inside.fault c.answer.result fault (sym c.is_some.ensures ∙ c.if-is_some.true) c.answer.ensures.none c.answer.ensures.some).0

pub returns-then-is_some-clause-tells : goal.returns-then-is_some-clause-tells
returns-then-is_some-clause-tells c =
    let r = c.self.inside.reading in
    let fault = fault_taken r.bytes.items c.args.self.now r.at r.digest r.engine.history c.self.inside.fault c.self.invariant c.self.view_is in
    (told_again (Unit {0}) c.args.self.now c.args.piece.now c.self.inside.fault c.answer.result fault (sym c.is_some.ensures ∙ c.if-is_some.true) c.answer.ensures.none c.answer.ensures.some).1

pub returns-in-Ok-clause-feeds : goal.returns-in-Ok-clause-feeds
returns-in-Ok-clause-feeds c =
    let r = c.self.inside.reading in
    let fault = fault_taken r.bytes.items c.args.self.now r.at r.digest r.engine.history c.self.inside.fault c.self.invariant c.self.view_is in
    let none = fault ∙ none_is c.self.inside.fault (sym c.is_some.ensures ∙ c.if-is_some.false) in
    fed_whole c.args.self.now c.args.piece.now c.feed.new.self.bytes.items none (c.in-Ok.ensures.bytes ∙ ap (λ b. b ++ c.args.piece.now) c.self.view_is)

pub returns-in-Ok-clause-tells : goal.returns-in-Ok-clause-tells
returns-in-Ok-clause-tells c =
    let n = c.feed.new.self in
    ap (λ t. t.fault) (caught_up n.bytes.items n.at n.digest n.engine.history c.in-Ok.ensures.reads)

pub returns-in-Ok-clause-again : goal.returns-in-Ok-clause-again
returns-in-Ok-clause-again c some is =
    let r = c.self.inside.reading in
    let fault = fault_taken r.bytes.items c.args.self.now r.at r.digest r.engine.history c.self.inside.fault c.self.invariant c.self.view_is in
    let none = fault ∙ none_is c.self.inside.fault (sym c.is_some.ensures ∙ c.if-is_some.false) in
    absurd (not_both c.args.self.now some none is)

pub returns-in-Err-Refused-clause-feeds : goal.returns-in-Err-Refused-clause-feeds
returns-in-Err-Refused-clause-feeds c =
    let r = c.self.inside.reading in
    let n = c.feed.new.self in
    let fault = fault_taken r.bytes.items c.args.self.now r.at r.digest r.engine.history c.self.inside.fault c.self.invariant c.self.view_is in
    let none = fault ∙ none_is c.self.inside.fault (sym c.is_some.ensures ∙ c.if-is_some.false) in
    let bytes = rw c.in-Err-Refused.field-0-is at c.in-Err-Refused.ensures.bytes in
    let reads = rw c.in-Err-Refused.field-0-is at c.in-Err-Refused.ensures.reads in
    (told_found (Unit {0}) c.args.self.now c.args.piece.now n.bytes.items n.engine.history c.in-Err-Refused.fault c.answer-in-Err-Refused.result none
    (bytes ∙ ap (λ b. b ++ c.args.piece.now) c.self.view_is) reads c.answer-in-Err-Refused.ensures.none c.answer-in-Err-Refused.ensures.some).0

pub returns-in-Err-Refused-clause-tells : goal.returns-in-Err-Refused-clause-tells
returns-in-Err-Refused-clause-tells c =
    let r = c.self.inside.reading in
    let n = c.feed.new.self in
    let fault = fault_taken r.bytes.items c.args.self.now r.at r.digest r.engine.history c.self.inside.fault c.self.invariant c.self.view_is in
    let none = fault ∙ none_is c.self.inside.fault (sym c.is_some.ensures ∙ c.if-is_some.false) in
    let bytes = rw c.in-Err-Refused.field-0-is at c.in-Err-Refused.ensures.bytes in
    let reads = rw c.in-Err-Refused.field-0-is at c.in-Err-Refused.ensures.reads in
    (told_found (Unit {0}) c.args.self.now c.args.piece.now n.bytes.items n.engine.history c.in-Err-Refused.fault c.answer-in-Err-Refused.result none
    (bytes ∙ ap (λ b. b ++ c.args.piece.now) c.self.view_is) reads c.answer-in-Err-Refused.ensures.none c.answer-in-Err-Refused.ensures.some).1

pub returns-in-Err-Refused-clause-again : goal.returns-in-Err-Refused-clause-again
returns-in-Err-Refused-clause-again c some is =
    let r = c.self.inside.reading in
    let fault = fault_taken r.bytes.items c.args.self.now r.at r.digest r.engine.history c.self.inside.fault c.self.invariant c.self.view_is in
    let none = fault ∙ none_is c.self.inside.fault (sym c.is_some.ensures ∙ c.if-is_some.false) in
    absurd (not_both c.args.self.now some none is)

pub returns-in-Err-Memory-clause-feeds : goal.returns-in-Err-Memory-clause-feeds
returns-in-Err-Memory-clause-feeds c =
    let r = c.self.inside.reading in
    let n = c.feed.new.self in
    let fault = fault_taken r.bytes.items c.args.self.now r.at r.digest r.engine.history c.self.inside.fault c.self.invariant c.self.view_is in
    let none = fault ∙ none_is c.self.inside.fault (sym c.is_some.ensures ∙ c.if-is_some.false) in
    let bytes = rw c.in-Err-Memory.field-0-is at c.in-Err-Memory.ensures.bytes in
    let after : c.len.result ≡ length n.bytes.items = search (rules, arith) in
    let before : c.len-before.result ≡ length r.bytes.items = search (rules, arith) in
    fed_part c.args.self.now c.args.piece.now n.bytes.items c.len.result c.len-before.result none
    (subst (λ b. TakesPiece {X = Unit {0}} b c.args.piece.now n.bytes.items (Err Memory)) c.self.view_is bytes) after (before ∙ ap length c.self.view_is)

pub returns-in-Err-Memory-clause-tells : goal.returns-in-Err-Memory-clause-tells
returns-in-Err-Memory-clause-tells c =
    let n = c.feed.new.self in
    let reads = rw c.in-Err-Memory.field-0-is at c.in-Err-Memory.ensures.reads in
    ap (λ t. t.fault) (caught_up n.bytes.items n.at n.digest n.engine.history reads)

pub returns-in-Err-Memory-clause-again : goal.returns-in-Err-Memory-clause-again
returns-in-Err-Memory-clause-again c some is =
    let r = c.self.inside.reading in
    let fault = fault_taken r.bytes.items c.args.self.now r.at r.digest r.engine.history c.self.inside.fault c.self.invariant c.self.view_is in
    let none = fault ∙ none_is c.self.inside.fault (sym c.is_some.ensures ∙ c.if-is_some.false) in
    absurd (not_both c.args.self.now some none is)
