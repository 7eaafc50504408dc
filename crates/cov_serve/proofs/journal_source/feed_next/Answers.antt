use Rattle.std.proofs.Common.{◌∙◌, ap}
use Rattle.cov_replica.specs.Feeding.{with_piece}
use Rattle.cov_serve.proofs.Feeding.{feeds_piece, reads_given}
use Rattle.cov_serve.proofs.journal_source.feed_next.Goals as goal

pub returns-in-Ok-feed-clause-fed : goal.returns-in-Ok-feed-clause-fed
returns-in-Ok-feed-clause-fed g c text left =
    feeds_piece text c.args.replica.now c.feed.new.replica c.read.new.self c.in-Ok.count (g.S.Source.left c.args.source.now) (g.S.Source.left c.read.new.source) left c.in-Ok.ensures.bytes
    (c.in-Ok-feed.ensures ∙ ap (with_piece c.args.replica.now) c.piece.ensures)

pub returns-in-Ok-feed-clause-left : goal.returns-in-Ok-feed-clause-left
returns-in-Ok-feed-clause-left g c =
    reads_given c.read.new.self c.in-Ok.count (g.S.Source.left c.args.source.now) (g.S.Source.left c.read.new.source) (g.S.Source.given c.args.source.now) (g.S.Source.given c.read.new.source)
    c.in-Ok.ensures.bytes c.in-Ok.ensures.fits c.in-Ok.ensures.given

pub returns-in-Err-feed-clause-left : goal.returns-in-Err-feed-clause-left
returns-in-Err-feed-clause-left g c =
    reads_given c.read.new.self c.in-Ok.count (g.S.Source.left c.args.source.now) (g.S.Source.left c.read.new.source) (g.S.Source.given c.args.source.now) (g.S.Source.given c.read.new.source)
    c.in-Ok.ensures.bytes c.in-Ok.ensures.fits c.in-Ok.ensures.given
