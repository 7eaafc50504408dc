use Rattle.cov_import.proofs.Refusing.{follows}
use Rattle.cov_import.proofs.taking.take_text.Goals as goal

pub returns-in-Ok-clause-follow : goal.returns-in-Ok-clause-follow
returns-in-Ok-clause-follow c =
    (follows c.import_is_accepted.ensures c.args.server.now.state.history c.history_is_legal.ensures c.args.path.now c.requires.named c.requires.spelt
    c.args.text.now c.requires.fits c.in-Ok.commits.commands c.in-Ok.ensures.commits).0

pub returns-in-Ok-clause-few : goal.returns-in-Ok-clause-few
returns-in-Ok-clause-few c =
    (follows c.import_is_accepted.ensures c.args.server.now.state.history c.history_is_legal.ensures c.args.path.now c.requires.named c.requires.spelt
    c.args.text.now c.requires.fits c.in-Ok.commits.commands c.in-Ok.ensures.commits).1
