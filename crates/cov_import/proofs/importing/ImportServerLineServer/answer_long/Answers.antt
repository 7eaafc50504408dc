use Rattle.cov_import.specs.Serving.{import_step, importing, long_unasked}
use Rattle.cov_import.proofs.Asked.{gives_nothing}
use Rattle.cov_import.proofs.importing.ImportServerLineServer.answer_long.Goals as goal

pub returns-clause-gives : goal.returns-clause-gives
returns-clause-gives c line long =
    let s = importing c.args.self.now in
    gives_nothing s (import_step s line) c.nothing.result (long_unasked s line long) c.nothing.ensures.text c.nothing.ensures.rows c.nothing.ensures.answer
