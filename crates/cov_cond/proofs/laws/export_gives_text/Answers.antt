use Rattle.cov_cond.proofs.Exported.{export-gives}
use Rattle.cov_cond.proofs.laws.export_gives_text.Goals as goal

pub returns : goal.returns
returns c =
    export-gives c.tests_have_one_listing.ensures c.reading_follows_grammar.ensures c.texts_give_their_expressions.ensures.reads
    c.texts_give_their_expressions.ensures.binds
