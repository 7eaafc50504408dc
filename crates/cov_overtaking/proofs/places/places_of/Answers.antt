use Rattle.std.proofs.Common.{sym, ◌∙◌}
use Rattle.cov_overtaking.proofs.Gathering.{alike-are, own-are}
use Rattle.cov_overtaking.proofs.places.places_of.Goals as goal

pub returns-then-all_are-clause-are : goal.returns-then-all_are-clause-are
returns-then-all_are-clause-are c = λ own.
    alike-are c.args.table.now c.first_or-first.result c.args.conditions.now c.args.nodes.now c.new.result c.args.edits.now (sym c.all_are.ensures ∙ c.if-all_are.true) c.requires.count c.new.ensures own

pub returns-clause-are : goal.returns-clause-are
returns-clause-are c = λ own.
    own-are c.args.table.now c.joined.new.table c.args.within c.args.conditions.now c.args.nodes.now c.in_ok-each.each c.args.edits.now c.in_ok-each.ensures.long c.in_ok-each.ensures.are own
