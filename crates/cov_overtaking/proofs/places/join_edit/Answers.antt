use Rattle.std.proofs.Common.{sym, ◌∙◌}
use Rattle.std.proofs.lemmas.Result.{on_ok_weaker}
use Rattle.cov_overtaking.proofs.Joining.{joined-are}
use Rattle.cov_overtaking.proofs.places.join_edit.Goals as goal

pub returns-in-Some-place_of-clause-are : goal.returns-in-Some-place_of-clause-are
returns-in-Some-place_of-clause-are c =
    on_ok_weaker c.join_at.result
    (λ joined. joined-are c.args.table.now c.join_at.new.table c.join_at.ensures.extends c.args.condition c.args.edit.now c.args.nodes.now c.args.each.now c.join_at.new.each c.requires.each c.requires.long
    c.in-Some.node (sym c.touched_by.ensures ∙ c.in-Some.is) c.in-Some-place_of.at c.in-Some-place_of.ensures joined)
    c.join_at.ensures.joined
