use Rattle.std.proofs.Common.{sym, subst}
use Rattle.cov_visible.specs.Resolved.{AreOfTable, AreResolvedWith}
use Rattle.cov_visible.proofs.Resolved.{own-of_table, own-resolved}
use Rattle.cov_visible.proofs.resolving.resolve.Goals as goal

pub resolve_onto-requires-clause-inserted : goal.resolve_onto-requires-clause-inserted
resolve_onto-requires-clause-inserted c =
    subst (AreOfTable c.args.table.now) (sym c.as_slice.ensures.value)
    (own-of_table c.args.table.now c.args.context.now.lines c.args.conditions.now c.args.edits.now c.in_ok-inserted.inserted.items c.requires.conditions c.in_ok-inserted.ensures)

pub returns-in-Ok-clause-resolved : goal.returns-in-Ok-clause-resolved
returns-in-Ok-clause-resolved c =
    let k = c.args.context.now in
    own-resolved c.resolve_onto.new.table k.at c.args.files.now k.nodes k.lines c.args.conditions.now c.args.edits.now c.resolve_onto.new.resolved.items c.in_ok-inserted.inserted.items c.in_ok-inserted.ensures
    (subst (λ own. AreResolvedWith own k c.args.files.now c.resolve_onto.new.table c.args.conditions.now c.args.edits.now c.resolve_onto.new.resolved.items) c.as_slice.ensures.value
    (c.in-Ok.ensures.resolved c.new-resolved.ensures.items))
