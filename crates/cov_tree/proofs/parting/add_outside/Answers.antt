use Rattle.std.proofs.lemmas.Result.{on_ok_weaker}
use Rattle.cov_dd.proofs.CallerLemmas.{extends_trans}
use Rattle.cov_tree.proofs.Rows.{within-grown}
use Rattle.cov_tree.proofs.Parts.{adds_outside}
use Rattle.cov_tree.proofs.parting.add_outside.Goals as goal

pub put-requires-clause-places : goal.put-requires-clause-places
put-requires-clause-places c = within-grown c.args.table.now c.without.new.self c.in_ok-vis.ensures.extends c.args.made.now c.requires.made

pub returns-clause-extends : goal.returns-clause-extends
returns-clause-extends c = extends_trans c.args.table.now c.without.new.self c.put.new.table c.in_ok-vis.ensures.extends c.put.ensures.extends

pub returns-clause-ok : goal.returns-clause-ok
returns-clause-ok c =
    on_ok_weaker c.put.result
    (adds_outside c.args.table.now c.without.new.self c.put.new.table c.in_ok-vis.ensures.extends c.args.made.now c.put.new.self c.args.place.now c.in_ok-vis.vis c.args.ambition
    c.requires.made c.in_ok-vis.ensures.stands.value)
    c.put.ensures.ok
