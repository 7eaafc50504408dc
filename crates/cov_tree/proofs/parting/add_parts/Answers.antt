use Rattle.std.proofs.lemmas.Result.{on_ok_weaker}
use Rattle.cov_dd.proofs.CallerLemmas.{extends_trans}
use Rattle.cov_tree.proofs.Parts.{adds_parts}
use Rattle.cov_tree.proofs.parting.add_parts.Goals as goal

pub returns-clause-extends : goal.returns-clause-extends
returns-clause-extends c = extends_trans c.args.table.now c.add_outside.new.table c.add_shifted.new.table c.in_ok-add_outside.ensures.extends c.add_shifted.ensures.extends

pub returns-clause-ok : goal.returns-clause-ok
returns-clause-ok c =
    on_ok_weaker c.add_shifted.result
    (adds_parts c.args.table.now c.add_outside.new.table c.add_shifted.new.table c.in_ok-add_outside.ensures.extends c.args.made.now c.add_outside.new.made c.add_shifted.new.made
    c.args.place.now c.args.ambition c.args.shift.now c.requires.place c.requires.ambition c.in_ok-add_outside.ensures.ok)
    c.add_shifted.ensures.ok
