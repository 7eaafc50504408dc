use Rattle.std.proofs.Common.{ap, drop, length, arith}
use Rattle.std.proofs.lemmas.List.{length-drop, length-map}
use Rattle.cov_tree.specs.Renumbered.{list_visibilities, vis_of}
use Rattle.cov_tree.proofs.Numbering.{list_gets, taken_is}
use Rattle.cov_tree.proofs.renumbering.renumber_list.Goals as goal

pub returns-clause-list : goal.returns-clause-list
returns-clause-list c =
    let is = taken_is c.args.older.now.lists c.replace-places.new.self.lists c.replace.new.self.lists c.args.index c.new.result.items c.replace-places.result.items c.renumber_nodes-next.new.items.items c.replace.result.items c.replace-places.ensures.lists c.replace.ensures.lists in
    list_gets c.args.older.now.lists c.replace-places.new.self.lists c.replace.new.self.lists c.args.index c.new.result.items c.replace-places.result.items c.renumber_nodes-next.new.items.items c.replace.result.items c.replace-places.ensures.lists c.replace.ensures.lists
    (drop c.args.first c.args.from.now) c.renumber_nodes-next.ensures.items
    (omega (arith, c.requires.room, ap (λ l. length (list_visibilities l)) is, length-map c.replace-places.result.items vis_of, length-drop c.args.first c.args.from.now))
