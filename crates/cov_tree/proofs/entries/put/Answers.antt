use Rattle.std.proofs.Common.{◌≡◌, length, rules}
use Rattle.cov_tree.proofs.Indexing.{index_put}
use Rattle.cov_tree.proofs.entries.put.Goals as goal

pub returns-clause-indexed : goal.returns-clause-indexed
returns-clause-indexed c =
    let long : c.len.result ≡ length c.args.entries.now.items = search rules in
    index_put c.args.index.now.entries c.note_place.new.index.entries c.args.entries.now.items c.push_reserved.new.self.items c.args.at c.len.result c.args.entry
    (record {
      made = c.new.result;
      is = c.push_reserved.ensures.items;
      newest = λ j. record { node = c.new.ensures.node j; kind = c.new.ensures.kind j; places = c.new.ensures.places j };
      from = c.new.ensures.from;
      older = c.new.ensures.older;
    })
    c.requires.fresh long c.note_place.ensures.noted c.requires.indexed
