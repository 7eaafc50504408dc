use Rattle.std.proofs.Common.{◌≡◌, Some, sym}
use Rattle.std.specs.Map.{lookup, set_value}
use Rattle.cov_tree.specs.Noted.{is_key}
use Rattle.cov_tree.proofs.Noting.{written}
use Rattle.cov_tree.proofs.noted.NotedNodes.note.Goals as goal

pub returns-in-Some-clause-kept : goal.returns-in-Some-clause-kept
returns-in-Some-clause-kept c =
    let old = c.args.self.now.nodes.entries in
    let new = (c.get_mut.follows.lender c.add.new.nodes).entries in
    let name = c.as_slice-name.result.now in
    let found : lookup (is_key c.args.place.now.parent name) old ≡ Some c.in-Some.nodes.now = sym c.in-Some.ensures.value in
    let is : new ≡ set_value (is_key c.args.place.now.parent name) old c.add.new.nodes = (c.get_mut.follows.holds c.add.new.nodes).0 in
    written old new c.args.place.now.parent name c.in-Some.nodes.now c.add.new.nodes found is c.add.ensures.kept
