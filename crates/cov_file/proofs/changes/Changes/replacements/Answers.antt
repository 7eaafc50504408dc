use Rattle.std.proofs.Common.{◌∙◌, ap, sym, subst, map, drop, reverse}
use Rattle.std.proofs.lemmas.List.{take_rest}
use Rattle.cov_file.specs.Dated.{newest_vis}
use Rattle.cov_file.specs.Kept.{LineChanges}
use Rattle.cov_file.specs.Renumbered.{node_of}
use Rattle.cov_values.specs.Replaced.{AreReplaced}
use Rattle.cov_file.proofs.Replaced.{newest_nodes}
use Rattle.cov_file.proofs.changes.Changes.replacements.Goals as goal

pub returns-in-true : goal.returns-in-true
returns-in-true c =
    subst (λ ns. AreReplaced c.put_all.new.replacements ns (drop c.args.first c.args.from.now))
    (ap (map node_of) c.as_slice.ensures.value ∙ sym (newest_nodes (reverse c.self.inside.earlier.items) c.self.inside.newest.items) ∙ ap (λ (v : LineChanges). map newest_vis v.lists) c.self.view_is)
    (subst (AreReplaced c.put_all.new.replacements (map node_of c.as_slice.result.now)) (take_rest c.as_slice-nodes.result.now c.args.first ∙ ap (drop c.args.first) c.as_slice-nodes.ensures) (c.put_all.ensures c.in-true.is))
