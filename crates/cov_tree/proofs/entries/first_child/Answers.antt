use Rattle.std.proofs.Common.{◌&&◌, position, take, sym, ap, ◌∙◌}
use Rattle.std.proofs.lemmas.List.{take_all}
use Rattle.cov_base.specs.Rows.{has_node}
use Rattle.cov_tree.specs.declared.dated.DatedEntry.{DatedEntry}
use Rattle.cov_tree.specs.Dated.{entry_at}
use Rattle.cov_tree.specs.Looking.{stands_in, earlier}
use Rattle.cov_tree.proofs.Rows.{taken}
use Rattle.cov_tree.proofs.Searching.{all_searched, one_more, place_never}
use Rattle.cov_tree.proofs.entries.first_child.Goals as goal

pub nodes-init : goal.nodes-init
nodes-init c = sym (place_never c.args.entries.now)

pub nodes-preserved : goal.nodes-preserved
nodes-preserved c =
    let test = λ (e : DatedEntry). stands_in c.args.table.now c.args.choice c.args.dir c.args.name.now (entry_at c.args.at e).places in
    let es = c.args.entries.now in
    let node = c.node-item.result in
    c.earlier-first.ensures
    ∙ (λ j. earlier (c.nodes.invariant j) (c.child_of-child.ensures j))
    ∙ one_more test (take c.nodes.node-index c.args.nodes.now) node es
    ∙ ap (λ ns. position (λ e. has_node e.node ns && test e) es) (sym (taken c.args.nodes.now c.nodes.node-index node c.nodes-test.true c.node-item.is))

pub returns : goal.returns
returns c =
    let test = λ (e : DatedEntry). stands_in c.args.table.now c.args.choice c.args.dir c.args.name.now (entry_at c.args.at e).places in
    let es = c.args.entries.now in
    record {
      place =
          c.nodes.invariant
          ∙ ap (λ ns. position (λ e. has_node e.node ns && test e) es) (take_all c.nodes.node-index c.args.nodes.now c.nodes-test.false)
          ∙ all_searched test c.args.nodes.now es c.requires.noted;
    }
