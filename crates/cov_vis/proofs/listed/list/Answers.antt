use Rattle.std.proofs.Common.{◌≡◌, List, Bool, true, subst}
use Rattle.std.proofs.lemmas.Result.{IfOk-weaker}
use Rattle.cov_dd.specs.Diagrams.{value_in}
use Rattle.cov_vis.specs.Listings.{has_options_below, is_reduced, reads}
use Rattle.cov_vis.specs.Visiting.{Visits, listing_of_nodes}
use Rattle.cov_vis.specs.Decisions.{listing_of}
use Rattle.cov_vis.proofs.NodeTests.{as_low, as_one, as_read, as_reduced}
use Rattle.cov_vis.proofs.listed.list.Goals as goal

pub returns-clause-reduced : goal.returns-clause-reduced
returns-clause-reduced c =
    let visits = subst (λ ns. Visits c.args.table.now ns c.args.node c.visit.new.met) c.new-met.ensures c.in_ok-visit.ensures.visits in
    IfOk-weaker c.list_nodes.result (λ l. l ≡ listing_of_nodes c.args.table.now c.visit.new.met c.args.node) (λ l. is_reduced l ≡ true)
    (as_reduced c.args.table.now c.is_diagram.ensures c.args.node c.requires.within c.visit.new.met visits) c.list_nodes.ensures

pub returns-clause-reads : goal.returns-clause-reads
returns-clause-reads c =
    let visits = subst (λ ns. Visits c.args.table.now ns c.args.node c.visit.new.met) c.new-met.ensures c.in_ok-visit.ensures.visits in
    IfOk-weaker c.list_nodes.result (λ l. l ≡ listing_of_nodes c.args.table.now c.visit.new.met c.args.node) (λ l. (x : List Bool) → reads l x ≡ value_in c.args.table.now c.args.node x)
    (as_read c.args.table.now c.is_diagram.ensures c.args.node c.requires.within c.visit.new.met visits) c.list_nodes.ensures

pub returns-clause-options : goal.returns-clause-options
returns-clause-options c most few =
    let visits = subst (λ ns. Visits c.args.table.now ns c.args.node c.visit.new.met) c.new-met.ensures c.in_ok-visit.ensures.visits in
    IfOk-weaker c.list_nodes.result (λ l. l ≡ listing_of_nodes c.args.table.now c.visit.new.met c.args.node) (λ l. has_options_below most l ≡ true)
    (λ l is. as_low c.args.table.now c.is_diagram.ensures c.args.node c.requires.within c.visit.new.met visits l is most few) c.list_nodes.ensures

pub returns-clause-one : goal.returns-clause-one
returns-clause-one c most few =
    let visits = subst (λ ns. Visits c.args.table.now ns c.args.node c.visit.new.met) c.new-met.ensures c.in_ok-visit.ensures.visits in
    IfOk-weaker c.list_nodes.result (λ l. l ≡ listing_of_nodes c.args.table.now c.visit.new.met c.args.node) (λ l. l ≡ listing_of most (value_in c.args.table.now c.args.node))
    (λ l is. as_one c.args.table.now c.is_diagram.ensures c.args.node c.requires.within c.visit.new.met visits l is most few) c.list_nodes.ensures
