use Rattle.std.proofs.Common.{◌≡◌, ◌++◌, ◌∙◌, ap, sym, subst, length, take_all, arith, ℕ, List}
use Rattle.std.proofs.lemmas.List.{length-map}
use Rattle.cov_dd.specs.Sweeps.{AreReached, AreRenumbered}
use Rattle.cov_dd.specs.declared.triple.Triple.{Triple}
use Rattle.cov_tree.specs.Renumbered.{AreNodes}
use Rattle.cov_engine.specs.States.{nodes_of, table_of}
use Rattle.cov_engine.proofs.Renumbered.{nodes-within, state-renumbered}
use Rattle.cov_engine.proofs.sweeping.sweep.Goals as goal
use Rattle.cov_engine.proofs.sweeping.sweep.Goals.{After-renumber}

pub sweep-requires : goal.sweep-requires
sweep-requires c =
    subst (AreNodes (table_of c.args.state.now)) (sym (c.in_ok-append_nodes.ensures.ok ∙ ap (λ l. l ++ nodes_of c.args.state.now) c.new-roots.ensures))
    (nodes-within c.args.state.now c.requires.kept)

-- the roots are the nodes that were kept
roots_are : (c : After-renumber) → c.append_nodes.new.into ≡ nodes_of c.args.state.now
roots_are c = c.in_ok-append_nodes.ensures.ok ∙ ap (λ l. l ++ nodes_of c.args.state.now) c.new-roots.ensures

as_many : (c : After-renumber) → length c.sweep.new.roots ≡ length (nodes_of c.args.state.now)
as_many c =
    let r = c.in_ok-sweep.ensures.roots in
    ap length r.is ∙ length-map c.append_nodes.new.into r.by ∙ ap length (roots_are c)

nodes_are : (c : After-renumber) → nodes_of c.renumber.new.state ≡ c.sweep.new.roots
nodes_are c = c.renumber.ensures.nodes ∙ take_all (length (nodes_of c.args.state.now)) c.sweep.new.roots (let few = as_many c in omega (arith, few))

pub returns-clause-kept : goal.returns-clause-kept
returns-clause-kept c =
    let b = (goal.at.returns-clause-kept c).After-renumber in
    state-renumbered c.args.state.now c.renumber.new.state c.sweep.new.self c.renumber.ensures.state
    (subst (λ (q : List ℕ × List ℕ). AreRenumbered (table_of c.args.state.now) c.sweep.new.self q.0 q.1) (λ j. (roots_are b j, sym (nodes_are b) j)) c.in_ok-sweep.ensures.roots)
    c.requires.kept

pub returns-clause-swept : goal.returns-clause-swept
returns-clause-swept c =
    let b = (goal.at.returns-clause-swept c).After-renumber in
    subst (λ (q : List Triple × List ℕ). AreReached q.0 q.1) (λ j. (sym c.renumber.ensures.state.table j, sym (nodes_are b) j)) c.in_ok-sweep.ensures.reached
