use Rattle.std.proofs.Common.{ap, subst, sym, ◌∙◌}
use Rattle.cov_base.specs.Rows.{AreOnce}
use Rattle.cov_tree.specs.Dated.{planned}
use Rattle.cov_tree.specs.Entries.{nodes_of, rows_in, AllAreWithin}
use Rattle.cov_tree.proofs.CallerLemmas.{newest_but_room, nodes_but_room}
use Rattle.cov_low_tests.proofs.tests.entries.add_two.Goals as goal

pub returns-clause-nodes : goal.returns-clause-nodes
returns-clause-nodes c =
    let newest = newest_but_room c.args.entries.now c.reserve.new.self c.in_ok-reserve.ensures.same in
    c.install.ensures.nodes ∙ ap (λ es. nodes_of (planned c.create.new.plan es)) newest ∙ c.in_ok-create.ensures.nodes

pub returns-clause-within : goal.returns-clause-within
returns-clause-within c =
    let same = c.in_ok-reserve.ensures.same in
    let newest = newest_but_room c.args.entries.now c.reserve.new.self same in
    let table = c.create.new.table in
    c.install.ensures.within table
    (λ p. subst (AllAreWithin table) (sym (nodes_but_room c.args.entries.now c.reserve.new.self same p)) (c.requires.within table p))
    (subst (λ es. AllAreWithin table (planned c.create.new.plan es)) (sym newest) c.in_ok-create.ensures.within)

pub returns-clause-once : goal.returns-clause-once
returns-clause-once c =
    let same = c.in_ok-reserve.ensures.same in
    let newest = newest_but_room c.args.entries.now c.reserve.new.self same in
    let table = c.create.new.table in
    c.install.ensures.once table
    (λ p d. subst (λ es. AreOnce (rows_in table d es)) (sym (nodes_but_room c.args.entries.now c.reserve.new.self same p)) (c.requires.once table p d))
    (λ d. subst (λ es. AreOnce (rows_in table d (planned c.create.new.plan es))) (sym newest) (c.in_ok-create.ensures.once d))
