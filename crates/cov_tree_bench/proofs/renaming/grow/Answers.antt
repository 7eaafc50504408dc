use Rattle.std.proofs.Common.{subst, sym}
use Rattle.cov_base.specs.Rows.{AreOnce}
use Rattle.cov_tree.specs.Dated.{planned}
use Rattle.cov_tree.specs.Entries.{rows_in, AllAreWithin}
use Rattle.cov_tree.proofs.CallerLemmas.{newest_but_room, nodes_but_room}
use Rattle.cov_tree_bench.proofs.renaming.grow.Goals as goal

pub returns-clause-within : goal.returns-clause-within
returns-clause-within c =
    let same = c.in_ok-reserve.ensures.same in
    let table = c.make_all.new.table in
    c.install.ensures.within table
    (λ p. subst (AllAreWithin table) (sym (nodes_but_room c.args.entries.now c.reserve.new.self same p)) (c.requires.within table p))
    (subst (λ es. AllAreWithin table (planned c.make_all.new.plan es)) (sym (newest_but_room c.args.entries.now c.reserve.new.self same)) c.in_ok-make_all.ensures.within)

pub returns-clause-once : goal.returns-clause-once
returns-clause-once c =
    let same = c.in_ok-reserve.ensures.same in
    let table = c.make_all.new.table in
    c.install.ensures.once table
    (λ p d. subst (λ es. AreOnce (rows_in table d es)) (sym (nodes_but_room c.args.entries.now c.reserve.new.self same p)) (c.requires.once table p d))
    (λ d. subst (λ es. AreOnce (rows_in table d (planned c.make_all.new.plan es))) (sym (newest_but_room c.args.entries.now c.reserve.new.self same)) (c.in_ok-make_all.ensures.once d))
