use Rattle.std.proofs.Common.{subst, sym}
use Rattle.cov_base.specs.Rows.{AreOnce}
use Rattle.cov_tree.specs.Dated.{planned}
use Rattle.cov_tree.specs.Entries.{rows_in, AllAreWithin}
use Rattle.cov_tree.proofs.CallerLemmas.{newest_but_room, nodes_but_room}
use Rattle.cov_tree_bench.proofs.renaming.rename_file.Goals as goal

pub plan_rename-requires-clause-within : goal.plan_rename-requires-clause-within
plan_rename-requires-clause-within c = c.new-plan.ensures.within c.args.table.now c.args.entries.now c.requires.within

pub plan_rename-requires-clause-once : goal.plan_rename-requires-clause-once
plan_rename-requires-clause-once c = c.new-plan.ensures.once c.args.table.now c.args.entries.now c.requires.once

pub returns-clause-within : goal.returns-clause-within
returns-clause-within c =
    let same = c.in_ok-reserve.ensures.same in
    let table = c.plan_rename.new.table in
    let stays = c.nodes_stay.ensures.at c.args.table.now table c.args.entries.now c.plan_rename.ensures.extends c.requires.within in
    c.install.ensures.within table
    (λ p. subst (AllAreWithin table) (sym (nodes_but_room c.args.entries.now c.reserve.new.self same p)) (stays p))
    (subst (λ es. AllAreWithin table (planned c.plan_rename.new.plan es)) (sym (newest_but_room c.args.entries.now c.reserve.new.self same)) c.in_ok-plan_rename.ensures.within)

pub returns-clause-once : goal.returns-clause-once
returns-clause-once c =
    let same = c.in_ok-reserve.ensures.same in
    let table = c.plan_rename.new.table in
    let stays = c.once_stays.ensures.at c.args.table.now table c.args.entries.now c.plan_rename.ensures.extends c.requires.within c.requires.once in
    c.install.ensures.once table
    (λ p d. subst (λ es. AreOnce (rows_in table d es)) (sym (nodes_but_room c.args.entries.now c.reserve.new.self same p)) (stays p d))
    (λ d. subst (λ es. AreOnce (rows_in table d (planned c.plan_rename.new.plan es))) (sym (newest_but_room c.args.entries.now c.reserve.new.self same)) (c.in_ok-plan_rename.ensures.once d))
