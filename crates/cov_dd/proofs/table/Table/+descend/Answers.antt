use Rattle.std.proofs.Common.{refl}
use Rattle.cov_dd.proofs.Descent.{no_runs, made_stands, both_runs, still_fresh, joined_runs, joined_stands}
use Rattle.cov_dd.proofs.table.Table.+descend.Goals as goal

pub returns-in-Some-clause-runs : goal.returns-in-Some-clause-runs
returns-in-Some-clause-runs g t c = no_runs c.args.operation c.args.self.now c.args.a c.args.b c.args.memo.now.made c.args.steps.now c.requires.right

pub returns-in-Some-find-clause-runs : goal.returns-in-Some-find-clause-runs
returns-in-Some-find-clause-runs g t c = no_runs c.args.operation c.args.self.now c.args.a c.args.b c.args.memo.now.made c.args.steps.now c.requires.right

pub returns-in-Some-find-clause-stands : goal.returns-in-Some-find-clause-stands
returns-in-Some-find-clause-stands g t c =
    made_stands c.args.operation c.args.self.now c.args.memo.now.made (record { left = c.args.a; right = c.args.b }) c.in-Some-find.node c.requires.right c.in-Some-find.ensures.some

pub returns-in-Err-descend-clause-runs : goal.returns-in-Err-descend-clause-runs
returns-in-Err-descend-clause-runs g t c =
    both_runs c.requires.a c.requires.b c.first_of-option.ensures.first c.sides-left.ensures c.sides-right.ensures c.in-Ok.ensures.runs c.in-Err-descend.ensures.runs

pub join-requires-clause-fresh : goal.join-requires-clause-fresh
join-requires-clause-fresh g t c =
    still_fresh c.requires.a c.requires.b c.first_of-option.ensures.first c.sides-left.ensures c.sides-right.ensures c.in-Ok.ensures.runs c.in-Ok-descend.ensures.runs
    (record { left = c.args.a; right = c.args.b }) refl refl c.in_default-find.ensures.none

pub returns-clause-runs : goal.returns-clause-runs
returns-clause-runs g t c =
    joined_runs c.requires.a c.requires.b c.first_of-option.ensures.first c.sides-left.ensures c.sides-right.ensures c.in-Ok.ensures.runs c.in-Ok-descend.ensures.runs c.in-Ok.ensures.stands c.in-Ok-descend.ensures.stands
    (record { left = c.args.a; right = c.args.b }) (record { option = c.first_of-option.result; off = c.in-Ok.off; on = c.in-Ok-descend.on }) refl refl refl refl refl c.join.new.self c.join.new.memo.made c.join.new.steps c.join.result c.join.ensures.ok c.join.ensures.err

pub returns-clause-stands : goal.returns-clause-stands
returns-clause-stands g t c =
    joined_stands c.requires.a c.requires.b c.first_of-option.ensures.first c.sides-left.ensures c.sides-right.ensures c.in-Ok.ensures.runs c.in-Ok-descend.ensures.runs c.in-Ok.ensures.stands c.in-Ok-descend.ensures.stands
    (record { left = c.args.a; right = c.args.b }) (record { option = c.first_of-option.result; off = c.in-Ok.off; on = c.in-Ok-descend.on }) refl refl refl refl refl c.join.new.self c.join.new.memo.made c.join.new.steps c.join.result c.join.ensures.ok
