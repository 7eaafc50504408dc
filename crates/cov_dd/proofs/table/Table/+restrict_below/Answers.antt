use Rattle.std.proofs.Common.{refl, ◌∙◌}
use Rattle.cov_dd.proofs.Cofactors.{made_cofactor, both_restricted, still_unmet, joined_restricted, joined_cofactor}
use Rattle.cov_dd.proofs.table.Table.+restrict_below.Goals as goal

pub returns-in-Some-find-clause-stands : goal.returns-in-Some-find-clause-stands
returns-in-Some-find-clause-stands t c = made_cofactor c.args.option c.args.on c.args.self.now c.args.memo.now.made (record { left = c.args.a; right = 0 }) c.in-Some-find.node c.requires.right c.in-Some-find.ensures.some

pub returns-in-Err-restrict_below-clause-restricts : goal.returns-in-Err-restrict_below-clause-restricts
returns-in-Err-restrict_below-clause-restricts t c =
    both_restricted c.requires.a (c.new-first.ensures ∙ c.top_of.ensures.top) c.in_default.ensures.none c.sides-sides.ensures c.in-Ok.ensures.restricts c.in-Err-restrict_below.ensures.restricts

pub join-requires-clause-fresh : goal.join-requires-clause-fresh
join-requires-clause-fresh t c =
    still_unmet c.requires.a (c.new-first.ensures ∙ c.top_of.ensures.top) c.in_default.ensures.none c.sides-sides.ensures c.in-Ok.ensures.restricts c.in-Ok-restrict_below.ensures.restricts
    (record { left = c.args.a; right = 0 }) refl c.in_default-find.ensures.none

pub returns-clause-restricts : goal.returns-clause-restricts
returns-clause-restricts t c =
    joined_restricted c.requires.a (c.new-first.ensures ∙ c.top_of.ensures.top) c.in_default.ensures.none c.sides-sides.ensures c.in-Ok.ensures.restricts c.in-Ok-restrict_below.ensures.restricts
    c.in-Ok.ensures.stands c.in-Ok-restrict_below.ensures.stands
    (record { left = c.args.a; right = 0 }) (record { option = c.new-first.result; off = c.in-Ok.node; on = c.in-Ok-restrict_below.node }) refl refl refl refl refl
    c.join.new.self c.join.new.memo.made _ _ c.join.result c.join.ensures.ok c.join.ensures.err

pub returns-clause-stands : goal.returns-clause-stands
returns-clause-stands t c =
    joined_cofactor c.requires.a (c.new-first.ensures ∙ c.top_of.ensures.top) c.in_default.ensures.none c.sides-sides.ensures c.in-Ok.ensures.restricts c.in-Ok-restrict_below.ensures.restricts
    c.in-Ok.ensures.stands c.in-Ok-restrict_below.ensures.stands
    (record { left = c.args.a; right = 0 }) (record { option = c.new-first.result; off = c.in-Ok.node; on = c.in-Ok-restrict_below.node }) refl refl refl refl refl
    c.join.new.self c.join.new.memo.made _ _ c.join.result c.join.ensures.ok
