use Rattle.std.proofs.Common.{◌∙◌, [], sym}
use Rattle.cov_record.specs.Reading.{pushed}
use Rattle.cov_record.proofs.Forests.{bounded_gives}
use Rattle.cov_record.proofs.expression.take_parts.Goals as goal

pub returns : goal.returns
returns c =
    let signs = c.take_signs.new.signs.items in
    let tree = sym c.in-Ok-Some.ensures ∙ c.in-Ok-Some.field-0-is in
    let read = c.in_default.ensures in
    bounded_gives c.args.ahead.now (pushed signs []) c.in-Ok-Some.tree c.take_signs.new.ahead c.bounded.result read tree c.bounded.ensures.ok c.bounded.ensures.refused
