use Rattle.std.proofs.Common.{◌∙◌, sym}
use Rattle.cov_base.specs.Spelling.{parts_of}
use Rattle.cov_base.proofs.Paths.{path_behind_slash, path_read, unnamed}
use Rattle.cov_base.proofs.name.Path.read.Goals as goal

pub returns-in-Some-eq47-default-2-clause-ok : goal.returns-in-Some-eq47-default-2-clause-ok
returns-in-Some-eq47-default-2-clause-ok c =
    let arm = c.in-Some-eq47-default in
    path_read c.args.bytes.now (parts_of arm.rest.now) c.read_names.result
    (path_behind_slash c.args.bytes.now arm.rest.now arm.field-0-0.now arm.ensures.cases.0 arm.field-0-0-test (sym c.is_empty.ensures ∙ c.if-is_empty.false)) c.read_names.ensures.names
    c.read_names.ensures.spelling

pub returns-in-Some-eq47-default-2-clause-refused : goal.returns-in-Some-eq47-default-2-clause-refused
returns-in-Some-eq47-default-2-clause-refused c = λ refused.
    let arm = c.in-Some-eq47-default in
    path_behind_slash c.args.bytes.now arm.rest.now arm.field-0-0.now arm.ensures.cases.0 arm.field-0-0-test (sym c.is_empty.ensures ∙ c.if-is_empty.false)
    ∙ unnamed (parts_of arm.rest.now) (c.read_names.ensures.refused refused)
