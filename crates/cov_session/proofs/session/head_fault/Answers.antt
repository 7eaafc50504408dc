use Rattle.std.proofs.Common.{◌∙◌, sym, ap, Some, None}
use Rattle.cov_session.proofs.Heads.{head-fault}
use Rattle.cov_session.proofs.session.head_fault.Goals as goal

pub returns-in-None : goal.returns-in-None
returns-in-None c = λ ns table v shows.
    head-fault ns v c.args.file None (sym c.in-None.is ∙ c.kind.ensures.shown ns table v shows)

pub returns-in-Some-Dir : goal.returns-in-Some-Dir
returns-in-Some-Dir c = λ ns table v shows.
    head-fault ns v c.args.file (Some _) (sym (c.in-Some-Dir.is ∙ ap (λ k. Some k) c.in-Some-Dir.field-0-is) ∙ c.kind.ensures.shown ns table v shows)

pub returns-in-Some-File : goal.returns-in-Some-File
returns-in-Some-File c = λ ns table v shows.
    head-fault ns v c.args.file (Some _) (sym (c.in-Some-File.is ∙ ap (λ k. Some k) c.in-Some-File.field-0-is) ∙ c.kind.ensures.shown ns table v shows)
