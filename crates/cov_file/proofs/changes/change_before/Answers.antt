use Rattle.std.proofs.Common.{◌≡◌, ◌∙◌, ◌-◌, ap, reverse, slice_get, arith}
use Rattle.std.proofs.lemmas.Grind.{common_steps}
use Rattle.std.proofs.lemmas.Option.{gets}
use Rattle.cov_file.specs.Kept.{changes_before}
use Rattle.cov_file.proofs.Chains.{none_before, before_read}
use Rattle.cov_file.proofs.changes.change_before.Goals as goal
use Rattle.cov_file.proofs.changes.change_before.Goals.{After-copied}

pub returns-then-number-eq0-clause-changes : goal.returns-then-number-eq0-clause-changes
returns-then-number-eq0-clause-changes c = ap (changes_before (reverse c.args.earlier.now)) c.if-number-eq0.true ∙ none_before (reverse c.args.earlier.now)

-- the change that was read
read : (c : After-copied) → c.copied.result ≡ slice_get c.args.earlier.now (c.args.number - 1)
read c = grind (arith, common_steps, gets)

pub returns-clause-changes : goal.returns-clause-changes
returns-clause-changes c =
    (before_read c.args.earlier.now c.args.number c.copied.result c.requires.linked (omega arith) c.requires.end (read c)).0

pub returns-clause-falls : goal.returns-clause-falls
returns-clause-falls c =
    (before_read c.args.earlier.now c.args.number c.copied.result c.requires.linked (omega arith) c.requires.end (read c)).1
