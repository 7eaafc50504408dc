use Rattle.std.proofs.Common.{◌+◌, ◌≤◌, sym, subst}
use Rattle.cov_file.specs.Rooms.{DatedFile}
use Rattle.cov_visible.proofs.file_part.FilePart.expect_insert.Goals as goal

pub returns-clause-inserts : goal.returns-clause-inserts
returns-clause-inserts c = λ count within few.
    c.expect_insert.ensures.inserts count (subst (λ (f : DatedFile). count ≤ f.coming.inserts + 1) (sym c.note.ensures) within) few
