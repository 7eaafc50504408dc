use Rattle.std.proofs.lemmas.Result.{on_ok_weaker}
use Rattle.cov_file.specs.Dated.{line_numbers_of}
use Rattle.cov_file.specs.Rooms.{IsMade}
use Rattle.cov_visible.specs.Carrying.{IsExpectingInsert}
use Rattle.cov_visible.proofs.Rising.{found-place, no-place}
use Rattle.cov_visible.proofs.StoredFiles.{set-contents, one-changed, none-changed}
use Rattle.cov_visible.proofs.file_staging.expect_insert.Goals as goal

pub returns-in-Some-clause-same : goal.returns-in-Some-clause-same
returns-in-Some-clause-same c = set-contents c.args.files.now c.in-Some.at c.index-files-at.result c.expect_insert.new.self c.expect_insert.ensures.same

pub returns-in-Some-clause-room : goal.returns-in-Some-clause-room
returns-in-Some-clause-room c =
    on_ok_weaker c.expect_insert.result
    (λ (room : IsMade c.expect_insert.new.self.lines.room (line_numbers_of c.expect_insert.new.self.lines.lines) c.expect_insert.new.self.lines.coming.inserts c.expect_insert.new.self.lines.coming.deletes).
    one-changed c.args.file IsExpectingInsert c.args.files.now c.in-Some.at c.index-files-at.result c.expect_insert.new.self c.requires.rising (found-place _ c.args.file _ _ c.index_of.ensures.place c.in-Some.is)
    (record { row = c.expect_insert.ensures.same; inserts = c.expect_insert.ensures.inserts; deletes = c.expect_insert.ensures.deletes; room = room }))
    c.expect_insert.ensures.room

pub returns-in-None-clause-room : goal.returns-in-None-clause-room
returns-in-None-clause-room c = none-changed c.args.file IsExpectingInsert c.args.files.now (no-place _ c.args.file _ c.index_of.ensures.place c.in-None.is)
