use Rattle.std.proofs.Common.{◌≡◌, ◌++◌, ◌∷◌, [], slice_index_or}
use Rattle.cov_file.specs.Dated.{line_numbers_of}
use Rattle.cov_file.specs.Rooms.{IsMade}
use Rattle.cov_visible.specs.Carrying.{IsExpectingDelete}
use Rattle.cov_visible.proofs.Rising.{found-place, no-place}
use Rattle.cov_visible.proofs.StoredFiles.{set-contents, one-changed, none-changed, on_both}
use Rattle.cov_visible.proofs.file_staging.expect_delete.Goals as goal

pub returns-in-Some-clause-same : goal.returns-in-Some-clause-same
returns-in-Some-clause-same c = set-contents c.args.files.now c.in-Some.at c.index-files-at.result c.expect_delete.new.self c.expect_delete.ensures.same

pub returns-in-Some-clause-room : goal.returns-in-Some-clause-room
returns-in-Some-clause-room c =
    on_both c.expect_delete.result (c.expect_delete.new.self.lines.coming.deletes ≡ (slice_index_or c.args.files.now c.in-Some.at c.index-files-at.result).lines.coming.deletes ++ c.args.line ∷ [])
    (IsMade c.expect_delete.new.self.lines.room (line_numbers_of c.expect_delete.new.self.lines.lines) c.expect_delete.new.self.lines.coming.inserts c.expect_delete.new.self.lines.coming.deletes) _
    (λ deletes room.
    one-changed c.args.file (IsExpectingDelete c.args.line) c.args.files.now c.in-Some.at c.index-files-at.result c.expect_delete.new.self c.requires.rising
    (found-place _ c.args.file _ _ c.index_of.ensures.place c.in-Some.is) (record { row = c.expect_delete.ensures.same; inserts = c.expect_delete.ensures.inserts; deletes = deletes; room = room }))
    c.expect_delete.ensures.deletes c.expect_delete.ensures.room

pub returns-in-None-clause-room : goal.returns-in-None-clause-room
returns-in-None-clause-room c = none-changed c.args.file (IsExpectingDelete c.args.line) c.args.files.now (no-place _ c.args.file _ c.index_of.ensures.place c.in-None.is)
