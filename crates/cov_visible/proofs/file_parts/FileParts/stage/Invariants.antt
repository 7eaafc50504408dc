use Rattle.std.proofs.Common.{◌≡◌, ◌++◌, length, map, take}
use Rattle.cov_visible.specs.Staging.{contents, new_contents, made_files}
use Rattle.cov_visible.proofs.file_parts.FileParts.stage.Given as goal

abbrev pub invariant-loop-ahead : goal.invariant-loop-ahead
invariant-loop-ahead l = record {
  all : map contents l.self-inside.parts.items ++ map new_contents (made_files l.ahead) ≡ map contents l.initial.self-inside.parts.items ++ map new_contents (made_files l.edits);
  front : take (length l.initial.self-inside.parts.items) l.self-inside.parts.items ≡ l.initial.self-inside.parts.items;
}

abbrev pub decreases-loop-ahead : goal.decreases-loop-ahead
decreases-loop-ahead l = length l.ahead
