-- What is read of one variant is what the replay has.
use Rattle.std.proofs.Common.{◌≡◌, ℕ, Bool, List, [], Option, Some, None, map, take, refl, sym, subst}
use Rattle.cov_dd.specs.declared.triple.Triple.{Triple}
use Rattle.cov_edit.specs.declared.command.Command.{Command}
use Rattle.cov_edit.specs.History.{option_count}
use Rattle.cov_edit.specs.Replay.{replay}
use Rattle.cov_edit.specs.Variant.{Line, lines_of}
use Rattle.cov_history.specs.Files.{dated, file_dated}
use Rattle.cov_history.specs.Kept.{Kept, kept_of}
use Rattle.cov_history.specs.Verdict.{IsLegal}
use Rattle.cov_tree.specs.Dated.{Dated}
use Rattle.cov_visible.specs.declared.file_part.FilePart.{FilePart}
use Rattle.cov_overtaking.specs.declared.mark.CommitMark.{CommitMark}
use Rattle.cov_engine.specs.Holdings.{AreRowsAndLinesOf}
use Rattle.cov_visible.specs.Nodes.{AreDated}
use Rattle.cov_visible.specs.Parts.{part_of}
use Rattle.cov_visible.specs.Reading.{line_row, stored_rows}
use Rattle.cov_engine.proofs.FileLines.{file-rows}
use Rattle.cov_engine.proofs.FileOfLine.{stored-held, none-stored}

module _ (history : List Command) (ts : List Triple) (commits : List CommitMark) (file_of_line : List ℕ) (entries : Dated) (stored : List FilePart) (legal : IsLegal history) (held : AreRowsAndLinesOf history ts commits file_of_line entries stored) where
  -- the lines that are read of a file
  pub lines-read : (c : List Bool) (at file : ℕ) → stored_rows ts c at (part_of stored file) ≡ map line_row (lines_of (replay c (take at history)) file)
  lines-read c at file = by (part_of stored file) refl
    where
      by : (o : Option FilePart) → part_of stored file ≡ o → stored_rows ts c at o ≡ map line_row (lines_of (replay c (take at history)) file)
      by None h =
          file-rows ts c at file history []
          (subst (λ (ks : List (Kept Line)). AreDated ts (option_count history) (map dated ks) []) (sym (none-stored history ts commits file_of_line entries stored legal held file h)) tt)
      by (Some e) h =
          let own = stored-held history ts commits file_of_line entries stored legal held file e h in
          file-rows ts c at file history e.lines.lines (subst (λ f. AreDated ts (option_count history) (file_dated f (kept_of history)) e.lines.lines) own.0 own.1.lines)
