use Rattle.std.proofs.Common.{◌≡◌, List, ℕ, Some}
use Rattle.cov_import.specs.Sources.{kept_lines, source_counts}
use Rattle.cov_io.specs.Progress.{CountsGiven, potential}
use Rattle.cov_loop.specs.Counts.{Counted}
use Rattle.cov_loop.specs.Turns.{ahead_of}
use Rattle.cov_import.proofs.Keeping.{KeepsOn}
use Rattle.cov_import.proofs.source.take_all.Given as goal

abbrev pub invariant-taking : goal.invariant-taking
invariant-taking g l = record {
  kept : (text : List ℕ) (before : List (List ℕ)) → ahead_of l.fn.lines (g.S.Source.left l.fn.source) ≡ Some text → l.fn.kept ≡ kept_lines before
      → KeepsOn before text l.kept (ahead_of l.lines (g.S.Source.left l.source));
  counted : Counted l.fn.lines l.lines
      (source_counts (g.S.Source.faults l.fn.source) (g.S.Source.given l.fn.source) (g.S.Source.ends l.fn.source))
      (source_counts (g.S.Source.faults l.source) (g.S.Source.given l.source) (g.S.Source.ends l.source));
  left : CountsGiven (g.S.Source.left l.fn.source) (g.S.Source.left l.source) (g.S.Source.given l.fn.source) (g.S.Source.given l.source);
}

abbrev pub decreases-taking : goal.decreases-taking
decreases-taking g l = potential l.lines
