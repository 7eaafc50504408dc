use Rattle.std.proofs.Common.{◌≡◌, ◌+◌, ◌-◌, ◌<◌, ◌≤◌, List, ℕ, Some}
use Rattle.cov_base.specs.declared.limits.TheConstants.{TOO_MANY_SCRIPT_BYTES}
use Rattle.cov_io.specs.Progress.{CountsGiven}
use Rattle.cov_serve.specs.Replicas.{FeedsOn}
use Rattle.cov_serve.specs.declared.journal_source.TheConstants.{PIECE_BYTES}
use Rattle.cov_serve.proofs.journal_source.feed_all.Given as goal

abbrev pub invariant-pieces : goal.invariant-pieces
invariant-pieces g l = record {
  few : l.given < TOO_MANY_SCRIPT_BYTES + PIECE_BYTES;
  counted : g.S.Source.given l.source ≡ g.S.Source.given l.fn.source + l.given;
  unended : g.S.Source.ends l.source ≡ g.S.Source.ends l.fn.source;
  later : g.S.Source.faults l.fn.source ≤ g.S.Source.faults l.source;
  left : CountsGiven (g.S.Source.left l.fn.source) (g.S.Source.left l.source) (g.S.Source.given l.fn.source) (g.S.Source.given l.source);
  fed : (text : List ℕ) → g.S.Source.left l.fn.source ≡ Some text → FeedsOn text l.fn.replica l.replica (g.S.Source.left l.source);
}

abbrev pub decreases-pieces : goal.decreases-pieces
decreases-pieces g l = TOO_MANY_SCRIPT_BYTES + PIECE_BYTES - l.given
