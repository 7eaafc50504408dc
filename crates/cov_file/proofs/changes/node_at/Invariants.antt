use Rattle.std.proofs.Common.{◌≡◌, ◌≤◌, length, reverse}
use Rattle.cov_file.specs.Dated.{vis_at}
use Rattle.cov_file.specs.Kept.{changes_of, AreLinked}
use Rattle.cov_file.proofs.changes.node_at.Given as goal

abbrev pub invariant-changes : goal.invariant-changes
invariant-changes l = record {
  same : vis_at (changes_of (reverse l.earlier) l.change) l.position ≡ vis_at (changes_of (reverse l.earlier) l.fn.newest) l.position;
  linked : AreLinked (reverse l.earlier);
  end : l.change.before ≤ length l.earlier;
}

abbrev pub decreases-changes : goal.decreases-changes
decreases-changes l = l.change.before
