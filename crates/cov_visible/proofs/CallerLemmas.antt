-- What a caller cites.
pub use Rattle.cov_visible.proofs.Fresh.{once-fresh}
pub use Rattle.cov_visible.proofs.Halving.{count-rising, parted-rising}
pub use Rattle.cov_visible.proofs.NamedRows.{rows-of, rows-once, whole-once}
pub use Rattle.cov_visible.proofs.Resolved.{AllOn, inserts-all, nodes-later, own-all, resolved-by, resolved-files, resolved-files_of_lines, resolved-grown, resolved-kinds, resolved-length, resolved-most, resolved-new, resolved-within}
pub use Rattle.cov_visible.proofs.Rising.{count-front, part-has, part-some, rising-front}
pub use Rattle.cov_visible.proofs.Rooms.{front-contents, front-rising, staged-nodes, staged-rising}
pub use Rattle.cov_visible.proofs.ShownRows.{nodes-rows}
pub use Rattle.cov_visible.proofs.StoredFiles.{all-carried-rising, all-pairs, equal, same-nodes, same-rising}
