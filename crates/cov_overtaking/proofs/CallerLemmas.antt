-- What a caller cites.
pub use Rattle.cov_overtaking.proofs.Marking.{conditions-count, conditions-known, conditions-stand, mark-grown, mark-made, marks-committed, marks-declared, marks-grown, marks-kept, marks-within, touched-own}
pub use Rattle.cov_overtaking.proofs.Renumbering.{marks-length, marks-numbers, marks-renumbered, marks-shape}
pub use Rattle.cov_overtaking.proofs.First.{kept-later}
