-- What a caller cites of lines that are alike, of the nodes that they keep, and of those whose nodes are renumbered: they show the same.
pub use Rattle.cov_file.proofs.Added.{added_below}
pub use Rattle.cov_file.proofs.Changing.{has_after}
pub use Rattle.cov_file.proofs.Later.{alike_shown}
pub use Rattle.cov_file.proofs.Sweeping.{each_renumbered, rows_renumbered}
use Rattle.std.proofs.Common.{List, [], ◌∷◌, refl, ◌∙◌}
use Rattle.cov_file.specs.Dated.{DatedLine, AreAlike}

-- each list is alike to itself
pub alike_refl : (ls : List DatedLine) → AreAlike ls ls
alike_refl [] = tt
alike_refl (l ∷ ls) = (record { line = refl; text = refl; nodes = λ p. refl; newest = refl }, alike_refl ls)

-- and to what one alike to it is alike to
pub alike_trans : (ls ms ns : List DatedLine) → AreAlike ls ms → AreAlike ms ns → AreAlike ls ns
alike_trans [] [] [] g h = tt
alike_trans [] [] (n ∷ ns) g h = absurd h
alike_trans [] (m ∷ ms) ns g h = absurd g
alike_trans (l ∷ ls) [] ns g h = absurd g
alike_trans (l ∷ ls) (m ∷ ms) [] g h = absurd h
alike_trans (l ∷ ls) (m ∷ ms) (n ∷ ns) g h = (
  record { line = g.0.line ∙ h.0.line; text = g.0.text ∙ h.0.text; nodes = λ p. g.0.nodes p ∙ h.0.nodes p; newest = g.0.newest ∙ h.0.newest },
  alike_trans ls ms ns g.1 h.1,
)
