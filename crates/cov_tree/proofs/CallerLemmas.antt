-- Lemmas on changes of rows, for the proofs of callers.
pub use Rattle.cov_tree.proofs.Carried.{nodes_stay, once_stays, options_stay, rows_stay}
pub use Rattle.cov_tree.proofs.Among.{among_all, among_once, among_row}
pub use Rattle.cov_tree.proofs.Holding.{same_kinds, same_nodes, visibilities_but_room}
pub use Rattle.cov_tree.proofs.Installing.{newest_but_room, nodes_but_room}
pub use Rattle.cov_tree.proofs.Numbering.{gets-all, gets-count, gets-here, gets-long, gets-none, gets-room, gets-step, GetsUntil}
pub use Rattle.cov_tree.proofs.Plans.{plans_grow}
pub use Rattle.cov_tree.proofs.Spreading.{all_left, all_right}
use Rattle.std.proofs.Common.{◌≡◌, ℕ, Bool, true, false, cond, List, [], ◌∷◌, map, refl, ◌∙◌}
use Rattle.std.specs.List.{fold}
use Rattle.cov_base.specs.Rows.{Row, RowChange, changed}
use Rattle.cov_dd.specs.declared.triple.Triple.{Triple}
use Rattle.cov_dd.specs.Diagrams.{value_in}
use Rattle.cov_tree.specs.Changes.{changed_on, all_changed}

-- changes of one ambition are made all or none
pub all_changed-where : (table : List Triple) (c : List Bool) (ambition : ℕ) (changes : List RowChange) (rows : List Row)
    → all_changed table c (map (λ change. (change, ambition)) changes) rows ≡ cond (value_in table ambition c) (fold changed rows changes) rows
all_changed-where table c ambition [] rows = at (value_in table ambition c)
  where
    at : (b : Bool) → rows ≡ cond b rows rows
    at true = refl
    at false = refl
all_changed-where table c ambition (change ∷ changes) rows =
    all_changed-where table c ambition changes (changed_on table c change ambition rows) ∙ at (value_in table ambition c)
  where
    at : (b : Bool) → cond b (fold changed (cond b (changed rows change) rows) changes) (cond b (changed rows change) rows) ≡ cond b (fold changed (changed rows change) changes) rows
    at true = refl
    at false = refl
