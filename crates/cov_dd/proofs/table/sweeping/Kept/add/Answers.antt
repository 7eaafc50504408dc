use Rattle.std.proofs.Common.{◌∙◌, ◌+◌, ◌++◌, ◌∷◌, [], ap, sym}
use Rattle.cov_dd.specs.Diagrams.{diagram_size}
use Rattle.cov_dd.specs.Marks.{KeptValue}
use Rattle.cov_dd.proofs.Insertion.{diagram_size-keys}
use Rattle.cov_dd.proofs.table.sweeping.Kept.add.Goals as goal

pub returns-then-not-is_kept-clause-numbers : goal.returns-then-not-is_kept-clause-numbers
returns-then-not-is_kept-clause-numbers c =
    c.in_ok-push.ensures.items
    ∙ (λ j. ap (λ (v : KeptValue). v.numbers) c.self.view_is j
    ++ (ap (λ n. n + 2) c.len.ensures.len ∙ sym (diagram_size-keys c.self.inside.entries.keys) ∙ ap (λ (v : KeptValue). diagram_size v.entries) c.self.view_is) j ∷ [])

pub returns-clause-numbers : goal.returns-clause-numbers
returns-clause-numbers c =
    c.in_ok-push.ensures.items
    ∙ (λ j. ap (λ (v : KeptValue). v.numbers) c.self.view_is j
    ++ (ap (λ n. n + 2) c.len.ensures.len ∙ sym (diagram_size-keys c.self.inside.entries.keys) ∙ ap (λ (v : KeptValue). diagram_size v.entries) c.self.view_is) j ∷ [])
