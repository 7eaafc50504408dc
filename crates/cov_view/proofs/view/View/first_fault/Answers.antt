use Rattle.std.proofs.Common.{◌≡◌, List, ℕ, map, sym, ap, ◌∙◌}
use Rattle.cov_edit.specs.Numbering.{Numbers}
use Rattle.cov_edit.specs.Variant.{Variant}
use Rattle.cov_view.specs.Seen.{Seen}
use Rattle.cov_view.specs.Soundness.{old_row, fault_in}
use Rattle.cov_view.specs.Views.{Shows}
use Rattle.cov_view.proofs.Finding.{if-ok}
use Rattle.cov_view.proofs.Placed.{rows-old}
use Rattle.cov_view.proofs.view.View.first_fault.Goals as goal

pub returns-clause-shown : goal.returns-clause-shown
returns-clause-shown c =
    let s = c.args.self.now in
    if-ok c.first_fault.result (λ fault. fault ≡ fault_in (map old_row c.self.inside.rows))
    (λ fault. (ns : Numbers) (table : List (List ℕ)) (v : Variant) → Shows ns table s v → fault ≡ fault_in v.rows) c.first_fault.ensures
    (λ fault same ns table v shows. same
    ∙ ap (λ (t : Seen). fault_in (map old_row t.rows)) c.self.view_is
    ∙ ap fault_in (sym (shows.rows ∙ rows-old ns s.rows c.requires)))
