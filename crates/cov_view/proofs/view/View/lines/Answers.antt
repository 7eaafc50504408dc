use Rattle.std.proofs.Common.{◌≡◌, List, ℕ, Some, refl}
use Rattle.cov_base.specs.declared.number.Kind.TheVariants as kinds
use Rattle.cov_edit.specs.Numbering.{Numbers}
use Rattle.cov_edit.specs.Variant.{Variant}
use Rattle.cov_view.specs.Paths.{AreLinesOf}
use Rattle.cov_view.specs.Seen.{kind_in, lines_in}
use Rattle.cov_view.specs.Views.{Shows}
use Rattle.cov_view.proofs.Finding.{ok, absent-shown, kind-there, lines-shown}
use Rattle.cov_view.proofs.view.View.lines.Goals as goal

pub returns-clause-shown : goal.returns-clause-shown
returns-clause-shown c =
    let s = c.args.self.now in
    let file = c.args.file in
    ok c.lines_of.result (kind_in s.rows file ≡ Some kinds.File) (λ lines. lines_in s.rows file ≡ Some lines)
    (λ lines. (ns : Numbers) (table : List (List ℕ)) (v : Variant) → Shows ns table s v → AreLinesOf ns s.lines_made v file lines)
    c.lines_of.ensures.file c.lines_of.ensures.lines
    (λ lines kind e ns table v shows. lines-shown ns table s v shows file lines kind e)

pub returns-clause-absent_shown : goal.returns-clause-absent_shown
returns-clause-absent_shown c = λ fault ns table v shows.
    absent-shown ns table c.args.self.now v shows c.args.file (c.lines_of.ensures.absent fault)

pub returns-clause-not_file_shown : goal.returns-clause-not_file_shown
returns-clause-not_file_shown c = λ fault ns table v shows.
    kind-there ns table c.args.self.now v shows c.args.file kinds.Dir (λ b. b) (c.lines_of.ensures.not_file fault) refl
