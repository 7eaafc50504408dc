use Rattle.std.proofs.Common.{◌≡◌, ◌∙◌, ◌&&◌, ℕ, Bool, List, true, false, nat_eq, sym, ap}
use Rattle.std.specs.List.{list_any}
use Rattle.std.specs.Map.{keys_of}
use Rattle.cov_base.proofs.CallerLemmas.{none-placed}
use Rattle.cov_base.specs.declared.file_row.FileRow.{FileRow}
use Rattle.cov_dd.specs.Diagrams.{value_in}
use Rattle.cov_dd.specs.declared.triple.Triple.{Triple}
use Rattle.cov_order.specs.Orders.{has_line}
use Rattle.cov_file.specs.Dated.{vis_at, rows_at}
use Rattle.cov_file.specs.Kept.{changes_in}
use Rattle.cov_file.specs.Rooms.{DatedFile}
use Rattle.cov_file.proofs.Finding.{list_found, there}
use Rattle.cov_file.proofs.Shown.{shown_among}
use Rattle.cov_file.proofs.lines.FileLines.is_visible.Goals as goal

-- whether a line is among those that are shown
abbrev is_among : List Triple → List Bool → ℕ → ℕ → DatedFile → Bool
is_among table choice at line f = list_any (λ (r : FileRow). nat_eq r.line line) (rows_at table choice at f.lines)

pub returns-in-Some : goal.returns-in-Some
returns-in-Some c =
    let keys = keys_of c.self.inside.texts.entries in
    let lists = c.self.inside.changes.lists in
    let found = sym c.get_index_of.ensures.index ∙ c.in-Some.is in
    let has : has_line c.args.line c.self.inside.order.lines ≡ true = c.self.invariant.0.keys c.args.line ∙ there c.args.line keys c.in-Some.index found in
    c.value.ensures
    ∙ ap (λ v. value_in c.args.table.now v c.args.choice)
    (c.at.ensures ∙ ap (λ cs. vis_at cs c.args.at) (list_found c.args.line keys lists c.in-Some.index found))
    ∙ ap (λ b. b && value_in c.args.table.now (vis_at (changes_in keys lists c.args.line) c.args.at) c.args.choice) (sym has)
    ∙ sym (shown_among c.args.table.now c.args.choice c.args.at c.self.inside.texts.entries lists c.args.line c.self.inside.order.lines)
    ∙ ap (is_among c.args.table.now c.args.choice c.args.at c.args.line) c.self.view_is

pub returns-in-None : goal.returns-in-None
returns-in-None c =
    let keys = keys_of c.self.inside.texts.entries in
    let lists = c.self.inside.changes.lists in
    let lacks : has_line c.args.line c.self.inside.order.lines ≡ false =
    c.self.invariant.0.keys c.args.line ∙ none-placed (nat_eq c.args.line) keys (sym c.get_index_of.ensures.index ∙ c.in-None.is) in
    ap (λ b. b && value_in c.args.table.now (vis_at (changes_in keys lists c.args.line) c.args.at) c.args.choice) (sym lacks)
    ∙ sym (shown_among c.args.table.now c.args.choice c.args.at c.self.inside.texts.entries lists c.args.line c.self.inside.order.lines)
    ∙ ap (is_among c.args.table.now c.args.choice c.args.at c.args.line) c.self.view_is
