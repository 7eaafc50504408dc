use Rattle.std.proofs.Common.{◌≡◌, ◌∙◌, ◌≤◌, nat_eq, sym, ap, subst, true, false, Some, slice_get}
use Rattle.std.specs.Map.{keys_of}
use Rattle.std.specs.Option.{option_map}
use Rattle.cov_base.proofs.CallerLemmas.{none-placed}
use Rattle.cov_order.specs.Orders.{has_line}
use Rattle.cov_file.specs.Dated.{newest_vis, vis_at, newest_of, vis_of}
use Rattle.cov_file.specs.Kept.{changes_in}
use Rattle.cov_file.specs.Rooms.{DatedFile}
use Rattle.cov_file.proofs.Finding.{list_there, there, length-keys}
use Rattle.cov_file.proofs.Shown.{newest_there, newest_none, latest_there, latest_none}
use Rattle.cov_file.proofs.lines.FileLines.vis.Goals as goal
use Rattle.cov_file.proofs.lines.FileLines.vis.Goals.{In-None, After-get}

has : (c : After-get) → has_line c.args.line c.self.inside.order.lines ≡ true
has c = c.self.invariant.0.keys c.args.line ∙ there c.args.line (keys_of c.self.inside.texts.entries) c.in-Some.index (sym c.get_index_of.ensures.index ∙ c.in-Some.is)

lacks : (c : In-None) → has_line c.args.line c.self.inside.order.lines ≡ false
lacks c = c.self.invariant.0.keys c.args.line ∙ none-placed (nat_eq c.args.line) (keys_of c.self.inside.texts.entries) (sym c.get_index_of.ensures.index ∙ c.in-None.is)

-- the line's changes stand at its index
stand : (c : After-get) → slice_get c.self.inside.changes.lists c.in-Some.index ≡ Some (changes_in (keys_of c.self.inside.texts.entries) c.self.inside.changes.lists c.args.line)
stand c =
    list_there c.args.line (keys_of c.self.inside.texts.entries) c.self.inside.changes.lists c.in-Some.index
    (c.self.invariant.0.lists ∙ sym (length-keys c.self.inside.texts.entries)) (sym c.get_index_of.ensures.index ∙ c.in-Some.is)

pub returns-in-Some-clause-newest : goal.returns-in-Some-clause-newest
returns-in-Some-clause-newest c =
    c.get.ensures.newest ∙ ap (option_map newest_vis) (stand c)
    ∙ sym (newest_there c.self.inside.texts.entries c.self.inside.changes.lists c.args.line c.self.inside.order.lines (has c))
    ∙ ap (λ (f : DatedFile). newest_of c.args.line f.lines) c.self.view_is

pub returns-in-Some-clause-latest : goal.returns-in-Some-clause-latest
returns-in-Some-clause-latest c = λ p later.
    c.get.ensures.latest p (subst (λ (f : DatedFile). f.newest ≤ p) (sym c.self.view_is) later)
    ∙ ap (option_map (λ cs. vis_at cs p)) (stand c)
    ∙ sym (latest_there c.self.inside.texts.entries c.self.inside.changes.lists c.args.line c.self.inside.order.lines p (has c))
    ∙ ap (λ (f : DatedFile). vis_of c.args.line p f.lines) c.self.view_is

pub returns-in-None-clause-newest : goal.returns-in-None-clause-newest
returns-in-None-clause-newest c =
    sym (newest_none c.self.inside.texts.entries c.self.inside.changes.lists c.args.line c.self.inside.order.lines (lacks c))
    ∙ ap (λ (f : DatedFile). newest_of c.args.line f.lines) c.self.view_is

pub returns-in-None-clause-latest : goal.returns-in-None-clause-latest
returns-in-None-clause-latest c = λ p later.
    sym (latest_none c.self.inside.texts.entries c.self.inside.changes.lists c.args.line c.self.inside.order.lines p (lacks c))
    ∙ ap (λ (f : DatedFile). vis_of c.args.line p f.lines) c.self.view_is
