use Rattle.std.proofs.Common.{◌∙◌, ap, sym, [], map, length, subst, min, ◌≤◌, ◌+◌}
use Rattle.std.specs.Map.{keys_of}
use Rattle.indexmap.specs.IndexMap.{spare}
use Rattle.cov_file.specs.Kept.{dated_lines, position_of}
use Rattle.cov_file.specs.Renumbered.{renumbered_line}
use Rattle.cov_file.specs.Rooms.{DatedFile}
use Rattle.cov_file.proofs.Replaced.{lines_replaced}
use Rattle.cov_file.proofs.Redating.{changeable_as_before, kept_renumbered, lines_pass, lines_renumbered}
use Rattle.cov_file.proofs.lines.FileLines.renumber.Goals as goal

pub renumber_sights-requires : goal.renumber_sights-requires
renumber_sights-requires c = subst (λ (f : DatedFile). c.args.first + length f.nodes ≤ length c.args.from.now) (sym c.self.view_is) c.requires

pub renumber-requires : goal.renumber-requires
renumber-requires c = subst (λ (f : DatedFile). c.args.first + length f.nodes ≤ length c.args.from.now) (sym c.self.view_is) c.requires

pub invariant_of-self : goal.invariant_of-self
invariant_of-self c = (
  kept_renumbered c.self.inside.changes c.renumber.new.self c.renumber.ensures.dates c.renumber.ensures.newest c.renumber.ensures.open
      c.self.inside.order.lines c.self.inside.texts.entries c.self.inside.coming.deletes.items c.renumber.ensures.room c.self.invariant.0,
  c.renumber_sights.ensures _ (dated_lines c.self.inside.texts.entries c.renumber.new.self.lists c.self.inside.order.lines)
      (λ rs is. lines_replaced rs c.self.inside.texts.entries c.self.inside.changes.lists c.renumber.new.self.lists (c.renumber.ensures.replaced rs is) c.self.inside.order.lines) c.self.invariant.1,
)

pub returns-clause-lines : goal.returns-clause-lines
returns-clause-lines c = λ by is.
    lines_renumbered by c.self.inside.texts.entries c.self.inside.changes.lists c.renumber.new.self.lists c.self.inside.order.lines
    (c.renumber.ensures.lists by (is ∙ ap (λ (f : DatedFile). map by f.nodes) (sym c.self.view_is)))
    ∙ ap (λ (f : DatedFile). map (renumbered_line by) f.lines) c.self.view_is

pub returns-clause-room : goal.returns-clause-room
returns-clause-room c =
    (λ j. record {
      inserts = min c.self.inside.order.spare (min (spare c.self.inside.texts) (c.renumber.ensures.inserts j));
      changes = changeable_as_before c.self.inside.changes c.renumber.new.self c.renumber.ensures.dates c.renumber.ensures.newest c.renumber.ensures.open
          (keys_of c.self.inside.texts.entries) c.self.inside.coming.deletes.items c.self.inside.order.lines j;
      position = position_of (record { lists = []; newest = c.renumber.ensures.newest j; inserts = 0; room = 0; is_open = c.renumber.ensures.open j; nodes = [] });
    })
    ∙ ap (λ (f : DatedFile). f.room) c.self.view_is

pub returns-clause-all : goal.returns-clause-all
returns-clause-all c =
    rw (← c.self.view_is) (λ test pass. lines_pass test c.self.inside.texts.entries c.self.inside.changes.lists c.self.inside.order.lines (c.renumber.ensures.all test pass))
