use Rattle.std.proofs.Common.{sym, subst, ap, ◌∙◌}
use Rattle.cov_view.specs.Keys.{ChildNodes, IsIndex}
use Rattle.cov_base.specs.declared.number.NodeRef.{NodeRef}
use Rattle.cov_view.specs.Seen.{has_row}
use Rattle.cov_view.proofs.Directories.{Key, IsPut, index-joins}
use Rattle.cov_view.proofs.children.Children.note.Goals as goal

pub returns-clause-ok : goal.returns-clause-ok
returns-clause-ok c = λ rows r own dir name fresh h.
    let key : Key = record { dir = c.args.dir.now; name = c.in_ok-from_slice.field-0 } in
    index-joins c.make_room.new.self.is_kept c.put.new.self.is_kept rows r c.make_room.new.self.nodes.entries c.put.new.self.nodes.entries key (sym dir)
    (c.in_ok-from_slice.ensures.items ∙ sym name) (ap (has_row rows) own ∙ fresh)
    (subst (λ (n : NodeRef). IsPut c.make_room.new.self.is_kept c.make_room.new.self.nodes.entries key n c.put.new.self.is_kept c.put.new.self.nodes.entries) (sym own) c.put.ensures)
    (subst (λ b. IsIndex b rows c.make_room.new.self.nodes.entries) (sym c.make_room.ensures.kept)
    (subst (λ (nodes : ChildNodes). IsIndex c.args.self.now.is_kept rows nodes) (sym c.make_room.ensures.nodes) h))
