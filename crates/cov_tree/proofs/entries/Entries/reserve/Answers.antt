use Rattle.std.proofs.Common.{refl}
use Rattle.cov_tree.proofs.Indexing.{still_sound}
use Rattle.cov_tree.proofs.entries.Entries.reserve.Goals as goal

pub invariant_of-self : goal.invariant_of-self
invariant_of-self c =
    still_sound c.self.inside.from c.self.inside.entries.items c.self.inside.entries.items c.self.inside.entries.items c.self.inside.index.entries c.self.inside.index.entries c.self.inside.noted.nodes.entries
    c.note_all.new.self.nodes.entries c.self.inside.trees c.note_all.ensures.kept refl refl refl c.self.invariant

pub invariant_of-self-in_err-reserve_changes : goal.invariant_of-self-in_err-reserve_changes
invariant_of-self-in_err-reserve_changes c =
    still_sound c.self.inside.from c.self.inside.entries.items c.reserve_changes.new.entries.items c.reserve_changes.new.entries.items c.self.inside.index.entries c.self.inside.index.entries
    c.self.inside.noted.nodes.entries c.note_all.new.self.nodes.entries c.self.inside.trees c.note_all.ensures.kept c.reserve_changes.ensures.same refl refl c.self.invariant

pub invariant_of-self-in_err-reserve : goal.invariant_of-self-in_err-reserve
invariant_of-self-in_err-reserve c =
    still_sound c.self.inside.from c.self.inside.entries.items c.reserve_changes.new.entries.items c.reserve.new.self.items c.self.inside.index.entries c.self.inside.index.entries
    c.self.inside.noted.nodes.entries c.note_all.new.self.nodes.entries c.self.inside.trees c.note_all.ensures.kept c.reserve_changes.ensures.same c.reserve.ensures.items refl c.self.invariant

pub invariant_of-self-in_err-reserve-2 : goal.invariant_of-self-in_err-reserve-2
invariant_of-self-in_err-reserve-2 c =
    still_sound c.self.inside.from c.self.inside.entries.items c.reserve_changes.new.entries.items c.reserve.new.self.items c.self.inside.index.entries c.reserve-2.new.self.entries
    c.self.inside.noted.nodes.entries c.note_all.new.self.nodes.entries c.self.inside.trees c.note_all.ensures.kept c.reserve_changes.ensures.same c.reserve.ensures.items c.reserve-2.ensures.entries c.self.invariant

pub invariant_of-self-2 : goal.invariant_of-self-2
invariant_of-self-2 c =
    still_sound c.self.inside.from c.self.inside.entries.items c.reserve_changes.new.entries.items c.reserve.new.self.items c.self.inside.index.entries c.reserve-2.new.self.entries
    c.self.inside.noted.nodes.entries c.note_all.new.self.nodes.entries c.self.inside.trees c.note_all.ensures.kept c.reserve_changes.ensures.same c.reserve.ensures.items c.reserve-2.ensures.entries c.self.invariant
