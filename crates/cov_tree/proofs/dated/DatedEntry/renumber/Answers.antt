use Rattle.std.proofs.Common.{◌∙◌, ap, sym, refl, subst, length, drop, reverse, arith, ℕ, List}
use Rattle.std.proofs.lemmas.List.{drop-drop, length-drop}
use Rattle.cov_tree.specs.Renumbered.{list_visibilities, list_without_vis, AllGet}
use Rattle.cov_tree.proofs.Numbering.{entry_gets}
use Rattle.cov_tree.proofs.dated.DatedEntry.renumber.Goals as goal

pub returns-clause-entry : goal.returns-clause-entry
returns-clause-entry c =
    let e = c.args.self.now in
    entry_gets e
    (record { node = e.node; kind = e.kind; from = e.from; places = c.renumber-second.new.self; older = c.renumber_lists.new.older })
    (drop c.args.first c.args.from.now) (omega (arith, c.requires, length-drop c.args.first c.args.from.now)) refl refl refl c.renumber_lists.ensures.room c.renumber-second.ensures.places
    (subst (λ (ns : List ℕ). AllGet list_visibilities list_without_vis (reverse e.older.lists) (reverse c.renumber_lists.new.older.lists) ns)
    (ap (λ k. drop k c.args.from.now) c.renumber-second.ensures.next ∙ sym (drop-drop (length e.places) c.args.first c.args.from.now)) c.renumber_lists.ensures.lists)
