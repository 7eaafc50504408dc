use Rattle.std.proofs.Common.{◌∙◌, ◌∷◌, refl, sym}
use Rattle.std.proofs.lemmas.Bool.{eqb-true}
use Rattle.cov_tree.proofs.Installing.{set_behind, set_in_place}
use Rattle.cov_tree.proofs.dated.DatedEntry.set.Goals as goal

pub returns-then-eq : goal.returns-then-eq
returns-then-eq c =
    let same = eqb-true c.args.self.now.from c.args.at (sym c.eq.ensures ∙ c.if-eq.true) in
    set_in_place c.args.at c.args.places c.args.self.now
    (record { node = c.args.self.now.node; kind = c.args.self.now.kind; from = c.args.self.now.from; places = c.replace-places.new.dest; older = c.args.self.now.older })
    refl refl c.replace-places.ensures.after same same refl

pub returns : goal.returns
returns c =
    set_behind c.args.at c.args.places c.args.self.now
    (record { node = c.args.self.now.node; kind = c.args.self.now.kind; from = c.replace-from.new.dest; places = c.replace-places.new.dest; older = c.push.new.self })
    refl refl c.replace-places.ensures.after c.replace-from.ensures.after
    (c.push.ensures ∙ (λ j. (c.replace-from.ensures.value j, (c.into_items.ensures ∙ c.replace-places.ensures.value) j) ∷ c.args.self.now.older.lists))
