use Rattle.std.proofs.Common.{◌≡◌, true, [], ◌∷◌, take, sym, subst}
use Rattle.cov_base.proofs.CallerLemmas.{all-append}
use Rattle.cov_tree.specs.declared.entry.Place.{Place}
use Rattle.cov_tree.specs.Noted.{is_noted, AreNoted}
use Rattle.cov_tree.proofs.Noting.{noted_kept}
use Rattle.cov_tree.proofs.Rows.{taken}
use Rattle.cov_tree.proofs.noted.NotedNodes.note_places.Goals as goal

pub places-preserved : goal.places-preserved
places-preserved c =
    let old = c.places.self.nodes.entries in
    let new = c.note.new.self.nodes.entries in
    let node = c.args.node in
    let done = take c.places.place-index c.args.places.now in
    let place = c.place-item.result in
    record {
      kept = λ n p h. c.in_ok-note.ensures.kept n p (c.places.invariant.kept n p h);
      noted = subst (AreNoted new node) (sym (taken c.args.places.now c.places.place-index place c.places-test.true c.place-item.is))
          (all-append (λ (p : Place). is_noted new node p ≡ true) done (place ∷ []) (noted_kept old new c.in_ok-note.ensures.kept node done c.places.invariant.noted) (c.in_ok-note.ensures.ok, tt));
    }
