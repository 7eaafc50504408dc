use Rattle.std.proofs.Common.{◌≡◌, ◌≤◌, ◌-◌, ◌∙◌, ℕ, List, nat_eq, min, ap, sym, refl, subst, ◌∷◌, length, map, take, drop, position, vec_len, vec_capacity, arith, length-take-le}
use Rattle.std.specs.List.{AllZip}
use Rattle.std.specs.Map.{lookup}
use Rattle.std.proofs.lemmas.List.{length-drop}
use Rattle.indexmap.specs.IndexMap.{spare}
use Rattle.cov_base.specs.Rows.{AreDistinct}
use Rattle.cov_tree.specs.Dated.{Dated, newest_entry}
use Rattle.cov_tree.specs.Entries.{nodes_of}
use Rattle.cov_tree.specs.Renumbered.{all_numbers, entry_visibilities, visibilities, without_visibilities, KeepsRows}
use Rattle.cov_tree.specs.Shown.{AreTrees}
use Rattle.cov_tree.proofs.Sweeping.{IsEntry, all_noted_are, entries_stay, keeps_rows, numbers_are, until_are}
use Rattle.cov_tree.proofs.entries.Entries.renumber.Goals as goal
use Rattle.cov_tree.proofs.entries.Entries.renumber.Goals.{After-renumber_all}

enough : (c : After-renumber_all) → length (all_numbers entry_visibilities c.self.inside.entries.items) ≤ length (drop c.args.first c.as_slice.result.now)
enough c =
    let seen = ap (λ (d : Dated). length (visibilities d)) c.self.view_is in
    omega (arith, c.requires, seen, length-drop c.args.first c.as_slice.result.now, ap length c.as_slice.ensures)

-- the nodes are the same but for their visibilities
stay : (c : After-renumber_all) → AllZip (IsEntry (λ (a b : ℕ). Unit {0})) c.self.inside.entries.items c.renumber_all.new.entries.items
stay c =
    entries_stay c.self.inside.entries.items c.renumber_all.new.entries.items c.renumber_all.ensures.entries.same
    (ap length c.renumber_all.ensures.entries.got
    ∙ length-take-le (length (all_numbers entry_visibilities c.self.inside.entries.items)) (drop c.args.first c.as_slice.result.now) (enough c))

numbers : (c : After-renumber_all) → nodes_of (map newest_entry c.renumber_all.new.entries.items) ≡ nodes_of (map newest_entry c.self.inside.entries.items)
numbers c = numbers_are (λ (a b : ℕ). Unit {0}) c.self.inside.entries.items c.renumber_all.new.entries.items (stay c)

pub invariant_of-self : goal.invariant_of-self
invariant_of-self c = (
  subst AreDistinct (λ j. 0 ∷ sym (numbers c) j) c.self.invariant.0,
  until_are (λ (a b : ℕ). Unit {0}) c.self.inside.from c.self.inside.entries.items c.renumber_all.new.entries.items (stay c) c.self.invariant.1,
  subst (λ (ns : List ℕ). (n : ℕ) → lookup (nat_eq n) c.self.inside.index.entries ≡ position (λ m. nat_eq m n) ns) (sym (numbers c)) c.self.invariant.2,
  all_noted_are (λ (a b : ℕ). Unit {0}) c.self.inside.noted.nodes.entries c.self.inside.entries.items c.renumber_all.new.entries.items (stay c) c.self.invariant.3,
  subst (AreTrees (map newest_entry c.renumber_all.new.entries.items)) (sym c.let_go.ensures) tt,
)

pub returns-clause-nodes : goal.returns-clause-nodes
returns-clause-nodes c =
    c.renumber_all.ensures.entries.got
    ∙ (λ j. take (length (all_numbers entry_visibilities c.self.inside.entries.items)) (drop c.args.first (c.as_slice.ensures j)))
    ∙ ap (λ (d : Dated). take (length (visibilities d)) (drop c.args.first c.args.from.now)) c.self.view_is

pub returns-clause-same : goal.returns-clause-same
returns-clause-same c =
    (λ j. record {
      from = c.self.inside.from;
      entries = c.renumber_all.ensures.entries.same j;
      room = min (c.renumber_all.ensures.capacity j - c.renumber_all.ensures.len j) (spare c.self.inside.index);
      noted = c.self.inside.noted.nodes.entries;
    })
    ∙ ap without_visibilities c.self.view_is

pub returns-clause-rows : goal.returns-clause-rows
returns-clause-rows c =
    let new : Dated = record {
      from = c.self.inside.from;
      entries = c.renumber_all.new.entries.items;
      room = min (vec_capacity c.renumber_all.new.entries - vec_len c.renumber_all.new.entries) (spare c.self.inside.index);
      noted = c.self.inside.noted.nodes.entries;
    } in
    let old : Dated = record {
      from = c.self.inside.from;
      entries = c.self.inside.entries.items;
      room = min (vec_capacity c.self.inside.entries - vec_len c.self.inside.entries) (spare c.self.inside.index);
      noted = c.self.inside.noted.nodes.entries;
    } in
    subst (λ (d : Dated). KeepsRows d new) c.self.view_is (keeps_rows old new refl c.renumber_all.ensures.entries.same)
