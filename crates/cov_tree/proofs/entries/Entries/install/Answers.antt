use Rattle.std.proofs.Common.{[], ◌∷◌, ◌≤◌, refl, sym, ap, subst}
use Rattle.cov_base.specs.Rows.{AreDistinct}
use Rattle.cov_tree.specs.Dated.{Dated}
use Rattle.cov_tree.specs.Entries.{nodes_of, kinds_of}
use Rattle.cov_tree.specs.Installing.{AreChanged}
use Rattle.cov_tree.specs.Noted.{ArePlanNoted}
use Rattle.cov_tree.proofs.Installed.{installed_changes, installed_kept, installed_once, installed_options, installed_rows, installed_within, installs, rows_before, still_distinct, until_later}
use Rattle.cov_tree.proofs.entries.Entries.install.Goals as goal

pub invariant_of-self : goal.invariant_of-self
invariant_of-self c =
    let noted =
    subst (ArePlanNoted c.self.inside.noted.nodes.entries) (sym c.into_entries.ensures.nodes)
    (subst (λ (d : Dated). ArePlanNoted d.noted c.args.plan) (sym c.self.view_is) c.requires.room.noted) in
    let later = subst (λ (d : Dated). d.from ≤ c.args.at) (sym c.self.view_is) c.requires.later in (
      still_distinct c.args.at c.into_entries.result.items c.self.inside.entries.items c.change_all.new.entries.items
          (subst (λ plan. AreDistinct (0 ∷ nodes_of plan)) (sym c.into_entries.ensures.nodes) c.into_entries.ensures.distinct) c.self.invariant.0 c.change_all.ensures.changed,
      c.change_all.ensures.changed.until (until_later c.self.inside.from c.args.at c.self.inside.entries.items later c.self.invariant.1),
      c.change_all.ensures.indexed,
      c.change_all.ensures.changed.noted c.self.inside.noted.nodes.entries noted c.self.invariant.3,
      c.let_go_before.ensures c.args.at c.self.inside.entries.items c.change_all.new.entries.items
          (subst (λ plan. AreChanged c.args.at plan c.self.inside.entries.items c.change_all.new.entries.items) c.into_entries.ensures.nodes c.change_all.ensures.changed) c.self.invariant.4,
    )

pub returns-clause-planned : goal.returns-clause-planned
returns-clause-planned c =
    installed_rows c.args.at c.args.plan c.args.self.now (record { from = c.args.at; entries = c.change_all.new.entries.items; room = 0; noted = [] })
    (installs c.args.at c.into_entries.result.items c.args.plan _ c.args.self.now (record { from = c.args.at; entries = c.change_all.new.entries.items; room = 0; noted = [] }) c.into_entries.ensures.nodes c.self.view_is refl
    c.requires.later c.self.invariant.1 c.change_all.ensures.changed)

pub returns-clause-rows : goal.returns-clause-rows
returns-clause-rows c =
    installed_changes c.args.at c.args.plan c.args.self.now (record { from = c.args.at; entries = c.change_all.new.entries.items; room = 0; noted = [] })
    (installs c.args.at c.into_entries.result.items c.args.plan _ c.args.self.now (record { from = c.args.at; entries = c.change_all.new.entries.items; room = 0; noted = [] }) c.into_entries.ensures.nodes c.self.view_is refl
    c.requires.later c.self.invariant.1 c.change_all.ensures.changed)

pub returns-clause-before : goal.returns-clause-before
returns-clause-before c =
    rows_before c.args.at c.args.plan c.args.self.now (record { from = c.args.at; entries = c.change_all.new.entries.items; room = 0; noted = [] })
    (installs c.args.at c.into_entries.result.items c.args.plan _ c.args.self.now (record { from = c.args.at; entries = c.change_all.new.entries.items; room = 0; noted = [] }) c.into_entries.ensures.nodes c.self.view_is refl
    c.requires.later c.self.invariant.1 c.change_all.ensures.changed)

pub returns-clause-within : goal.returns-clause-within
returns-clause-within c =
    installed_within c.args.at c.args.plan c.args.self.now (record { from = c.args.at; entries = c.change_all.new.entries.items; room = 0; noted = [] })
    (installs c.args.at c.into_entries.result.items c.args.plan _ c.args.self.now (record { from = c.args.at; entries = c.change_all.new.entries.items; room = 0; noted = [] }) c.into_entries.ensures.nodes c.self.view_is refl
    c.requires.later c.self.invariant.1 c.change_all.ensures.changed)

pub returns-clause-kept : goal.returns-clause-kept
returns-clause-kept c =
    installed_kept c.args.at c.args.plan c.args.self.now (record { from = c.args.at; entries = c.change_all.new.entries.items; room = 0; noted = [] })
    (installs c.args.at c.into_entries.result.items c.args.plan _ c.args.self.now (record { from = c.args.at; entries = c.change_all.new.entries.items; room = 0; noted = [] }) c.into_entries.ensures.nodes c.self.view_is refl
    c.requires.later c.self.invariant.1 c.change_all.ensures.changed)
    (rest c.into_entries.ensures.distinct)
  where
    rest : AreDistinct (0 ∷ nodes_of c.args.plan) → AreDistinct (nodes_of c.args.plan)
    rest d = d.1

pub returns-clause-once : goal.returns-clause-once
returns-clause-once c =
    installed_once c.args.at c.args.plan c.args.self.now (record { from = c.args.at; entries = c.change_all.new.entries.items; room = 0; noted = [] })
    (installs c.args.at c.into_entries.result.items c.args.plan _ c.args.self.now (record { from = c.args.at; entries = c.change_all.new.entries.items; room = 0; noted = [] }) c.into_entries.ensures.nodes c.self.view_is refl
    c.requires.later c.self.invariant.1 c.change_all.ensures.changed)

pub returns-clause-options : goal.returns-clause-options
returns-clause-options c =
    installed_options c.args.at c.args.plan c.args.self.now (record { from = c.args.at; entries = c.change_all.new.entries.items; room = 0; noted = [] })
    (installs c.args.at c.into_entries.result.items c.args.plan _ c.args.self.now (record { from = c.args.at; entries = c.change_all.new.entries.items; room = 0; noted = [] }) c.into_entries.ensures.nodes c.self.view_is refl
    c.requires.later c.self.invariant.1 c.change_all.ensures.changed)

pub returns-clause-nodes : goal.returns-clause-nodes
returns-clause-nodes c =
    ap nodes_of
    (installs c.args.at c.into_entries.result.items c.args.plan _ c.args.self.now (record { from = c.args.at; entries = c.change_all.new.entries.items; room = 0; noted = [] }) c.into_entries.ensures.nodes c.self.view_is refl
    c.requires.later c.self.invariant.1 c.change_all.ensures.changed).changed.newest

pub returns-clause-kinds : goal.returns-clause-kinds
returns-clause-kinds c =
    ap kinds_of
    (installs c.args.at c.into_entries.result.items c.args.plan _ c.args.self.now (record { from = c.args.at; entries = c.change_all.new.entries.items; room = 0; noted = [] }) c.into_entries.ensures.nodes c.self.view_is refl
    c.requires.later c.self.invariant.1 c.change_all.ensures.changed).changed.newest
