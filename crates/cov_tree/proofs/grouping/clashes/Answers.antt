use Rattle.std.proofs.Common.{◌<◌, [], ap, subst, sym, ◌∙◌, arith}
use Rattle.std.proofs.lemmas.List.{take_all}
use Rattle.cov_base.specs.Reaching.{has_clash}
use Rattle.cov_dd.specs.Diagrams.{diagram_size}
use Rattle.cov_dd.proofs.CallerLemmas.{extends_none, extends_trans, some_nodes}
use Rattle.cov_tree.specs.Entries.{rows_in, AreWithin}
use Rattle.cov_tree.specs.Grouping.{GroupsWithin, IsClash}
use Rattle.cov_tree.proofs.Rows.{holds_at, within-grown}
use Rattle.cov_tree.proofs.Clashing.{clash_same, entry_behind, none_noted}
use Rattle.cov_tree.proofs.grouping.clashes.Goals as goal

pub entries-init : goal.entries-init
entries-init c =
    let t = c.args.table.now in
    let two : 1 < diagram_size t = some_nodes t in
    record {
      extends = extends_none t;
      groups = subst (GroupsWithin t) (sym c.new-groups.ensures) tt;
      clash = omega (arith, two);
      noted = subst (λ groups. IsClash t groups 0 (λ d. [])) (sym c.new-groups.ensures) (none_noted t);
    }

pub add_entry-requires-clause-within : goal.add_entry-requires-clause-within
add_entry-requires-clause-within c =
    within-grown c.args.table.now c.entries.table c.entries.invariant.extends c.entry-item.result.places
    (holds_at (λ e. AreWithin c.args.table.now e.places) c.args.entries.now c.entries.entry-index c.entry-item.result c.requires.within c.entries-test.true c.entry-item.is)

pub returns-in_err-clash-clause-extends : goal.returns-in_err-clash-clause-extends
returns-in_err-clash-clause-extends c = extends_trans c.args.table.now c.entries.table c.add_entry.new.table c.entries.invariant.extends c.in_err-clash.ensures.extends

pub entries-preserved : goal.entries-preserved
entries-preserved c = record {
  extends = extends_trans c.args.table.now c.entries.table c.add_entry.new.table c.entries.invariant.extends c.in_ok-clash.ensures.extends;
  groups = c.in_ok-clash.ensures.groups;
  clash = c.in_ok-clash.ensures.clash;
  noted =
      clash_same c.add_entry.new.table c.add_entry.new.groups.nodes.entries c.in_ok-clash.clash _ _
      (λ d. entry_behind c.args.table.now c.entries.table c.entries.invariant.extends d c.args.entries.now c.entries.entry-index c.entry-item.result c.entries-test.true c.entry-item.is c.requires.within)
      (c.in_ok-clash.ensures.ok _ c.entries.invariant.noted);
}

pub returns-clause-ok : goal.returns-clause-ok
returns-clause-ok c =
    let whole = take_all c.entries.entry-index c.args.entries.now c.entries-test.false in
    record {
      within = c.entries.invariant.clash;
      value = λ d. c.entries.invariant.noted.value d ∙ ap (λ es. has_clash (rows_in c.args.table.now d es)) whole;
    }
