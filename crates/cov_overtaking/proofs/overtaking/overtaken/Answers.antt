use Rattle.std.proofs.Common.{◌<◌, None, length, sym, ap, subst, ◌∙◌}
use Rattle.std.specs.List.{AllByRecursion}
use Rattle.std.proofs.lemmas.Result.{IfOk-weaker}
use Rattle.cov_dd.specs.Diagrams.{diagram_size}
use Rattle.cov_dd.proofs.CallerLemmas.{extends_trans}
use Rattle.cov_edit.specs.Touched.{touched}
use Rattle.cov_edit.proofs.CallerLemmas.{unsided-length}
use Rattle.cov_overtaking.specs.EditConditions.{HaveConditions}
use Rattle.cov_overtaking.specs.Marks.{AreKept, IsKeptMark}
use Rattle.cov_overtaking.specs.Overtakers.{IsOvertaker}
use Rattle.cov_overtaking.specs.Touches.{touches_within, RiseByNode, AreOfTable}
use Rattle.cov_overtaking.proofs.After.{later-all, later-overtaker, none-beyond, none-overtakes}
use Rattle.cov_overtaking.proofs.First.{kept-later}
use Rattle.cov_overtaking.proofs.Marking.{conditions-count, conditions-known, first-overtaker, grown-four, grown-thrice}
use Rattle.cov_overtaking.proofs.Walking.{within-rises, within-known}
use Rattle.cov_overtaking.proofs.overtaking.overtaken.Goals as goal

pub returns-then-not-ends_after-clause-first : goal.returns-then-not-ends_after-clause-first
returns-then-not-ends_after-clause-first c = λ own.
    subst (λ ms. IsOvertaker c.args.table.now c.args.valid ms c.args.base c.args.ambition.now c.args.edits.now None) c.as_slice-marks.ensures
    (none-beyond c.args.table.now c.args.valid c.as_slice-marks.result.now c.args.base c.args.ambition.now c.args.edits.now (sym c.ends_after.ensures.ends ∙ c.if-not-ends_after.true))

pub returns-then-none_touches-clause-first : goal.returns-then-none_touches-clause-first
returns-then-none_touches-clause-first c = λ own.
    none-overtakes c.args.table.now c.args.valid c.args.commits.now.items c.args.base c.args.ambition.now c.args.edits.now c.args.nodes.now own
    (c.none_touches.ensures c.if-none_touches.true)

pub returns-in_err-within-clause-extends : goal.returns-in_err-within-clause-extends
returns-in_err-within-clause-extends c = extends_trans c.args.table.now c.compile.new.table c.and.new.self c.compile.ensures.extends c.and.ensures.extends

pub returns-in_err-conditions-clause-extends : goal.returns-in_err-conditions-clause-extends
returns-in_err-conditions-clause-extends c =
    grown-thrice c.args.table.now c.compile.new.table c.and.new.self c.conditions_of.new.table c.compile.ensures.extends c.and.ensures.extends c.conditions_of.ensures.extends

pub places_of-requires-clause-count : goal.places_of-requires-clause-count
places_of-requires-clause-count c =
    ap length c.as_slice.ensures.value
    ∙ conditions-count c.and.new.self c.conditions_of.new.table c.in_ok-within.within c.in_ok-conditions.conditions.items c.args.edits.now c.in_ok-conditions.ensures.are
    ∙ sym (ap length c.as_slice-2.ensures.items ∙ unsided-length c.args.edits.now)

pub places_of-requires-clause-conditions : goal.places_of-requires-clause-conditions
places_of-requires-clause-conditions c =
    subst (AllByRecursion (λ n. n < diagram_size c.conditions_of.new.table)) (sym c.as_slice.ensures.value)
    (conditions-known c.and.new.self c.conditions_of.new.table c.in_ok-within.within c.in_ok-conditions.conditions.items c.args.edits.now c.in_ok-conditions.ensures.are)

pub returns-in_err-places-clause-extends : goal.returns-in_err-places-clause-extends
returns-in_err-places-clause-extends c =
    grown-four c.args.table.now c.compile.new.table c.and.new.self c.conditions_of.new.table c.places_of.new.table c.compile.ensures.extends c.and.ensures.extends c.conditions_of.ensures.extends c.places_of.ensures.extends

pub first_overtaking-requires-clause-kept : goal.first_overtaking-requires-clause-kept
first_overtaking-requires-clause-kept c =
    kept-later c.args.table.now c.places_of.new.table c.after.result.now
    (grown-four c.args.table.now c.compile.new.table c.and.new.self c.conditions_of.new.table c.places_of.new.table c.compile.ensures.extends c.and.ensures.extends c.conditions_of.ensures.extends c.places_of.ensures.extends)
    (later-all (IsKeptMark c.args.table.now) c.args.base c.as_slice-marks.result.now c.after.result.now c.after.ensures (subst (AreKept c.args.table.now) (sym c.as_slice-marks.ensures) c.requires.kept))

pub first_overtaking-requires-clause-own_rises : goal.first_overtaking-requires-clause-own_rises
first_overtaking-requires-clause-own_rises c = subst RiseByNode (sym c.new-own.ensures) (within-rises c.args.nodes.now c.in_ok-places.places.within c.as_slice-3.result.now c.requires.own)

pub first_overtaking-requires-clause-own_in : goal.first_overtaking-requires-clause-own_in
first_overtaking-requires-clause-own_in c =
    subst (AreOfTable c.places_of.new.table) (sym c.new-own.ensures)
    (within-known c.places_of.new.table c.args.nodes.now c.in_ok-places.places.within c.as_slice-3.result.now c.in_ok-places.ensures.within
    (subst (AllByRecursion (λ n. n < diagram_size c.places_of.new.table)) (sym c.as_slice-3.ensures) c.in_ok-places.ensures.each))

pub returns-clause-extends : goal.returns-clause-extends
returns-clause-extends c =
    extends_trans c.args.table.now c.places_of.new.table c.first_overtaking.new.table
    (grown-four c.args.table.now c.compile.new.table c.and.new.self c.conditions_of.new.table c.places_of.new.table c.compile.ensures.extends c.and.ensures.extends c.conditions_of.ensures.extends c.places_of.ensures.extends)
    c.first_overtaking.ensures.extends

pub returns-clause-first : goal.returns-clause-first
returns-clause-first c =
    IfOk-weaker c.first_overtaking.result _ _
    (λ found first own. subst (λ ms. IsOvertaker c.args.table.now c.args.valid ms c.args.base c.args.ambition.now c.args.edits.now found) c.as_slice-marks.ensures
    (later-overtaker c.args.table.now c.places_of.new.table c.args.valid c.as_slice-marks.result.now c.after.result.now c.args.base c.args.ambition.now c.args.edits.now c.new-own.result found c.after.ensures
    (first-overtaker c.args.table.now c.compile.new.table c.and.new.self c.conditions_of.new.table c.places_of.new.table c.args.valid c.in_ok-node.node c.in_ok-within.within c.as_slice-marks.result.now c.args.base
    c.args.ambition.now c.args.edits.now c.as_slice-2.result.now c.as_slice.result.now c.args.nodes.now c.in_ok-places.places.each c.in_ok-places.places.within c.new-own.result found c.requires.valid
    c.compile.ensures.extends c.and.ensures.extends c.conditions_of.ensures.extends c.places_of.ensures.extends c.in_ok-node.ensures.stands.value c.in_ok-within.ensures.stands.value
    (subst (λ ns. HaveConditions c.and.new.self c.conditions_of.new.table c.in_ok-within.within ns c.args.edits.now) (sym c.as_slice.ensures.value) c.in_ok-conditions.ensures.are)
    c.as_slice-2.ensures.items c.in_ok-places.ensures.long (c.in_ok-places.ensures.are (own ∙ ap touched (sym c.as_slice-2.ensures.items)))
    (c.new-own.ensures ∙ ap (touches_within c.args.nodes.now c.in_ok-places.places.within) c.as_slice-3.ensures)) first))
    c.first_overtaking.ensures.first
