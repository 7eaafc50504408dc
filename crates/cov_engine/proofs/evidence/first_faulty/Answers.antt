use Rattle.std.proofs.Common.{◌≡◌, ◌&&◌, Bool, List, is_some, ◌∙◌, arith}
use Rattle.std.specs.List.{find}
use Rattle.cov_base.specs.Choices.{all_choices}
use Rattle.cov_base.specs.Faults.{fault_of}
use Rattle.cov_dd.proofs.CallerLemmas.{extends_trans}
use Rattle.cov_dd.specs.Diagrams.{value_in}
use Rattle.cov_history.specs.BadChoices.{is_faulty}
use Rattle.cov_tree.proofs.CallerLemmas.{once_stays, options_stay, rows_stay}
use Rattle.cov_tree.specs.Dated.{rows_with}
use Rattle.cov_engine.proofs.evidence.first_faulty.Goals as goal

pub unsound-requires-clause-once : goal.unsound-requires-clause-once
unsound-requires-clause-once c = once_stays.planned c.args.table.now c.and.new.self c.args.plan.now c.args.entries.now c.and.ensures.extends c.requires.rows_within c.requires.once

pub returns-in_err-node-clause-extends : goal.returns-in_err-node-clause-extends
returns-in_err-node-clause-extends c = extends_trans c.args.table.now c.and.new.self c.unsound.new.table c.and.ensures.extends c.unsound.ensures.extends

pub least-requires-clause-options : goal.least-requires-clause-options
least-requires-clause-options c =
    let below = c.in_ok-within.ensures.stands.below in
    let valid = c.requires.valid_options in
    let ambition = c.requires.ambition_options in
    c.in_ok-node.ensures.options c.args.count (omega (arith, below, valid, ambition))
    (options_stay.planned c.args.table.now c.and.new.self c.args.plan.now c.args.entries.now c.args.count c.args.count c.and.ensures.extends (omega arith) c.requires.rows_within c.requires.unread)

pub returns-clause-extends : goal.returns-clause-extends
returns-clause-extends c = extends_trans c.args.table.now c.and.new.self c.unsound.new.table c.and.ensures.extends c.unsound.ensures.extends

pub returns-clause-first : goal.returns-clause-first
returns-clause-first c =
    let plan = c.args.plan.now in
    let entries = c.args.entries.now in
    let same : (d : List Bool) → value_in c.unsound.new.table c.in_ok-node.node d
    ≡ is_faulty (λ e. rows_with c.args.table.now e plan entries) (λ e. value_in c.args.table.now c.args.valid e && value_in c.args.table.now c.args.ambition e) d =
    λ d.
    c.in_ok-node.ensures.planned.value d
    ∙ (λ i. c.in_ok-within.ensures.stands.value d i && is_some (fault_of (rows_stay.planned c.args.table.now c.and.new.self plan entries c.and.ensures.extends c.requires.rows_within d i))) in
    c.least.ensures.first ∙ (λ i. find (λ d. same d i) (all_choices c.args.count))
