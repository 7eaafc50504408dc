use Rattle.std.proofs.Common.{◌≡◌, ◌-◌, List, length, arith, ap, sym, ◌∙◌}
use Rattle.std.specs.Option.{option_copied}
use Rattle.cov_base.specs.declared.number.NodeRef.{NodeRef}
use Rattle.cov_view.specs.Seen.{lies_within}
use Rattle.cov_view.specs.declared.row.ViewRow.{ViewRow}
use Rattle.cov_view.proofs.Below.{steps_on, here_within, nowhere_within, steps_done}
use Rattle.cov_view.proofs.rows.Rows.lies_within.Goals as goal

-- the steps are as many as the rows
all_steps : (self old : List ViewRow) (top node : NodeRef) → old ≡ self → lies_within self (length old) top node ≡ lies_within self (length self) top node
all_steps self old top node same = ap (λ (rows : List ViewRow). lies_within self (length rows) top node) same

pub steps-init : goal.steps-init
steps-init c =
    let n = length c.as_slice-end.result.now in
    let e : n - 0 ≡ n = omega arith in ap (λ m. lies_within c.args.self.now m c.args.top.now c.args.node.now) e

pub returns-then-same_node : goal.returns-then-same_node
returns-then-same_node c =
    sym (here_within c.args.self.now (length c.as_slice-end.result.now) c.steps.counter c.args.top.now c.steps.at c.steps-test.true (sym c.same_node.ensures ∙ c.if-same_node.true))
    ∙ c.steps.invariant ∙ all_steps c.args.self.now c.as_slice-end.result.now c.args.top.now c.args.node.now (c.as_slice-end.ensures.value ∙ c.self.view_is)

pub returns-in-None : goal.returns-in-None
returns-in-None c =
    sym (nowhere_within c.args.self.now (length c.as_slice-end.result.now) c.steps.counter c.args.top.now c.steps.at c.steps-test.true (sym c.same_node.ensures ∙ c.if-same_node.false) (sym c.get.ensures ∙ ap option_copied c.in-None.is))
    ∙ c.steps.invariant ∙ all_steps c.args.self.now c.as_slice-end.result.now c.args.top.now c.args.node.now (c.as_slice-end.ensures.value ∙ c.self.view_is)

pub steps-preserved : goal.steps-preserved
steps-preserved c =
    sym (steps_on c.args.self.now (length c.as_slice-end.result.now) c.steps.counter c.args.top.now c.steps.at c.in-Some.row.now c.steps-test.true (sym c.same_node.ensures ∙ c.if-same_node.false) (sym c.get.ensures ∙ ap option_copied c.in-Some.is))
    ∙ c.steps.invariant

pub returns : goal.returns
returns c = c.same_node-2.ensures ∙ sym (steps_done c.args.self.now (length c.as_slice-end.result.now) c.steps.counter c.args.top.now c.steps.at c.steps-test.false) ∙ c.steps.invariant ∙ all_steps c.args.self.now c.as_slice-end.result.now c.args.top.now c.args.node.now (c.as_slice-end.ensures.value ∙ c.self.view_is)
