use Rattle.std.proofs.Common.{◌≡◌, ℕ, Bool, List, true, ap, subst, sym, ◌∙◌}
use Rattle.std.proofs.lemmas.Result.{IfErr-weaker, IfOk-weaker}
use Rattle.cov_dd.specs.Diagrams.{Extends}
use Rattle.cov_dd.proofs.CallerLemmas.{extends_trans}
use Rattle.cov_rules.specs.Completion.{has_any, agreeing, completed, IsRefusalBy}
use Rattle.cov_rules.specs.Installing.{RulesValue}
use Rattle.cov_rules.specs.Lefts.{answer_left, IsLeft}
use Rattle.cov_rules.proofs.Completed.{valid, whole, valid_left, unmet_left, some_left, answer}
use Rattle.cov_rules.proofs.Holding.{holds_later}
use Rattle.cov_rules.proofs.rules.Rules.complete.Goals as goal
use Rattle.cov_rules.proofs.rules.Rules.complete.Goals.{In-Ok, In-Ok-meet, In-Ok-narrowed, After-is_any}

-- the choices that agree are left
agreed : (c : In-Ok) → IsLeft c.agreeing.new.table c.args.count (agreeing c.args.count c.args.partial.now) c.in-Ok.left
agreed c = subst (λ (bs : List (ℕ × Bool)). IsLeft c.agreeing.new.table c.args.count (agreeing c.args.count bs) c.in-Ok.left) c.bindings.ensures.bindings c.in-Ok.ensures.agree

pub returns-in-Some-clause-complete : goal.returns-in-Some-clause-complete
returns-in-Some-clause-complete c =
    let is = agreed (goal.at.returns-in-Some-clause-complete c).In-Ok in
    whole c.args.count c.args.self.now.standing c.args.partial.now c.in-Some.choice (sym is.choices ∙ c.in-Some.ensures.only) c.in-Some.ensures.valid

pub returns-in-Err-meet-clause-extends : goal.returns-in-Err-meet-clause-extends
returns-in-Err-meet-clause-extends c = extends_trans c.args.table.now c.agreeing.new.table c.meet.new.table c.in-Ok.ensures.extends c.in-Err-meet.ensures.extends

both : (c : In-Ok-meet) → Extends c.args.table.now c.meet.new.table
both c = extends_trans c.args.table.now c.agreeing.new.table c.meet.new.table c.in-Ok.ensures.extends c.in-Ok-meet.ensures.extends

-- those of them that meet all constraints are left
valids : (c : In-Ok-meet) → IsLeft c.agreeing.new.table c.args.count (agreeing c.args.count c.args.partial.now) c.in-Ok.left
    → IsLeft c.meet.new.table c.args.count (valid c.args.count c.args.self.now.standing c.args.partial.now) c.in-Ok-meet.left
valids c is =
    valid_left c.args.count c.args.self.now.standing c.args.partial.now c.agreeing.new.table c.meet.new.table c.in-Ok.left c.in-Ok-meet.left is _ (ap (λ (v : RulesValue). v.standing.conjunction) c.self.view_is)
    (holds_later c.in-Ok.ensures.extends c.requires.holds).conjunction c.in-Ok-meet.ensures.meets

pub unmet-requires-clause-holds : goal.unmet-requires-clause-holds
unmet-requires-clause-holds c = holds_later (both (goal.at.unmet-requires-clause-holds c).In-Ok-meet) c.requires.holds

pub narrowed-requires-clause-holds : goal.narrowed-requires-clause-holds
narrowed-requires-clause-holds c = holds_later (both (goal.at.narrowed-requires-clause-holds c).In-Ok-meet) c.requires.holds

pub returns-then-not-is_any-clause-extends : goal.returns-then-not-is_any-clause-extends
returns-then-not-is_any-clause-extends c =
    let at = (goal.at.returns-then-not-is_any-clause-extends c).In-Ok-meet in
    extends_trans c.args.table.now c.meet.new.table c.unmet.new.table (both at) c.unmet.ensures.extends

-- whether there is a valid choice
found : (c : After-is_any) → IsLeft c.meet.new.table c.args.count (valid c.args.count c.args.self.now.standing c.args.partial.now) c.in-Ok-meet.left
    → has_any (valid c.args.count c.args.self.now.standing c.args.partial.now) ≡ c.is_any.result
found c is = sym (ap has_any is.choices) ∙ sym c.is_any.ensures

pub returns-then-not-is_any-clause-refused : goal.returns-then-not-is_any-clause-refused
returns-then-not-is_any-clause-refused c =
    let at = goal.at.returns-then-not-is_any-clause-refused c in
    let is = agreed at.In-Ok in
    let none = found at.After-is_any (valids at.In-Ok-meet is) ∙ c.if-not-is_any.true in
    subst (λ a. IsRefusalBy a c.unmet.result)
    (sym (unmet_left c.args.count c.args.self.now.standing c.args.partial.now c.agreeing.new.table c.meet.new.table c.in-Ok.left c.in-Ok-meet.left is c.in-Ok-meet.ensures.extends none)) c.unmet.ensures.refused

pub only-requires-clause-some : goal.only-requires-clause-some
only-requires-clause-some c =
    let at = goal.at.only-requires-clause-some c in
    let is = valids at.In-Ok-meet (agreed at.In-Ok) in
    some_left c.args.count c.args.self.now.standing c.args.partial.now c.meet.new.table c.narrowed.new.table c.in-Ok-meet.left c.in-Ok-narrowed.left is (found at.After-is_any is ∙ c.if-not-is_any.false)
    c.in-Ok-narrowed.ensures.narrows

-- the answer for what is left is that of the definition
answers : (c : In-Ok-narrowed) → IsLeft c.meet.new.table c.args.count (valid c.args.count c.args.self.now.standing c.args.partial.now) c.in-Ok-meet.left → has_any (valid c.args.count c.args.self.now.standing c.args.partial.now) ≡ true
    → completed c.args.count c.args.self.now.standing c.args.partial.now ≡ answer_left c.narrowed.new.table c.in-Ok-narrowed.left
answers c is some =
    answer c.args.count c.args.self.now.standing c.args.partial.now c.meet.new.table c.narrowed.new.table c.in-Ok-meet.left c.in-Ok-narrowed.left is some c.in-Ok-narrowed.ensures.narrows

pub returns-in-Ok-narrowed-clause-extends : goal.returns-in-Ok-narrowed-clause-extends
returns-in-Ok-narrowed-clause-extends c =
    let at = (goal.at.returns-in-Ok-narrowed-clause-extends c).In-Ok-meet in
    extends_trans c.args.table.now c.narrowed.new.table c.only.new.table (extends_trans c.args.table.now c.meet.new.table c.narrowed.new.table (both at) c.in-Ok-narrowed.ensures.extends) c.only.ensures.extends

pub returns-in-Ok-narrowed-clause-complete : goal.returns-in-Ok-narrowed-clause-complete
returns-in-Ok-narrowed-clause-complete c =
    let at = goal.at.returns-in-Ok-narrowed-clause-complete c in
    let is = valids at.In-Ok-meet (agreed at.In-Ok) in
    IfOk-weaker c.only.result _ _ (λ choice h. answers at.In-Ok-narrowed is (found at.After-is_any is ∙ c.if-not-is_any.false) ∙ h) c.only.ensures.complete

pub returns-in-Ok-narrowed-clause-refused : goal.returns-in-Ok-narrowed-clause-refused
returns-in-Ok-narrowed-clause-refused c =
    let at = goal.at.returns-in-Ok-narrowed-clause-refused c in
    let is = valids at.In-Ok-meet (agreed at.In-Ok) in
    IfErr-weaker c.only.result _ _ (λ fault h. subst (λ a. IsRefusalBy a fault) (sym (answers at.In-Ok-narrowed is (found at.After-is_any is ∙ c.if-not-is_any.false))) h) c.only.ensures.refused

pub returns-in-Err-narrowed-clause-extends : goal.returns-in-Err-narrowed-clause-extends
returns-in-Err-narrowed-clause-extends c =
    let at = (goal.at.returns-in-Err-narrowed-clause-extends c).In-Ok-meet in
    extends_trans c.args.table.now c.meet.new.table c.narrowed.new.table (both at) c.in-Err-narrowed.ensures.extends
