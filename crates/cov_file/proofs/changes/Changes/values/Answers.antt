use Rattle.std.proofs.Common.{◌≡◌, ◌∙◌, ℕ, Bool, reverse, sym, subst, arith}
use Rattle.std.specs.List.{AllByRecursion}
use Rattle.cov_dd.proofs.CallerLemmas.{value-constant}
use Rattle.cov_values.proofs.CallerLemmas.{all-none, all-with}
use Rattle.cov_values.specs.Values.{on_choice, Agrees}
use Rattle.cov_file.specs.declared.changes.Change.{Change}
use Rattle.cov_file.specs.Dated.{newest_vis}
use Rattle.cov_file.specs.Kept.{LineChanges}
use Rattle.cov_file.proofs.Showing.{newest_valued}
use Rattle.cov_file.proofs.changes.Changes.values.Goals as goal

pub loop-ahead-init : goal.loop-ahead-init
loop-ahead-init c =
    let g = on_choice c.args.table.now c.args.choice in
    let none = value-constant c.args.table.now 0 c.args.choice (omega arith) in
    record {
      known = λ f agrees each.
          subst (λ (l : LineChanges). AllByRecursion (λ cs. f (newest_vis cs) ≡ g (newest_vis cs)) l.lists) c.self.view_is
          (newest_valued c.args.table.now c.args.choice f (reverse c.self.inside.earlier.items) c.self.inside.newest.items
          (subst (AllByRecursion (λ (x : Change). f x.node ≡ g x.node)) c.as_slice-ahead.ensures.value each));
      agree = subst (Agrees g) (sym c.new-values.ensures) (none, tt);
      last = λ f agrees. agrees.0 ∙ sym none;
    }

pub loop-ahead-preserved-in_ok-evaluate : goal.loop-ahead-preserved-in_ok-evaluate
loop-ahead-preserved-in_ok-evaluate c =
    let g = on_choice c.args.table.now c.args.choice in
    let agree = c.evaluate.ensures.on_choice c.loop-ahead.invariant.agree in
    let value : (f : ℕ → Bool) → Agrees f c.evaluate.new.self → f c.change-item.result.node ≡ g c.change-item.result.node =
    λ f agrees. c.in_ok-evaluate.ensures.value f agrees ∙ sym (c.in_ok-evaluate.ensures.value g agree) in
    record {
      known = λ f agrees rest.
          c.loop-ahead.invariant.known f (c.evaluate.ensures.grows f agrees)
          (all-with (λ (x : Change). f x.node ≡ g x.node) c.loop-ahead.ahead.now _ c.in-len1-up.len_at_least
          (subst (λ (x : Change). f x.node ≡ g x.node) c.change-item.is (value f agrees)) rest);
      agree = agree;
      last = value;
    }

pub loop-ahead-preserved : goal.loop-ahead-preserved
loop-ahead-preserved c =
    let g = on_choice c.args.table.now c.args.choice in
    record {
      known = λ f agrees rest.
          c.loop-ahead.invariant.known f agrees
          (all-with (λ (x : Change). f x.node ≡ g x.node) c.loop-ahead.ahead.now _ c.in-len1-up.len_at_least
          (subst (λ (x : Change). f x.node ≡ g x.node) c.change-item.is (subst (λ n. f n ≡ g n) (sym c.if-change-last.false) (c.loop-ahead.invariant.last f agrees))) rest);
      agree = c.loop-ahead.invariant.agree;
      last = c.loop-ahead.invariant.last;
    }

pub returns : goal.returns
returns c = λ f agrees.
    c.loop-ahead.invariant.known f agrees
    (all-none (λ (x : Change). f x.node ≡ on_choice c.args.table.now c.args.choice x.node) c.loop-ahead.ahead.now c.in_default.len_below)
