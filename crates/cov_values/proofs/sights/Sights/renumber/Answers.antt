use Rattle.std.proofs.Common.{sym, subst, arith}
use Rattle.cov_values.specs.Sights.{AreRight, IsRight}
use Rattle.cov_values.proofs.Keeping.{all_are, none_yet, one_more}
use Rattle.cov_values.proofs.sights.Sights.renumber.Goals as goal

pub loop-index-init : goal.loop-index-init
loop-index-init g c = record { sights = λ before after is h. none_yet before after c.self.inside.kept.items h }

pub loop-index-preserved : goal.loop-index-preserved
loop-index-preserved g c = record {
  sights = λ before after is h.
      one_more before after c.loop-index.index c.loop-index.self-inside.kept.items c.index_mut.result.now c.renumber.new.self
      (omega (arith, c.loop-index-test.true, c.len.ensures, c.loop-index.self-inside.kept.ok.0))
      (λ right. c.renumber.ensures before after is (subst (IsRight before) (sym c.index_mut.ensures.value) right)) (c.loop-index.invariant.sights before after is h);
}

pub returns : goal.returns
returns g c = λ before after is right.
    all_are before after c.loop-index.index c.loop-index.self-inside.kept.items (omega (arith, c.loop-index-test.false, c.len.ensures, c.loop-index.self-inside.kept.ok.0))
    (c.loop-index.invariant.sights before after is (subst (AreRight before) (sym c.self.view_is) right))
