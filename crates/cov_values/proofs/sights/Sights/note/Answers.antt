use Rattle.std.proofs.Common.{sym, subst, arith}
use Rattle.cov_values.specs.Sights.{AreRight, IsRight}
use Rattle.cov_values.proofs.Keeping.{all_are, none_yet, one_more}
use Rattle.cov_values.proofs.sights.Sights.note.Goals as goal

pub loop-index-init : goal.loop-index-init
loop-index-init g c = record { sights = λ shows h. none_yet shows shows c.self.inside.kept.items h }

pub loop-index-preserved : goal.loop-index-preserved
loop-index-preserved g c = record {
  sights = λ shows h.
      one_more shows shows c.loop-index.index c.loop-index.self-inside.kept.items c.index_mut.result.now c.note.new.self
      (omega (arith, c.loop-index-test.true, c.len.ensures, c.loop-index.self-inside.kept.ok.0))
      (λ right. c.note.ensures shows (subst (IsRight shows) (sym c.index_mut.ensures.value) right)) (c.loop-index.invariant.sights shows h);
}

pub returns : goal.returns
returns g c = λ shows right.
    all_are shows shows c.loop-index.index c.loop-index.self-inside.kept.items (omega (arith, c.loop-index-test.false, c.len.ensures, c.loop-index.self-inside.kept.ok.0))
    (c.loop-index.invariant.sights shows (subst (AreRight shows) (sym c.self.view_is) right))
