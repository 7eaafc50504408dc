use Rattle.std.proofs.Common.{◌≡◌, true, [], ◌∷◌, ◌++◌, length, ap, sym, subst, ◌∙◌}
use Rattle.std.specs.List.{list_all}
use Rattle.cov_edit.specs.Runs.{AreBelow}
use Rattle.cov_edit.specs.Sides.{fits_sided}
use Rattle.cov_edit.proofs.Runs.{pushed, pushed-below, fits-more, sided-fits}
use Rattle.cov_edit.proofs.edits.Edits.push.Goals as goal

pub begin_run-requires-clause-rise : goal.begin_run-requires-clause-rise
begin_run-requires-clause-rise c = c.self.invariant.rise

pub begin_run-requires-clause-below : goal.begin_run-requires-clause-below
begin_run-requires-clause-below c = subst (λ es. AreBelow (length es) c.self.inside.runs) (sym (c.as_slice-first.ensures.value ∙ c.reserve.ensures.items)) c.self.invariant.below

pub begin_run-requires-clause-differ : goal.begin_run-requires-clause-differ
begin_run-requires-clause-differ c = c.self.invariant.differ

pub invariant_of-self-2 : goal.invariant_of-self-2
invariant_of-self-2 c = record {
  fits =
      subst (λ ss. list_all fits_sided ss ≡ true)
      (sym (pushed c.self.inside.runs c.begin_run.new.runs c.self.inside.items.items c.push_reserved.new.self.items c.args.sided.side c.args.sided.edit (length c.as_slice-first.result.now) c.args.self.now
      (c.push_reserved.ensures.items ∙ ap (λ es. es ++ c.args.sided.edit ∷ []) c.reserve.ensures.items) (ap length (c.as_slice-first.ensures.value ∙ c.reserve.ensures.items))
      c.in_ok-begin_run.ensures.before c.in_ok-begin_run.ensures.own c.self.view_is))
      (fits-more c.args.self.now c.args.sided (subst (λ ss. list_all fits_sided ss ≡ true) c.self.view_is c.self.invariant.fits) (sided-fits c.args.sided c.part.ensures.fits (c.spelling_is_kept.ensures ∙ c.requires)));
  rise = c.in_ok-begin_run.ensures.rise;
  below = pushed-below c.self.inside.items.items c.push_reserved.new.self.items c.args.sided.edit (length c.as_slice-first.result.now) c.begin_run.new.runs
      (c.push_reserved.ensures.items ∙ ap (λ es. es ++ c.args.sided.edit ∷ []) c.reserve.ensures.items) (ap length (c.as_slice-first.ensures.value ∙ c.reserve.ensures.items)) c.in_ok-begin_run.ensures.below;
  differ = c.in_ok-begin_run.ensures.differ;
}

pub returns-clause-ok : goal.returns-clause-ok
returns-clause-ok c =
    pushed c.self.inside.runs c.begin_run.new.runs c.self.inside.items.items c.push_reserved.new.self.items c.args.sided.side c.args.sided.edit (length c.as_slice-first.result.now) c.args.self.now
    (c.push_reserved.ensures.items ∙ ap (λ es. es ++ c.args.sided.edit ∷ []) c.reserve.ensures.items) (ap length (c.as_slice-first.ensures.value ∙ c.reserve.ensures.items))
    c.in_ok-begin_run.ensures.before c.in_ok-begin_run.ensures.own c.self.view_is
