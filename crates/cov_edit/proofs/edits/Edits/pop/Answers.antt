use Rattle.std.proofs.Common.{◌≡◌, ◌+◌, ◌<◌, ℕ, length, option_to_list, sym, subst, ◌∙◌}
use Rattle.cov_edit.specs.Runs.{side_at, AreBelow}
use Rattle.cov_edit.proofs.Runs.{popped, popped-fits, popped-below, popped-taken, none-kept, none-left}
use Rattle.cov_edit.proofs.edits.Edits.pop.Goals as goal

pub end_run-requires-clause-rise : goal.end_run-requires-clause-rise
end_run-requires-clause-rise c = c.self.invariant.rise

pub end_run-requires-clause-below : goal.end_run-requires-clause-below
end_run-requires-clause-below c =
    subst (λ es. AreBelow (length es + 1) c.self.inside.runs) (sym c.as_slice.ensures.value)
    (popped-below c.self.inside.items.items c.pop_last-last.new.items.items c.self.inside.runs c.pop_last-last.ensures.rest c.self.invariant.below)

pub end_run-requires-clause-differ : goal.end_run-requires-clause-differ
end_run-requires-clause-differ c = c.self.invariant.differ

pub invariant_of-self : goal.invariant_of-self
invariant_of-self c = record {
  fits = popped-fits c.self.inside.runs c.end_run.new.runs c.self.inside.items.items c.pop_last-last.new.items.items c.pop_last-last.ensures.rest
      (subst (λ es. (i : ℕ) → i < length es → side_at c.end_run.new.runs i ≡ side_at c.self.inside.runs i) c.as_slice.ensures.value c.end_run.ensures.before) c.self.invariant.fits;
  rise = c.end_run.ensures.rise;
  below = subst (λ es. AreBelow (length es) c.end_run.new.runs) c.as_slice.ensures.value c.end_run.ensures.below;
  differ = c.end_run.ensures.differ;
}

pub returns-clause-rest : goal.returns-clause-rest
returns-clause-rest c = λ first last is.
    popped c.self.inside.runs c.end_run.new.runs c.self.inside.items.items c.pop_last-last.new.items.items first last c.pop_last-last.ensures.rest
    (subst (λ es. (i : ℕ) → i < length es → side_at c.end_run.new.runs i ≡ side_at c.self.inside.runs i) c.as_slice.ensures.value c.end_run.ensures.before) (c.self.view_is ∙ is)

pub returns-clause-taken : goal.returns-clause-taken
returns-clause-taken c =
    popped-taken c.self.inside.runs c.end_run.new.runs c.self.inside.items.items c.pop_last-last.new.items.items (option_to_list c.pop_last-last.result) c.args.self.now
    c.pop_last-last.ensures.taken c.self.view_is

pub returns-clause-none : goal.returns-clause-none
returns-clause-none c = λ empty.
    let none = none-kept c.self.inside.runs c.self.inside.items.items (c.self.view_is ∙ empty) in
    (c.pop_last-last.ensures.none none, none-left c.end_run.new.runs c.self.inside.items.items c.pop_last-last.new.items.items c.pop_last-last.ensures.rest none)
