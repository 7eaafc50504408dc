use Rattle.std.proofs.Common.{◌≡◌, true, length, refl, sym, subst, ◌∙◌}
use Rattle.std.specs.List.{list_all}
use Rattle.cov_edit.specs.Sides.{fits_sided}
use Rattle.cov_edit.proofs.Runs.{alike-fits, below-next, pushed-alike, pushed-below}
use Rattle.cov_edit.proofs.edits.Edits.push_alike.Goals as goal

pub invariant_of-self-2 : goal.invariant_of-self-2
invariant_of-self-2 c = record {
  fits =
      subst (λ ss. list_all fits_sided ss ≡ true)
      (sym (pushed-alike c.self.inside.runs c.self.inside.items.items c.push.new.self.items c.args.edit c.args.self.now c.in_ok-push.ensures.items c.self.invariant.below c.self.view_is))
      (alike-fits c.args.self.now c.args.edit (subst (λ ss. list_all fits_sided ss ≡ true) c.self.view_is c.self.invariant.fits) (c.spelling_is_kept.ensures ∙ c.requires));
  rise = c.self.invariant.rise;
  below = pushed-below c.self.inside.items.items c.push.new.self.items c.args.edit (length c.self.inside.items.items) c.self.inside.runs c.in_ok-push.ensures.items refl
      (below-next (length c.self.inside.items.items) c.self.inside.runs c.self.invariant.below);
  differ = c.self.invariant.differ;
}

pub returns-clause-ok : goal.returns-clause-ok
returns-clause-ok c =
    pushed-alike c.self.inside.runs c.self.inside.items.items c.push.new.self.items c.args.edit c.args.self.now c.in_ok-push.ensures.items c.self.invariant.below c.self.view_is
