use Rattle.std.proofs.Common.{[], sym, subst}
use Rattle.cov_tree.specs.Carried.{AreNodesWith, AreOnceWith, AreUnreadWith}
use Rattle.cov_tree.specs.Changes.{Makes}
use Rattle.cov_tree.proofs.Carried.{new_makes, new_within, new_once, new_unread}
use Rattle.cov_tree.proofs.plan.EntryPlan.new.Goals as goal

pub returns-clause-makes : goal.returns-clause-makes
returns-clause-makes c = λ table d h. subst (λ plan. Makes table d plan []) (sym c.new.ensures.items) (new_makes d table h)

pub returns-clause-within : goal.returns-clause-within
returns-clause-within c = λ table d h. subst (λ plan. AreNodesWith table plan d) (sym c.new.ensures.items) (new_within d table h)

pub returns-clause-once : goal.returns-clause-once
returns-clause-once c = λ table d h. subst (λ plan. AreOnceWith table plan d) (sym c.new.ensures.items) (new_once d table h)

pub returns-clause-options : goal.returns-clause-options
returns-clause-options c = λ table d count h. subst (λ plan. AreUnreadWith table plan d count) (sym c.new.ensures.items) (new_unread d table count h)
