use Rattle.std.proofs.Common.{◌∙◌, sym, [], ◌∷◌, ◌++◌, append_assoc}
use Rattle.cov_session.proofs.session.pop_both.Goals as goal

pub returns : goal.returns
returns c = λ first insert delete is. c.pop-2.ensures.rest first insert (c.pop.ensures.rest (first ++ insert ∷ []) delete (is ∙ sym (append_assoc first (insert ∷ []) (delete ∷ []))))
