use Rattle.std.proofs.Common.{◌-◌, ◌++◌, length, take, drop, ap, ◌∙◌}
use Rattle.std.proofs.lemmas.List.{take_rest}
use Rattle.cov_order.proofs.page.Page.move_rest.Goals as goal

pub returns-clause-rest : goal.returns-clause-rest
returns-clause-rest c =
    c.in-Ok.ensures.items ∙ ap (λ l. l ++ take (length c.deref.result.now - 128) (drop 128 c.deref.result.now)) c.clear.ensures.items
    ∙ take_rest c.deref.result.now 128 ∙ ap (drop 128) (c.deref.ensures.value ∙ c.self.view_is)
