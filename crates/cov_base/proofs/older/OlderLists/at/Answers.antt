use Rattle.std.proofs.Common.{◌∙◌, sym, ap, reverse, ℕ, List, [], nat_le}
use Rattle.std.specs.List.{find}
use Rattle.std.specs.Option.{option_copied}
use Rattle.cov_base.specs.Older.{Older, value_at}
use Rattle.cov_base.proofs.Lists.{value_found, value_none}
use Rattle.cov_base.proofs.older.OlderLists.at.Goals as goal

pub returns-in-Some : goal.returns-in-Some
returns-in-Some g c =
    c.as_slice.ensures.value ∙ ap (λ (l : ℕ × List g.row.T.Denot). l.1) c.list.view_is
    ∙ sym (value_found [] c.args.position (reverse c.self.inside.lists.items) c.in-Some.list.now
    (ap (λ ls. find (λ l. nat_le l.0 c.args.position) (reverse ls)) (sym c.deref.ensures.value) ∙ sym c.newest_until.ensures ∙ ap option_copied c.in-Some.is))
    ∙ ap (λ (o : Older g.row.T.Denot). value_at [] o.lists c.args.position) c.self.view_is

pub returns-in-None : goal.returns-in-None
returns-in-None g c =
    sym (value_none [] c.args.position (reverse c.self.inside.lists.items)
    (ap (λ ls. find (λ l. nat_le l.0 c.args.position) (reverse ls)) (sym c.deref.ensures.value) ∙ sym c.newest_until.ensures ∙ ap option_copied c.in-None.is))
    ∙ ap (λ (o : Older g.row.T.Denot). value_at [] o.lists c.args.position) c.self.view_is
