use Rattle.std.proofs.Common.{◌≡◌, nat_eq, true, length, sym, ap, subst, ◌∙◌, arith}
use Rattle.cov_base.specs.Addresses.{after_first}
use Rattle.cov_order.specs.Orders.{has_line}
use Rattle.cov_order.specs.Pages.{has_page, halved, IsPageOf}
use Rattle.cov_order.proofs.Paging.{known, read_first, in_first, in_second, same_page}
use Rattle.cov_order.proofs.pages.Pages.page_with_place.Goals as goal

pub returns-then-has-clause-page : goal.returns-then-has-clause-page
returns-then-has-clause-page c =
    let there : has_page c.page_of-number.result c.args.self.now.sequence.items ≡ true =
    known c.args.self.now.pages.items c.args.self.now.sequence.items c.args.self.now.index.entries c.requires.paged.paged c.args.anchor c.page_of-number.result c.page_of-number.ensures.page in
    same_page c.split-next.new.self.pages.items (halved c.args.self.now.pages.items c.page_of-number.result)
    c.split-next.new.self.sequence.items (after_first (λ n. nat_eq n c.page_of-number.result) (length c.args.self.now.pages.items) c.args.self.now.sequence.items)
    c.args.anchor c.page_of-number.result c.split-next.ensures.pages c.split-next.ensures.sequence
    (in_first c.args.self.now.pages.items c.args.self.now.sequence.items c.args.self.now.index.entries c.requires.paged.paged c.page_of-number.result there c.args.anchor c.page_of-number.ensures.page
    (ap (has_line c.args.anchor) (sym (read_first c.args.self.now.pages.items c.args.self.now.sequence.items c.args.self.now.index.entries c.requires.paged.paged c.page_of-number.result there
    c.split-next.new.self.pages.items c.index-2.result.now c.split-next.ensures.pages c.index-2.ensures))
    ∙ sym c.has.ensures ∙ c.if-has.true))

pub returns-clause-page : goal.returns-clause-page
returns-clause-page c =
    let there : has_page c.page_of-number.result c.args.self.now.sequence.items ≡ true =
    known c.args.self.now.pages.items c.args.self.now.sequence.items c.args.self.now.index.entries c.requires.paged.paged c.args.anchor c.page_of-number.result c.page_of-number.ensures.page in
    subst (IsPageOf c.split-next.new.self.pages.items c.split-next.new.self.sequence.items c.args.anchor) (sym c.split-next.ensures.number)
    (same_page c.split-next.new.self.pages.items (halved c.args.self.now.pages.items c.page_of-number.result)
    c.split-next.new.self.sequence.items (after_first (λ n. nat_eq n c.page_of-number.result) (length c.args.self.now.pages.items) c.args.self.now.sequence.items)
    c.args.anchor (length c.args.self.now.pages.items) c.split-next.ensures.pages c.split-next.ensures.sequence
    (in_second c.args.self.now.pages.items c.args.self.now.sequence.items c.args.self.now.index.entries c.requires.paged.paged c.page_of-number.result there c.args.anchor c.page_of-number.ensures.page
    (λ e. omega (arith, e, c.number.ensures, c.if-number-eq0.false))
    (ap (has_line c.args.anchor) (sym (read_first c.args.self.now.pages.items c.args.self.now.sequence.items c.args.self.now.index.entries c.requires.paged.paged c.page_of-number.result there
    c.split-next.new.self.pages.items c.index-2.result.now c.split-next.ensures.pages c.index-2.ensures))
    ∙ sym c.has.ensures ∙ c.if-has.false)))
