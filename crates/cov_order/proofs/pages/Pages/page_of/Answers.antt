use Rattle.std.proofs.Common.{sym, ◌∙◌, arith}
use Rattle.cov_order.proofs.Paging.{anchor_page, within}
use Rattle.cov_order.proofs.pages.Pages.page_of.Goals as goal

pub returns-clause-page : goal.returns-clause-page
returns-clause-page c =
    anchor_page c.args.self.now.pages.items c.args.self.now.sequence.items c.args.self.now.index.entries c.requires.paged.paged c.args.anchor c.in-Some.number
    (λ e. omega (arith, e, c.number.ensures, c.if-number-eq0.false)) c.requires.anchored (sym c.page_in.ensures ∙ c.in-Some.is)

pub returns-clause-within : goal.returns-clause-within
returns-clause-within c =
    omega (
      arith,
      c.args.self.now.pages.ok.0,
      within c.args.self.now.pages.items c.args.self.now.sequence.items c.args.self.now.index.entries c.requires.paged.paged c.args.anchor c.in-Some.number
          (anchor_page c.args.self.now.pages.items c.args.self.now.sequence.items c.args.self.now.index.entries c.requires.paged.paged c.args.anchor c.in-Some.number
          (λ e. omega (arith, e, c.number.ensures, c.if-number-eq0.false)) c.requires.anchored (sym c.page_in.ensures ∙ c.in-Some.is)),
    )
