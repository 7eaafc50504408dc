use Rattle.std.proofs.Common.{◌≡◌, ◌≤◌, ◌+◌, ◌<◌, length, set, sym, ap, subst, ◌∙◌}
use Rattle.cov_base.specs.Addresses.{after_anchor}
use Rattle.cov_order.specs.Pages.{lines_on, lines_in, crowding, ArePaged}
use Rattle.cov_order.proofs.Paging.{within, page_read, put_lines, put_paged}
use Rattle.cov_order.proofs.Room.{crowding-put}
use Rattle.cov_order.proofs.pages.Pages.put.Goals as goal
use Rattle.cov_order.proofs.pages.Pages.put.Goals.{In-Ok}

small : (c : In-Ok) → c.args.number < length c.args.self.now.pages.items
small c = within c.args.self.now.pages.items c.args.self.now.sequence.items c.args.self.now.index.entries c.requires.paged.paged c.args.anchor c.args.number c.requires.page

longer : (c : In-Ok) → c.insert_after.new.self ≡ after_anchor c.args.anchor c.args.line (lines_on c.args.self.now.pages.items c.args.number)
longer c =
    c.insert_after.ensures
    ∙ ap (after_anchor c.args.anchor c.args.line) (page_read c.args.self.now.pages.items c.args.number c.index_mut-page.result.now (small c) c.index_mut-page.ensures.value)

pub returns-clause-paged : goal.returns-clause-paged
returns-clause-paged c = record {
  paged = subst (λ l. ArePaged (set c.args.self.now.pages.items c.args.number l) c.args.self.now.sequence.items c.insert.new.self.entries) (sym (longer c))
      (put_paged c.args.self.now.pages.items c.args.self.now.sequence.items c.args.self.now.index.entries c.requires.paged.paged c.args.number c.args.anchor c.args.line c.requires.page
      c.insert.new.self.entries c.in-Ok.ensures.updates.0 c.requires.line c.requires.fresh);
  count = c.requires.paged.count;
  room = c.requires.paged.room;
  places = c.requires.paged.places;
}

pub returns-clause-lines : goal.returns-clause-lines
returns-clause-lines c =
    ap (λ l. lines_in (set c.args.self.now.pages.items c.args.number l) c.args.self.now.sequence.items) (longer c)
    ∙ put_lines c.args.self.now.pages.items c.args.self.now.sequence.items c.args.self.now.index.entries c.requires.paged.paged c.args.number c.args.anchor c.args.line c.requires.page

pub returns-clause-crowding : goal.returns-clause-crowding
returns-clause-crowding c =
    subst (λ l. crowding (set c.args.self.now.pages.items c.args.number l) ≤ crowding c.args.self.now.pages.items + 1) (sym (longer c))
    (crowding-put c.args.self.now.pages.items c.args.number c.args.anchor c.args.line (small c))
