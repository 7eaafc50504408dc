use Rattle.std.proofs.Common.{◌≡◌, ◌+◌, ◌<◌, ◌++◌, ◌∷◌, [], nat_eq, length, set, take, drop, sym, ap, subst, ◌∙◌, arith}
use Rattle.std.specs.List.{insert}
use Rattle.std.specs.Map.{lookup}
use Rattle.cov_base.specs.Addresses.{after_first}
use Rattle.cov_order.specs.Orders.{has_line}
use Rattle.cov_order.specs.Pages.{lines_on, lines_in, halved, moved, crowding}
use Rattle.cov_order.proofs.Paging.{page_read, split_lines, first_place, second_place}
use Rattle.cov_order.proofs.Sequences.{below}
use Rattle.cov_order.proofs.Room.{split_whole, crowding-split}
use Rattle.cov_order.proofs.pages.Pages.split.Goals as goal
use Rattle.cov_order.proofs.pages.Pages.split.Goals.{In-Ok}

small : (c : In-Ok) → c.args.number < length c.args.self.now.pages.items
small c = below (length c.args.self.now.pages.items) c.args.number c.args.self.now.sequence.items c.requires.paged.paged.numbers c.requires.known

page_is : (c : In-Ok) → c.index_mut-page.result.now ≡ lines_on c.args.self.now.pages.items c.args.number
page_is c = page_read c.args.self.now.pages.items c.args.number c.index_mut-page.result.now (small c) c.index_mut-page.ensures.value

rest_is : (c : In-Ok) → c.move_rest.new.other ≡ drop 128 (lines_on c.args.self.now.pages.items c.args.number)
rest_is c = c.move_rest.ensures.rest ∙ ap (drop 128) (page_is c)

next_is : (c : In-Ok) → c.len-next.result ≡ length c.args.self.now.pages.items
next_is c = c.len-next.ensures ∙ c.args.self.now.pages.ok.0

pages_are : (c : In-Ok) → c.push_reserved.new.self.items ≡ halved c.args.self.now.pages.items c.args.number
pages_are c =
    c.push_reserved.ensures.items
    ∙ ap (λ l. set c.args.self.now.pages.items c.args.number l ++ c.move_rest.new.other ∷ []) (c.move_rest.ensures.first ∙ ap (take 128) (page_is c))
    ∙ ap (λ l. set c.args.self.now.pages.items c.args.number (take 128 (lines_on c.args.self.now.pages.items c.args.number)) ++ l ∷ []) (rest_is c)

sequence_is : (c : In-Ok) → c.insert.new.self.items ≡ after_first (λ n. nat_eq n c.args.number) (length c.args.self.now.pages.items) c.args.self.now.sequence.items
sequence_is c =
    c.in-Ok.ensures.items ∙ ap (λ l. insert l c.place_of-at.result c.len-next.result) (sym c.deref.ensures.value) ∙ c.place_of-at.ensures.place c.len-next.result
    ∙ ap (after_first (λ n. nat_eq n c.args.number) c.len-next.result) c.deref.ensures.value
    ∙ ap (λ m. after_first (λ n. nat_eq n c.args.number) m c.args.self.now.sequence.items) (next_is c)

pub returns-clause-paged : goal.returns-clause-paged
returns-clause-paged c =
    split_whole c.args.self.now
    (record { pages = c.push_reserved.new.self; sequence = c.insert.new.self; index = c.move_lines.new.index; empty = c.pop.new.self })
    c.requires.paged c.args.number c.requires.known (pages_are c) (sequence_is c)
    (λ q. c.move_lines.ensures.lines q
    ∙ ap (λ n. moved n (has_line q c.lines.result.now) (lookup (nat_eq q) c.args.self.now.index.entries)) (next_is c)
    ∙ ap (λ l. moved (length c.args.self.now.pages.items) (has_line q l) (lookup (nat_eq q) c.args.self.now.index.entries)) (c.lines.ensures ∙ rest_is c))
    c.push_reserved.ensures.len c.in-Ok.ensures.len c.in-Some.ensures.cases (omega (arith, c.push_reserved.ensures.capacity)) c.in-Ok.ensures.capacity

pub returns-clause-lines : goal.returns-clause-lines
returns-clause-lines c =
    ap (λ l. lines_in l c.insert.new.self.items) (pages_are c) ∙ ap (lines_in (halved c.args.self.now.pages.items c.args.number)) (sequence_is c)
    ∙ split_lines c.args.self.now.pages.items c.args.self.now.sequence.items c.args.self.now.index.entries c.requires.paged.paged c.args.number c.requires.known

pub returns-clause-pages : goal.returns-clause-pages
returns-clause-pages c = pages_are c

pub returns-clause-first : goal.returns-clause-first
returns-clause-first c =
    subst (λ l. length (lines_on l c.args.number) < 256) (sym (pages_are c))
    (first_place c.args.self.now.pages.items c.args.self.now.sequence.items c.args.self.now.index.entries c.requires.paged.paged c.args.number c.requires.known)

pub returns-clause-second : goal.returns-clause-second
returns-clause-second c =
    subst (λ l. length (lines_on l c.len-next.result) < 256) (sym (pages_are c))
    (subst (λ n. length (lines_on (halved c.args.self.now.pages.items c.args.number) n) < 256) (sym (next_is c))
    (second_place c.args.self.now.pages.items c.args.self.now.sequence.items c.args.self.now.index.entries c.requires.paged.paged c.args.number c.requires.known c.requires.full))

pub returns-clause-crowding : goal.returns-clause-crowding
returns-clause-crowding c =
    ap (λ l. crowding l + 128) (pages_are c) ∙ crowding-split c.args.self.now.pages.items c.args.number (small c) c.requires.full
