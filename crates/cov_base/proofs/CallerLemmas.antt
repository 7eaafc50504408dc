-- What callers cite.
pub use Rattle.cov_base.proofs.Choosing.{drop-is_on, is_on-above, is_on-middle, is_on-other, is_on-same, is_on-take, length-with_option, with_option-middle}
pub use Rattle.cov_base.proofs.Faulty.{any-map, both_ways, faults_are_found, is_some-find, is_some-map, length-order, own_rows, row_of-order, same_place-sym}
pub use Rattle.cov_base.proofs.Inserting.{insert_behind, insert_last}
pub use Rattle.cov_base.proofs.Lists.{all-rest, any-filter, any-push, drop-at, drop-end, nat_eq-sym, none-is, none-placed, opened, or_left_comm, or_second, place-absent, place-found, rest-is, rest_of, split-absent, value_older}
pub use Rattle.cov_base.proofs.Ordered.{all-append, all-both, all-filter, all-map, all-placed, before-itself, before-not, filter-placed, in_order-filter, new_after, placed-first, placed-in_order}
pub use Rattle.cov_base.proofs.Placing.{at_one, map-after_anchor, order-insert, placed-after_line, placed-at_head}
pub use Rattle.cov_base.proofs.Reaching.{down, in_time, ways_are_short, up}
pub use Rattle.cov_base.proofs.Replacing.{having-by, having-numbers, having-rest, having-step, length-having, parted}
pub use Rattle.cov_base.proofs.Tables.{address_in-beyond, address_in-last, address_in-next, address_in-with_line, address_in-with_lines, inside, is_table-with_line, is_table-with_lines, length-with_line, length-with_lines, line_is, line_of-in, one_address, small_in}
