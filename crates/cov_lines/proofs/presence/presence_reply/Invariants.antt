use Rattle.std.proofs.Common.{◌≡◌, ◌++◌, ◌+◌, ◌<◌, length, true, nat_lt}
use Rattle.std.specs.List.{list_all}
use Rattle.cov_lines.specs.Replies.{entry_lines}
use Rattle.cov_lines.proofs.presence.presence_reply.Given as goal

abbrev pub invariant-entries : goal.invariant-entries
invariant-entries l = record {
  so_far : l.lines ++ entry_lines l.options.names l.index l.ahead ≡ entry_lines l.options.names 0 l.listing.entries;
  below : list_all (λ e. nat_lt e.option (length l.options.names)) l.ahead ≡ true;
  count : l.index + length l.ahead ≡ length l.listing.entries;
  short : length l.listing.entries < 18446744073709551616;
}

abbrev pub decreases-entries : goal.decreases-entries
decreases-entries l = length l.ahead
