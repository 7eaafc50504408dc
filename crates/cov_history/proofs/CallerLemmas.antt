-- What a caller cites.
pub use Rattle.cov_history.proofs.Appends.{commit-lines, commit-rows, holding-goes_on, lines-edits}
pub use Rattle.cov_history.proofs.BadChoices.{bad-is, least-bad, no-bad, none-bad, none-unsound, refusal-by_rows, some-unsound}
pub use Rattle.cov_history.proofs.Deletes.{delete-dated, delete-elsewhere, delete-order, lines-held}
pub use Rattle.cov_history.proofs.FileNodes.{AreTold, AreWithin, absent-high, absent-low, among-last, among-more, edits-told, files-append, files-commit, files-rise, from-within, made-append, made-within, onto_both, replay-told, rows-tell}
pub use Rattle.cov_history.proofs.Files.{anchor-below, anchor-case, any-seen, file-replay}
pub use Rattle.cov_history.proofs.Inserts.{amid-goes_on, amid-within, anchor-known, anchors-append, anchors-stay, insert-elsewhere, is_table-of, stands-amid}
pub use Rattle.cov_history.proofs.Legal.{accepted-room, legal-one}
pub use Rattle.cov_history.proofs.LineFiles.{AreLinesIn, accepted-names, amid-in_files, begun-named, legal-in_files, named-in_turn, turn-names}
pub use Rattle.cov_history.proofs.Naming.{AreNamed, IsNamed, accepted-named, base-nodes, edits-accepted, further, legal-named, made-number, no-record, nodes-replay, sound-accepted, the_node}
pub use Rattle.cov_history.proofs.Older.{accepted-anchored, accepted-there, legal-take}
pub use Rattle.cov_history.proofs.Once.{IsOther, deleted-once}
pub use Rattle.cov_history.proofs.Orders.{any-mapped, any-none, file-shows, insert-dated, no_commit-holds, order-takes}
pub use Rattle.cov_history.proofs.Replays.{replay-seen}
pub use Rattle.cov_history.proofs.RowChanges.{rows-committed, rows-kept}
pub use Rattle.cov_history.proofs.RowsRising.{fault-as_stands, replay-few, replay-in_order, replay-once}
pub use Rattle.cov_history.proofs.Seen.{seen-cons}
pub use Rattle.cov_history.proofs.Sessions.{edit-accepted, good-passes, rest-accepted}
pub use Rattle.cov_history.proofs.Shown.{replay-stands}
pub use Rattle.cov_history.proofs.Sound.{legal-sound, lines-sound, options-grow, rules-low}
pub use Rattle.cov_history.proofs.Standing.{all-mapped, holding-stands}
pub use Rattle.cov_history.proofs.Unread.{commit-front, commit-unread, replay-unread}
pub use Rattle.cov_history.proofs.Whole.{holding-whole, file_of_line-has, file_of_line-more, files_of_lines-stay, new-files_of_lines-count}
