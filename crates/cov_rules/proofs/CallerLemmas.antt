-- What callers cite.
pub use Rattle.cov_rules.proofs.Answering.{all_whole, allowed, completed_is_valid}
pub use Rattle.cov_rules.proofs.Deciding.{fails_on_each, is_on-padded, is_valid_same, none_passes, none_short, none_wide, value_same}
pub use Rattle.cov_rules.proofs.Growing.{stay_below, value_by_first_options}
pub use Rattle.cov_rules.proofs.Holding.{holds_later}
pub use Rattle.cov_rules.proofs.Renumbering.{below_renumbered, same_at, same_constraints, same_defaults, same_preferences}
