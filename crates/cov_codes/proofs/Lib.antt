pub mod CallerLemmas
pub mod RefusalCodes
