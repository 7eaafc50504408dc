pub mod BelowLemmas
mod Examples
