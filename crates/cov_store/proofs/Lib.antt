mod Applies
pub mod CallerLemmas
mod Framing
pub mod Legal
mod Opens
mod Replays
mod Standing
