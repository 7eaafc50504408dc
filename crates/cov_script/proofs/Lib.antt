pub mod Checking
mod DemonstrationExamples
pub mod Drawing
mod Examples
pub mod Joining
pub mod Keywords
pub mod KindLemmas
pub mod Lengths
mod MistakeExamples
pub mod Mistaken
pub mod Numbers
pub mod Places
pub mod Refused
pub mod Repeating
mod ReplyExamples
pub mod Spelling
pub mod Unspelling
