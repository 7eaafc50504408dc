mod ChoiceExamples
mod Examples
pub mod CallerLemmas
pub mod FrontReads
pub mod Fronts
pub mod Gathering
pub mod Lexing
pub mod ListLemmas
pub mod NameLemmas
pub mod NamesBack
pub mod Parsing
pub mod PartCounts
pub mod PartialLemmas
pub mod Printing
pub mod ReadingBindings
pub mod SameParts
pub mod Spelt
pub mod Texts
pub mod Words
