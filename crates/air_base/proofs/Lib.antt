pub mod NumberLemmas
pub mod PartLemmas
pub mod ListLaws
pub mod LeadingPartLemmas
pub mod LeadingNumbers
pub mod MoreDigits
pub mod LeadingNumberLemmas
pub mod PlainNumbers
pub mod PartsAt
pub mod LeadingListLemmas
pub mod PlainLists
pub mod BadParts
pub mod NumberExamples
pub mod ListExamples
mod PartExamples
