pub mod Numbers
pub mod Parts
pub mod NumberLists
pub mod ListFault
pub mod LeadingParts
pub mod ReadParts
