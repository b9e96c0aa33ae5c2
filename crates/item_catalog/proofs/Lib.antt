pub mod DiskLemmas
pub mod PartWords
pub mod ReplanLemmas
pub mod KeptReplans
pub mod WriteLemmas
pub mod ScriptLemmas
pub mod DeclarationLemmas
pub mod DraftLemmas
pub mod PlaceLemmas
pub mod KeptLemmas
pub mod KeptSteps
pub mod SpeltLemmas
pub mod WellMadeLemmas
pub mod KeptRows
pub mod ReadingLemmas
pub mod GrammarLemmas
pub mod GrammarExamples
pub mod DealLemmas
pub mod DrillLemmas
pub mod SplitWriteLemmas
pub mod LeadingWriteLemmas
pub mod WritePlaces
pub mod RepeatLemmas
pub mod SeenLemmas
pub mod KeptOnceLemmas
pub mod FieldLemmas
pub mod ManyFieldLemmas
pub mod KindLemmas
pub mod FaultPlaces
pub mod RecordPlaces
pub mod RowLemmas
pub mod RecordsLemmas
pub mod TagLemmas
pub mod DrawLemmas
pub mod AroundLemmas
pub mod DrawnLemmas
pub mod WrittenRows
mod DeclarationTexts
mod DraftSteps
mod DeckDrafts
mod TestLemmas
mod UpdateTests
mod ReplanTests
mod DraftSections
mod ScriptTests
mod DeckTests
mod SpelledDecks
mod DrillTexts
mod FieldExamples
mod TextExamples
mod DeclarationExamples
mod TestExamples
mod ReplanExamples
mod FirstFaultExamples
mod EndExamples
mod GroupExamples
mod NumberExamples
