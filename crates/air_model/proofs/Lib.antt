pub mod Elements
pub mod ItemOrder
pub mod CommonMultiples
pub mod Periods
pub mod SlotPlaces
pub mod ProgramLemmas
pub mod ProgramExamples
pub mod ByteLemmas
pub mod EntryLemmas
pub mod FieldLemmas
pub mod BucketFields
pub mod BucketLemmas
pub mod BucketExamples
pub mod AgeBucketExamples
pub mod CapLemmas
pub mod FitExamples
pub mod TapeLemmas
pub mod TapeExamples
pub mod CopyOrders
pub mod CopySums
pub mod CopyExamples
pub mod EtherLemmas
pub mod DueLemmas
pub mod EtherExamples
pub mod DrillExamples
pub mod AiredLemmas
pub mod EditionLemmas
pub mod HeardLemmas
pub mod BareLemmas
pub mod DeckLemmas
pub mod ExactLemmas
pub mod JudgeLemmas
pub mod LaterLemmas
pub mod LegalLemmas
pub mod LineLemmas
pub mod MomentLemmas
pub mod NameLemmas
pub mod RangeLemmas
pub mod ReceiverLemmas
pub mod ScriptLemmas
pub mod SettleLemmas
pub mod DozeLemmas
pub mod SoundLemmas
pub mod ReaderLemmas
pub mod SessionExamples
pub mod SessionRuleExamples
pub mod AgedExamples
pub mod ReplanExamples
pub mod OutputExamples
pub mod RelationExamples
pub mod LineExamples
pub mod RowLemmas
pub mod ClosingExamples
pub mod ListLemmas
pub mod StartLemmas
pub mod ClosingLemmas
pub mod AiringLemmas
pub mod BatchLemmas
pub mod BeyondLemmas
pub mod FrameLemmas
pub mod ItemLemmas
mod BucketPartExamples
mod StepExamples
mod SessionStepExamples
mod RunExamples
mod PartExamples
mod RowExamples
mod AiredRunExamples
mod GroupExamples
mod CounterExamples
mod EdgeExamples
