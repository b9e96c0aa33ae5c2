pub mod ModelLaws
pub mod TruthLemmas
pub mod ReadLemmas
pub mod MakeLemmas
pub mod PlanLemmas
pub mod RunLemmas
pub mod AnswerLemmas
pub mod RefusalLemmas
pub mod EndLemmas
pub mod InputLemmas
pub mod PlanMeaningLemmas
pub mod SplitLemmas
pub mod ScriptLemmas
pub mod PieceAnswers
pub mod BeamLemmas
pub mod TuneLemmas
pub mod SeekLemmas
pub mod DrillLemmas
pub mod AuditLemmas
pub mod RunMeaningLemmas
pub mod CastLemmas
pub mod ListenLemmas
pub mod DrillStatuses
pub mod CommandLemmas
pub mod TopLemmas
pub mod RightLemmas
pub mod AgreeLemmas
pub mod HeadlineLemmas
pub mod CauseLemmas
pub mod WholeRecordLemmas
pub mod ReadSoFar
pub mod PieceLemmas
pub mod ReadingLemmas
pub mod TapeHearerLemmas
pub mod HeardSoFar
pub mod CountLemmas
pub mod OutputLemmas
pub mod DeliveryLemmas
pub mod EarLemmas
mod ToldExamples
mod WordExamples
mod CommandExamples
mod BeamExamples
mod SplitExamples
mod SeekExamples
mod RunExamples
mod ListenExamples
mod FailureExamples
mod AnswerExamples
mod HeadlineExamples
mod StandExamples
mod TopExamples
mod GiftExamples
mod LongExamples
mod CounterExamples
mod LimitExamples
mod CauseExamples
mod GivenExamples
mod MeaningExamples
mod RefusalExamples
mod StatusExamples
mod PartExamples
mod StandPartExamples
