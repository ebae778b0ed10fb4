-- The lemmas of this crate.
pub mod OrderLaws
pub mod MarkLaws
pub mod MergeLaws
pub mod KeptLaws
pub mod SampleRuns
pub mod AnswerLaws
pub mod AloneLaws
pub mod ScriptLaws
pub mod WatchLaws
