-- The lemmas of this crate.
pub mod Settled
pub mod ByteLaws
pub mod BoardLaws
pub mod CauseLaws
pub mod RunLaws
pub mod WholeLaws
pub mod StayLaws
pub mod NoteLaws
pub mod ReplyLaws
