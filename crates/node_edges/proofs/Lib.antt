-- The lemmas of this crate.
pub mod EdgeLaws
pub mod TreeLaws
pub mod TextLaws
pub mod BodyLaws
pub mod ExchangeLaws
pub mod EditLaws
pub mod LevelLaws
pub mod WayLaws
pub mod ChangedLaws
pub mod RootLaws
