-- The lemmas of this crate.
pub mod Balances
pub mod Changes
mod ExternalLaws
pub mod Growth
pub mod Roots
pub mod Shapes
mod SumLaws
mod RangeLaws
pub mod JoinLaws
pub mod JoinSteps
mod FillLaws
