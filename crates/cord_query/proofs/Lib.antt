-- The lemmas of this crate.
mod OrderLaws
mod PieceLaws
mod StepLaws
mod OccurLaws
mod AcrossLaws
mod ChunkLaws
mod EndLaws
mod WholeLaws
mod BorderLaws
