mod LaidLaws
mod ReadyLaws
mod LeadsLaws
mod Spelling
mod LeafLaws
mod SkipsLaws
mod WholeLaws
