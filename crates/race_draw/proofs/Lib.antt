pub mod WaySteps
pub mod FoldLemmas
pub mod PictureLemmas
pub mod LayoutLemmas
