pub mod RowTurns
pub mod Texts
pub mod SameText
pub mod SaidTexts
mod StatedRuns
