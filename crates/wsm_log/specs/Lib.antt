pub mod LinesOf
pub mod LineRows
pub mod LineBuffer
pub mod Lines
