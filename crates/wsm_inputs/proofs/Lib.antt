pub mod Judgements
pub mod Unwritten
pub mod PlainTokens
pub mod PlainFields
pub mod Told
pub mod TextOf
pub mod SameLines
pub mod RunsBeforeRows
