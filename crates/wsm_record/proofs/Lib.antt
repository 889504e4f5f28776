pub mod Lists
pub mod Capitals
pub mod DeclaredFields
pub mod FittingValues
pub mod Schemas
pub mod NameGuesses
pub mod AddedNames
pub mod NamesOf
