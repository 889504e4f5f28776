pub mod LabelPass
pub mod Longest
pub mod AcceptedPlaces
pub mod Lawful
pub mod FoldedRanges
