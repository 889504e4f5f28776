mod Ways
mod WidenedStacks
mod PassKept
mod FirstRules
mod Judgements
mod PlacesKept
