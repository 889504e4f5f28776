pub mod SoundOperations
pub mod SoundNarrowing
mod Wide
