pub mod Writing
pub mod Reading
pub mod Named
pub mod Queued
pub mod Resuming
