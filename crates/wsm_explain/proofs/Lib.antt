mod Lists
mod Places
mod Walks
mod NoFloats
mod Few
