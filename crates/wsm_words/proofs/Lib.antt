mod Plain
mod Faults
mod Lists
mod Rules
