mod Joined
mod Filled
mod Shifted
mod Near
