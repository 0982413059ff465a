mod Lasts
mod Maps
mod Plans
mod Buffers
mod Steps
mod LastPlans
mod Keeping
mod Replays
