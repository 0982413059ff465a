mod Pictures
mod Warmth
