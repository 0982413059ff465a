mod Overlays
mod Readings
mod Listings
mod Told
mod Midway
mod Fitted
mod Links
