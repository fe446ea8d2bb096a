pub mod FirstPlaces
mod Visits
