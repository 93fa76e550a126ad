pub mod OneNaming
pub mod Wants
pub mod Listing
pub mod GivingSteps
pub mod Sorting
pub mod OrderedPairs
pub mod Existence
