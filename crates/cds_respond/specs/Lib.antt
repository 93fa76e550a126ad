pub mod Sending
pub mod Receiving
pub mod Response
pub mod Replies
pub mod Fixed
