pub mod Gists
pub mod Digests
pub mod SameLines
pub mod Roles
pub mod Replaced
pub mod Quiet
pub mod Moved
pub mod BareItems
