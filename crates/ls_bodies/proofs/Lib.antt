pub mod Arrays
pub mod Floats
pub mod WithoutCert
