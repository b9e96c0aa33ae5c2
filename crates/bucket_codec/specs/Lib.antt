pub mod BucketsToAir
pub mod DatagramKinds
pub mod Readers
pub mod Private
