pub mod Stores
pub mod Leaves
pub mod Caches
pub mod CacheFields
pub mod Private
