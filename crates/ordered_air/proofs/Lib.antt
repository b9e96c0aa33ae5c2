pub mod ThinLemmas
