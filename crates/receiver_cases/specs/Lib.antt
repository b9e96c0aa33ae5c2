pub mod PolicyReads
