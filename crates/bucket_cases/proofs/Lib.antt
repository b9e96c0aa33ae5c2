mod Bodies
mod ToldBuckets
