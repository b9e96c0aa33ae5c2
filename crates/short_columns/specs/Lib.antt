pub mod Listings
pub mod ShortColumns
