pub mod ShortTapes
pub mod ShortPlans
