-- What names stand for, and their order.
pub mod Named
