pub mod Program
pub mod Text
pub mod Status
