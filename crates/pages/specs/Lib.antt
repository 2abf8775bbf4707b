pub mod Files
pub mod Pages
pub mod Program
