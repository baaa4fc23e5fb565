pub mod Arch
pub mod Field
pub mod Label
pub mod Number
pub mod Page
pub mod Printed
pub mod Profile
