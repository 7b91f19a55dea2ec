pub mod Joined
pub mod SheetRow
pub mod View
pub mod Named
pub mod Tabled
