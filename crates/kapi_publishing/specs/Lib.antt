pub mod Steps
pub mod Rule
pub mod Pages
pub mod Boards
pub mod Laws
pub mod Private
