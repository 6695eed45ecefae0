pub mod Appended
pub mod StatusTexts
