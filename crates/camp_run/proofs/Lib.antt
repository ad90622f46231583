mod Words
pub mod StoredTexts
pub mod Serial
pub mod Texts
pub mod Written
