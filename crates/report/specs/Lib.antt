pub mod Letters
pub mod Words
pub mod Digits
pub mod Room
pub mod Dump
pub mod Readings
pub mod Dates
pub mod Sheets
