pub mod Views
pub mod Laying
pub mod Shapes
pub mod Makers
pub mod Clearing
