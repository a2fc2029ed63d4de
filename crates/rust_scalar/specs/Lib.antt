pub mod PaperF64
pub mod RustReadings
pub mod RustReadingsAlike
