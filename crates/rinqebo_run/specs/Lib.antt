pub mod OpenFilters
pub mod CheckNotes
