pub mod NamedFiles
pub mod LineLists
pub mod AskedRows
pub mod Endings
pub mod Writers
pub mod Taken
pub mod Reading
