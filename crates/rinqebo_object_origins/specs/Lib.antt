pub mod ObjectOrigins
