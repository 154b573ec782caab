-- A profile that writes every field but the path of its report.
pub use Rattle.nextest_tables.specs.Complete.{IsComplete}
