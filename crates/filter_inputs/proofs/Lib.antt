pub use Rattle.filter_inputs.proofs.packages.Reaching
