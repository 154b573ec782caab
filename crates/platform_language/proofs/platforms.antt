pub mod CfgLineLemmas
pub mod Triples
