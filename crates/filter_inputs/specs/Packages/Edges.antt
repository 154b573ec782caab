-- Dependencies between packages, and what reaches what by them.
use Rattle.std.specs.Prelude.{ℕ, List, Contains}
use Rattle.filter_inputs.specs.declared.packages.edges.Edge.{Edge}
use Rattle.filter_inputs.specs.declared.packages.edges.Direction.{Direction}
use Rattle.filter_inputs.specs.declared.packages.edges.Direction.TheVariants.{Dependencies, Dependents}

-- the package at one index depends on the package at another
abbrev pub DependsOn : List Edge → ℕ → ℕ → Type 0
DependsOn edges a b = Contains edges (record { from = a; to = b })

-- b is a, or a dependency of a reaches b
pub data Reaches (edges : List Edge) : ℕ → ℕ → Type 0 where
  itself : (a : ℕ) → Reaches edges a a
  onward : (a b c : ℕ) → DependsOn edges a b → Reaches edges b c → Reaches edges a c

-- the edge, turned to start at the package from which a search in this direction follows it
abbrev pub oriented : Direction → Edge → Edge
oriented Dependencies edge = edge
oriented Dependents edge = record { from = edge.to; to = edge.from }
