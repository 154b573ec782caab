-- What a load reports of a tree is exact.
use Rattle.std.specs.Prelude.{◌≡◌, List, Contains}
use Rattle.nextest_inheritance.specs.Faults.{ParentFault}
use Rattle.nextest_sources.specs.Causes.{LoadFault, bad_element, bad_parents}
use Rattle.nextest_sources.specs.Inputs.{LoadInputs, SourceText, repository_of, sources_in}
use Rattle.nextest_sources.specs.Sources.{Source}
use Rattle.nextest_tables.specs.FileTexts.{file_text}
use Rattle.nextest_tree.specs.Node.{Node}
use Rattle.nextest_tree.specs.Schema.{Fault}
use Rattle.nextest_load.specs.Laws.{IsLeastFault, TellCycles}
use Rattle.nextest_load.specs.Trees.{own_tree, merged_tree}

-- A load checks a tree at a source: the file of a source over the defaults, or the merged tree, at
-- the repository's source.
pub data Checks (files : LoadInputs) : Source → Node → Type 0 where
  at_own_tree : (s : SourceText) → Contains (sources_in files) s
      → Checks files s.source (own_tree s)
  at_merged_tree : Checks files (repository_of files) (merged_tree (sources_in files))

-- a fact of a tree that a load checks at a source
abbrev pub OfChecked : LoadInputs → Source → (Node → Type 0) → Type 0
OfChecked files source P = (n : Node) × Checks files source n × P n

-- A fault of a load is exact, where it is of a tree.
pub record IsExact (files : LoadInputs) (fault : LoadFault) : Type 0 where
  -- an element is the least fault of its tree
  pub elements : (element : Fault) → fault.cause ≡ bad_element element
      → OfChecked files fault.source (λ n. IsLeastFault n element)
  -- faults of parents name exactly the cycles of their tree
  pub parents : (faults : List ParentFault) → fault.cause ≡ bad_parents faults
      → OfChecked files fault.source (λ n. TellCycles (file_text n) faults)
