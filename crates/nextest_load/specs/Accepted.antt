-- Which files are accepted: one field for each written rule.
use Rattle.std.specs.Prelude.{◌≡◌, List, [], ◌∷◌, ◌++◌, map, IsSome}
use Rattle.nextest_documents.specs.Text.{tree_of}
use Rattle.nextest_engines.specs.Readings.{Readings}
use Rattle.nextest_inheritance.specs.Faults.{is_known, AreSoundParents}
use Rattle.nextest_inheritance.specs.Parents.{parents_in}
use Rattle.nextest_rules.specs.Accepted.{AreAcceptedDefinitions, AreAcceptedRules}
use Rattle.nextest_rules.specs.Definitions.{Features}
use Rattle.nextest_rules.specs.Known.{known_to}
use Rattle.nextest_rules.specs.Steps.{written_parents}
use Rattle.nextest_sources.specs.InputFaults.{Each, IsReadOrMissing, HaveOneFileEach}
use Rattle.nextest_sources.specs.Inputs.{LoadInputs, SourceText, inputs_of, sources_in}
use Rattle.nextest_tables.specs.Tables.{a_file}
use Rattle.nextest_tree.specs.Schema.{faults}
use Rattle.nextest_load.specs.Steps.{lower_profiles, no_profiles}
use Rattle.nextest_load.specs.Trees.{own_tree, own_file, merged_tree, merged_file}

-- a fact of each source over those below it
abbrev pub EachOver : (List SourceText → SourceText → Type 0) → List SourceText → Type 0
EachOver P ss = (below : List SourceText) (s : SourceText) (above : List SourceText)
    → ss ≡ below ++ s ∷ above → P below s

-- All that is required of a source over those below it.
pub record IsAcceptedSource {M K P : Type 0} (engines : Readings M K P) (features : Features)
    (below : List SourceText) (s : SourceText) : Type 0 where
  -- its text is a document
  pub document : IsSome (tree_of s.text)
  -- over the defaults it has no fault of an element
  pub elements : faults a_file [] (own_tree s) ≡ []
  -- it may define what it defines, and has what that needs
  pub definitions : AreAcceptedDefinitions features s.source (own_file s)
  -- its parents are sound, and its rules compile and name what is known to it
  pub rules : AreAcceptedRules engines (lower_profiles below)
      (known_to (map own_file below) (own_file s)) (own_file s)

-- All that is required of the files of a load.
pub record IsAccepted {M K P : Type 0} (engines : Readings M K P) (features : Features)
    (files : LoadInputs) : Type 0 where
  -- no tool has two files
  pub tools : HaveOneFileEach files.tools
  -- each file is read, or it was only looked for and is missing
  pub outcomes : Each (λ i. IsReadOrMissing i.source.kind i.outcome) (inputs_of files)
  -- each source is accepted over those below it
  pub sources : EachOver (IsAcceptedSource engines features) (sources_in files)
  -- the merged tree has no fault of an element
  pub merged_elements : faults a_file [] (merged_tree (sources_in files)) ≡ []
  -- and its parents are sound by themselves
  pub merged_parents :
      let written = written_parents (merged_file (sources_in files)).profiles in
      AreSoundParents (parents_in written) (is_known no_profiles written)
