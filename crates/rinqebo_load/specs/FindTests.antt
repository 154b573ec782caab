-- How a session finds the test that a request names.
use Rattle.std.specs.Prelude.{◌≡◌, ◌≢◌, ◌≤◌, ◌||◌, ℕ, List, [], ◌∷◌, Option, None, Some, Contains, Ok, Err, String, if◌then◌else◌, is_none, is_some, length, option_map, string_bytes}
use Rattle.std.specs.declared.alloc.Global.{Global}
use Rattle.filter_inputs.specs.Packages.Targets.{TargetText, binary_id, targets_of_text}
use Rattle.filter_inputs.specs.Lists.ListView.{list_view}
use Rattle.filter_inputs.specs.Lists.Lists.{ListTest, list_tests}
use Rattle.rinqebo_forms.specs.declared.machines.EngineFault.{EngineFault}
use Rattle.rinqebo_forms.specs.declared.machines.EngineFault.TheVariants as refused
use Rattle.rinqebo_request.specs.declared.request.RequestedTest.{RequestedTest}
use Rattle.rinqebo_load.specs.FoundTests.{IsTestOfId, found_view, named_tests, test_of_target}
use Rattle.rinqebo_load.specs.InputFaults.{IsAnySubject, OfEngine}
use Rattle.rinqebo_load.specs.declared.fault.InputFault.{InputFault}
use Rattle.rinqebo_load.specs.declared.fault.InputFault.TheVariants as inputs
use Rattle.rinqebo_load.specs.declared.found_test.FoundTest.{FoundTest}
use Rattle.rinqebo_load.specs.declared.found_test.TestSource.{TestSource}
use Rattle.rinqebo_load.specs.declared.found_test.TestSource.TheVariants as sources
use Rattle.rinqebo_load.specs.declared.missing.TestFault.{TestFault}
use Rattle.rinqebo_load.specs.declared.missing.TestFault.TheVariants as faults
use Rattle.rinqebo_load.specs.declared.session.Session.{Session}

-- where the program finds the binary of a test: a list if there is one, else the metadata if there
-- are any, else the id of the binary; without an id it is a list
abbrev pub source_of : Session → RequestedTest → TestSource
source_of session requested =
    if is_none requested.binary || is_some session.gathered.now.list then sources.List
    else (if is_some session.gathered.now.metadata then sources.Metadata else sources.Id)

-- the tests of a session's list that a request names
abbrev pub named_in : Session → RequestedTest → List ListTest
named_in session requested = named_tests requested (list_tests (list_view session.tests))

-- the id of the binary that a request names
abbrev pub binary_named : RequestedTest → Option (List ℕ)
binary_named requested = option_map (λ binary. binary.now) requested.binary

-- ---- a test is found

-- A test is one of a binary that is built from a target of the metadata.
pub record IsTestOfTargets (metadata binary : List ℕ) (requested : RequestedTest) (test : ListTest)
    : Type 0 where
  pub targets : List TargetText
  pub are_targets : targets_of_text metadata ≡ Ok targets
  pub target : TargetText
  pub is_target : Contains targets target
  pub builds : binary_id target ≡ binary
  pub is_test : test ≡ test_of_target target requested

-- a test is one of the binary of an id by the metadata
abbrev pub IsTestByMetadata : Option (String Global) → Option (List ℕ) → RequestedTest → ListTest
    → Type 0
IsTestByMetadata (Some metadata) (Some binary) requested test =
    IsTestOfTargets (string_bytes metadata) binary requested test
IsTestByMetadata metadata binary requested test = ⊥

-- a test is one of the binary of an id by that id
abbrev pub IsTestById : Option (List ℕ) → RequestedTest → ListTest → Type 0
IsTestById (Some binary) requested test = IsTestOfId requested binary test
IsTestById None requested test = ⊥

-- a source gives the test that a request names: a list has exactly one such test
abbrev pub IsTestBy : TestSource → Session → RequestedTest → ListTest → Type 0
IsTestBy sources.List session requested test = named_in session requested ≡ test ∷ []
IsTestBy sources.Metadata session requested test =
    IsTestByMetadata session.gathered.now.metadata (binary_named requested) requested test
IsTestBy sources.Id session requested test = IsTestById (binary_named requested) requested test

-- A test is the one that a request names, as a session finds it.
pub record IsFoundFor (session : Session) (requested : RequestedTest) (found : FoundTest) : Type 0
  where
    pub source : found.source ≡ source_of session requested
    pub mode : found.mode ≡ requested.mode
    pub test : IsTestBy (source_of session requested) session requested (found_view found)

-- ---- no test is found

-- No target of the metadata builds the binary of an id.
pub record LacksBinary (metadata binary : List ℕ) : Type 0 where
  pub targets : List TargetText
  pub are_targets : targets_of_text metadata ≡ Ok targets
  pub lacks : (target : TargetText) → Contains targets target → binary_id target ≢ binary

-- the metadata have no binary of an id
abbrev pub LacksBinaryIn : Option (String Global) → Option (List ℕ) → Type 0
LacksBinaryIn (Some metadata) (Some binary) = LacksBinary (string_bytes metadata) binary
LacksBinaryIn metadata binary = ⊥

-- a source has no test that a request names, or no binary of it
abbrev pub LacksTestBy : TestSource → Session → RequestedTest → Type 0
LacksTestBy sources.List session requested = named_in session requested ≡ []
LacksTestBy sources.Metadata session requested =
    LacksBinaryIn session.gathered.now.metadata (binary_named requested)
LacksTestBy sources.Id session requested = ⊥

-- a session has no test that a request names
abbrev pub LacksTest : Session → RequestedTest → Type 0
LacksTest session requested = LacksTestBy (source_of session requested) session requested

-- A session's list has several tests that a request names.
pub record HasSeveral (session : Session) (requested : RequestedTest) : Type 0 where
  pub source : source_of session requested ≡ sources.List
  pub several : 2 ≤ length (named_in session requested)

-- no targets can be read from the text of metadata, for exactly this fault
abbrev pub AreNoTargets : List ℕ → EngineFault → Type 0
AreNoTargets metadata (refused.Metadata fault) = targets_of_text metadata ≡ Err fault
AreNoTargets metadata (refused.Platform triple fault) = ⊥
AreNoTargets metadata refused.Memory = ⊥

-- the same of metadata, if there are any
abbrev pub IsTargetsFault : Option (String Global) → EngineFault → Type 0
IsTargetsFault (Some metadata) fault = AreNoTargets (string_bytes metadata) fault
IsTargetsFault None fault = ⊥

-- The metadata of a session have no targets that can be read.
pub record LacksTargets (session : Session) (requested : RequestedTest) (fault : InputFault)
    : Type 0 where
  pub source : source_of session requested ≡ sources.Metadata
  pub cause : OfEngine IsAnySubject (IsTargetsFault session.gathered.now.metadata) fault

-- a session does not find the test that a request names, unless memory runs out
abbrev pub IsNotFound : Session → RequestedTest → TestFault → Type 0
IsNotFound session requested (faults.NoTest missing) = LacksTest session requested
IsNotFound session requested (faults.SeveralTests tests) = HasSeveral session requested
IsNotFound session requested (faults.Input fault) = LacksTargets session requested fault
IsNotFound session requested faults.Memory = Unit {0}

-- ---- what each source gives

-- A test is the only one of a list that a request names.
pub record IsOnlyOne (named : List ListTest) (requested : RequestedTest) (found : FoundTest)
    : Type 0 where
  pub source : found.source ≡ sources.List
  pub mode : found.mode ≡ requested.mode
  pub only : named ≡ found_view found ∷ []

-- not exactly one test of a list is named, unless memory runs out
abbrev pub IsNotOne : List ListTest → TestFault → Type 0
IsNotOne named (faults.NoTest missing) = named ≡ []
IsNotOne named (faults.SeveralTests tests) = 2 ≤ length named
IsNotOne named (faults.Input fault) = ⊥
IsNotOne named faults.Memory = Unit {0}

-- A test is one that a request names, of the binary of an id in metadata.
pub record IsOfMetadata (metadata binary : List ℕ) (requested : RequestedTest) (found : FoundTest)
    : Type 0 where
  pub source : found.source ≡ sources.Metadata
  pub mode : found.mode ≡ requested.mode
  pub test : IsTestOfTargets metadata binary requested (found_view found)

-- metadata have no binary of an id, or no targets, unless memory runs out
abbrev pub IsNotOfMetadata : List ℕ → List ℕ → TestFault → Type 0
IsNotOfMetadata metadata binary (faults.NoTest missing) = LacksBinary metadata binary
IsNotOfMetadata metadata binary (faults.SeveralTests tests) = ⊥
IsNotOfMetadata metadata binary (faults.Input fault) =
    OfEngine IsAnySubject (AreNoTargets metadata) fault
IsNotOfMetadata metadata binary faults.Memory = Unit {0}

-- a fault of what a request names is why a test is not found: a refusal of memory is a reason of
-- its own
abbrev pub test_fault : InputFault → TestFault
test_fault inputs.Memory = faults.Memory
test_fault fault = faults.Input fault
