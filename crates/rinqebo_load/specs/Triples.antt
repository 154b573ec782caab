-- The list of tests that a run is about, and the triples of its build.
use Rattle.std.specs.Prelude.{◌≡◌, ℕ, List, [], Option, None, Some, is_some, option_map, unwrap_or, String, string_bytes, if◌then◌else◌}
use Rattle.std.specs.Option.{option_or}
use Rattle.std.specs.declared.alloc.Global.{Global}
use Rattle.rinqebo_request.specs.declared.request.TheConstants.{HOST}
use Rattle.rinqebo_request.specs.declared.request.EngineOptions.{EngineOptions}
use Rattle.filter_inputs.specs.Lists.ListView.{list_view}
use Rattle.filter_inputs.specs.Lists.Lists.{TestList}
use Rattle.filter_inputs.specs.Lists.Reading.{IsListIn}
use Rattle.filter_inputs.specs.declared.lists.list.ListedTests.{ListedTests}
use Rattle.rinqebo_load.specs.declared.fault.TripleSource.{TripleSource}
use Rattle.rinqebo_load.specs.declared.fault.TripleSource.TheVariants as sources
use Rattle.rinqebo_load.specs.declared.triples.Triples.{Triples}

-- a list without tests, triples and target directory
abbrev pub no_list : TestList
no_list = record {
  triples = record { host = None; target = None };
  target_directory = None;
  binaries = [];
}

-- tests are those that the text of a list says: without a text there are none
abbrev pub IsListFor : Option (String Global) → ListedTests → Type 0
IsListFor (Some text) tests = IsListIn (string_bytes text) (list_view tests)
IsListFor None tests = list_view tests ≡ no_list

-- The triple of the host: the one that words name, else the one that the compiler prints of itself,
-- else that of the list, else that of no word.
abbrev pub host_for : EngineOptions → Option (List ℕ) → TestList → List ℕ
host_for options printed list =
    unwrap_or (option_map (λ host. host.now) options.host)
    (unwrap_or printed (unwrap_or list.triples.host HOST.now))

-- The triple of the target: the one that words name, else that of the list where it says the
-- platforms of the build, else that of the environment.
abbrev pub target_for : EngineOptions → TestList → Option (List ℕ)
target_for options list =
    option_or (option_map (λ target. target.now) options.target)
    (if is_some list.triples.host then list.triples.target
    else option_map (λ target. target.now) options.build_target)

-- what gives the triple of the host
abbrev pub host_source : EngineOptions → Option (List ℕ) → TestList → TripleSource
host_source options printed list =
    if is_some options.host then sources.Host
    else (if is_some printed then sources.RustcVersion
    else (if is_some list.triples.host then sources.List else sources.Fallback))

-- what gives the triple of the target: a list that says the platforms of the build gives it even
-- where it has no target
abbrev pub target_source : EngineOptions → TestList → TripleSource
target_source options list =
    if is_some options.target then sources.Target
    else (if is_some list.triples.host then sources.List
    else (if is_some options.build_target then sources.Variable else sources.Fallback))

-- Triples are those of a build: that of the host and of the target, and what gives them.
pub record AreTriplesFor (options : EngineOptions) (printed : Option (List ℕ)) (list : TestList)
    (triples : Triples) : Type 0 where
  pub host : string_bytes triples.host ≡ host_for options printed list
  pub target : option_map string_bytes triples.target ≡ target_for options list
  pub host_source : triples.host_source ≡ host_source options printed list
  pub target_source : triples.target_source ≡ target_source options list
