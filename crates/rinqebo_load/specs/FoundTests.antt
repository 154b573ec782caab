-- Tests that a request names, and what is known of them.
use Rattle.std.specs.Prelude.{◌≡◌, ◌≢◌, ◌++◌, ◌&&◌, ◌||◌, ◌<◌, ℕ, Bool, false, eqb, length, List, [], Option, None, Some, codes, if◌then◌else◌, string_bytes}
use Rattle.std.specs.List.{after_first, before_first, ends_with, filter, position_or_len}
use Rattle.std.specs.Str.{bytes_eq}
use Rattle.filter_language.specs.Values.{package_name}
use Rattle.filter_inputs.specs.Packages.Targets.{TargetText, binary_id}
use Rattle.nextest_engines.specs.declared.queries.BuildPlatform.{BuildPlatform}
use Rattle.nextest_engines.specs.declared.queries.BuildPlatform.TheVariants.{Host}
use Rattle.filter_inputs.specs.Lists.Lists.{ListTest}
use Rattle.rinqebo_request.specs.declared.request.RequestedTest.{RequestedTest}
use Rattle.rinqebo_load.specs.declared.found_test.FoundTest.{FoundTest}
use denote.Ref.{Bor}

-- a found test, as a list has tests
abbrev pub found_view : FoundTest → ListTest
found_view found = record {
  test = record {
    binary = record {
      package_id = string_bytes found.package_id;
      binary_id = string_bytes found.binary;
      kind = string_bytes found.kind;
      binary_name = string_bytes found.target;
      platform = found.platform;
    };
    name = string_bytes found.name;
  };
  ignored = found.ignored;
}

-- ---- tests of a list

-- whether a word names a test without its binary: it is the name of the test, or the end of it
-- behind `::`
abbrev pub is_end_of : List ℕ → List ℕ → Bool
is_end_of word name = bytes_eq name word || ends_with eqb name (codes "::" ++ word)

-- whether a test has a name, in a binary of an id if there is one
abbrev pub is_named : Option (Bor (List ℕ)) → List ℕ → ListTest → Bool
is_named (Some binary) name listed =
    bytes_eq listed.test.binary.binary_id binary.now && bytes_eq listed.test.name name
is_named None name listed = is_end_of name listed.test.name

-- the tests of a list that a request names
abbrev pub named_tests : RequestedTest → List ListTest → List ListTest
named_tests requested tests = filter (is_named requested.binary requested.name.now) tests

-- ---- tests of a target

-- the platform that a binary of a kind is built for, if not the one that is stated
abbrev pub platform_for : List ℕ → BuildPlatform → BuildPlatform
platform_for kind stated = if bytes_eq kind (codes "proc-macro") then Host else stated

-- a test of a target, of which nothing says that it is ignored
abbrev pub test_of_target : TargetText → RequestedTest → ListTest
test_of_target target requested = record {
  test = record {
    binary = record {
      package_id = target.package_id;
      binary_id = binary_id target;
      kind = target.kind;
      binary_name = target.name;
      platform = platform_for target.kind requested.platform;
    };
    name = requested.name.now;
  };
  ignored = false;
}

-- ---- tests whose binary is known by its id

-- a text has no `::`
abbrev pub IsOnePart : List ℕ → Type 0
IsOnePart id = (front back : List ℕ) → id ≢ front ++ (codes "::" ++ back)

-- whether a byte is a slash
abbrev pub is_slash : ℕ → Bool
is_slash byte = eqb byte 47

-- a text has no slash
abbrev pub HasNoSlash : List ℕ → Type 0
HasNoSlash text = position_or_len is_slash text ≡ length text

-- a text has a slash
abbrev pub HasSlash : List ℕ → Type 0
HasSlash text = position_or_len is_slash text < length text

-- What the id of a binary says of its target: `p` is the library of the package `p`, `p::x` its
-- integration test `x`, and `p::kind/x` the target `x` of this kind.
pub data IsReadAs (id : List ℕ) : (kind name : List ℕ) → Type 0 where
  a_library : IsOnePart id → IsReadAs id (codes "lib") id
  a_test : (name : List ℕ) → id ≡ package_name id ++ (codes "::" ++ name) → HasNoSlash name
      → IsReadAs id (codes "test") name
  another : (target : List ℕ) → id ≡ package_name id ++ (codes "::" ++ target) → HasSlash target
      → IsReadAs id (before_first is_slash target) (after_first is_slash target)

-- A test is one of the binary of an id, of which no more is known: its target is what the id says.
pub record IsTestOfId (requested : RequestedTest) (binary : List ℕ) (found : ListTest) : Type 0
  where
    pub is_binary : found.test.binary.binary_id ≡ binary
    pub target : IsReadAs binary found.test.binary.kind found.test.binary.binary_name
    pub no_package : found.test.binary.package_id ≡ []
    pub platform : found.test.binary.platform ≡ requested.platform
    pub name : found.test.name ≡ requested.name.now
    pub no_flag : found.ignored ≡ false
