-- WHAT THE COMMAND PROMISES: from the texts of files to the bytes of the lines.
use Rattle.std.specs.Prelude.{◌≡◌, ℕ, List, [], ◌∷◌, Option, option_map, Ok, String, string_bytes, codes}
use Rattle.std.specs.Option.{option_map_or}
use Rattle.std.specs.declared.alloc.Global.{Global}
use Rattle.nextest_config.specs.Headline.{Request, Row, Run, Resolves}
use Rattle.nextest_engines.specs.Engines.{Test}
use Rattle.nextest_engines.specs.Readings.{Readings}
use Rattle.nextest_rules.specs.KnownView.{features_view}
use Rattle.nextest_sources.specs.Inputs.{LoadInputs}
use Rattle.nextest_sources.specs.Sources.{Outcome}
use Rattle.nextest_explain.specs.Engines.FilterValues.{Filter, match_all}
use Rattle.nextest_explain.specs.Engines.Filters.{filter_read, filter_matches, filter_holds_binary, filter_leaves}
use Rattle.nextest_explain.specs.Engines.Platforms.{Platforms, spec_read, meets}
use Rattle.nextest_explain.specs.Files.{AreFilesOf}
use Rattle.nextest_explain.specs.Lines.{lines_telling}
use Rattle.nextest_explain.specs.Words.{IsCommandOf}
use Rattle.nextest_explain.specs.declared.command.Command.{Command}
use Rattle.nextest_explain.specs.declared.options.Places.{Places}

-- The triple of the host where a command names none.
abbrev pub usual_host : List ℕ
usual_host = codes "x86_64-unknown-linux-gnu"

-- The test of a command: nothing but its name, its binary's id and what that is built
-- for is known of it.
abbrev pub asked_test : Command → Test
asked_test command = record {
  binary = record {
    package_id = [];
    binary_id = command.binary.now;
    kind = [];
    binary_name = [];
    platform = command.options.platform;
  };
  name = command.test.now;
}

-- A command requests over files: its root, its profile, its features, the platforms that
-- it names, its mode and its one test.
pub record Asks (command : Command) (files : LoadInputs) (request : Request (String Global))
    : Type 0 where
  pub root : request.root ≡ command.root.now
  pub files_read : request.files ≡ files
  pub profile : request.profile ≡ command.profile.now
  pub features : request.features ≡ features_view command.options.features
  pub host : string_bytes request.platforms.host
      ≡ option_map_or (λ host. host.now) command.options.host usual_host
  pub target : option_map string_bytes request.platforms.target
      ≡ option_map (λ target. target.now) command.options.target
  pub mode : request.mode ≡ command.mode
  pub tests : request.tests ≡ asked_test command ∷ []

-- What the toy engines make of texts.
abbrev pub toy_readings : Readings Filter Platforms (String Global)
toy_readings = record {
  read_filter = filter_read;
  read_spec = spec_read;
  match_all = match_all;
  matches_test = filter_matches;
  matches_binary = filter_holds_binary;
  leaves = filter_leaves;
  meets = λ spec platform. meets spec (string_bytes platform);
}

-- Rows are those that a command requests over files: by the toy engines they resolve its request.
pub record AreRowsFor (command : Command) (files : LoadInputs) (rows : List Row) : Type 0 where
  pub request : Request (String Global)
  pub asks : Asks command files request
  pub run : Run
  pub answered : run.answer ≡ Ok rows
  pub resolves : Resolves toy_readings request run

-- Rows are those that the arguments request, and the arguments request places in this form: the
-- words give a command, and the rows are those of the command over the files that it names, as a
-- reader gives them.
pub record AreAskedRows (gives : List ℕ → Outcome → Type 0) (words : List (List ℕ))
    (places : Places) (rows : List Row) : Type 0 where
  pub command : Command
  pub is_command : IsCommandOf words command
  pub places_asked : command.options.places ≡ places
  pub files : LoadInputs
  pub are_files : AreFilesOf gives command files
  pub are_rows : AreRowsFor command files rows

-- A writer got lines: known bytes grew, by all of them or by a prefix, as `grows` says. They are
-- the lines of the rows that the arguments request, with places in the form that the arguments
-- request.
pub record Explains (grows : Option (List ℕ) → Option (List ℕ) → List ℕ → Type 0)
    (gives : List ℕ → Outcome → Type 0) (words : List (List ℕ)) (old new : Option (List ℕ))
    : Type 0 where
  pub places : Places
  pub rows : List Row
  pub asked : AreAskedRows gives words places rows
  pub lines : grows old new (lines_telling places rows)
