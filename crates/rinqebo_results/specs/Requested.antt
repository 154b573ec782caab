-- What a user requests, as a report says it.
use Rattle.std.specs.Prelude.{◌≡◌, Bool, false, true, List, map, option_map, string_bytes}
use Rattle.nextest_elements.specs.declared.run_mode.NextestRunMode.{NextestRunMode}
use Rattle.nextest_elements.specs.declared.run_mode.NextestRunMode.TheVariants as modes
use Rattle.nextest_inheritance.specs.Parents.{Parents}
use Rattle.nextest_settings.specs.Profiles.Profiles.{IsChainAndDefault}
use Rattle.nextest_tables.specs.Written.{Name}
use Rattle.rinqebo_load.specs.declared.fault.TripleSource.{TripleSource}
use Rattle.rinqebo_load.specs.declared.fault.TripleSource.TheVariants as sources
use Rattle.rinqebo_load.specs.declared.session.Session.{Session}
use Rattle.rinqebo_report.specs.declared.report.Asked.{Asked}
use Rattle.rinqebo_report.specs.declared.report.Content.{Content}
use Rattle.rinqebo_report.specs.declared.report.Content.TheVariants as contents
use Rattle.rinqebo_report.specs.declared.report.RunMode.{RunMode}
use Rattle.rinqebo_report.specs.declared.report.RunMode.TheVariants as reported

-- what tests are run for, as a report says it
abbrev pub mode_reported : NextestRunMode → RunMode
mode_reported modes.Test = reported.Test
mode_reported modes.Benchmark = reported.Benchmark

-- whether the program assumes a triple, since nothing names one
abbrev pub is_assumed : TripleSource → Bool
is_assumed sources.Fallback = true
is_assumed _ = false

-- A report says what the user requests: the profile, these profiles that count, what tests are run
-- for, and the triples of the session.
pub record IsRequestedOf (session : Session) (profile : Name) (mode : NextestRunMode)
    (chain : List Name) (asked : Asked) : Type 0 where
  pub profile_is : string_bytes asked.profile ≡ profile
  pub chain_is : map string_bytes asked.chain.items ≡ chain
  pub mode_is : asked.mode ≡ mode_reported mode
  pub host_is : string_bytes asked.host ≡ string_bytes session.triples.host
  pub host_assumed : asked.assumes_host ≡ is_assumed session.triples.host_source
  pub target_is : option_map string_bytes asked.target
      ≡ option_map string_bytes session.triples.target

-- a fact of what a report says that the user requests
abbrev pub IfRequested : Content → (Asked → Type 0) → Type 0
IfRequested (contents.Explain asked test) P = P asked
IfRequested (contents.Why asked test key rules is_ignored) P = P asked
IfRequested (contents.List asked tests unused scripts objects) P = P asked
IfRequested (contents.ShowConfig asked entries) P = P asked
IfRequested contents.Check P = ⊥

-- A report says what the user requests in a session, where these are the parents of all profiles:
-- the profiles that count are those of the chain of the profile, and then `default`.
pub record IsRequestedIn (session : Session) (parents : Parents) (profile : Name)
    (mode : NextestRunMode) (content : Content) : Type 0 where
  pub chain : List Name
  pub is_chain : IsChainAndDefault parents profile chain
  pub requested : IfRequested content (IsRequestedOf session profile mode chain)
