-- Requests in JSON for a whole run.
use Rattle.std.specs.Prelude.{ℕ, List, Option, None, Some, codes, option_and_then, option_map, string_bytes, if◌then◌else◌}
use Rattle.std.specs.Str.{bytes_eq}
use Rattle.serde_json.specs.Data.{Data}
use Rattle.serde_json.specs.Read.{read}
use Rattle.nextest_elements.specs.declared.run_mode.NextestRunMode.{NextestRunMode}
use Rattle.nextest_elements.specs.declared.run_mode.NextestRunMode.TheVariants.{Test, Benchmark}
use Rattle.serde_json.specs.Find.{as_str}
use Rattle.filter_inputs.specs.Fields.Parts.{under}
use Rattle.rinqebo_forms.specs.Requests.{RequestText, request_in, request_view}
use Rattle.rinqebo_forms.specs.declared.run_request.RunRequest.{RunRequest}

-- A request for a whole run: that for the session, the profile, the mode, and the list of tests.
pub record RunText : Type 0 where
  pub load : RequestText
  pub profile : List ℕ
  pub mode : NextestRunMode
  pub list : List ℕ

-- what contracts see of a request for a run
abbrev pub run_view : RunRequest → RunText
run_view r = record {
  load = request_view r.load;
  profile = string_bytes r.profile;
  mode = r.mode;
  list = string_bytes r.list;
}

-- the mode that a word names
abbrev pub mode_of : List ℕ → Option NextestRunMode
mode_of word =
    if bytes_eq word (codes "test") then Some Test
    else (if bytes_eq word (codes "benchmark") then Some Benchmark else None)

-- the mode that the word at a key names
abbrev pub mode_at : List ℕ → Data → Option NextestRunMode
mode_at key value = option_and_then mode_of (under as_str key value)

-- the request in `profile`, `mode` and `list` of a value, and in its request for a session
unfoldable pub run_in : Data → Option RunText
run_in value =
    option_and_then (λ profile.
    option_and_then (λ mode.
    option_and_then (λ list.
    option_map (λ load. record {
      load = load;
      profile = profile;
      mode = mode;
      list = list;
    }) (request_in value))
    (under as_str (codes "list") value))
    (mode_at (codes "mode") value))
    (under as_str (codes "profile") value)

-- the request for a whole run in a JSON text
abbrev pub run_of : List ℕ → Option RunText
run_of t = option_and_then run_in (read t)
