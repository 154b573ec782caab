-- Requests in JSON for a session.
use Rattle.std.specs.Prelude.{ℕ, List, [], ◌∷◌, Option, None, Some, codes, option_and_then, option_map, map, string_bytes, if◌then◌else◌}
use Rattle.std.specs.Str.{bytes_eq}
use Rattle.serde_json.specs.Data.{Data}
use Rattle.serde_json.specs.Read.{read}
use Rattle.nextest_sources.specs.Sources.{Outcome, text, not_found, not_a_directory, failed, InputFile, file_view, ToolFile, tool_file_view}
use Rattle.nextest_elements.specs.Identifier.{is_part}
use Rattle.serde_json.specs.Find.{as_bool, as_null, as_str, get}
use Rattle.filter_inputs.specs.Fields.Parts.{a_list, an_object, optional_object, optional_text, under}
use Rattle.rinqebo_forms.specs.declared.outcome.OutcomeKind.{OutcomeKind}
use Rattle.rinqebo_forms.specs.declared.outcome.OutcomeKind.TheVariants as outcomes
use Rattle.rinqebo_forms.specs.declared.request.Machine.{Machine}
use Rattle.rinqebo_forms.specs.declared.request.Switches.{Switches}
use Rattle.rinqebo_forms.specs.declared.request.LoadRequest.{LoadRequest}

-- A machine: its triple, and what the compiler prints for it, if that is given.
pub record MachineText : Type 0 where
  pub triple : List ℕ
  pub cfg : Option (List ℕ)

-- A request for a session: the inputs from which it is loaded.
pub record RequestText : Type 0 where
  pub root : List ℕ
  pub shared : InputFile
  pub config_file : Option InputFile
  pub organisation_file : Option InputFile
  pub tools : List ToolFile
  pub features : Switches
  pub metadata : Option (List ℕ)
  pub host : MachineText
  pub target : Option MachineText
  pub target_directory : Option (List ℕ)

-- what contracts see of a machine
abbrev pub machine_view : Machine → MachineText
machine_view m = record { triple = string_bytes m.triple; cfg = option_map string_bytes m.cfg }

-- what contracts see of a request
abbrev pub request_view : LoadRequest → RequestText
request_view r = record {
  root = string_bytes r.paths.workspace_root;
  shared = file_view r.paths.shared;
  config_file = option_map file_view r.config_file;
  organisation_file = option_map file_view r.organisation_file;
  tools = map tool_file_view r.tools.items;
  features = r.features;
  metadata = option_map string_bytes r.metadata;
  host = machine_view r.host;
  target = option_map machine_view r.target;
  target_directory = option_map string_bytes r.target_directory;
}

-- ---- parts of a request

-- the kind of outcome that a word names
abbrev pub kind_of : List ℕ → Option OutcomeKind
kind_of word =
    if bytes_eq word (codes "text") then Some outcomes.Text
    else (if bytes_eq word (codes "not-found") then Some outcomes.NotFound
    else (if bytes_eq word (codes "not-a-directory") then Some outcomes.NotADirectory
    else (if bytes_eq word (codes "failed") then Some outcomes.Failed else None)))

-- the kind of outcome that the word at a key names
abbrev pub kind_at : List ℕ → Data → Option OutcomeKind
kind_at key value = option_and_then kind_of (under as_str key value)

-- an outcome of a kind, with the value of `text`: the text of the file, the message of a failure, or
-- else `null`
abbrev pub outcome_of : OutcomeKind → Data → Option Outcome
outcome_of outcomes.Text value = option_map text (under as_str (codes "text") value)
outcome_of outcomes.NotFound value =
    option_map (λ nothing. not_found) (under as_null (codes "text") value)
outcome_of outcomes.NotADirectory value =
    option_map (λ nothing. not_a_directory) (under as_null (codes "text") value)
outcome_of outcomes.Failed value = option_map failed (under as_str (codes "text") value)

-- the outcome in `outcome` and `text` of an object
abbrev pub outcome_in : Data → Option Outcome
outcome_in value =
    option_and_then (λ kind. outcome_of kind value) (kind_at (codes "outcome") value)

-- the file in `path`, `outcome` and `text` of an object
abbrev pub file_in : Data → Option InputFile
file_in value =
    option_and_then (λ path. option_map (λ outcome. record { path = path; outcome = outcome })
    (outcome_in value)) (under as_str (codes "path") value)

-- the file of an object, or none where there is no object
abbrev pub file_if : Option Data → Option (Option InputFile)
file_if None = Some None
file_if (Some value) = option_map Some (file_in value)

-- the file that a user named in place of the repository's own: the object under `config-file`, or none
-- where `null` is there
abbrev pub config_file_in : Data → Option (Option InputFile)
config_file_in value = option_and_then file_if (under optional_object (codes "config-file") value)

-- the organisation's file: the object under `organisation-config-file`, or none where `null` is
-- there
abbrev pub organisation_file_in : Data → Option (Option InputFile)
organisation_file_in value =
    option_and_then file_if (under optional_object (codes "organisation-config-file") value)

-- the name of a tool in `tool` of an object
abbrev pub tool_name_in : Data → Option (List ℕ)
tool_name_in value =
    option_and_then (λ name. if is_part name then Some name else None)
    (under as_str (codes "tool") value)

-- the file of a tool in an object
abbrev pub tool_in : Data → Option ToolFile
tool_in value =
    option_and_then (λ tool. option_map (λ file. record { tool = tool; file = file })
    (file_in value)) (tool_name_in value)

-- what a function returns for each element, if it returns a value for all of them
unfoldable pub all_said : {A B : Type 0} → (A → Option B) → List A → Option (List B)
all_said f [] = Some []
all_said f (x ∷ xs) = option_and_then (λ y. option_map (λ ys. y ∷ ys) (all_said f xs)) (f x)

-- the files of tools in an array
abbrev pub tools_in : List Data → Option (List ToolFile)
tools_in values = all_said tool_in values

-- the machine in `triple` and `cfg` of an object
abbrev pub machine_in : Data → Option MachineText
machine_in value =
    option_and_then (λ triple. option_map (λ cfg. record { triple = triple; cfg = cfg })
    (under optional_text (codes "cfg") value)) (under as_str (codes "triple") value)

-- the machine of an object, or none where there is no object
abbrev pub machine_if : Option Data → Option (Option MachineText)
machine_if None = Some None
machine_if (Some value) = option_map Some (machine_in value)

-- the target: the machine in the object at `target`, or `None` if the value is `null`
abbrev pub target_in : Data → Option (Option MachineText)
target_in value = option_and_then machine_if (under optional_object (codes "target") value)

-- the text or null of a value, or none where there is no value
abbrev pub text_if : Option Data → Option (Option (List ℕ))
text_if None = Some None
text_if (Some value) = optional_text value

-- the target directory: the string at `target-directory`, or none where that is `null` or is not there
abbrev pub target_directory_in : Data → Option (Option (List ℕ))
target_directory_in value = text_if (get (codes "target-directory") value)

-- the features that an object switches on
abbrev pub switches_in : Data → Option Switches
switches_in value =
    option_and_then (λ setup. option_map (λ wrapper. record {
      setup_scripts = setup;
      wrapper_scripts = wrapper;
    }) (under as_bool (codes "wrapper-scripts") value))
    (under as_bool (codes "setup-scripts") value)

-- ---- the request

-- the request in `root`, `file`, `config-file`, `organisation-config-file`, `tools`, `features`,
-- `metadata`, `host`, `target` and `target-directory` of a value
unfoldable pub request_in : Data → Option RequestText
request_in value =
    option_and_then (λ root.
    option_and_then (λ shared.
    option_and_then (λ config_file.
    option_and_then (λ organisation_file.
    option_and_then (λ tools.
    option_and_then (λ features.
    option_and_then (λ metadata.
    option_and_then (λ host.
    option_and_then (λ target.
    option_map (λ target_directory. record {
      root = root;
      shared = shared;
      config_file = config_file;
      organisation_file = organisation_file;
      tools = tools;
      features = features;
      metadata = metadata;
      host = host;
      target = target;
      target_directory = target_directory;
    }) (target_directory_in value)) (target_in value))
    (option_and_then machine_in (under an_object (codes "host") value)))
    (under optional_text (codes "metadata") value))
    (option_and_then switches_in (under an_object (codes "features") value)))
    (option_and_then tools_in (under a_list (codes "tools") value)))
    (organisation_file_in value))
    (config_file_in value))
    (option_and_then file_in (under an_object (codes "file") value)))
    (under as_str (codes "root") value)

-- the request in a JSON text
abbrev pub request_of : List ℕ → Option RequestText
request_of t = option_and_then request_in (read t)
