-- The texts of the conditions of rules, as a report shows them.
use Rattle.std.specs.Prelude.{◌≡◌, ℕ, List, [], Option, None, Some, codes, option_and_then, slice_get, string_bytes, unwrap_or}
use Rattle.std.specs.Option.{option_or}
use Rattle.nextest_tree.specs.Node.{as_text}
use Rattle.rinqebo_request.specs.Files.Layers.{layer_tree}
use Rattle.rinqebo_request.specs.declared.files.layers.Layer.{Layer}
use Rattle.rinqebo_report.specs.declared.origin.Origin.{Origin}
use Rattle.rinqebo_report.specs.declared.origin.Origin.TheVariants as kinds
use Rattle.rinqebo_report.specs.declared.origin.Part.TheVariants as parts
use Rattle.rinqebo_report.specs.declared.report.Condition.{Condition}
use Rattle.rinqebo_report.specs.declared.report.ConditionAnswer.TheVariants as says
use Rattle.rinqebo_report.specs.declared.report.Rule.{Rule}
use Rattle.rinqebo_origins.specs.AsWritten.{node_at, origin_node}
use Rattle.rinqebo_origins.specs.Origins.{PathStep, key_steps, profile_steps}

-- the text that the file of an origin has at some steps from the rule or the profile of the origin,
-- if it has one there
abbrev pub text_at : List Layer → List PathStep → Origin → Option (List ℕ)
text_at layers steps origin = option_and_then as_text (origin_node layers steps origin)

-- the text of what the host has to meet for a rule: the rule writes it at `platform.host`
abbrev pub host_text : List Layer → Origin → Option (List ℕ)
host_text layers rule = text_at layers (key_steps (Some (codes "platform")) (codes "host")) rule

-- the text of what the platform has to meet for a rule which a binary runs on: the rule writes it
-- at `platform`, or at `platform.target`
abbrev pub target_text : List Layer → Origin → Option (List ℕ)
target_text layers rule =
    option_or (text_at layers (key_steps None (codes "platform")) rule)
    (text_at layers (key_steps (Some (codes "platform")) (codes "target")) rule)

-- the text of the filter of a rule: the rule writes it at `filter`
abbrev pub filter_text : List Layer → Origin → Option (List ℕ)
filter_text layers rule = text_at layers (key_steps None (codes "filter")) rule

-- the text of the default filter of the default table
abbrev pub table_text : List Layer → Option (List ℕ)
table_text layers = option_and_then as_text (node_at (key_steps None (codes "default-filter"))
    (node_at (profile_steps (codes "default") parts.Fields)
    (option_and_then layer_tree (slice_get layers 0))))

-- the text of the default filter at an origin: the default table or a file writes it
abbrev pub default_text : List Layer → Origin → Option (List ℕ)
default_text layers kinds.DefaultTable = table_text layers
default_text layers origin = text_at layers (key_steps None (codes "default-filter")) origin

-- a condition is reported with a text, and with an empty one where there is none
abbrev pub HasText : Option (List ℕ) → Condition → Type 0
HasText text condition = string_bytes condition.text ≡ unwrap_or text []

-- A report has the conditions of a rule with the texts that the file of the rule has for them: that
-- of its filter is given.
pub record AreTextsReported (layers : List Layer) (filtering : Option (List ℕ)) (rule : Rule)
    : Type 0 where
  pub host : HasText (host_text layers rule.origin) rule.host
  pub target : HasText (target_text layers rule.origin) rule.target
  pub filter : HasText filtering rule.filter

-- A report has no condition in a place.
pub record IsAbsent (condition : Condition) : Type 0 where
  pub answer : condition.answer ≡ says.Absent
  pub text : HasText None condition
