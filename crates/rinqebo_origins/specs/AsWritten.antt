-- Durations as a file writes them, where one file alone writes the value.
use Rattle.std.specs.Prelude.{◌≡◌, ℕ, Bool, true, false, List, [], ◌∷◌, Option, None, Some, Ok, MatchOption, All, codes, option_and_then, slice_get, string_bytes, if◌then◌else◌}
use Rattle.std.specs.Str.{bytes_eq}
use Rattle.nextest_places.specs.Path.{item_at}
use Rattle.nextest_elements.specs.Nanoseconds.{duration_at}
use Rattle.nextest_tree.specs.Node.{Node, text, as_array, as_text, member_of}
use Rattle.rinqebo_request.specs.Files.Layers.{layer_tree}
use Rattle.rinqebo_request.specs.declared.files.layers.Layer.{Layer}
use Rattle.rinqebo_report.specs.declared.origin.Origin.{Origin}
use Rattle.rinqebo_report.specs.declared.origin.Origin.TheVariants as kinds
use Rattle.rinqebo_report.specs.declared.value.ReportedDuration.{ReportedDuration}
use Rattle.rinqebo_report.specs.declared.value.Scalar.{Scalar}
use Rattle.rinqebo_report.specs.declared.value.Scalar.TheVariants as scalars
use Rattle.rinqebo_report.specs.declared.value.TableMember.{TableMember}
use Rattle.rinqebo_report.specs.declared.value.Value.{Value}
use Rattle.rinqebo_report.specs.declared.value.Value.TheVariants as values
use Rattle.rinqebo_origins.specs.Origins.{PathStep, key, position, profile_steps}

-- what a step leads to: a key to what a table has at it, a position to the item of an array
abbrev pub step_node : PathStep → Node → Option Node
step_node (key name) n = member_of name n
step_node (position index) n = option_and_then (item_at index) (as_array n)

-- what steps lead to, one after another, from a node that may be absent
abbrev pub node_at : List PathStep → Option Node → Option Node
node_at [] from = from
node_at (step ∷ steps) from = node_at steps (option_and_then (step_node step) from)

-- what the file of an origin has at some steps from the profile or the rule of the origin; there is
-- nothing where the origin is not a place of a profile in a file
abbrev pub origin_node : List Layer → List PathStep → Origin → Option Node
origin_node layers steps (kinds.Written written) =
    node_at steps (node_at (profile_steps (string_bytes written.profile) written.part)
    (option_and_then layer_tree (slice_get layers written.place.source)))
origin_node layers steps kinds.BuiltIn = None
origin_node layers steps kinds.DefaultTable = None
origin_node layers steps (kinds.File place) = None

-- whether origins are none, or the defaults alone
abbrev pub are_defaults : List Origin → Bool
are_defaults [] = true
are_defaults (kinds.DefaultTable ∷ []) = true
are_defaults origins = false

-- what one file alone has for a value that comes from some origins, beside what the defaults add:
-- there is nothing where several files write the value
abbrev pub node_alone : List Layer → List PathStep → List Origin → Option Node
node_alone layers steps [] = None
node_alone layers steps (origin ∷ others) =
    if are_defaults others then origin_node layers steps origin else None

-- the text that a node has for a member of a value: a table has it at the member's key, and a text
-- is itself the period
abbrev pub member_text : List ℕ → Node → Option (List ℕ)
member_text name (text written) = if bytes_eq name (codes "period") then Some written else None
member_text name n = option_and_then as_text (member_of name n)

-- a text of a file is read as a duration of so many nanoseconds
abbrev pub IsReadAs : List ℕ → ℕ → Type 0
IsReadAs written nanoseconds = duration_at (text written) ≡ Ok nanoseconds

-- A text that is there writes a duration of so many nanoseconds.
pub record WritesDuration (found : Option (List ℕ)) (nanoseconds : ℕ) (written : List ℕ) : Type 0
  where
    pub is_there : found ≡ Some written
    pub is_read : IsReadAs written nanoseconds

-- A duration is reported with the text that writes it, and without one where no text does.
abbrev pub IsAsWritten : Option (List ℕ) → ReportedDuration → Type 0
IsAsWritten found duration = MatchOption duration.written
    ((written : List ℕ) → ¬ WritesDuration found duration.nanoseconds written)
    (λ written. WritesDuration found duration.nanoseconds (string_bytes written))

-- a value that holds no others is reported so, if it is a duration
abbrev pub IsScalarAsWritten : Option (List ℕ) → Scalar → Type 0
IsScalarAsWritten found (scalars.Boolean b) = Unit {0}
IsScalarAsWritten found (scalars.Integer z) = Unit {0}
IsScalarAsWritten found (scalars.Text t) = Unit {0}
IsScalarAsWritten found (scalars.Duration duration) = IsAsWritten found duration

-- a member of a table is reported so, if it is a duration
abbrev pub IsMemberAsWritten : Option Node → TableMember → Type 0
IsMemberAsWritten found member =
    IsScalarAsWritten (option_and_then (member_text (string_bytes member.key)) found) member.value

-- The durations of a value are reported as a node writes them.
abbrev pub IsValueAsWritten : Option Node → Value → Type 0
IsValueAsWritten found (values.Scalar scalar) =
    IsScalarAsWritten (option_and_then as_text found) scalar
IsValueAsWritten found (values.Texts texts) = Unit {0}
IsValueAsWritten found (values.Table members) = All (IsMemberAsWritten found) members.items
