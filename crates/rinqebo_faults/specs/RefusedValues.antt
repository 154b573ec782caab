-- Whether the shape of a file refuses a value: which of several values a refusal is about.
use Rattle.std.specs.Prelude.{ℕ, ℤ, int_lt, ◌-◌, ◌==◌, Bool, true, false, not, ◌&&◌, ◌||◌, List, is_some, is_none, length, map, take, Option, None, Some, string_bytes}
use Rattle.nextest_places.specs.declared.step.Step.{Step}
use Rattle.nextest_shape.specs.Form.{Form, anything, a_truth, a_number, a_text, an_array, a_table, a_map}
use Rattle.nextest_tree.specs.Node.{Node, member_of, as_table}
use Rattle.nextest_tree.specs.declared.fault.ElementCause.{ElementCause}
use Rattle.nextest_tree.specs.declared.fault.ElementCause.TheVariants as causes
use Rattle.rinqebo_faults.specs.declared.refused_values.Fault.{Fault}
use Rattle.rinqebo_faults.specs.declared.refused_values.Fault.TheVariants as faults
use Rattle.rinqebo_faults.specs.ElementRepairs.{ends_with_key}
use Rattle.rinqebo_faults.specs.Elements.{is_text}
use Rattle.rinqebo_faults.specs.Given.{is_empty_array}
use Rattle.rinqebo_faults.specs.Shapes.{form_at, key_of}
use Rattle.rinqebo_faults.specs.Spellings.{takes}

-- one form takes values of the kind of a node
abbrev pub is_kind : Node → Form → Bool
is_kind node anything = true
is_kind (Node.bool b) a_truth = true
is_kind (Node.int z) (a_number least greatest) = true
is_kind (Node.text s) (a_text form) = true
is_kind (Node.array ns) (an_array least items) = true
is_kind (Node.table es) (a_table fs) = true
is_kind (Node.table es) (a_map names fs values) = true
is_kind node form = false

-- a number is not below the least one, or above the greatest one, if there is one
abbrev pub is_from : Option ℤ → ℤ → Bool
is_from None number = true
is_from (Some least) number = not (int_lt number least)

abbrev pub is_up_to : Option ℤ → ℤ → Bool
is_up_to None number = true
is_up_to (Some greatest) number = not (int_lt greatest number)

-- one form takes a number
abbrev pub has_number : ℤ → Form → Bool
has_number number (a_number least greatest) = is_from least number && is_up_to greatest number
has_number number form = false

-- a value may be out of the range that a form has
abbrev pub is_out_of_range : Form → Node → Bool
is_out_of_range form (Node.int number) = not (takes (has_number number) form)
is_out_of_range form (Node.array ns) = is_empty_array ns
is_out_of_range form (Node.table es) = true
is_out_of_range form (Node.text s) = true
is_out_of_range form (Node.bool b) = false
is_out_of_range form Node.opaque = false

-- the last key of a path is none that its table knows
unfoldable pub is_unknown : Form → List Step → Bool
is_unknown file path =
    not (length path == 0) && (is_some (form_at (map key_of (take (length path - 1) path)) file)
    && is_none (form_at (map key_of path) file))

-- a table has no such key
unfoldable pub lacks : Node → List ℕ → Bool
lacks node key = is_some (as_table node) && is_none (member_of key node)

-- the value at the end of a path is refused by a form for a cause
abbrev pub is_refused_by : ElementCause → List Step → Node → Form → Bool
is_refused_by causes.WrongKind path node form = not (takes (is_kind node) form)
is_refused_by (causes.Missing key) path node form = lacks node (string_bytes key)
is_refused_by (causes.BadValue given expected) path node form =
    is_text (Some node) (string_bytes given) || ends_with_key path (string_bytes given)
is_refused_by causes.OutOfRange path node form = is_out_of_range form node
is_refused_by causes.UnknownField path node form = false
is_refused_by causes.Memory path node form = false

-- a test holds of a form, if there is one
abbrev pub holds_of : (Form → Bool) → Option Form → Bool
holds_of test None = false
holds_of test (Some form) = test form

-- the value at the end of a path is refused for a cause
abbrev pub is_refused : Form → ElementCause → List Step → Node → Bool
is_refused file cause path node = holds_of (is_refused_by cause path node) (form_at (map key_of path) file)

-- it may be the value at the end of a path that is refused for a cause
abbrev pub is_cause_at : Form → ElementCause → List Step → Node → Bool
is_cause_at file causes.UnknownField path node = is_unknown file path
is_cause_at file cause path node = is_refused file cause path node

-- it may be the value at the end of a path that a fault is about
abbrev pub is_at_fault : Form → Fault → List Step → Node → Bool
is_at_fault file faults.UnknownKey path node = is_unknown file path
is_at_fault file (faults.Value cause) path node = is_cause_at file cause.now path node
