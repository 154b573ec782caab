-- The groups in which the fields of a profile are read.
use Rattle.std.proofs.Common.{◌≡◌, false, Result, Ok, ◌∙◌, refl}
use Rattle.nextest_tree.specs.declared.key.Key.TheVariants as keys
use Rattle.nextest_tree.specs.Leaf.{a_text}
use Rattle.nextest_tree.specs.Node.{Entries}
use Rattle.nextest_tree.specs.Reads.{ReadState, reading_field, reading_fields}
use Rattle.nextest_tree.specs.Schema.{Fault, Fields, append_fields}
use Rattle.nextest_tree.proofs.Reading.{reading_joined}
use Rattle.nextest_tables.specs.Tables.{profile_head_fields, profile_run_fields, profile_output_fields, profile_end_fields, profile_rest_fields, profile_fields}

-- one group, and then the others
after : (fs gs : Fields) (es : Entries) (at mid : ReadState) (r : Result ReadState Fault)
    → reading_fields fs es at ≡ Ok mid → reading_fields gs es mid ≡ r → reading_fields (append_fields fs gs) es at ≡ r
after fs gs es at mid r h g = reading_joined fs gs es at ∙ rw h g

-- the last group decides once the others are read
pub last_group : (es : Entries) (at a b c d : ReadState) (r : Result ReadState Fault)
    → reading_field keys.DefaultFilter false a_text es at ≡ Ok a
    → reading_fields profile_run_fields es a ≡ Ok b → reading_fields profile_output_fields es b ≡ Ok c
    → reading_fields profile_end_fields es c ≡ Ok d → reading_fields profile_rest_fields es d ≡ r
    → reading_fields profile_fields es at ≡ r
unfolding profile_fields
last_group es at a b c d r head runs outputs ends rest =
    let first : reading_fields profile_head_fields es at ≡ Ok a = rw head refl in
    after profile_head_fields
    (append_fields profile_run_fields
    (append_fields profile_output_fields (append_fields profile_end_fields profile_rest_fields))) es at a r first
    (after profile_run_fields
    (append_fields profile_output_fields (append_fields profile_end_fields profile_rest_fields)) es a b r runs
    (after profile_output_fields (append_fields profile_end_fields profile_rest_fields) es b c r outputs
    (after profile_end_fields profile_rest_fields es c d r ends rest)))
