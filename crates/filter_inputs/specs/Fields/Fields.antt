-- Reading the value of a field.
use Rattle.std.specs.Prelude.{◌≡◌, Option, None, Some, option_and_then, option_map, Result, MatchResult}
use Rattle.serde_json.specs.Data.{Data}
use Rattle.serde_json.specs.View.{view}
use Rattle.filter_inputs.specs.Fields.Parts.{kind_of}
use Rattle.filter_inputs.specs.declared.fields.field.JsonField.{JsonField}
use Rattle.filter_inputs.specs.declared.fields.field.Misfit.{Misfit}
use Rattle.filter_inputs.specs.declared.fields.kind.Wanted.{Wanted}

-- the value of a field, if there is one
abbrev pub found_at : {P : Type 0} → JsonField P → Option Data
found_at field = option_map (λ value. view value.now) field.found

-- the misfit of a field whose value isn't of the type that is wanted
abbrev pub misfit_of : {P : Type 0} → Wanted → JsonField P → Misfit P
misfit_of wanted field = record {
  place = field.place;
  wanted = wanted;
  given = option_map kind_of (found_at field);
}

-- If a value is returned, it is, seen in this way, what the reading returns for the value of the
-- field. An error is returned only if the reading returns nothing. It has the path of the field,
-- the type that is wanted, and the kind of the value that was found.
abbrev pub Reads : {A B P : Type 0} → (A → B) → (Data → Option B) → Wanted → JsonField P
    → Result A (Misfit P) → Type 0
Reads seen reading wanted field result = MatchResult result
    (λ a. option_and_then reading (found_at field) ≡ Some (seen a))
    (λ misfit. (option_and_then reading (found_at field) ≡ None)
    × (misfit ≡ misfit_of wanted field))
