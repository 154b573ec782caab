-- A list of values is empty where its items are none.
use Rattle.std.proofs.Common.{◌≡◌, ◌∙◌, ◌==◌, false, List, [], ◌∷◌, Vec, Global, vec_len, eq-eqb, length, ap, refl, sym, arith}
use Rattle.std.proofs.lemmas.Bool.Decides.{nat_tests}
use Rattle.serde_json.proofs.Views.{view-Array}
use Rattle.serde_json.specs.Data.{array}
use Rattle.serde_json.specs.View.{items_view, view}
use Rattle.serde_json.specs.declared.value.Value.{Value, Array}
use Rattle.rinqebo_report.specs.Filled.{is_empty_data}
use Rattle.rinqebo_report.proofs.filled.is_empty_value.Goals as goal

some : (v : Value) (vs : List Value) → (length (v ∷ vs) == 0) ≡ false
some v vs = grind (arith, nat_tests)

none : (vs : List Value) → (length vs == 0) ≡ is_empty_data (array (items_view vs))
none [] = eq-eqb 0 0 refl
none (v ∷ vs) = some v vs

empty : (vs : Vec Value Global) → (vec_len vs == 0) ≡ is_empty_data (view (Array vs))
empty vs = ap (λ n. n == 0) vs.ok.0 ∙ none vs.items ∙ ap is_empty_data (sym (view-Array vs))

pub returns-in-Array : goal.returns-in-Array
returns-in-Array c = rw c.in-Array.is (c.is_empty-in-Array.ensures ∙ empty c.in-Array.items)
