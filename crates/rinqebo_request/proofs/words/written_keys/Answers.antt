use Rattle.std.proofs.Common.{◌∙◌, ◌++◌, Bor, List, ap, ap₂, map, refl, ℕ}
use Rattle.std.proofs.lemmas.List.{map-append}
use Rattle.rinqebo_request.proofs.Choosing.{texts_or}
use Rattle.rinqebo_request.proofs.words.written_keys.Goals as goal

pub returns : goal.returns
returns c =
    let text : Bor (List ℕ) → List ℕ = λ key. key.now in
    ap (map text) c.in_ok-extend_from_slice.ensures.items
    ∙ map-append text c.in_ok-keys.keys.items c.unwrap_or.result.now
    ∙ ap₂ (λ a b. a ++ b) c.in_ok-keys.ensures
    (texts_or c.values.result _ c.unwrap_or.result _ refl c.unwrap_or.ensures c.values.ensures)
