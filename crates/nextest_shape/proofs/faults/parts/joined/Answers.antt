use Rattle.std.proofs.Common.{◌≡◌, List, [], ◌∷◌, ◌++◌, length, refl, sym, ap, ◌∙◌, arith}
use Rattle.std.proofs.lemmas.List.{append-nil}
use Rattle.nextest_shape.specs.Faults.Places.{fields_view}
use Rattle.nextest_shape.proofs.faults.Views.{fields_view-append}
use Rattle.nextest_shape.proofs.faults.parts.joined.Goals as goal

empty : {X : Type 0} (xs : List X) → length xs ≡ 0 → xs ≡ []
empty [] h = refl
empty (x ∷ xs) h = absurd (omega (arith, h))

pub returns : goal.returns
returns c =
    let l = c.loop-field in
    let none : l.field-iterator.rest.items ≡ [] = empty l.field-iterator.rest.items (grind arith) in
    let whole : l.all.items ≡ c.args.fields.items ++ c.args.more.items =
    sym (append-nil l.all.items) ∙ ap (λ rest. l.all.items ++ rest) (sym none) ∙ l.invariant in
    ap fields_view whole ∙ fields_view-append c.args.fields.items c.args.more.items
