use Rattle.std.proofs.Common.{◌≡◌, length, Some, refl, sym, ap, ◌∙◌, subst}
use Rattle.std.specs.List.{slice_get}
use Rattle.std.proofs.lemmas.Option.{slice_get_read}
use Rattle.nextest_places.specs.Spans.Lines.{IsLineStart}
use Rattle.nextest_places.proofs.spans.lines.LineIndex.line_before.Goals as goal

pub returns-in-Some : goal.returns-in-Some
returns-in-Some c =
    let here : slice_get c.deref-2.result.now c.in_ok-line.line ≡ Some c.in-Some.start.now =
    slice_get_read c.deref-2.result.now (length c.deref-2.result.now) c.in_ok-line.line c.in-Some.start.now refl c.in-Some.ensures.lookup.3.0 c.in-Some.ensures.lookup.1 in
    let is = c.self.invariant c.in_ok-line.line c.in-Some.start.now (ap (λ xs. slice_get xs c.in_ok-line.line) (sym c.deref-2.ensures.value) ∙ here) in
    (subst (λ text. IsLineStart text c.in_ok-line.line c.in-Some.start.now) c.self.view_is is, search)
