use Rattle.std.proofs.Common.{◌∙◌, ap, sym}
use Rattle.std.specs.List.{list_any}
use Rattle.filter_language.specs.Asks.{mark_is_about}
use Rattle.filter_language.specs.Grammar.{mark_view}
use Rattle.filter_language.proofs.FieldsAsked.{any_of_views}
use Rattle.filter_language.proofs.filterset.Filterset.asks.Goals as goal

pub returns-in-Marks : goal.returns-in-Marks
returns-in-Marks g c =
    let meaning = g.E.Matchers.meaning in
    rw c.in-Marks.is (
    c.is_any_about.ensures
    ∙ ap (list_any (λ mark. mark_is_about c.args.field (mark_view meaning mark))) c.deref.ensures.value
    ∙ sym (any_of_views (mark_is_about c.args.field) (mark_view meaning) c.in-Marks.marks.marks.items)
    )
