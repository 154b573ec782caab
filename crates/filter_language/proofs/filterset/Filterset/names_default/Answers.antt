use Rattle.std.proofs.Common.{◌∙◌, sym}
use Rattle.filter_language.proofs.FieldsAsked.{default_is_asked}
use Rattle.filter_language.proofs.filterset.Filterset.names_default.Goals as goal

pub returns-in-Marks : goal.returns-in-Marks
returns-in-Marks g c =
    rw c.in-Marks.is (
    c.in-Marks.marks.default_is_named
    ∙ sym (default_is_asked g.E.Matchers.meaning c.in-Marks.marks.marks.items)
    )
