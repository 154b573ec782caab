use Rattle.std.proofs.Common.{◌≡◌, [], ap, ◌∙◌}
use Rattle.std.specs.Prelude.{map, ◌++◌, ◌∷◌, string_bytes}
use Rattle.nextest_places.specs.Spans.Paths.{path_step}
use Rattle.nextest_places.specs.Spans.Paths as paths
use Rattle.rinqebo_faults.specs.Edits.{edits_view, mark_below, mark_of, with_edit}
use Rattle.rinqebo_faults.proofs.MarkSets.{mark_more, one_more}
use Rattle.rinqebo_faults.proofs.edits.Edits.remove_key.Goals as goal

pub returns : goal.returns
unfolding edits_view with_edit
returns c =
    let path = map path_step c.args.table.now in
    let step = paths.key c.args.key.now in
    let is : string_bytes c.in_ok-mark.mark ≡ mark_of c.args.place (path ++ step ∷ []) =
    c.in_ok-mark.ensures
    ∙ ap (λ m. mark_below m step) (c.as_str.ensures.value ∙ c.in_ok-above.ensures)
    ∙ mark_more c.args.place path step in
    let each = one_more c.args.self.now.removed c.insert.new.self c.in_ok-mark.mark _
    is c.in_ok-insert.ensures.updates in
    λ i. record (edits_view c.args.self.now) { removed = λ other. each other i }
