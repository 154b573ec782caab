-- The new entry comes before those that are there at the mark.
use Rattle.std.proofs.Common.{◌≡◌, ◌∙◌, ap, cond, Some, option_map, string_bytes}
use Rattle.std.specs.BTreeMap.{get_by_text}
use Rattle.std.specs.Prelude.{map}
use Rattle.std.specs.Str.{bytes_eq}
use Rattle.nextest_places.specs.Spans.Paths.{path_step}
use Rattle.rinqebo_faults.specs.Edits.{edits_view, entries_with, mark_of, with_edit}
use Rattle.rinqebo_faults.proofs.MarkSets.{one_set}
use Rattle.rinqebo_faults.proofs.edits.Edits.add.Goals as goal

pub returns : goal.returns
unfolding edits_view with_edit
returns c =
    let added = c.args.self.now.added in
    let mark = mark_of c.args.place (map path_step c.args.path.now) in
    let is : string_bytes c.in_ok-entries.entries
    ≡ entries_with c.args.entry.now (option_map string_bytes (get_by_text added mark)) =
    c.in_ok-entries.ensures
    ∙ ap (entries_with c.args.entry.now)
    (c.additions-earlier.ensures
    ∙ ap (λ text. option_map string_bytes (get_by_text added text)) (c.as_str.ensures.value ∙ c.in_ok-mark.ensures))
    in
    let each = one_set string_bytes added c.insert.new.self c.in_ok-mark.mark mark c.in_ok-entries.entries
    c.in_ok-mark.ensures c.in_ok-insert.ensures.updates in
    λ i. record (edits_view c.args.self.now) {
      added = λ other. (each other
          ∙ ap (λ entries. cond (bytes_eq mark other) (Some entries) (option_map string_bytes (get_by_text added other))) is) i;
    }
