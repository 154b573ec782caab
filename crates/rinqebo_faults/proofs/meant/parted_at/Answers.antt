use Rattle.std.proofs.Common.{◌∙◌, sym, ap}
use Rattle.std.proofs.lemmas.Iterator.Adapters.{option_map_id}
use Rattle.std.proofs.lemmas.Iterator.Consumers.{nth_from_yields_List}
use Rattle.rinqebo_faults.proofs.Columns.{gives_indexed, none_there, rest_is}
use Rattle.rinqebo_faults.proofs.meant.parted_at.Goals as goal

pub returns-in-Some : goal.returns-in-Some
returns-in-Some c =
    let line = c.args.line.now in
    let found = sym (option_map_id c.nth.result)
    ∙ nth_from_yields_List c.nth.result _ c.args.column c.nth.ensures.ran
    (gives_indexed c.char_indices.result line c.utf8.line c.char_indices.ensures.rest c.char_indices.ensures.offset) in
    ap (λ r. r.now) c.unwrap_or-in-Some.ensures
    ∙ rest_is line c.utf8.line c.args.column _ (sym found ∙ c.in-Some.is) c.get-in-Some.result _ c.get-in-Some.ensures.cases

pub returns-in-None : goal.returns-in-None
returns-in-None c =
    let line = c.args.line.now in
    let found = sym (option_map_id c.nth.result)
    ∙ nth_from_yields_List c.nth.result _ c.args.column c.nth.ensures.ran
    (gives_indexed c.char_indices.result line c.utf8.line c.char_indices.ensures.rest c.char_indices.ensures.offset) in
    none_there line c.args.column (sym found ∙ c.in-None.is)
