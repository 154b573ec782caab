-- The first naming by a text is kept.
use Rattle.std.proofs.Common.{◌∙◌, is_some, option_map, refl, sym, ap, string_bytes}
use Rattle.std.specs.BTreeMap.{get_by_text}
use Rattle.std.specs.Str.{bytes_eq}
use Rattle.rinqebo_faults.specs.FileNamings.{naming_place, or_place}
use Rattle.rinqebo_faults.proofs.MarkSets.{one_set}
use Rattle.rinqebo_faults.proofs.Named.{kept_or, none_same, one, set_or, some_same}
use Rattle.rinqebo_faults.proofs.namings.add_first.Goals as goal

pub returns-then-contains_key : goal.returns-then-contains_key
returns-then-contains_key c = λ text.
    let old = c.args.firsts.now in
    let mark = string_bytes c.args.mark in
    kept_or (option_map naming_place (get_by_text old text)) (bytes_eq mark text) (naming_place c.args.naming)
    (some_same old mark text (ap (λ t. is_some (get_by_text old t)) (sym c.as_str.ensures.value) ∙ sym c.contains_key.ensures ∙ c.if-contains_key.true))
    ∙ ap (or_place (option_map naming_place (get_by_text old text))) (sym (one text mark (naming_place c.args.naming)))

pub returns : goal.returns
returns c = λ text.
    let old = c.args.firsts.now in
    let mark = string_bytes c.args.mark in
    one_set naming_place old c.insert.new.self c.args.mark mark c.args.naming refl c.in_ok-insert.ensures.updates text
    ∙ set_or (option_map naming_place (get_by_text old text)) (bytes_eq mark text) (naming_place c.args.naming)
    (none_same old mark text (ap (λ t. is_some (get_by_text old t)) (sym c.as_str.ensures.value) ∙ sym c.contains_key.ensures ∙ c.if-contains_key.false))
    ∙ ap (or_place (option_map naming_place (get_by_text old text))) (sym (one text mark (naming_place c.args.naming)))
