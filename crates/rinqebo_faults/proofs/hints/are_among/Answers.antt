use Rattle.std.proofs.Common.{rules, tests, eqb}
use Rattle.std.proofs.lemmas.Iterator.{YieldsList-from_chars}
use Rattle.std.proofs.lemmas.Iterator.Search.{all_from_yields_List}
use Rattle.std.specs.List.{list_any}
use Rattle.std.specs.Str.{chars}
use Rattle.rinqebo_faults.proofs.hints.are_among.Goals as goal

pub returns : goal.returns
returns c =
    all_from_yields_List (λ x. list_any (λ d. eqb d x) (chars c.args.other.now)) _ _ c.all.result
    c.all.ensures.ran (YieldsList-from_chars c.args.text.now c.utf8.text (cc))
    (λ x b q k. search (rules, tests))
