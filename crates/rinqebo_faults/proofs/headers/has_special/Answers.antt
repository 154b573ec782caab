use Rattle.std.proofs.Common.{rules, tests}
use Rattle.std.proofs.lemmas.Iterator.{YieldsList-from_chars}
use Rattle.std.proofs.lemmas.Iterator.Search.{any_from_yields_List}
use Rattle.rinqebo_faults.specs.Headers.{is_special}
use Rattle.rinqebo_faults.proofs.headers.has_special.Goals as goal

pub returns : goal.returns
returns c =
    any_from_yields_List is_special _ _ c.any.result c.any.ensures.ran
    (YieldsList-from_chars c.args.key.now c.utf8.key (cc)) (λ x b q k. search (rules, tests))
