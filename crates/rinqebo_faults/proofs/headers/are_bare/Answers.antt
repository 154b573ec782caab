use Rattle.std.proofs.Common.{rules, tests}
use Rattle.std.proofs.lemmas.Iterator.{YieldsList-from_chars}
use Rattle.std.proofs.lemmas.Iterator.Search.{all_from_yields_List}
use Rattle.rinqebo_faults.specs.Headers.{is_bare}
use Rattle.rinqebo_faults.proofs.headers.are_bare.Goals as goal

pub returns : goal.returns
returns c =
    all_from_yields_List is_bare _ _ c.all.result c.all.ensures.ran
    (YieldsList-from_chars c.args.key.now c.utf8.key (cc)) (λ x b q k. search (rules, tests))
