use Rattle.std.proofs.Common.{◌∙◌, not, eqb, rules, tests, ℕ}
use Rattle.std.specs.List.{zip}
use Rattle.std.specs.Str.{chars}
use Rattle.std.proofs.lemmas.Iterator.{YieldsList-from_chars, YieldsList-from_zip}
use Rattle.std.proofs.lemmas.Iterator.Consumers.{YieldsList-from_filter, count_from_yields_List}
use Rattle.std.proofs.lemmas.List.Sums.{length-filter}
use Rattle.rinqebo_faults.proofs.hints.unlike.Goals as goal

pub returns : goal.returns
returns c =
    count_from_yields_List c.filter.result c.count.result c.count.ensures.ran
    (YieldsList-from_filter _ (λ p. not (eqb p.0 p.1))
    (YieldsList-from_zip (YieldsList-from_chars c.args.one.now c.utf8.one (cc))
    (YieldsList-from_chars c.args.other.now c.utf8.other (cc)))
    c.filter.ensures.closure (λ x r q k. search (rules, tests)))
    ∙ length-filter {X = ℕ × ℕ} (λ p. not (eqb p.0 p.1)) (zip (chars c.args.one.now) (chars c.args.other.now))
