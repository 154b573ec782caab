use Rattle.std.proofs.Common.{lit<, rules, tests}
use Rattle.std.proofs.lemmas.Iterator.Search.{all_from_yields_List}
use Rattle.std.proofs.lemmas.Iterator.Splits.{YieldsList-from_str_split}
use Rattle.rinqebo_findings.specs.NextestForms.{is_version_number}
use Rattle.rinqebo_findings.proofs.nextest_versions.has_numbers.Goals as goal

pub returns : goal.returns
returns c =
    all_from_yields_List is_version_number _ _ c.all.result c.all.ensures.ran
    (YieldsList-from_str_split 46 c.args.text.now (lit< tt) c.split.ensures.text c.split.ensures.has_more
    c.split.ensures.pattern)
    (λ x b q k. search (rules, tests))
