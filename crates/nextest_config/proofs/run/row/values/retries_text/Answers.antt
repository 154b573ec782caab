use Rattle.std.proofs.Common.{codes}
use Rattle.std.specs.Fmt.{decimal}
use Rattle.nextest_config.specs.ValueTexts.{duration_text, bool_text, optional_text}
use Rattle.nextest_config.proofs.SpelledTexts.{spelled_as, six_parts, eight_parts}
use Rattle.nextest_config.proofs.run.row.values.retries_text.Goals as goal

pub returns-in-Fixed : goal.returns-in-Fixed
returns-in-Fixed c =
    let p = c.in-Fixed in
    let parts = six_parts (codes "fixed count=") (decimal p.count) (codes " delay=") (duration_text p.delay)
    (codes " jitter=") (bool_text p.jitter) in
    rw p.is (spelled_as c.format.result _ _ parts c.format.ensures.ok)

pub returns-in-Exponential : goal.returns-in-Exponential
returns-in-Exponential c =
    let p = c.in-Exponential in
    let parts = eight_parts (codes "exponential count=") (decimal p.count) (codes " delay=")
    (duration_text p.delay) (codes " jitter=") (bool_text p.jitter) (codes " max-delay=")
    (optional_text duration_text p.max_delay) in
    rw p.is (spelled_as c.format-in-Exponential.result _ _ parts c.format-in-Exponential.ensures.ok)
