use Rattle.std.proofs.Common.{◌∙◌, ◌++◌, ap, codes, string_bytes}
use Rattle.std.specs.Fmt.{decimal}
use Rattle.nextest_config.proofs.SpelledTexts.{spelled_as, six_parts}
use Rattle.nextest_explain.proofs.lines.override_text.Goals as goal

pub returns-in_ok-place-in-Whole : goal.returns-in_ok-place-in-Whole
returns-in_ok-place-in-Whole c =
    let profile = c.args.profile.now in
    let index = decimal c.args.index in
    let place = string_bytes c.in_ok-place-in-Whole.place in
    let parts = six_parts (codes "override profile.") profile (codes ".overrides.") index (codes " in ") place in
    let told = ap (λ place. codes "override profile." ++ profile ++ codes ".overrides." ++ index
    ++ codes " in " ++ place) c.in_ok-place-in-Whole.ensures in
    rw c.in-Whole.is (spelled_as c.format.result _ _ (parts ∙ told) c.format.ensures.ok)
