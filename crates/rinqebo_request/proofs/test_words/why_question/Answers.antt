use Rattle.std.proofs.Common.{◌∙◌, sym}
use Rattle.rinqebo_request.proofs.NamedTests.{neither}
use Rattle.rinqebo_request.proofs.test_words.why_question.Goals as goal

pub returns-then-eq : goal.returns-then-eq
returns-then-eq c =
    let keys = neither _ _ c.names_keys.result c.names_keys.ensures c.if-names_keys.false in
    λ is. (c.profile-profile.ensures, is, keys.0, keys.1, sym c.eq.ensures ∙ c.if-eq.true)

pub returns : goal.returns
returns c =
    let keys = neither _ _ c.names_keys.result c.names_keys.ensures c.if-names_keys.false in
    λ is. (c.profile-profile.ensures, is, keys.0, keys.1, sym c.eq.ensures ∙ c.if-eq.false, c.in_ok-one_setting.ensures.ok)
