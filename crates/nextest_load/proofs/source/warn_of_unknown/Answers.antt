use Rattle.std.proofs.Common.{◌≡◌, length, refl, sym, ◌∙◌}
use Rattle.nextest_sources.specs.Sources.{source_view}
use Rattle.nextest_sources.specs.Warnings.{unknown_keys}
use Rattle.nextest_sources.proofs.Runs.{ran_none, ran_warned}
use Rattle.nextest_load.proofs.ByteOrder.{nothing_told, texts_told}
use Rattle.nextest_load.proofs.source.warn_of_unknown.Goals as goal

pub returns-then-len-eq0 : goal.returns-then-len-eq0
returns-then-len-eq0 g c all same =
    let empty : length c.args.paths.now.keys ≡ 0 = sym c.len.ensures.len ∙ c.if-len-eq0.true in
    rw (nothing_told (unknown_keys (source_view c.args.source.now)) c.args.paths.now all c.len.ensures.ordered
    same empty) (ran_none _ _ refl)

pub returns : goal.returns
returns g c all same =
    let some : length c.args.paths.now.keys ≡ 0 → ⊥ = λ none. c.if-len-eq0.false (c.len.ensures.len ∙ none) in
    rw (texts_told (unknown_keys (source_view c.args.source.now)) c.args.paths.now all c.len.ensures.ordered
    same some) (ran_warned _ _ _ c.in_ok-unknown_config_keys.ensures.ok)
