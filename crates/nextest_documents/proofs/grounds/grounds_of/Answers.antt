use Rattle.std.proofs.Common.{refl}
use Rattle.nextest_documents.specs.Grounds.{Writes}
use Rattle.nextest_documents.specs.Layers.{layers_view, keys_view}
use Rattle.nextest_documents.proofs.Lists.{all_taken}
use Rattle.nextest_documents.proofs.Nearest.{nearest_is}
use Rattle.nextest_documents.proofs.grounds.grounds_of.Goals as goal

pub returns-in-Some : goal.returns-in-Some
returns-in-Some c =
    let found = rw c.in-Some.is at c.in_ok-layers.ensures in
    nearest_is (layers_view c.args.layers.now) c.args.chain.now (keys_view c.args.key.now) c.loop-profile.profile _
    _ c.loop-profile-test.true refl c.loop-profile.invariant found.0 found.1

pub loop-profile-preserved : goal.loop-profile-preserved
loop-profile-preserved c =
    all_taken (λ key. key.now) c.args.chain.now c.loop-profile.profile _ c.loop-profile-test.true
    (λ name. Writes (layers_view c.args.layers.now) (keys_view c.args.key.now) name → ⊥)
    c.loop-profile.invariant (rw c.in_default.is at c.in_ok-layers.ensures)
