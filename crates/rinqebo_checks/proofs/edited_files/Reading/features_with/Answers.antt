use Rattle.std.proofs.lemmas.List.Elements.{same_from_all_zip}
use Rattle.nextest_rules.specs.KnownView.{features_view}
use Rattle.rinqebo_checks.proofs.Featured.{among_copies, among_more}
use Rattle.rinqebo_checks.proofs.edited_files.Reading.features_with.Goals as goal

pub loop-feature-init : goal.loop-feature-init
loop-feature-init c =
    let features = c.args.features.now in
    let copies = c.in_ok-all.all in
    among_copies features copies
    (same_from_all_zip _ features.keys copies.keys c.in_ok-all.ensures.cases (λ x y is. is))

pub loop-feature-preserved : goal.loop-feature-preserved
loop-feature-preserved c =
    among_more _ _ (features_view c.args.features.now) c.loop-feature.all c.insert.new.self
    c.in_ok-insert.ensures.keys c.loop-feature.invariant
