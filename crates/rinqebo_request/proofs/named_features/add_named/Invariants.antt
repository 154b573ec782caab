use Rattle.std.proofs.Common.{◌≡◌, ◌||◌, drop, map}
use Rattle.nextest_elements.specs.declared.experimental.ConfigExperimental.{ConfigExperimental}
use Rattle.nextest_rules.specs.KnownView.{features_view}
use Rattle.rinqebo_request.specs.Requests.{is_named}
use Rattle.rinqebo_request.proofs.named_features.add_named.Given as goal

-- the features so far, and those of the names that are left, are those of all names
abbrev pub invariant-loop-name : goal.invariant-loop-name
invariant-loop-name l =
    (feature : ConfigExperimental) → (features_view l.features feature || is_named (map (λ name. name.now) (drop l.name-index l.names)) feature)
    ≡ (features_view l.fn.features feature || is_named (map (λ name. name.now) l.names) feature)
