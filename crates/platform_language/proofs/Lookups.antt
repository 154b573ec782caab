-- Lines are sought in memory as in what they mean.
use Rattle.std.proofs.Common.{◌≡◌, ℕ, ◌||◌, Bool, true, List, [], ◌∷◌, map, Some, codes, refl, ◌∙◌, ap}
use Rattle.std.specs.List.{list_any}
use Rattle.platform_language.specs.declared.platforms.CfgLine.{CfgLine}
use Rattle.platform_language.specs.declared.platforms.Platform.{Platform}
use Rattle.platform_language.specs.Platforms.Platforms.{Line, line_view, platform_view}
use Rattle.platform_language.specs.Expressions.{Has, Feature}
use Rattle.platform_language.specs.Values.{same_line, line_of, leaf_value}

pub any_seen : (lines : List CfgLine) (line : Line)
    → list_any (λ found. same_line (line_view found) line) lines
    ≡ list_any (λ found. same_line found line) (map line_view lines)
any_seen [] line = refl
any_seen (it ∷ lines) line = ap (λ b. same_line (line_view it) line || b) (any_seen lines line)

-- What a leaf says that asks for a line.
pub line_value : (p : Platform) (line : CfgLine) (b : Bool)
    → b ≡ list_any (λ found. same_line (line_view found) (line_view line)) p.lines.items
    → Some b ≡ leaf_value (platform_view p) (Has (line_view line))
line_value p line b is = ap Some (is ∙ any_seen p.lines.items (line_view line))

-- What a leaf says that asks for a feature, where features are given.
pub feature_value : (p : Platform) (name : List ℕ) (b : Bool) → p.features_given ≡ true
    → b ≡ list_any (λ found. same_line (line_view found) (line_of (codes "target_feature") name)) p.lines.items
    → Some b ≡ leaf_value (platform_view p) (Feature name)
feature_value p name b given is =
    rw given (ap Some (is ∙ any_seen p.lines.items (line_of (codes "target_feature") name)))
