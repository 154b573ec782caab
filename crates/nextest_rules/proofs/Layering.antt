-- A layer by what the engines mean.
use Rattle.std.proofs.Common.{◌≡◌, List, [], ◌∷◌, map, String, Global, string_bytes, refl, ap, ◌∙◌}
use Rattle.nextest_sources.specs.Sources.{Source, source_view}
use Rattle.nextest_tables.specs.View.{by_name}
use Rattle.nextest_tables.specs.Written.{Name}
use Rattle.nextest_rules.specs.Meaning.{layer_profile_meaning, layer_meaning}
use Rattle.nextest_rules.specs.Rules.{LayerProfile}
use Rattle.nextest_rules.specs.View.{layer_profile_view, layer_view, profiles_view}
use Rattle.nextest_rules.specs.declared.overrides.CompiledProfile.{CompiledProfile}
use Rattle.nextest_rules.specs.declared.overrides.LayerRules.{LayerRules}

-- profiles that are seen, and then taken by their meaning
pub profiles_are : {F S E T N P M K : Type 0} (f : E → M) (g : N → K)
    (es : List (String Global × CompiledProfile F S E T N P))
    → map (λ e. (e.0, layer_profile_meaning f g e.1)) (by_name layer_profile_view es) ≡ profiles_view f g es
profiles_are f g [] = refl
profiles_are f g (e ∷ es) =
    ap (λ ps. (string_bytes e.0, layer_profile_meaning f g (layer_profile_view e.1)) ∷ ps) (profiles_are f g es)

-- a layer is its source and its profiles
pub layer_is : {F S E T N P M K : Type 0} (f : E → M) (g : N → K) (l : LayerRules F S E T N P)
    (source : Source) (profiles : List (Name × LayerProfile M K))
    → source_view l.source ≡ source → profiles_view f g l.profiles.entries ≡ profiles
    → layer_meaning f g (layer_view l) ≡ record { source = source; profiles = profiles }
layer_is f g l source profiles s p =
    λ i. record { source = s i; profiles = (profiles_are f g l.profiles.entries ∙ p) i }
