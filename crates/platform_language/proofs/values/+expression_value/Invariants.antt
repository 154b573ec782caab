use Rattle.std.proofs.Common.{◌≡◌}
use Rattle.platform_language.specs.Platforms.Platforms.{platform_view}
use Rattle.platform_language.proofs.Parts.{least_of, greatest_of}
use Rattle.platform_language.proofs.values.+expression_value.Given as goal

abbrev pub invariant-greatest-loop-part : goal.invariant-greatest-loop-part
invariant-greatest-loop-part l = l.value ≡ greatest_of (platform_view l.platform) l.part-index l.parts

abbrev pub invariant-least-loop-part : goal.invariant-least-loop-part
invariant-least-loop-part l = l.value ≡ least_of (platform_view l.platform) l.part-index l.parts
