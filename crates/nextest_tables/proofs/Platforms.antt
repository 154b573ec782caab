-- The platforms that a rule spells, none where it writes none.
use Rattle.std.proofs.Common.{◌≡◌, Option, Some, None, refl}
use Rattle.nextest_tree.specs.Node.{Node}
use Rattle.nextest_tree.specs.Reads.{IsOptional}
use Rattle.nextest_tables.specs.FileTexts.{PlatformText, platform_in}
use Rattle.nextest_tables.specs.Values.{IsPlatform}
use Rattle.nextest_tables.specs.View.{platform_view}
use Rattle.nextest_tables.specs.declared.platform_strings.PlatformStrings.{PlatformStrings}

pub platform_there : (o : Option Node) (p : PlatformStrings) → IsOptional IsPlatform o (Some p)
    → platform_view p ≡ platform_in o
platform_there (Some n) p h = h
platform_there None p h = absurd h

pub platform_absent : (o : Option Node) → IsOptional IsPlatform o None
    → (let p : PlatformText = record { host = None; target = None } in p) ≡ platform_in o
platform_absent None h = refl
platform_absent (Some n) h = absurd h
