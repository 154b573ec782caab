-- Filters with sets of packages that were not looked up.
use Rattle.std.specs.Prelude.{Bool, true, false, ◌&&◌, ◌||◌}
use Rattle.filter_language.specs.Asks.{asks}
use Rattle.filter_language.specs.declared.words.Field.TheVariants.{Deps, Rdeps}
use Rattle.filter_engine.specs.declared.engine.Packages.{Packages}
use Rattle.filter_engine.specs.declared.engine.Packages.TheVariants.{Known, Unknown, Open}
use Rattle.filter_engine.specs.Engine.{Filter}

-- Whether a filter uses a set of packages.
abbrev pub asks_for_packages : Filter → Bool
asks_for_packages filter = asks Deps filter || asks Rdeps filter

-- Whether sets of packages are left open.
abbrev pub is_open : Packages → Bool
is_open (Known graph) = false
is_open Unknown = false
is_open Open = true

-- Whether a filter has a set of packages that was not looked up, by what is known of packages.
abbrev pub leaves_open : Packages → Filter → Bool
leaves_open packages filter = is_open packages && asks_for_packages filter
