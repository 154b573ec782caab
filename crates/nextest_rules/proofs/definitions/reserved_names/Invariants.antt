use Rattle.std.proofs.Common.{◌≡◌, ◌++◌, filter}
use Rattle.nextest_inheritance.specs.Names.{is_reserved}
use Rattle.nextest_sources.specs.Warnings.{texts_view}
use Rattle.nextest_tables.specs.FileTexts.{names_in}
use Rattle.nextest_tables.specs.View.{by_name, profile_view}
use Rattle.nextest_rules.proofs.definitions.reserved_names.Given as goal

-- the names so far, with those that are left
abbrev pub invariant-loop-name : goal.invariant-loop-name
invariant-loop-name l =
    texts_view l.reserved.items ++ filter is_reserved (names_in (by_name profile_view l.name-iterator))
    ≡ filter is_reserved (names_in (by_name profile_view l.file.profiles.entries))
