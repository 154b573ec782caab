-- What contracts see of names that a source may not define.
use Rattle.nextest_sources.specs.Causes.{LoadCause, ill_named_groups, ill_named_scripts}
use Rattle.nextest_sources.specs.Errors.{group_names_view, script_names_view}
use Rattle.nextest_elements.specs.Owner.{OwnerClass}
use Rattle.nextest_rules.specs.declared.ill_named.IllNamed.{IllNamed}
use Rattle.nextest_rules.specs.declared.ill_named.IllNamed.TheVariants as names

-- why a source whose owner is of a class is refused for names
abbrev pub ill_named_cause : OwnerClass → IllNamed → LoadCause
ill_named_cause class (names.Groups groups) = ill_named_groups class (group_names_view groups)
ill_named_cause class (names.Scripts ids) = ill_named_scripts class (script_names_view ids)
