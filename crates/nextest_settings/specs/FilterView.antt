-- What contracts see of a default filter.
use Rattle.nextest_settings.specs.Chains.{FilterSection, at_profile, at_override, FilterChoice}
use Rattle.nextest_settings.specs.declared.default_filter.CompiledDefaultFilter.{CompiledDefaultFilter}
use Rattle.nextest_settings.specs.declared.default_filter.CompiledDefaultFilterSection.{CompiledDefaultFilterSection}
use Rattle.nextest_settings.specs.declared.default_filter.CompiledDefaultFilterSection.TheVariants.{Profile, Override}

-- where a default filter is
abbrev pub filter_section_view : CompiledDefaultFilterSection → FilterSection
filter_section_view Profile = at_profile
filter_section_view (Override index) = at_override index

-- a default filter
abbrev pub filter_view : {F E T : Type 0} → CompiledDefaultFilter F E T → FilterChoice E
filter_view f = record {
  filter = f.expr.now;
  text = f.text.now;
  profile = f.profile.now;
  section = filter_section_view f.section;
}
