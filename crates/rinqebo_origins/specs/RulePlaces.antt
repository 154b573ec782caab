-- The places of rules.
use Rattle.std.specs.Prelude.{ℕ, List, codes}
use Rattle.nextest_rules.specs.Rules.{RuleId}
use Rattle.nextest_sources.specs.Sources.{Source, source_view}
use Rattle.nextest_tables.specs.Written.{Name}
use Rattle.rinqebo_report.specs.declared.origin.Part.{Part}
use Rattle.rinqebo_report.specs.declared.origin.Part.TheVariants as parts
use Rattle.rinqebo_origins.specs.declared.rule_places.RuleKind.{RuleKind}
use Rattle.rinqebo_origins.specs.declared.rule_places.RuleKind.TheVariants as kinds
use Rattle.rinqebo_origins.specs.declared.rule_places.RulePlace.{RulePlace}

-- the place of a rule: its source, its profile, and which rule of it in that source it is
pub record Place : Type 0 where
  pub source : Source
  pub profile : Name
  pub part : Part

-- the list of a profile that has rules of a kind
abbrev pub list_of : RuleKind → List ℕ
list_of kinds.Override = codes "overrides"
list_of kinds.Script = codes "scripts"

-- the rule of a kind at a position
abbrev pub part_of : RuleKind → ℕ → Part
part_of kinds.Override index = parts.Override index
part_of kinds.Script index = parts.Script index

-- a place as code holds it
abbrev pub place_view : RulePlace → Place
place_view p = record {
  source = source_view p.source.now;
  profile = p.profile.now;
  part = part_of p.kind p.index;
}

-- the place of the override of an id
abbrev pub id_place : RuleId → Place
id_place id =
    record { source = id.source; profile = id.profile; part = parts.Override id.index }

-- the place of the script rule of an id
abbrev pub script_place : RuleId → Place
script_place id =
    record { source = id.source; profile = id.profile; part = parts.Script id.index }
