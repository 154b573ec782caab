-- What the files of a session are read without where a check of a source refuses them.
use Rattle.std.specs.Prelude.{◌≡◌, ◌⊎◌, ℕ, Bool, List, [], IsTrue, length, map, Option, None, Some}
use Rattle.nextest_documents.specs.Merge.{over}
use Rattle.nextest_documents.specs.Text.{tree_of}
use Rattle.nextest_shape.specs.Faults.Found.{Adds}
use Rattle.nextest_shape.specs.declared.faults.found.FoundFault.{FoundFault}
use Rattle.nextest_sources.specs.declared.error.ConfigParseError.{ConfigParseError}
use Rattle.nextest_sources.specs.declared.error.ConfigParseErrorKind.{ConfigParseErrorKind}
use Rattle.nextest_sources.specs.declared.error.ConfigParseErrorKind.TheVariants as kinds
use Rattle.nextest_tables.specs.Defaults.{defaults}
use Rattle.nextest_tables.specs.Tables.{a_file}
use Rattle.nextest_tree.specs.Node.{Node}
use Rattle.nextest_tree.specs.Schema as schema
use Rattle.rinqebo_faults.specs.Checks.{check_of}
use Rattle.rinqebo_faults.specs.declared.checks.Check.TheVariants as checks
use Rattle.rinqebo_faults.specs.Edits.{Edit, EditsView, with_edits}
use Rattle.rinqebo_faults.specs.ElementRepairs.{setting_edit}
use Rattle.rinqebo_faults.specs.Repairs.{groups_edits, old_scripts_edits, parents_edits, script_rules_edits, scripts_edits, sections_edits, unknown_groups_edits}
use Rattle.rinqebo_findings.specs.Sources.{document_at}
use Rattle.rinqebo_request.specs.declared.files.layers.Layer.{Layer}
use Rattle.rinqebo_checks.specs.ReadAgain.{ReadingView, text_in_place}
use Rattle.rinqebo_checks.specs.Refusals.{refused_position}

-- what is left out for a refusal of a kind: of the source at a place among so many, which may be a
-- document
abbrev pub refused_edits : (place sources : ℕ) → Option Node → ConfigParseErrorKind → List Edit
refused_edits place sources file (kinds.DuplicateToolConfigFile tool first) = []
refused_edits place sources file (kinds.ReadError outcome) = []
refused_edits place sources file (kinds.BuildError message) = []
refused_edits place sources file (kinds.DeserializeError fault) = []
refused_edits place sources file (kinds.InvalidTestGroupsDefined groups) =
    groups_edits place groups.keys
refused_edits place sources file (kinds.InvalidTestGroupsDefinedByTool groups) =
    groups_edits place groups.keys
refused_edits place sources file (kinds.InvalidTestGroupsDefinedByOrganisation groups) =
    groups_edits place groups.keys
refused_edits place sources file kinds.BothScriptAndScriptsDefined = old_scripts_edits place file
refused_edits place sources file (kinds.ExperimentalFeaturesNotEnabled features) = []
refused_edits place sources file (kinds.DuplicateConfigScriptNames ids) =
    scripts_edits place ids.keys
refused_edits place sources file (kinds.InvalidConfigScriptsDefined ids) =
    scripts_edits place ids.keys
refused_edits place sources file (kinds.InvalidConfigScriptsDefinedByTool ids) =
    scripts_edits place ids.keys
refused_edits place sources file (kinds.InvalidConfigScriptsDefinedByOrganisation ids) =
    scripts_edits place ids.keys
refused_edits place sources file (kinds.InheritanceErrors errors) =
    parents_edits sources errors.items
refused_edits place sources file (kinds.CompileErrors errors) = sections_edits place errors.items
refused_edits place sources file (kinds.UnknownTestGroups errors known_groups) =
    unknown_groups_edits place file errors.items
refused_edits place sources file (kinds.ProfileScriptErrors errors known_scripts) =
    script_rules_edits place errors
refused_edits place sources file kinds.Memory = []

-- Settings of a source are left out: those with the faults of the document that is read in its
-- place.
pub record AreSettingEdits (layers : List Layer) (reading : ReadingView) (place : ℕ)
    (edits : List Edit) : Type 0 where
  pub text : List ℕ
  pub read : Some text ≡ text_in_place reading layers place
  pub document : Node
  pub is_document : tree_of text ≡ Some document
  pub faults : List FoundFault
  pub are_all : Adds [] faults (schema.faults a_file [] (over document defaults))
  pub of_faults : edits ≡ map (λ fault. setting_edit place fault.path.items) faults

-- the same of edits, which may be as before
pub record LeavesOutSettings (layers : List Layer) (place : ℕ) (reading : ReadingView)
    (after : EditsView) : Type 0 where
  pub more : List Edit
  pub edits : after ≡ with_edits reading.edits more
  pub listed : (more ≡ []) ⊎ AreSettingEdits layers reading place more

-- What is left out for a refusal of a kind, if it is about a source. Where its values are refused
-- although others are left out, these are settings.
abbrev pub AreEditsFor :
    List Layer → ReadingView → Option ℕ → ConfigParseErrorKind → List Edit → Type 0
AreEditsFor layers reading None kind edits = edits ≡ []
AreEditsFor layers reading (Some place) kind edits =
    (edits ≡ refused_edits place (length layers) (document_at layers (Some place)) kind)
    ⊎ ((check_of kind ≡ Some checks.Elements) × AreSettingEdits layers reading place edits)

-- the sources that are not read: a refused one may be among them, if no check of it was reached
abbrev pub AreUnreadAfter :
    Option ℕ → ConfigParseErrorKind → (before after : ℕ → Bool) → Type 0
AreUnreadAfter refused kind before after =
    (place : ℕ) → (after place ≡ before place)
    ⊎ ((refused ≡ Some place) × (check_of kind ≡ None) × IsTrue (after place))

-- What files are read without after a refusal: the edits from before, and those for it.
pub record IsLeftOutAfter (layers : List Layer) (error : ConfigParseError)
    (before after : ReadingView) : Type 0 where
  pub more : List Edit
  pub edits : after.edits ≡ with_edits before.edits more
  pub listed : AreEditsFor layers before (refused_position layers error) error.kind more
  pub unread : AreUnreadAfter (refused_position layers error) error.kind before.unread after.unread
