-- How a line is taken, one item behind another.
use Rattle.std.specs.List.{flat_map}
use Rattle.std.specs.Prelude.{◌≡◌, ℕ, List, [], ◌∷◌, ◌++◌, ◌||◌, All, map, codes}
use Rattle.nextest_rules.specs.KnownView.{features_view}
use Rattle.nextest_explain.specs.Words.{Item, words_of, IsItem, config_files, organisation_config_files, tool_config_files, names_feature, hosts, targets, host_binaries, places_asked, arguments, given, given_platform, given_places, named_tool_file, AreOptionsOf}
use Rattle.nextest_elements.specs.declared.experimental.ConfigExperimental.{ConfigExperimental}
use Rattle.nextest_explain.specs.declared.options.OptionName.{OptionName}
use Rattle.nextest_explain.specs.declared.options.OptionName.TheVariants.{ConfigFile, OrganisationConfigFile, ToolConfigFile, Experimental, Host, Target}
use Rattle.nextest_explain.specs.declared.options.Options.{Options}
use Rattle.nextest_explain.specs.declared.command.Line.{Line}

-- The word of an option that takes a value.
abbrev pub option_word : OptionName → List ℕ
option_word ConfigFile = codes "--config-file"
option_word OrganisationConfigFile = codes "--organisation-config-file"
option_word ToolConfigFile = codes "--tool-config-file"
option_word Experimental = codes "--experimental"
option_word Host = codes "--host"
option_word Target = codes "--target"

-- Options grow by what an item gives.
pub record GrowBy (item : Item) (old new : Options) : Type 0 where
  pub config_file : given new.config_file ≡ given old.config_file ++ config_files item
  pub organisation_config_file : given new.organisation_config_file
      ≡ given old.organisation_config_file ++ organisation_config_files item
  pub tool_files : map named_tool_file new.tool_files.items
      ≡ map named_tool_file old.tool_files.items ++ tool_config_files item
  pub features : (feature : ConfigExperimental) → features_view new.features feature
      ≡ (features_view old.features feature || names_feature feature item)
  pub host : given new.host ≡ given old.host ++ hosts item
  pub target : given new.target ≡ given old.target ++ targets item
  pub platform : given_platform new.platform ≡ given_platform old.platform ++ host_binaries item
  pub places : given_places new.places ≡ given_places old.places ++ places_asked item

-- Options take an item, which these words spell.
pub record TakesOption (words : List (List ℕ)) (old new : Options) : Type 0 where
  pub item : Item
  pub spelled : words_of item ≡ words
  pub is_item : IsItem item
  pub no_argument : arguments item ≡ []
  pub grown : GrowBy item old new

-- A line takes an item, which these words spell.
pub record TakesItem (words : List (List ℕ)) (old new : Line) : Type 0 where
  pub item : Item
  pub spelled : words_of item ≡ words
  pub is_item : IsItem item
  pub argued : map (λ word. word.now) new.arguments.items
      ≡ map (λ word. word.now) old.arguments.items ++ arguments item
  pub grown : GrowBy item old.options new.options

-- A line takes the item that the first of these words spell, and the others are left.
abbrev pub ReadsItem : (words rest : List (List ℕ)) → (old new : Line) → Type 0
ReadsItem words rest old new =
    (first : List (List ℕ)) × (words ≡ first ++ rest) × TakesItem first old new

-- A line is what words spell.
pub record IsLineOf (words : List (List ℕ)) (line : Line) : Type 0 where
  pub items : List Item
  pub spelled : words ≡ flat_map words_of items
  pub are_items : All IsItem items
  pub argued : map (λ word. word.now) line.arguments.items ≡ flat_map arguments items
  pub are_options : AreOptionsOf items line.options
