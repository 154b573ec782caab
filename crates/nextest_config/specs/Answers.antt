-- The result of one profile of a configuration for tests, before it is compared with the request.
use Rattle.std.specs.Prelude.{◌≡◌, ◌++◌, ℕ, List, Bool, Option, Result, IfOk}
use Rattle.std.specs.List.{AllZip, flat_map}
use Rattle.nextest_elements.specs.declared.run_mode.NextestRunMode.{NextestRunMode}
use Rattle.nextest_engines.specs.Engines.{Test}
use Rattle.nextest_engines.specs.declared.queries.BuildPlatforms.{BuildPlatforms}
use Rattle.nextest_inheritance.specs.Parents.{parents_in, IsChain}
use Rattle.nextest_load.specs.Config.{config_parents}
use Rattle.nextest_settings.specs.Profile.{Configured, EvaluatableModel, profile_of, profile_on}
use Rattle.nextest_tables.specs.FileTexts.{names_in, IsIn}
use Rattle.nextest_tables.specs.Written.{Name}
use Rattle.nextest_config.specs.Headline.{Row, Refusal, IfBadConfig, IfNoProfile, IfRefused, IsMissing, IsTestRow, numbers_for}

-- a request to a configuration
pub record Question (P : Type 0) : Type 0 where
  pub profile : Name
  pub platforms : BuildPlatforms P
  pub mode : NextestRunMode
  pub tests : List Test

-- A profile on the platforms that are requested: that of the name, by its chain.
pub record IsAskedProfile {M K P : Type 0} (meets : K → P → Option Bool)
    (configured : Configured M K) (question : Question P) (profile : EvaluatableModel M) : Type 0
  where
    pub chain : List Name
    pub is_chain : IsChain (parents_in (config_parents configured.config)) question.profile chain
    pub is_profile : profile
        ≡ profile_on meets question.platforms (profile_of configured question.profile chain)

-- Rows are those of tests in a profile, one for each in order, and these numbers of rules were
-- evaluated.
pub record AreRowsIn {M : Type 0} (matches : M → Test → M → Bool) (profile : EvaluatableModel M)
    (mode : NextestRunMode) (tests : List Test) (rows : List Row) (numbers : List ℕ) : Type 0 where
  pub each : AllZip (IsTestRow matches profile mode) tests rows
  pub evaluated : numbers ≡ flat_map (numbers_for matches profile mode) tests

-- Rows are those of the requested tests, in the requested profile.
pub record AreAskedRows {M K P : Type 0} (meets : K → P → Option Bool)
    (matches : M → Test → M → Bool) (configured : Configured M K) (question : Question P)
    (rows : List Row) (numbers : List ℕ) : Type 0 where
  pub known : IsIn (names_in configured.config.profiles) question.profile
  pub profile : EvaluatableModel M
  pub is_profile : IsAskedProfile meets configured question profile
  pub are_rows : AreRowsIn matches profile question.mode question.tests rows numbers

-- The result of a configuration: rows, or that the profile is missing, or a refusal of memory.
pub record Answers {M K P : Type 0} (meets : K → P → Option Bool) (matches : M → Test → M → Bool)
    (configured : Configured M K) (question : Question P) (answer : Result (List Row) Refusal)
    (old new : List ℕ) : Type 0 where
  pub accepted : IfBadConfig answer (λ _. ⊥)
  pub absence :
      IfNoProfile answer (IsMissing (names_in configured.config.profiles) question.profile)
  pub unasked : IfRefused answer (new ≡ old)
  pub numbers : List ℕ
  pub tally : new ≡ old ++ numbers
  pub rows : IfOk answer (λ rows. AreAskedRows meets matches configured question rows numbers)
