-- The profile of a name: the one of its chain.
use Rattle.std.specs.Prelude.{◌≡◌, List}
use Rattle.nextest_inheritance.specs.Parents.{Parents, parents_in, with_default, IsChain}
use Rattle.nextest_load.specs.Config.{config_parents}
use Rattle.nextest_settings.specs.Profile.{Configured, EarlyModel, profile_of}
use Rattle.nextest_tables.specs.Written.{Name}

-- Names are those of a chain of a name, and then `default`.
pub record IsChainAndDefault (parents : Parents) (name : Name) (names : List Name) : Type 0 where
  pub chain : List Name
  pub is_chain : IsChain parents name chain
  pub is : names ≡ with_default chain

-- names end in `default`
abbrev pub EndInDefault : List Name → Type 0
EndInDefault names = (front : List Name) × (names ≡ with_default front)

-- A profile is that of a name: it is the one of the name's chain.
pub record IsProfileOf {M K : Type 0} (configured : Configured M K) (name : Name)
    (profile : EarlyModel M K) : Type 0 where
  pub chain : List Name
  pub is_chain : IsChain (parents_in (config_parents configured.config)) name chain
  pub is_profile : profile ≡ profile_of configured name chain
