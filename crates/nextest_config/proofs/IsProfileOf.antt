-- A profile of a configuration, made of its parts.
use Rattle.std.proofs.Common.{◌≡◌, ◌∙◌, ℕ, List, subst}
use Rattle.nextest_inheritance.specs.Parents.{parents_in, IsChain}
use Rattle.nextest_load.specs.Config.{config_parents}
use Rattle.nextest_settings.specs.Profiles.Profiles.{IsProfileOf}
use Rattle.nextest_settings.specs.Profile.{Configured, EarlyModel, profile_of}
use Rattle.nextest_tables.specs.Written.{Name}

pub moved : {M K : Type 0} (configured : Configured M K) (root : List ℕ) (known name : Name)
    (profile : EarlyModel M K) → root ≡ configured.root → known ≡ name
    → IsProfileOf (record { root = root; config = configured.config; scripts = configured.scripts }) known
    profile → IsProfileOf configured name profile
moved configured root known name profile same_root same p = record {
  chain = p.chain;
  is_chain = subst (λ n. IsChain (parents_in (config_parents configured.config)) n p.chain) same p.is_chain;
  is_profile = p.is_profile
      ∙ (λ i. profile_of (record
      { root = same_root i; config = configured.config; scripts = configured.scripts }) (same i) p.chain);
}
