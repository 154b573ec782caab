-- Loads of the same files.
use Rattle.std.proofs.Common.{◌≡◌, List, subst}
use Rattle.filter_engine.specs.declared.engine.NextestFilters.{NextestFilters}
use Rattle.nextest_load.specs.Steps.{load_steps}
use Rattle.nextest_rules.specs.Definitions.{Features}
use Rattle.nextest_sources.specs.Endings.{Ending, Ran}
use Rattle.nextest_sources.specs.Inputs.{LoadInputs}
use Rattle.nextest_sources.specs.Warnings.{Warning}
use Rattle.rinqebo_load.specs.Sessions.{readings}

-- a load of the same files, with the same filters and features
pub same_run : (given filters : NextestFilters) (given_features features : Features)
    (given_files files : LoadInputs) (old new : List Warning) (end : Ending) → given ≡ filters
    → given_features ≡ features → given_files ≡ files
    → Ran (load_steps (readings given) given_features given_files) old new end
    → Ran (load_steps (readings filters) features files) old new end
same_run given filters given_features features given_files files old new end f g h ran =
    subst (λ fs. Ran (load_steps (readings filters) features fs) old new end) h
    (subst (λ gs. Ran (load_steps (readings filters) gs given_files) old new end) g
    (subst (λ e. Ran (load_steps (readings e) given_features given_files) old new end) f ran))
