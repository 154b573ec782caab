-- The language of filters of a request.
use Rattle.std.proofs.Common.{◌≡◌, ℕ, List, None, Option, Some, ◌∙◌, subst, sym}
use Rattle.filter_engine.specs.declared.engine.NextestFilters.{NextestFilters}
use Rattle.rinqebo_forms.specs.Machines.{AreOpenFiltersFor, IsGraph}

-- filters that know the same of packages are those of the same metadata
pub filters_alike : (metadata : Option (List ℕ)) (one other : NextestFilters) → other.packages ≡ one.packages
    → AreOpenFiltersFor metadata one → AreOpenFiltersFor metadata other
filters_alike None one other same are = same ∙ are
filters_alike (Some metadata) one other same are = (are.0, are.1, subst (IsGraph are.0) (sym same) are.2)
