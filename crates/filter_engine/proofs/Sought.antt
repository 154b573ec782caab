-- What patterns are compiled to.
use Rattle.std.proofs.Common.{◌≡◌, ℕ, Bool, List, Ok, Err, ◌∙◌, ap}
use Rattle.std.specs.Result.{result_map_both}
use Rattle.filter_language.specs.declared.matchers.PatternFault.{PatternFault}
use Rattle.filter_language.specs.declared.words.Field.{Field}
use Rattle.filter_language.specs.declared.words.Sign.{Sign}
use Rattle.filter_engine.specs.Matches.{NameQuestion}
use Rattle.filter_inputs.specs.declared.packages.graph.PackageGraph.{PackageGraph}
use Rattle.filter_engine.specs.declared.engine.NextestFilters.{NextestFilters}
use Rattle.filter_engine.specs.Compiling.{sought_with, sought_openly, sought, compiled_in}
use Rattle.filter_engine.specs.declared.engine.Packages.{Packages}
use Rattle.filter_engine.specs.declared.engine.Packages.TheVariants.{Known, Unknown, Open}
use Rattle.filter_engine.specs.Names.{question_in, asks}

pub sought_known : (packages : Packages) (graph : PackageGraph) (field : Field)
    (accepts : List ℕ → Bool) → packages ≡ Known graph
    → sought packages field accepts ≡ sought_with graph field accepts
sought_known packages graph field accepts e = ap (λ p. sought p field accepts) e

pub sought_unknown : (packages : Packages) (field : Field) (accepts : List ℕ → Bool) → packages ≡ Unknown
    → sought packages field accepts ≡ accepts
sought_unknown packages field accepts e = ap (λ p. sought p field accepts) e

pub sought_open : (packages : Packages) (field : Field) (accepts : List ℕ → Bool) → packages ≡ Open
    → sought packages field accepts ≡ sought_openly field accepts
sought_open packages field accepts e = ap (λ p. sought p field accepts) e

pub compiled_ok : (engine : NextestFilters) (field : Field) (sign : Sign) (text : List ℕ) (q : NameQuestion)
    (names : List ℕ → Bool)
    → Ok q ≡ question_in sign text → names ≡ sought engine.packages field (asks q)
    → Ok names ≡ compiled_in engine field sign text
compiled_ok engine field sign text q names is same =
    ap Ok same ∙ ap (result_map_both (λ p. sought engine.packages field (asks p)) (λ (f : PatternFault). f)) is

pub compiled_err : (engine : NextestFilters) (field : Field) (sign : Sign) (text : List ℕ) (fault : PatternFault)
    → Err fault ≡ question_in sign text → Err fault ≡ compiled_in engine field sign text
compiled_err engine field sign text fault is =
    ap (result_map_both (λ p. sought engine.packages field (asks p)) (λ (f : PatternFault). f)) is
