-- What predicates test of fields, as the names that have it.
use Rattle.std.specs.Prelude.{ℕ, Bool, true, false, List, Result}
use Rattle.std.specs.Result.{result_map_both}
use Rattle.filter_language.specs.declared.matchers.PatternFault.{PatternFault}
use Rattle.filter_language.specs.declared.words.Field.{Field}
use Rattle.filter_language.specs.declared.words.Field.TheVariants.{TestName, Package, Deps, Rdeps, BinaryId, BinaryName, Kind, Group}
use Rattle.filter_language.specs.declared.words.Sign.{Sign}
use Rattle.filter_engine.specs.Matches.{question_of}
use Rattle.filter_inputs.specs.declared.packages.graph.PackageGraph.{PackageGraph}
use Rattle.filter_inputs.specs.Packages.GraphView.{graph_view, has_member}
use Rattle.filter_engine.specs.declared.compiling.FieldMatcher.{FieldMatcher}
use Rattle.filter_engine.specs.declared.compiling.FieldMatcher.TheVariants as matchers
use Rattle.filter_engine.specs.declared.engine.NextestFilters.{NextestFilters}
use Rattle.filter_engine.specs.declared.engine.Packages.{Packages}
use Rattle.filter_engine.specs.declared.engine.Packages.TheVariants.{Known, Unknown, Open}
use Rattle.filter_engine.specs.Members.{is_dependency, is_dependent}
use Rattle.filter_engine.specs.Names.{question_in, asks}

-- The names that a matcher in memory accepts.
abbrev pub names_of : FieldMatcher → List ℕ → Bool
names_of (matchers.Name pattern) = asks (question_of pattern.matcher)
names_of (matchers.Members members) = has_member members
names_of matchers.Open = λ name. false

-- The names of a field that a pattern matches: of `deps` and `rdeps` those of the members in
-- their set.
abbrev pub sought_with : PackageGraph → Field → (List ℕ → Bool) → List ℕ → Bool
sought_with graph TestName accepts = accepts
sought_with graph Package accepts = accepts
sought_with graph Deps accepts = is_dependency (graph_view graph) accepts
sought_with graph Rdeps accepts = is_dependent (graph_view graph) accepts
sought_with graph BinaryId accepts = accepts
sought_with graph BinaryName accepts = accepts
sought_with graph Kind accepts = accepts
sought_with graph Group accepts = accepts

-- The names of a field that a pattern matches, if `deps` and `rdeps` are left open: of these
-- none.
abbrev pub sought_openly : Field → (List ℕ → Bool) → List ℕ → Bool
sought_openly TestName accepts = accepts
sought_openly Package accepts = accepts
sought_openly Deps accepts = λ name. false
sought_openly Rdeps accepts = λ name. false
sought_openly BinaryId accepts = accepts
sought_openly BinaryName accepts = accepts
sought_openly Kind accepts = accepts
sought_openly Group accepts = accepts

-- The names of a field that a pattern matches, by what is known of packages.
abbrev pub sought : Packages → Field → (List ℕ → Bool) → List ℕ → Bool
sought (Known graph) field accepts = sought_with graph field accepts
sought Unknown field accepts = accepts
sought Open field accepts = sought_openly field accepts

-- Whether `deps` and `rdeps` are read: where nothing is known of packages they are refused, unless
-- they are left open.
abbrev pub reads_packages : Packages → Bool
reads_packages (Known graph) = true
reads_packages Unknown = false
reads_packages Open = true

-- The names that a text matches behind a sign, for a field, or why it matches none.
abbrev pub compiled_in : NextestFilters → Field → Sign → List ℕ
    → Result (List ℕ → Bool) PatternFault
compiled_in engine field sign text =
    result_map_both (λ question. sought engine.packages field (asks question)) (λ fault. fault)
    (question_in sign text)
