-- What filters require of tests, in words: no function of the engine decides here.
use Rattle.std.specs.Prelude.{◌≡◌, ◌↔◌, ℕ, ◌⊎◌, Bool, true, List, IsSome, IsSomeAnd, Ok, chars}
use Rattle.std.specs.Str.Iter.{HasSubslice}
use Rattle.regex_hir.specs.Find.{find}
use Rattle.regex_syntax.specs.Grammar.{read}
use Rattle.regex_syntax.specs.Verdict.{default_config}
use Rattle.nextest_engines.specs.Engines.{Test}
use Rattle.nextest_engines.specs.declared.queries.FiltersetKind.{FiltersetKind}
use Rattle.filter_language.specs.declared.words.Field.{Field}
use Rattle.filter_language.specs.declared.words.Field.TheVariants.{TestName, Package, Deps, Rdeps, BinaryId, BinaryName, Kind, Group}
use Rattle.filter_language.specs.declared.words.Sign.{Sign}
use Rattle.filter_language.specs.declared.words.Sign.TheVariants.{Equal, Contains, Glob, Regex}
use Rattle.filter_language.specs.Formula.{Pattern, Question, Always, Never, TheDefault, OfPlatform, OfName, Formula, Asks, Negated, Both, Either, Without, Grouped}
use Rattle.filter_language.specs.Truth.{NameHas}
use Rattle.filter_language.specs.Writing.{WritesFilter}
use Rattle.filter_engine.specs.Globs.{GlobMatches}
use Rattle.filter_inputs.specs.Packages.Edges.{Reaches}
use Rattle.filter_inputs.specs.Packages.Graph.{Graph, IsMemberNamed}
use Rattle.filter_inputs.specs.Packages.GraphView.{graph_view}
use Rattle.filter_engine.specs.declared.engine.NextestFilters.{NextestFilters}
use Rattle.filter_engine.specs.declared.engine.Packages.{Packages}
use Rattle.filter_engine.specs.declared.engine.Packages.TheVariants.{Known, Unknown, Open}
use Rattle.filter_engine.specs.Compiling.{compiled_in}
use Rattle.filter_engine.specs.Engine.{Filter, read_filter, filter_holds}

-- The regular expression that a text writes has a match in a name, from its start on.
abbrev pub HasRegexMatch : List ℕ → List ℕ → Type 0
HasRegexMatch text name =
    IsSomeAnd (read default_config (chars text))
    (λ (written, names). IsSome (find written.value name 0))

-- A name has what a text requires behind a sign: it is the text; the text is a contiguous part of
-- it; the glob of the text takes it; the regular expression of the text has a match in it.
abbrev pub NameMeets : Sign → List ℕ → List ℕ → Type 0
NameMeets Equal text name = name ≡ text
NameMeets Contains text name = HasSubslice name text
NameMeets Glob text name = GlobMatches text name
NameMeets Regex text name = HasRegexMatch text name

-- The package at this index is a member of the workspace, and its name has something.
abbrev pub IsMemberWith : Graph → (List ℕ → Type 0) → ℕ → Type 0
IsMemberWith graph P place = (name : List ℕ) × IsMemberNamed graph name place × P name

-- A member whose name has something reaches a member of this name: it is that member, or depends on
-- it, directly or over other packages.
abbrev pub IsInDeps : Graph → (List ℕ → Type 0) → List ℕ → Type 0
IsInDeps graph P name =
    (a b : ℕ) × IsMemberWith graph P a × IsMemberNamed graph name b × Reaches graph.edges a b

-- A member of this name reaches a member whose name has something.
abbrev pub IsInRdeps : Graph → (List ℕ → Type 0) → List ℕ → Type 0
IsInRdeps graph P name =
    (a b : ℕ) × IsMemberWith graph P a × IsMemberNamed graph name b × Reaches graph.edges b a

-- The same by what is known of packages. Where sets of packages are left open, no name is in one.
-- Where nothing is known, a filter with one is refused, and which names are in it does not matter.
abbrev pub IsInDepsBy : Packages → (List ℕ → Type 0) → List ℕ → Type 0
IsInDepsBy (Known graph) P name = IsInDeps (graph_view graph) P name
IsInDepsBy Unknown P name = P name
IsInDepsBy Open P name = ⊥

abbrev pub IsInRdepsBy : Packages → (List ℕ → Type 0) → List ℕ → Type 0
IsInRdepsBy (Known graph) P name = IsInRdeps (graph_view graph) P name
IsInRdepsBy Unknown P name = P name
IsInRdepsBy Open P name = ⊥

-- The name of a field has what a predicate requires, of which the pattern requires this.
abbrev pub FieldMeets : Packages → Field → (List ℕ → Type 0) → List ℕ → Type 0
FieldMeets packages TestName P name = P name
FieldMeets packages Package P name = P name
FieldMeets packages Deps P name = IsInDepsBy packages P name
FieldMeets packages Rdeps P name = IsInRdepsBy packages P name
FieldMeets packages BinaryId P name = P name
FieldMeets packages BinaryName P name = P name
FieldMeets packages Kind P name = P name
FieldMeets packages Group P name = P name

-- A predicate with a pattern is true of a test, by its field, its sign and its text.
abbrev pub PatternMeets : {L : Type 0} → Packages → Pattern L → Test → Type 0
PatternMeets packages p test =
    NameHas (FieldMeets packages p.field (NameMeets p.sign p.text)) p.field test

-- A predicate is true of a test, where `default()` is a given fact.
abbrev pub QuestionMeets : {L : Type 0} → Packages → Type 0 → Question L → Test → Type 0
QuestionMeets packages Default Always test = Unit {0}
QuestionMeets packages Default Never test = ⊥
QuestionMeets packages Default TheDefault test = Default
QuestionMeets packages Default (OfPlatform p) test = test.binary.platform ≡ p
QuestionMeets packages Default (OfName p) test = PatternMeets packages p test

-- A filter is true of a test, where `default()` is a given fact.
abbrev pub IsTrueOf : {L : Type 0} → Packages → Type 0 → Formula L → Test → Type 0
IsTrueOf packages Default (Asks q) test = QuestionMeets packages Default q test
IsTrueOf packages Default (Negated a) test = ¬ (IsTrueOf packages Default a test)
IsTrueOf packages Default (Both a b) test =
    IsTrueOf packages Default a test × IsTrueOf packages Default b test
IsTrueOf packages Default (Either a b) test =
    IsTrueOf packages Default a test ⊎ IsTrueOf packages Default b test
IsTrueOf packages Default (Without a b) test =
    IsTrueOf packages Default a test × ¬ (IsTrueOf packages Default b test)
IsTrueOf packages Default (Grouped a) test = IsTrueOf packages Default a test

-- A filter is true of a test beside a default filter, in which a further `default()` is true.
abbrev pub IsTrueBeside : {L : Type 0} → Packages → Formula L → Formula L → Test → Type 0
IsTrueBeside packages default f test =
    IsTrueOf packages (IsTrueOf packages (Unit {0}) default test) f test

-- Two texts that an engine reads write filters, and beside the second the first matches exactly the
-- tests of which it is true.
abbrev pub FiltersTellTheTruth : NextestFilters → Type 0
FiltersTellTheTruth engine = (kind default_kind : FiltersetKind) (text default_text : List ℕ)
    (filter default : Filter)
    → read_filter engine kind text ≡ Ok filter
    → read_filter engine default_kind default_text ≡ Ok default
    → (f g : Formula (List ℕ → Bool)) × WritesFilter (compiled_in engine) text f
    × WritesFilter (compiled_in engine) default_text g
    × ((test : Test)
    → (filter_holds filter test default ≡ true) ↔ IsTrueBeside engine.packages g f test)

-- An engine reads a text for a kind, to a filter that matches exactly the tests with a property,
-- whatever the default filter is.
abbrev pub IsReadAs : NextestFilters → FiltersetKind → List ℕ → (Test → Type 0) → Type 0
IsReadAs engine kind text P = (filter : Filter) × (read_filter engine kind text ≡ Ok filter)
    × ((test : Test) (default : Filter) → (filter_holds filter test default ≡ true) ↔ P test)
