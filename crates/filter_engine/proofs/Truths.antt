-- The engine's filters match the tests of which they are true.
use Rattle.std.proofs.Common.{◌≡◌, ◌≤◌, ◌↔◌, ◌++◌, ℕ, nat_lt, Bool, true, false, inl, inr, List, [], ◌∷◌, Option, None, Some, Result, Ok, Err, is_none, ◌&&◌, Decides, chars, codes, refl, sym, ◌∙◌, ap, subst, arith, append-nil, if◌then◌else◌}
use Rattle.std.specs.Result.{result_map_both}
use Rattle.std.specs.Str.Iter.{HasSubslice}
use Rattle.regex_syntax.specs.Grammar.{read}
use Rattle.regex_syntax.specs.Verdict.{default_config}
use Rattle.std.proofs.lemmas.Bool.Decides.{Decides-at}
use Rattle.nextest_engines.specs.Engines.{Test, RefusalText}
use Rattle.nextest_engines.specs.declared.queries.FiltersetKind.{FiltersetKind}
use Rattle.filter_language.specs.declared.fault.FaultKind.{FaultKind}
use Rattle.filter_language.specs.declared.fault.FiltersetFault.{FiltersetFault}
use Rattle.filter_language.specs.declared.matchers.PatternFault.{PatternFault}
use Rattle.filter_language.specs.declared.matchers.PatternFault.TheVariants.{Malformed, TooLarge}
use Rattle.filter_language.specs.declared.words.Field.{Field}
use Rattle.filter_language.specs.declared.words.Field.TheVariants.{TestName, Package, Deps, Rdeps, BinaryId, BinaryName, Kind, Group}
use Rattle.filter_language.specs.declared.words.Sign.{Sign}
use Rattle.filter_language.specs.declared.words.Sign.TheVariants.{Equal, Contains, Glob, Regex}
use Rattle.filter_language.specs.Bans.{field_ban, graph_ban}
use Rattle.filter_language.specs.Evaluation.{marks_value}
use Rattle.filter_language.specs.Filters.{filter_in}
use Rattle.filter_language.specs.Filtersets.{says_true}
use Rattle.filter_language.specs.Formula.{Pattern, Question, Always, Never, TheDefault, OfPlatform, OfName, Formula, Asks, Negated, Both, Either, Without, Grouped}
use Rattle.filter_language.specs.Grammar.{Mark, Asked, NotMark, OpenMark, CloseMark, AndMark, OrMark, MinusMark, written}
use Rattle.filter_language.specs.Predicates.{Compiler}
use Rattle.filter_language.specs.Truth.{NameHas, Answers, Holds}
use Rattle.filter_language.specs.Values.{package_name, field_answer, answer, of_test}
use Rattle.filter_language.specs.Writing.{SpellsBody, SpellsRegex, SpellsFilled, SpellsPattern, SpellsQuestion, Writes, IsFilter, field_word, sign_spelling}
use Rattle.filter_language.proofs.MarksTell.{marks_truth}
use Rattle.filter_language.proofs.Writings.{filter_is_read, read_is_filter}
use Rattle.filter_engine.specs.GlobDecisions.{writes_glob}
use Rattle.filter_engine.specs.GlobSizes.{glob_size}
use Rattle.filter_engine.specs.Globs.{IsGlob, GlobMatches}
use Rattle.filter_engine.specs.Matches.{NameQuestion, equal, contains, glob, regex}
use Rattle.filter_engine.specs.RegexSizes.{most_states, regex_size}
use Rattle.filter_engine.specs.RegexTexts.{IsRegex}
use Rattle.filter_inputs.specs.declared.packages.graph.PackageGraph.{PackageGraph}
use Rattle.filter_inputs.specs.Packages.GraphView.{graph_view}
use Rattle.filter_engine.specs.declared.engine.NextestFilters.{NextestFilters}
use Rattle.filter_engine.specs.declared.engine.Packages.{Packages}
use Rattle.filter_engine.specs.declared.engine.Packages.TheVariants.{Known, Unknown, Open}
use Rattle.filter_engine.specs.Compiling.{sought, reads_packages, compiled_in}
use Rattle.filter_engine.specs.Engine.{Filter, read_filter, is_among, filter_holds}
use Rattle.filter_engine.specs.Refusals.{fault_refusal}
use Rattle.filter_engine.specs.Names.{nests_within, if_small, question_in, asks}
use Rattle.filter_engine.specs.Truth.{NameMeets, FieldMeets, PatternMeets, QuestionMeets, IsTrueOf, FiltersTellTheTruth, IsReadAs, IsInDepsBy, IsInRdepsBy}
use Rattle.filter_engine.proofs.Asks.{regex_found, asks_decides, regex_asked, glob_asked}
use Rattle.filter_engine.proofs.Members.{dependency_decides, dependent_decides}
use Rattle.filter_engine.proofs.Readings.{read_ok}

-- What a text asks behind a sign, if it asks for something.
abbrev asked : Sign → List ℕ → NameQuestion
asked Equal text = equal text
asked Contains text = contains text
asked Glob text = glob text
asked Regex text = regex text

abbrev Asking : Type 0
Asking = Result NameQuestion PatternFault

ok_value : {A E : Type 0} (a b : A) → ◌≡◌ {A = Result A E} (Ok a) (Ok b) → a ≡ b
ok_value a b e = cc

ok_is : (question q : NameQuestion) → ◌≡◌ {A = Asking} (Ok question) (Ok q) → q ≡ question
ok_is question q e = sym (ok_value {E = PatternFault} question q e)

small_is : (large : Bool) (question q : NameQuestion)
    → ◌≡◌ {A = Asking} (if large then Err TooLarge else Ok question) (Ok q) → q ≡ question
small_is true question q e = absurd (cc)
small_is false question q e = ok_is question q e

written_is : (is_written : Bool) (states : ℕ) (question q : NameQuestion)
    → ◌≡◌ {A = Asking} (if is_written then if_small states question else Err Malformed) (Ok q) → q ≡ question
written_is true states question q e = small_is (nat_lt most_states states) question q e
written_is false states question q e = absurd (cc)

question_is : (sign : Sign) (text : List ℕ) (q : NameQuestion) → question_in sign text ≡ Ok q → q ≡ asked sign text
question_is Equal text q e = ok_is (equal text) q e
question_is Contains text q e = ok_is (contains text) q e
question_is Glob text q e = written_is (writes_glob text) (glob_size text) (glob text) q e
question_is Regex text q e =
    written_is (nests_within (read default_config (chars text))) (regex_size text) (regex text) q e

-- The names that are requested are those that have what the text requires.
meets_decides : (sign : Sign) (text name : List ℕ) → Decides (asks (asked sign text) name) (NameMeets sign text name)
meets_decides Equal text name = asks_decides (equal text) name
meets_decides Contains text name = asks_decides (contains text) name
meets_decides Glob text name = asks_decides (glob text) name
meets_decides Regex text name = regex_found text name

sought_decides : (packages : Packages) (field : Field) (accepts : List ℕ → Bool) (P : List ℕ → Type 0)
    → ((name : List ℕ) → Decides (accepts name) (P name)) → (name : List ℕ)
    → Decides (sought packages field accepts name) (FieldMeets packages field P name)
sought_decides (Known graph) Deps accepts P h name = dependency_decides (graph_view graph) accepts P h name
sought_decides (Known graph) Rdeps accepts P h name = dependent_decides (graph_view graph) accepts P h name
sought_decides (Known graph) TestName accepts P h name = h name
sought_decides (Known graph) Package accepts P h name = h name
sought_decides (Known graph) BinaryId accepts P h name = h name
sought_decides (Known graph) BinaryName accepts P h name = h name
sought_decides (Known graph) Kind accepts P h name = h name
sought_decides (Known graph) Group accepts P h name = h name
sought_decides Unknown TestName accepts P h name = h name
sought_decides Unknown Package accepts P h name = h name
sought_decides Unknown Deps accepts P h name = h name
sought_decides Unknown Rdeps accepts P h name = h name
sought_decides Unknown BinaryId accepts P h name = h name
sought_decides Unknown BinaryName accepts P h name = h name
sought_decides Unknown Kind accepts P h name = h name
sought_decides Unknown Group accepts P h name = h name
sought_decides Open Deps accepts P h name = (λ e. absurd (cc), λ e. absurd (e))
sought_decides Open Rdeps accepts P h name = (λ e. absurd (cc), λ e. absurd (e))
sought_decides Open TestName accepts P h name = h name
sought_decides Open Package accepts P h name = h name
sought_decides Open BinaryId accepts P h name = h name
sought_decides Open BinaryName accepts P h name = h name
sought_decides Open Kind accepts P h name = h name
sought_decides Open Group accepts P h name = h name

-- The question of a text that has a meaning.
compiled_question : (engine : NextestFilters) (field : Field) (found : Asking) (meaning : List ℕ → Bool)
    → result_map_both (λ q. sought engine.packages field (asks q)) (λ (fault : PatternFault). fault) found ≡ Ok meaning
    → (q : NameQuestion) × (found ≡ Ok q) × (meaning ≡ sought engine.packages field (asks q))
compiled_question engine field (Ok q) meaning e =
    (q, refl, sym (ok_value {E = PatternFault} (sought engine.packages field (asks q)) meaning e))
compiled_question engine field (Err fault) meaning e = absurd (cc)

-- A pattern that was compiled accepts the names that have what it requires.
compiled_meets : (engine : NextestFilters) (field : Field) (sign : Sign) (text : List ℕ) (meaning : List ℕ → Bool)
    → compiled_in engine field sign text ≡ Ok meaning → (name : List ℕ)
    → (meaning name ≡ true) ↔ FieldMeets engine.packages field (NameMeets sign text) name
compiled_meets engine field sign text meaning e name =
    let it = compiled_question engine field (question_in sign text) meaning e in
    let same : meaning ≡ sought engine.packages field (asks (asked sign text)) =
    it.2 ∙ ap (λ q. sought engine.packages field (asks q)) (question_is sign text it.0 it.1) in
    Decides-at (meaning name) (sought engine.packages field (asks (asked sign text)) name) (ap (λ f. f name) same)
    (sought_decides engine.packages field (asks (asked sign text)) (NameMeets sign text) (meets_decides sign text) name)

-- Each pattern that a text writes was compiled.
abbrev QuestionIsCompiled : {L : Type 0} → Compiler L → Question L → Type 0
QuestionIsCompiled compiler (OfName p) = compiler p.field p.sign p.text ≡ Ok p.meaning
QuestionIsCompiled compiler Always = Unit {0}
QuestionIsCompiled compiler Never = Unit {0}
QuestionIsCompiled compiler TheDefault = Unit {0}
QuestionIsCompiled compiler (OfPlatform p) = Unit {0}

abbrev MarksAreCompiled : {L : Type 0} → Compiler L → List (Mark L) → Type 0
MarksAreCompiled compiler [] = Unit {0}
MarksAreCompiled compiler (Asked q ∷ marks) = QuestionIsCompiled compiler q × MarksAreCompiled compiler marks
MarksAreCompiled compiler (NotMark ∷ marks) = MarksAreCompiled compiler marks
MarksAreCompiled compiler (OpenMark ∷ marks) = MarksAreCompiled compiler marks
MarksAreCompiled compiler (CloseMark ∷ marks) = MarksAreCompiled compiler marks
MarksAreCompiled compiler (AndMark ∷ marks) = MarksAreCompiled compiler marks
MarksAreCompiled compiler (OrMark ∷ marks) = MarksAreCompiled compiler marks
MarksAreCompiled compiler (MinusMark ∷ marks) = MarksAreCompiled compiler marks

abbrev IsCompiled : {L : Type 0} → Compiler L → Formula L → Type 0
IsCompiled compiler (Asks q) = QuestionIsCompiled compiler q
IsCompiled compiler (Negated a) = IsCompiled compiler a
IsCompiled compiler (Both a b) = IsCompiled compiler a × IsCompiled compiler b
IsCompiled compiler (Either a b) = IsCompiled compiler a × IsCompiled compiler b
IsCompiled compiler (Without a b) = IsCompiled compiler a × IsCompiled compiler b
IsCompiled compiler (Grouped a) = IsCompiled compiler a

question_compiled : {L : Type 0} (compiler : Compiler L) (q : Question L) (spelling : List ℕ)
    → SpellsQuestion compiler q spelling → QuestionIsCompiled compiler q
question_compiled compiler (OfName p) spelling (blanks, argument, are, spells, call, wrote, means) = means
question_compiled compiler Always spelling is = tt
question_compiled compiler Never spelling is = tt
question_compiled compiler TheDefault spelling is = tt
question_compiled compiler (OfPlatform p) spelling is = tt

marks_compiled : {L : Type 0} (compiler : Compiler L) (marks : List (Mark L)) (text : List ℕ)
    → Writes compiler text marks → MarksAreCompiled compiler marks
marks_compiled compiler [] text writes = tt
marks_compiled compiler (Asked q ∷ marks) text (blanks, spelling, rest, are, is, split, writes) =
    (question_compiled compiler q spelling is, marks_compiled compiler marks rest writes)
marks_compiled compiler (NotMark ∷ marks) text (blanks, spelling, rest, are, is, split, writes) =
    marks_compiled compiler marks rest writes
marks_compiled compiler (OpenMark ∷ marks) text (blanks, spelling, rest, are, is, split, writes) =
    marks_compiled compiler marks rest writes
marks_compiled compiler (CloseMark ∷ marks) text (blanks, spelling, rest, are, is, split, writes) =
    marks_compiled compiler marks rest writes
marks_compiled compiler (AndMark ∷ marks) text (blanks, spelling, rest, are, is, split, writes) =
    marks_compiled compiler marks rest writes
marks_compiled compiler (OrMark ∷ marks) text (blanks, spelling, rest, are, is, split, writes) =
    marks_compiled compiler marks rest writes
marks_compiled compiler (MinusMark ∷ marks) text (blanks, spelling, rest, are, is, split, writes) =
    marks_compiled compiler marks rest writes

written_compiled : {L : Type 0} (compiler : Compiler L) (f : Formula L) (rest : List (Mark L))
    → MarksAreCompiled compiler (written f rest) → IsCompiled compiler f × MarksAreCompiled compiler rest
written_compiled compiler (Asks q) rest are = (are.0, are.1)
written_compiled compiler (Negated a) rest are = written_compiled compiler a rest are
written_compiled compiler (Both a b) rest are =
    let left = written_compiled compiler a (AndMark ∷ written b rest) are in
    let right = written_compiled compiler b rest left.1 in ((left.0, right.0), right.1)
written_compiled compiler (Either a b) rest are =
    let left = written_compiled compiler a (OrMark ∷ written b rest) are in
    let right = written_compiled compiler b rest left.1 in ((left.0, right.0), right.1)
written_compiled compiler (Without a b) rest are =
    let left = written_compiled compiler a (MinusMark ∷ written b rest) are in
    let right = written_compiled compiler b rest left.1 in ((left.0, right.0), right.1)
written_compiled compiler (Grouped a) rest are = written_compiled compiler a (CloseMark ∷ rest) are

-- A filter whose patterns were compiled holds of the tests of which it is true.
has_as : (P Q : List ℕ → Type 0) → ((name : List ℕ) → P name ↔ Q name) → (field : Field) (test : Test)
    → NameHas P field test ↔ NameHas Q field test
has_as P Q same TestName test = same test.name
has_as P Q same Package test = same (package_name test.binary.binary_id)
has_as P Q same Deps test = same (package_name test.binary.binary_id)
has_as P Q same Rdeps test = same (package_name test.binary.binary_id)
has_as P Q same BinaryId test = same test.binary.binary_id
has_as P Q same BinaryName test = same test.binary.binary_name
has_as P Q same Kind test = same test.binary.kind
has_as P Q same Group test = (λ e. e, λ e. e)

module _ (engine : NextestFilters) where
  abbrev Names : Type 0
  Names = List ℕ → Bool

  pattern_as : (p : Pattern Names) → compiled_in engine p.field p.sign p.text ≡ Ok p.meaning → (test : Test)
      → NameHas (λ name. p.meaning name ≡ true) p.field test ↔ PatternMeets engine.packages p test
  pattern_as p means test =
      has_as (λ name. p.meaning name ≡ true) (FieldMeets engine.packages p.field (NameMeets p.sign p.text))
      (compiled_meets engine p.field p.sign p.text p.meaning means) p.field test

  answers_as : (D E : Type 0) → D ↔ E → (q : Question Names) → QuestionIsCompiled (compiled_in engine) q
      → (test : Test) → Answers is_among D q test ↔ QuestionMeets engine.packages E q test
  answers_as D E same Always are test = (λ x. x, λ x. x)
  answers_as D E same Never are test = (λ x. x, λ x. x)
  answers_as D E same TheDefault are test = same
  answers_as D E same (OfPlatform p) are test = (λ x. x, λ x. x)
  answers_as D E same (OfName p) are test = pattern_as p are test

  holds_as : (D E : Type 0) → D ↔ E → (f : Formula Names) → IsCompiled (compiled_in engine) f → (test : Test)
      → Holds is_among D f test ↔ IsTrueOf engine.packages E f test
  holds_as D E same (Asks q) are test = answers_as D E same q are test
  holds_as D E same (Negated a) are test =
      let it = holds_as D E same a are test in (λ no x. no (it.1 x), λ no x. no (it.0 x))
  holds_as D E same (Both a b) are test =
      let one = holds_as D E same a are.0 test in let two = holds_as D E same b are.1 test in
      (λ x. (one.0 x.0, two.0 x.1), λ x. (one.1 x.0, two.1 x.1))
  holds_as D E same (Either a b) are test =
      let one = holds_as D E same a are.0 test in let two = holds_as D E same b are.1 test in (
        λ x. elim x [ inl l ↦ inl (one.0 l) | inr r ↦ inr (two.0 r) ],
        λ x. elim x [ inl l ↦ inl (one.1 l) | inr r ↦ inr (two.1 r) ],
      )
  holds_as D E same (Without a b) are test =
      let one = holds_as D E same a are.0 test in let two = holds_as D E same b are.1 test in
      (λ x. (one.0 x.0, λ y. x.1 (two.1 y)), λ x. (one.1 x.0, λ y. x.1 (two.0 y)))
  holds_as D E same (Grouped a) are test = holds_as D E same a are test

  -- What is read is written.
  read_itself : (found : Result Filter FiltersetFault) (filter : Filter)
      → result_map_both (λ (m : Filter). m) fault_refusal found ≡ Ok filter → found ≡ Ok filter
  read_itself (Ok marks) filter e = ap Ok (ok_value {E = RefusalText} marks filter e)
  read_itself (Err fault) filter e = absurd (cc)

  is_filter : (kind : FiltersetKind) (text : List ℕ) (filter : Filter) → read_filter engine kind text ≡ Ok filter
      → IsFilter (compiled_in engine) (reads_packages engine.packages) kind text filter
  is_filter kind text filter e =
      read_is_filter (compiled_in engine) (reads_packages engine.packages) kind text filter
      (read_itself (filter_in (compiled_in engine) (reads_packages engine.packages) kind text) filter e)

  formula_compiled : (text : List ℕ) (filter : Filter) (f : Formula Names) → Writes (compiled_in engine) text filter
      → written f [] ≡ filter → IsCompiled (compiled_in engine) f
  formula_compiled text filter f writes is =
      (written_compiled (compiled_in engine) f []
      (subst (MarksAreCompiled (compiled_in engine)) (sym is)
      (marks_compiled (compiled_in engine) filter text writes))).0

  pub truth_told : FiltersTellTheTruth engine
  truth_told kind default_kind text default_text filter default read also =
      let one = is_filter kind text filter read in
      let two = is_filter default_kind default_text default also in
      let f = one.1.0 in
      let g = two.1.0 in (
        f,
        g,
        (filter, one.0, one.1.1, one.1.2),
        (default, two.0, two.1.1, two.1.2),
        λ test.
            let told = marks_truth is_among default filter g f test (filter_holds filter test default) refl
            two.1.1 two.1.2 one.1.1 one.1.2 in
            let beside = holds_as (Unit {0}) (Unit {0}) (λ x. x, λ x. x) g
            (formula_compiled default_text default g two.0 two.1.1.0) test in
            let whole = holds_as (Holds is_among (Unit {0}) g test) (IsTrueOf engine.packages (Unit {0}) g test) beside f
            (formula_compiled text filter f one.0 one.1.1.0) test in
            (λ e. whole.0 (told.0 e), λ x. told.1 (whole.1 x)),
      )

  -- A text that is one predicate.
  said_as : (accepts : List ℕ → Bool) (field : Field) (test : Test) (default : Option Bool)
      → (says_true (field_answer accepts (of_test test default) field) ≡ true)
      ↔ NameHas (λ name. accepts name ≡ true) field test
  said_as accepts TestName test default = (λ e. e, λ e. e)
  said_as accepts Package test default = (λ e. e, λ e. e)
  said_as accepts Deps test default = (λ e. e, λ e. e)
  said_as accepts Rdeps test default = (λ e. e, λ e. e)
  said_as accepts BinaryId test default = (λ e. e, λ e. e)
  said_as accepts BinaryName test default = (λ e. e, λ e. e)
  said_as accepts Kind test default = (λ e. e, λ e. e)
  said_as accepts Group test default = (λ e. absurd (cc), λ e. absurd (e))

  one_mark : (kind : FiltersetKind) (p : Pattern Names) (spelling : List ℕ)
      → SpellsPattern (compiled_in engine) p spelling
      → field_ban kind (reads_packages engine.packages) p.field ≡ None
      → IsFilter (compiled_in engine) (reads_packages engine.packages) kind spelling (Asked (OfName p) ∷ [])
  one_mark kind p spelling spells ban = (
    ([], spelling, [], tt, spells, sym (append-nil spelling), tt),
    (Asks (OfName p), (refl, refl), omega arith),
    ap (λ (o : Option FaultKind). is_none o && true) ban,
  )

  pub predicate_read : (kind : FiltersetKind) (p : Pattern Names) (spelling : List ℕ)
      → SpellsPattern (compiled_in engine) p spelling
      → field_ban kind (reads_packages engine.packages) p.field ≡ None
      → IsReadAs engine kind spelling (PatternMeets engine.packages p)
  predicate_read kind p spelling spells ban = (
    Asked (OfName p) ∷ [],
    read_ok engine kind spelling (Asked (OfName p) ∷ [])
        (filter_is_read (compiled_in engine) (reads_packages engine.packages) kind spelling (Asked (OfName p) ∷ [])
        (one_mark kind p spelling spells ban)),
    λ test default.
        let said = said_as p.meaning p.field test (marks_value (answer is_among (of_test test (Some true))) default) in
        let same = pattern_as p (question_compiled (compiled_in engine) (OfName p) spelling spells) test in
        (λ e. same.0 (said.0 e), λ x. said.1 (same.1 x)),
  )

  -- A predicate with a sign, and no blanks.
  abbrev call_of : Field → Sign → List ℕ → List ℕ
  call_of field sign body = field_word field ++ (codes "(" ++ ((sign_spelling sign ++ body) ++ codes ")"))

  call_read : (kind : FiltersetKind) (field : Field) (sign : Sign) (bytes body : List ℕ) → SpellsBody sign bytes body
      → field_ban kind (reads_packages engine.packages) field ≡ None
      → compiled_in engine field sign bytes ≡ Ok (sought engine.packages field (asks (asked sign bytes)))
      → IsReadAs engine kind (call_of field sign body)
      (λ test. NameHas (FieldMeets engine.packages field (NameMeets sign bytes)) field test)
  call_read kind field sign bytes body spells ban means =
      predicate_read kind (record {
        field = field;
        sign = sign;
        is_default = false;
        text = bytes;
        written = call_of field sign body;
        meaning = sought engine.packages field (asks (asked sign bytes));
      }) (call_of field sign body)
      ([], sign_spelling sign ++ body, tt, (body, spells, refl), ([], tt, refl), refl, means) ban

  pub equality_read : (kind : FiltersetKind) (bytes text : List ℕ) → SpellsFilled bytes text
      → IsReadAs engine kind (codes "test(=" ++ (text ++ codes ")")) (λ test. test.name ≡ bytes)
  equality_read kind bytes text spells = call_read kind TestName Equal bytes text spells refl refl

  pub substring_read : (kind : FiltersetKind) (bytes text : List ℕ) → SpellsFilled bytes text
      → IsReadAs engine kind (codes "test(~" ++ (text ++ codes ")")) (λ test. HasSubslice test.name bytes)
  substring_read kind bytes text spells = call_read kind TestName Contains bytes text spells refl refl

  pub glob_read : (kind : FiltersetKind) (bytes text : List ℕ) → SpellsFilled bytes text → IsGlob bytes
      → glob_size bytes ≤ most_states
      → IsReadAs engine kind (codes "test(#" ++ (text ++ codes ")")) (λ test. GlobMatches bytes test.name)
  glob_read kind bytes text spells is small =
      call_read kind TestName Glob bytes text spells refl
      (ap (result_map_both (λ q. sought engine.packages TestName (asks q)) (λ (fault : PatternFault). fault))
      (glob_asked bytes is small))

  pub regex_read : (kind : FiltersetKind) (bytes text : List ℕ) → SpellsRegex bytes text → IsRegex bytes
      → regex_size bytes ≤ most_states
      → IsReadAs engine kind (codes "test(/" ++ (text ++ codes ")")) (λ test. NameMeets Regex bytes test.name)
  regex_read kind bytes text spells is small =
      call_read kind TestName Regex bytes text (text, [], spells, tt, sym (append-nil text)) refl
      (ap (result_map_both (λ q. sought engine.packages TestName (asks q)) (λ (fault : PatternFault). fault))
      (regex_asked bytes is small))

  pub deps_read : (kind : FiltersetKind) (graph : PackageGraph) (bytes text : List ℕ) → engine.packages ≡ Known graph
      → SpellsFilled bytes text
      → IsReadAs engine kind (codes "deps(=" ++ (text ++ codes ")"))
      (λ test. NameHas (IsInDepsBy (Known graph) (λ name. name ≡ bytes)) Deps test)
  deps_read kind graph bytes text known spells =
      subst (λ packages. IsReadAs engine kind (codes "deps(=" ++ (text ++ codes ")"))
      (λ test. NameHas (IsInDepsBy packages (λ name. name ≡ bytes)) Deps test)) known
      (call_read kind Deps Equal bytes text spells (ap (λ p. graph_ban (reads_packages p)) known) refl)

  pub rdeps_read : (kind : FiltersetKind) (graph : PackageGraph) (bytes text : List ℕ) → engine.packages ≡ Known graph
      → SpellsFilled bytes text
      → IsReadAs engine kind (codes "rdeps(=" ++ (text ++ codes ")"))
      (λ test. NameHas (IsInRdepsBy (Known graph) (λ name. name ≡ bytes)) Rdeps test)
  rdeps_read kind graph bytes text known spells =
      subst (λ packages. IsReadAs engine kind (codes "rdeps(=" ++ (text ++ codes ")"))
      (λ test. NameHas (IsInRdepsBy packages (λ name. name ≡ bytes)) Rdeps test)) known
      (call_read kind Rdeps Equal bytes text spells (ap (λ p. graph_ban (reads_packages p)) known) refl)
