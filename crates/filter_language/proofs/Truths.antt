-- Values are the truth, and a known value at a binary is the value at its tests.
use Rattle.std.proofs.Common.{◌≡◌, ℕ, Bool, true, false, ◌⊎◌, inl, inr, not, List, Option, None, Some, IsSome, option_map, refl, ap}
use Rattle.nextest_engines.specs.Engines.{Test, Binary}
use Rattle.nextest_engines.specs.declared.queries.BuildPlatform.{BuildPlatform}
use Rattle.nextest_engines.specs.declared.queries.BuildPlatform.TheVariants.{Host, Target}
use Rattle.filter_language.specs.declared.words.Field.{Field}
use Rattle.filter_language.specs.declared.words.Field.TheVariants.{TestName, Package, Deps, Rdeps, BinaryId, BinaryName, Kind, Group}
use Rattle.filter_language.specs.Formula.{Question, Always, Never, TheDefault, OfPlatform, OfName, Formula, Asks, Negated, Both, Either, Without, Grouped}
use Rattle.filter_language.specs.Values.{known_and, known_or, same_platform, field_answer, answer, value, of_test, of_binary}
use Rattle.filter_language.specs.Binaries.{Below}
use Rattle.filter_language.specs.Truth.{NameHas, Answers, Holds, Tells, Needs, a_test, the_default, under, within, both_left, both_right, either_left, either_right, without_left, without_right, ValuesAreTrue, BinariesSpeakForTests, OnlyTestsAreUnknown, OppositesChangePlaces}
use Rattle.filter_language.proofs.Binaries.{not_below, and_below, or_below, answer_below}

-- A test of names tells whether the name of a field passes.
bool_tells : (b : Bool) → Tells (Some b) (b ≡ true)
bool_tells b = (b, refl, λ e. e, λ e. e)

field_tells : (accepts : List ℕ → Bool) (field : Field) (test : Test) (default : Option Bool)
    → Tells (field_answer accepts (of_test test default) field) (NameHas (λ name. accepts name ≡ true) field test)
field_tells accepts TestName test default = bool_tells _
field_tells accepts Package test default = bool_tells _
field_tells accepts Deps test default = bool_tells _
field_tells accepts Rdeps test default = bool_tells _
field_tells accepts BinaryId test default = bool_tells _
field_tells accepts BinaryName test default = bool_tells _
field_tells accepts Kind test default = bool_tells _
field_tells accepts Group test default = (false, refl, λ e. absurd (cc), λ e. absurd (e))

platform_tells : (a b : BuildPlatform) → Tells (Some (same_platform a b)) (a ≡ b)
platform_tells Host Host = (true, refl, λ _. refl, λ _. refl)
platform_tells Target Target = (true, refl, λ _. refl, λ _. refl)
platform_tells Host Target = (false, refl, λ e. absurd (cc), λ e. absurd (cc))
platform_tells Target Host = (false, refl, λ e. absurd (cc), λ e. absurd (cc))

answer_tells : {L : Type 0} (accepts : L → List ℕ → Bool) (default : Option Bool) (D : Type 0) → Tells default D
    → (q : Question L) (test : Test) → Tells (answer accepts (of_test test default) q) (Answers accepts D q test)
answer_tells accepts default D known Always test = (true, refl, λ _. tt, λ _. refl)
answer_tells accepts default D known Never test = (false, refl, λ e. absurd (cc), λ e. absurd (e))
answer_tells accepts default D known TheDefault test = known
answer_tells accepts default D known (OfPlatform p) test = platform_tells test.binary.platform p
answer_tells accepts default D known (OfName p) test = field_tells (accepts p.meaning) p.field test default

-- Joining what is reported.
not_tells : (found : Option Bool) (P : Type 0) → Tells found P → Tells (option_map not found) (P → ⊥)
not_tells found P (true, is, to, from) = (false, ap (option_map not) is, λ e. absurd (cc), λ no. absurd (no (to refl)))
not_tells found P (false, is, to, from) =
    (true, ap (option_map not) is, λ _ p. (let e : false ≡ true = from p in cc), λ _. refl)

and_tells : (x y : Option Bool) (P Q : Type 0) → Tells x P → Tells y Q → Tells (known_and x y) (P × Q)
and_tells x y P Q (true, is, to, from) (b, also, forth, back) =
    (b, rw (is, also) refl, λ e. (to refl, forth e), λ both. back both.1)
and_tells x y P Q (false, is, to, from) (b, also, forth, back) =
    (false, rw is refl, λ e. absurd (cc), λ both. from both.0)

or_tells : (x y : Option Bool) (P Q : Type 0) → Tells x P → Tells y Q → Tells (known_or x y) (P ⊎ Q)
or_tells x y P Q (true, is, to, from) (b, also, forth, back) = (true, rw is refl, λ _. inl (to refl), λ _. refl)
or_tells x y P Q (false, is, to, from) (b, also, forth, back) = (
  b,
  rw (is, also) refl,
  λ e. inr (forth e),
  λ some. elim some
      [ inl p ↦ absurd (let e : false ≡ true = from p in cc) | inr q ↦ back q ],
)

value_tells : {L : Type 0} (accepts : L → List ℕ → Bool) (default : Option Bool) (D : Type 0) → Tells default D
    → (f : Formula L) (test : Test) → Tells (value accepts (of_test test default) f) (Holds accepts D f test)
value_tells accepts default D known (Asks q) test = answer_tells accepts default D known q test
value_tells accepts default D known (Negated a) test = not_tells _ _ (value_tells accepts default D known a test)
value_tells accepts default D known (Both a b) test =
    and_tells _ _ _ _ (value_tells accepts default D known a test) (value_tells accepts default D known b test)
value_tells accepts default D known (Either a b) test =
    or_tells _ _ _ _ (value_tells accepts default D known a test) (value_tells accepts default D known b test)
value_tells accepts default D known (Without a b) test =
    and_tells _ _ _ _ (value_tells accepts default D known a test)
    (not_tells _ _ (value_tells accepts default D known b test))
value_tells accepts default D known (Grouped a) test = value_tells accepts default D known a test

pub values_are_true : {L : Type 0} (accepts : L → List ℕ → Bool) → ValuesAreTrue accepts
values_are_true accepts f default test =
    let outer = value_tells accepts (Some true) (Unit {0}) (true, refl, λ _. tt, λ _. refl) default test in
    value_tells accepts _ _ outer f test

value_below : {L : Type 0} (accepts : L → List ℕ → Bool) (f : Formula L) (test : Test) (d e : Option Bool) → Below d e
    → Below (value accepts (of_binary test.binary d) f) (value accepts (of_test test e) f)
value_below accepts (Asks q) test d e h = answer_below accepts q test d e h
value_below accepts (Negated a) test d e h = not_below _ _ (value_below accepts a test d e h)
value_below accepts (Both a c) test d e h =
    and_below _ _ _ _ (value_below accepts a test d e h) (value_below accepts c test d e h)
value_below accepts (Either a c) test d e h =
    or_below _ _ _ _ (value_below accepts a test d e h) (value_below accepts c test d e h)
value_below accepts (Without a c) test d e h =
    and_below _ _ _ _ (value_below accepts a test d e h) (not_below _ _ (value_below accepts c test d e h))
value_below accepts (Grouped a) test d e h = value_below accepts a test d e h

pub binaries_speak : {L : Type 0} (accepts : L → List ℕ → Bool) → BinariesSpeakForTests accepts
binaries_speak accepts f default test =
    value_below accepts f test _ _ (value_below accepts default test (Some true) (Some true) (λ b e. e))

-- What is known stays known.
known_not : (value : Option Bool) → IsSome value → IsSome (option_map not value)
known_not None is = is
known_not (Some b) is = refl

known_and_known : (left right : Option Bool) → IsSome left → IsSome right → IsSome (known_and left right)
known_and_known None right is also = absurd (cc)
known_and_known (Some false) right is also = refl
known_and_known (Some true) right is also = also

known_or_known : (left right : Option Bool) → IsSome left → IsSome right → IsSome (known_or left right)
known_or_known None right is also = absurd (cc)
known_or_known (Some true) right is also = refl
known_or_known (Some false) right is also = also

field_known : (accepts : List ℕ → Bool) (field : Field) (binary : Binary) (d : Option Bool) → (field ≡ TestName → ⊥)
    → IsSome (field_answer accepts (of_binary binary d) field)
field_known accepts TestName binary d other = absurd (other refl)
field_known accepts Package binary d other = refl
field_known accepts Deps binary d other = refl
field_known accepts Rdeps binary d other = refl
field_known accepts BinaryId binary d other = refl
field_known accepts BinaryName binary d other = refl
field_known accepts Kind binary d other = refl
field_known accepts Group binary d other = refl

value_known : {L : Type 0} (accepts : L → List ℕ → Bool) (f : Formula L) (binary : Binary) (d : Option Bool)
    → (Needs L f → ⊥)
    → IsSome (value accepts (of_binary binary d) f)
value_known accepts (Asks Always) binary d needless = refl
value_known accepts (Asks Never) binary d needless = refl
value_known accepts (Asks TheDefault) binary d needless = absurd (needless the_default)
value_known accepts (Asks (OfPlatform p)) binary d needless = refl
value_known accepts (Asks (OfName p)) binary d needless =
    field_known (accepts p.meaning) p.field binary d (λ is. needless (a_test p is))
value_known accepts (Negated a) binary d needless =
    known_not _ (value_known accepts a binary d (λ n. needless (under a n)))
value_known accepts (Grouped a) binary d needless = value_known accepts a binary d (λ n. needless (within a n))
value_known accepts (Both a b) binary d needless =
    known_and_known _ _ (value_known accepts a binary d (λ n. needless (both_left a b n)))
    (value_known accepts b binary d (λ n. needless (both_right a b n)))
value_known accepts (Either a b) binary d needless =
    known_or_known _ _ (value_known accepts a binary d (λ n. needless (either_left a b n)))
    (value_known accepts b binary d (λ n. needless (either_right a b n)))
value_known accepts (Without a b) binary d needless =
    known_and_known _ _ (value_known accepts a binary d (λ n. needless (without_left a b n)))
    (known_not _ (value_known accepts b binary d (λ n. needless (without_right a b n))))

pub only_tests : {L : Type 0} (accepts : L → List ℕ → Bool) → OnlyTestsAreUnknown accepts
only_tests accepts f default binary needless = value_known accepts f binary _ needless

-- Opposites of known and unknown values.
not_or : (x y : Option Bool) → option_map not (known_or x y) ≡ known_and (option_map not x) (option_map not y)
not_or (Some true) y = refl
not_or (Some false) y = refl
not_or None (Some true) = refl
not_or None (Some false) = refl
not_or None None = refl

not_and : (x y : Option Bool) → option_map not (known_and x y) ≡ known_or (option_map not x) (option_map not y)
not_and (Some true) y = refl
not_and (Some false) y = refl
not_and None (Some true) = refl
not_and None (Some false) = refl
not_and None None = refl

pub opposites_change : {L : Type 0} (accepts : L → List ℕ → Bool) → OppositesChangePlaces accepts
opposites_change accepts s a b =
    (not_or (value accepts s a) (value accepts s b), not_and (value accepts s a) (value accepts s b))
