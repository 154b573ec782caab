-- Which names have what is asked.
use Rattle.std.proofs.Common.{◌≡◌, ◌≤◌, ◌<◌, ◌↔◌, ◌||◌, ℕ, Bool, true, false, List, [], ◌∷◌, ◌++◌, Option, None, Some, Ok, Err, is_some, IsTrue, Decides, le-leb, leb-true, lt-ltb, ltb-true, arith, refl, ◌∙◌, ap}
use Rattle.std.specs.Prelude.{chars, IsSomeAnd, IsSome, nat_lt}
use Rattle.std.specs.Str.Iter.{HasSubslice}
use Rattle.std.proofs.lemmas.Bool.Decides.{same_from_decides}
use Rattle.std.proofs.lemmas.Slice.Eq.{bytes_eq-Decides}
use Rattle.regex_hir.specs.Find.{find}
use Rattle.regex_hir.specs.Re.{Re}
use Rattle.regex_syntax.specs.Brackets.{Nested}
use Rattle.regex_syntax.specs.Grammar.{Names, read}
use Rattle.regex_syntax.specs.Verdict.{default_config}
use Rattle.filter_engine.specs.GlobDecisions.{writes_glob}
use Rattle.filter_engine.specs.GlobSizes.{glob_size}
use Rattle.filter_engine.specs.Globs.{IsGlob}
use Rattle.filter_engine.specs.Matches.{NameQuestion, equal, contains, glob, regex, Matches}
use Rattle.filter_engine.specs.RegexSizes.{most_states, regex_size}
use Rattle.filter_engine.specs.RegexTexts.{IsRegex, RegexMatches}
use Rattle.filter_engine.proofs.GlobDecisions.{writes_glob_decides, glob_takes_decides}
use Rattle.filter_language.proofs.PartsOfTexts.{after_is, after_own}
use Rattle.filter_language.specs.Texts.{after_prefix}
use Rattle.filter_language.specs.declared.matchers.PatternFault.TheVariants.{Malformed, TooLarge}
use Rattle.filter_engine.specs.Truth.{HasRegexMatch}
use Rattle.filter_engine.specs.Names.{nests_within, if_small, regex_question, glob_question, has_part, found_in, asks}

-- A regex nests within the bound, and what does is a regex.
nests : (o : Option (Nested Re × Names)) → IsSomeAnd o (λ (written, names). written.depth ≤ 250) → nests_within o ≡ true
nests None is = absurd is
nests (Some p) is = le-leb p.0.depth 250 is

nested : (o : Option (Nested Re × Names)) → nests_within o ≡ true
    → IsSomeAnd o (λ (written, names). written.depth ≤ 250)
nested None e = absurd (cc)
nested (Some p) e = leb-true p.0.depth 250 e

is_nested : (text : List ℕ) → IsRegex text → nests_within (read default_config (chars text)) ≡ true
unfolding IsRegex
is_nested text is = nests (read default_config (chars text)) is

is_regex : (text : List ℕ) → nests_within (read default_config (chars text)) ≡ true → IsRegex text
unfolding IsRegex
is_regex text e = nested (read default_config (chars text)) e

-- A question of a small pattern is asked, and one of a large pattern is not.
small_asked : (states : ℕ) (question : NameQuestion) → states ≤ most_states → if_small states question ≡ Ok question
small_asked states question small = by_test (nat_lt most_states states) refl
  where
    by_test : (b : Bool) → nat_lt most_states states ≡ b → if_small states question ≡ Ok question
    by_test true e = absurd (let it = ltb-true most_states states e in omega (arith, it))
    by_test false e = rw e refl

large_refused : (states : ℕ) (question : NameQuestion) → most_states < states
    → if_small states question ≡ Err TooLarge
large_refused states question large = rw (lt-ltb most_states states large) refl

pub regex_asked : (text : List ℕ) → IsRegex text → regex_size text ≤ most_states
    → regex_question text ≡ Ok (regex text)
regex_asked text is small = rw (is_nested text is) (small_asked (regex_size text) (regex text) small)

pub regex_large : (text : List ℕ) → IsRegex text × (most_states < regex_size text)
    → regex_question text ≡ Err TooLarge
regex_large text (is, large) = rw (is_nested text is) (large_refused (regex_size text) (regex text) large)

pub regex_none : (text : List ℕ) → (IsRegex text → ⊥) → regex_question text ≡ Err Malformed
regex_none text none = by_test (nests_within (read default_config (chars text))) refl
  where
    by_test : (b : Bool) → nests_within (read default_config (chars text)) ≡ b → regex_question text ≡ Err Malformed
    by_test true e = absurd (none (is_regex text e))
    by_test false e = rw e refl

-- The test of a glob.
pub glob_asked : (text : List ℕ) → IsGlob text → glob_size text ≤ most_states
    → glob_question text ≡ Ok (glob text)
glob_asked text is small = let e : writes_glob text ≡ true = (writes_glob_decides text).1 is in
    rw e (small_asked (glob_size text) (glob text) small)

pub glob_large : (text : List ℕ) → IsGlob text × (most_states < glob_size text)
    → glob_question text ≡ Err TooLarge
glob_large text (is, large) = let e : writes_glob text ≡ true = (writes_glob_decides text).1 is in
    rw e (large_refused (glob_size text) (glob text) large)

pub glob_none : (text : List ℕ) → (IsGlob text → ⊥) → glob_question text ≡ Err Malformed
glob_none text none = by_test (writes_glob text) refl
  where
    by_test : (b : Bool) → writes_glob text ≡ b → glob_question text ≡ Err Malformed
    by_test true e = absurd (none ((writes_glob_decides text).0 e))
    by_test false e = rw e refl

-- A part of a text.
some_is : (o : Option (List ℕ)) → is_some o ≡ true → (x : List ℕ) × (o ≡ Some x)
some_is None e = absurd (cc)
some_is (Some x) e = (x, refl)

or_true : (a b : Bool) → b ≡ true → (a || b) ≡ true
or_true true b e = refl
or_true false b e = e

begins : (part text : List ℕ) → is_some (after_prefix part text) ≡ true → HasSubslice text part
begins part text e = let it = some_is (after_prefix part text) e in ([], it.0, after_is part text it.0 it.1)

either_there : (part text : List ℕ) (c : ℕ) (b d : Bool) → is_some (after_prefix part (c ∷ text)) ≡ b
    → has_part part text ≡ d → (b || d) ≡ true
    → (has_part part text ≡ true → HasSubslice text part) → HasSubslice (c ∷ text) part
either_there part text c true d first later one known = begins part (c ∷ text) first
either_there part text c false d first later one known = let it = known (later ∙ one) in
    (c ∷ it.0, it.1, ap (λ l. c ∷ l) it.2)

part_there : (part text : List ℕ) → has_part part text ≡ true → HasSubslice text part
part_there part [] e = begins part [] e
part_there part (c ∷ text) e = either_there part text c _ _ refl refl e (λ more. part_there part text more)

found_first : (part text rest : List ℕ) → text ≡ part ++ rest → is_some (after_prefix part text) ≡ true
found_first part text rest e = ap is_some (ap (after_prefix part) e ∙ after_own part rest)

part_found : (part text a b : List ℕ) → text ≡ a ++ (part ++ b) → has_part part text ≡ true
part_found part [] [] b e = found_first part [] b e
part_found part [] (x ∷ a) b e = absurd (cc)
part_found part (c ∷ text) [] b e = rw (found_first part (c ∷ text) b e) refl
part_found part (c ∷ text) (x ∷ a) b e =
    let rest : text ≡ a ++ (part ++ b) = cc in
    or_true (is_some (after_prefix part (c ∷ text))) (has_part part text) (part_found part text a b rest)

part_decides : (part text : List ℕ) → Decides (has_part part text) (HasSubslice text part)
part_decides part text = (part_there part text, λ it. part_found part text it.0 it.1 it.2)

-- A match of a regex.
match_decides : (o : Option (Nested Re × Names)) (name : List ℕ)
    → Decides (found_in o name) (IsSomeAnd o (λ (written, names). IsSome (find written.value name 0)))
match_decides None name = (λ e. absurd (let clash : false ≡ true = e in cc), λ is. absurd is)
match_decides (Some p) name = (λ e. e, λ e. e)

regex_decides : (text name : List ℕ)
    → Decides (found_in (read default_config (chars text)) name) (RegexMatches text name)
unfolding RegexMatches
regex_decides text name = match_decides (read default_config (chars text)) name

-- The engine's values are those of the relations.
pub regex_found : (text name : List ℕ)
    → Decides (found_in (read default_config (chars text)) name) (HasRegexMatch text name)
regex_found text name = match_decides (read default_config (chars text)) name

pub asks_decides : (q : NameQuestion) (name : List ℕ) → Decides (asks q name) (Matches q name)
asks_decides (equal text) name = bytes_eq-Decides name text
asks_decides (contains text) name = part_decides text name
asks_decides (glob text) name = glob_takes_decides text name
asks_decides (regex text) name = regex_decides text name

-- What a matcher answers is whether the name has what is asked.
pub asks_is : (q : NameQuestion) (name : List ℕ) (b : Bool) → IsTrue b ↔ Matches q name → b ≡ asks q name
asks_is q name b h = same_from_decides b (asks q name) h (asks_decides q name)
