-- Regular expressions and their automata.
use Rattle.std.proofs.Common.{◌≡◌, ℕ, ◌<◌, ◌≤◌, ◌↔◌, true, List, Option, Some, None, is_some, refl, sym, ap, ◌∙◌, ⊎_elim, get_or, length, arith, Fits, w8}
use Rattle.std.specs.Prelude.{All, IfSome, IsSomeAnd, IsSome, option_map, chars}
use Rattle.std.proofs.lemmas.List.Elements.{All-from_get_or}
use Rattle.regex_hir.specs.Re.{Re}
use Rattle.regex_hir.specs.Find.{find}
use Rattle.regex_hir.specs.Meaning.{meaning}
use Rattle.regex_hir.specs.declared.hir.Hir.{Hir}
use Rattle.regex_nfa.specs.declared.nfa.Nfa.{Nfa}
use Rattle.regex_syntax.specs.Brackets.{Nested}
use Rattle.regex_syntax.specs.Captures.{SameCaptures}
use Rattle.regex_syntax.specs.Grammar.{Names, group_count, read}
use Rattle.regex_syntax.specs.Verdict.{default_config, Reads, Refuses}
use Rattle.regex_syntax.specs.declared.error.ErrorKind.{ErrorKind}
use Rattle.regex_syntax.specs.declared.error.ErrorKind.TheVariants.{OutOfMemory}
use Rattle.regex_syntax.proofs.CapturesLemmas.{spans, find_alike}
use Rattle.filter_engine.specs.Runs.{finds}
use Rattle.filter_engine.specs.RegexTexts.{IsRegex, RegexMatches, IsRegexMachine}

-- A mapped value is there just where the value is.
mapped_there : {A B : Type 0} (f : A → B) (o : Option A) → is_some (option_map f o) ≡ is_some o
mapped_there f None = refl
mapped_there f (Some x) = refl

-- Two patterns that a caller can't tell apart are found together.
found_alike : (a b : Re) → SameCaptures a b → (name : List ℕ) → All (λ x. x < 256) name
    → is_some (find a name 0) ≡ is_some (find b name 0)
found_alike a b same name bytes =
    sym (mapped_there spans (find a name 0)) ∙ ap is_some (find_alike a b same name bytes 0)
    ∙ mapped_there spans (find b name 0)

-- What the parser says of what it read.
abbrev IsParsed : Hir → Names → Nested Re → Names → Type 0
IsParsed hir names re found =
    (re.depth ≤ default_config.nest_limit) × SameCaptures (meaning hir) re.value × (names ≡ found)
    × (group_count (meaning hir) ≤ length names)

parsed_within : (hir : Hir) (names : Names) (found : Option (Nested Re × Names))
    → IsSomeAnd found (λ (re, other). IsParsed hir names re other)
    → IsSomeAnd found (λ (re, other). re.depth ≤ 250)
parsed_within hir names None is = is
parsed_within hir names (Some p) is = is.0

-- A text that is read writes a regular expression.
pub is_read : (text : List ℕ) (hir : Hir) (names : Names) → Reads default_config text hir names → IsRegex text
unfolding Reads IsRegex
is_read text hir names reads = parsed_within hir names (read default_config (chars text)) reads

parsed_found : (hir : Hir) (names : Names) (name : List ℕ) → All (λ x. x < 256) name
    → (found : Option (Nested Re × Names))
    → IsSomeAnd found (λ (re, other). IsParsed hir names re other)
    → (is_some (find (meaning hir) name 0) ≡ true) ↔ IsSomeAnd found (λ (re, other). IsSome (find re.value name 0))
parsed_found hir names name bytes None is = absurd is
parsed_found hir names name bytes (Some p) is =
    let same = found_alike (meaning hir) p.0.value is.1 name bytes in
    (λ found. sym same ∙ found, λ found. same ∙ found)

-- The automaton of what was read.
pub machine_read : (text : List ℕ) (hir : Hir) (names : Names) (nfa : Nfa) → Reads default_config text hir names
    → ((name : List ℕ) → finds nfa name ≡ is_some (find (meaning hir) name 0)) → IsRegexMachine text nfa
unfolding Reads RegexMatches
machine_read text hir names nfa reads finds_it name bytes =
    rw (finds_it name) (parsed_found hir names name bytes (read default_config (chars text)) reads)

too_deep : (found : Option (Nested Re × Names)) → IfSome found (λ (re, other). default_config.nest_limit < re.depth)
    → IsSomeAnd found (λ (re, other). re.depth ≤ 250) → ⊥
too_deep None deep is = is
too_deep (Some p) deep is = omega arith

-- A text that is refused for another reason than memory writes none.
pub not_read : (text : List ℕ) (kind : ErrorKind) → Refuses default_config text kind
    → (kind ≡ OutOfMemory → ⊥) → IsRegex text → ⊥
unfolding Refuses IsRegex
not_read text kind refuses other is =
    ⊎_elim
    (λ memory. other memory)
    (λ unread.
    ⊎_elim
    (λ (none : read default_config (chars text) ≡ None). rw none at is)
    (λ deep. too_deep (read default_config (chars text)) deep.1 is)
    unread)
    refuses

-- The bytes of a name are bytes.
pub are_bytes : (name : List ℕ) → ((i : ℕ) → Fits w8 (get_or name i 0)) → All (λ byte. byte < 256) name
are_bytes name small = All-from_get_or (λ byte. byte < 256) name 0 (λ i _. omega (arith, small i))
