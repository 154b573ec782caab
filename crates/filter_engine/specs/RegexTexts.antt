-- Regular expressions as texts write them, and the names in which they have a match.
use Rattle.std.specs.Prelude.{◌≡◌, ℕ, ◌≤◌, ◌<◌, true, List, All, IsSomeAnd, IsSome, chars, ◌↔◌}
use Rattle.regex_hir.specs.Find.{find}
use Rattle.regex_syntax.specs.Grammar.{read}
use Rattle.regex_syntax.specs.Verdict.{default_config}
use Rattle.regex_nfa.specs.declared.nfa.Nfa.{Nfa}
use Rattle.filter_engine.specs.Runs.{finds}

-- The text writes a regular expression that nests at most 250 deep.
unfoldable pub IsRegex : List ℕ → Type 0
IsRegex text = IsSomeAnd (read default_config (chars text))
    (λ (written, names). written.depth ≤ 250)

-- The text writes a regular expression that has a match somewhere in the name.
unfoldable pub RegexMatches : List ℕ → List ℕ → Type 0
RegexMatches text name =
    IsSomeAnd (read default_config (chars text))
    (λ (written, names). IsSome (find written.value name 0))

-- The automaton finds a match just in the names in which the regular expression has one.
abbrev pub IsRegexMachine : List ℕ → Nfa → Type 0
IsRegexMachine text nfa =
    (name : List ℕ) → All (λ byte. byte < 256) name
    → (finds nfa name ≡ true) ↔ RegexMatches text name
