-- What texts say: triples, and bodies of expressions between `cfg(` and `)`.
use Rattle.std.specs.Prelude.{◌≡◌, ℕ, ◌+◌, ◌<◌, ◌≤◌, ◌==◌, ◌||◌, Bool, true, not, List, [], ◌∷◌, ◌++◌, Option, None, Some, Result, Ok, Err, length, codes, option_map, position, if◌then◌else◌}
use Rattle.std.specs.List.{list_all}
use Rattle.std.specs.Char.{is_ascii_alphanumeric}
use Rattle.std.specs.Result.{result_map_both}
use Rattle.platform_language.specs.declared.fault.FaultKind.{FaultKind}
use Rattle.platform_language.specs.declared.fault.FaultKind.TheVariants.{EmptyText, BadTripleCharacter, Unexpected}
use Rattle.platform_language.specs.declared.fault.Expected.{Expected}
use Rattle.platform_language.specs.declared.fault.Expected.TheVariants.{BehindKey}
use Rattle.platform_language.specs.declared.fault.TargetSpecFault.{TargetSpecFault}
use Rattle.platform_language.specs.declared.spec.TargetSpecError.{TargetSpecError}
use Rattle.platform_language.specs.declared.spec.TargetSpecError.TheVariants.{Refused, Memory}
use Rattle.platform_language.specs.Expressions.{Spec, OfTriple, OfExpression}
use Rattle.platform_language.specs.Faults.{in_text}
use Rattle.platform_language.specs.Grammar.{IsBody}
use Rattle.platform_language.specs.Reading.{read_body}

-- whether a byte may be in a triple: a letter or a digit of ASCII, `_`, `-` or `.`
abbrev pub is_triple_byte : ℕ → Bool
is_triple_byte c = is_ascii_alphanumeric c || ((c == 95) || ((c == 45) || (c == 46)))

-- ---- the grammar

-- A text writes a triple, of one byte or more, or an expression behind `cfg(` and before `)`.
abbrev pub IsSpec : List ℕ → Spec → Type 0
IsSpec text (OfTriple triple) =
    (text ≡ triple) × (0 < length triple) × (list_all is_triple_byte triple ≡ true)
IsSpec text (OfExpression e) =
    (body : List ℕ) × (text ≡ codes "cfg(" ++ (body ++ codes ")")) × IsBody body e

-- ---- reading

-- a fault that lies in a text, where something else may be
abbrev pub text_fault : FaultKind → ℕ → ℕ → Option Expected → TargetSpecFault
text_fault kind start end expected =
    record { kind = kind; span = record { start = start; end = end }; expected = expected }

-- what follows a prefix of a text, or none where the text does not begin with it
abbrev pub after_prefix : List ℕ → List ℕ → Option (List ℕ)
after_prefix [] text = Some text
after_prefix (c ∷ prefix) [] = None
after_prefix (c ∷ prefix) (d ∷ text) = if c == d then after_prefix prefix text else None

-- what is before the `)` that ends a text, or none where the text does not end so
abbrev pub before_close : List ℕ → Option (List ℕ)
before_close [] = None
before_close (c ∷ []) = if c == 41 then Some [] else None
before_close (c ∷ d ∷ rest) = option_map (λ front. c ∷ front) (before_close (d ∷ rest))

-- where the first byte is that no triple has, if any
abbrev pub first_bad : List ℕ → Option ℕ
first_bad text = position (λ c. not (is_triple_byte c)) text

-- a text as a triple, or the fault of its first byte that no triple has
abbrev pub triple_but : List ℕ → Option ℕ → Result Spec TargetSpecFault
triple_but text None = Ok (OfTriple text)
triple_but text (Some at) = Err (text_fault BadTripleCharacter at (at + 1) None)

-- the triple that a text is, or the fault
abbrev pub triple_in : List ℕ → Result Spec TargetSpecFault
triple_in text =
    if length text == 0 then Err (text_fault EmptyText 0 0 None)
    else triple_but text (first_bad text)

-- the expression that a body in a text is, or the fault. Where `)` does not end the text, `cfg` is
-- read as a name that `(` may not follow.
abbrev pub expression_in : List ℕ → Option (List ℕ) → Result Spec TargetSpecFault
expression_in text None = Err (text_fault Unexpected 3 4 (Some BehindKey))
expression_in text (Some body) =
    result_map_both OfExpression (in_text (length text)) (read_body body)

-- what a text says whose part behind `cfg(` is given, if it begins so
abbrev pub spec_behind : List ℕ → Option (List ℕ) → Result Spec TargetSpecFault
spec_behind text None = triple_in text
spec_behind text (Some inside) = expression_in text (before_close inside)

-- the spec that a text is, or the first fault
abbrev pub spec_in : List ℕ → Result Spec TargetSpecFault
spec_in text = spec_behind text (after_prefix (codes "cfg(") text)

-- The span of a fault lies in a text.
abbrev pub LiesIn : List ℕ → TargetSpecFault → Type 0
LiesIn text fault = (fault.span.start ≤ fault.span.end) × (fault.span.end ≤ length text)

-- Where a text is refused, something holds of the fault.
abbrev pub IfRefused : TargetSpecError → (TargetSpecFault → Type 0) → Type 0
IfRefused (Refused fault) P = P fault
IfRefused Memory P = Unit {0}
