-- Reading a body, as its loop sees it.
use Rattle.std.proofs.Common.{◌≡◌, ◌-◌, ◌<◌, ℕ, zero, suc, List, [], ◌∷◌, Result, Ok, Err, length, refl, ◌∙◌, ap, arith}
use Rattle.platform_language.specs.declared.fault.BodyFault.{BodyFault}
use Rattle.platform_language.specs.Expressions.{Expression}
use Rattle.platform_language.specs.declared.fault.Stop.{Stop}
use Rattle.platform_language.specs.declared.fault.Stop.TheVariants.{Fault, Memory}
use Rattle.platform_language.specs.Faults.{and_then, IfFault}
use Rattle.platform_language.specs.Reading.{Reading, finished, advanced, read_on}

abbrev Onward : Type 0
Onward = Result (Reading × List ℕ) BodyFault

abbrev onward : Reading → List ℕ → Onward
onward next rest = Ok (next, rest)

abbrev stopped : BodyFault → Onward
stopped fault = Err fault

abbrev goes_on : ℕ → ℕ → Onward → Result Expression BodyFault
goes_on len n found = and_then (λ next. read_on len n next.0 next.1) found

one_more : (len n : ℕ) (r : Reading) (text : List ℕ) → 0 < n → 0 < length text
    → read_on len n r text ≡ goes_on len (n - 1) (advanced r text)
one_more len zero r text some more = absurd (omega (arith, some))
one_more len (suc n) r [] some more = absurd (omega (arith, more))
one_more len (suc n) r (c ∷ text) some more = ap (λ k. goes_on len k (advanced r (c ∷ text))) (omega arith)

pub at_next : (len n : ℕ) (r : Reading) (text : List ℕ) (next : Reading) (rest : List ℕ) → 0 < n → 0 < length text
    → advanced r text ≡ Ok (next, rest) → read_on len n r text ≡ read_on len (n - 1) next rest
at_next len n r text next rest some more is = one_more len n r text some more ∙ ap (goes_on len (n - 1)) is

pub at_fault : (len n : ℕ) (r : Reading) (text : List ℕ) (fault : BodyFault) → 0 < n → 0 < length text
    → advanced r text ≡ Err fault → read_on len n r text ≡ Err fault
at_fault len n r text fault some more is = one_more len n r text some more ∙ ap (goes_on len (n - 1)) is

pub at_zero : (len n : ℕ) (r : Reading) (text : List ℕ) → n ≡ 0 → read_on len n r text ≡ finished len r
at_zero len zero r text is = refl
at_zero len (suc n) r text is = absurd (omega (arith, is))

pub at_end : (len n : ℕ) (r : Reading) (text : List ℕ) → length text ≡ 0 → read_on len n r text ≡ finished len r
at_end len zero r text is = refl
at_end len (suc n) r [] is = refl
at_end len (suc n) r (c ∷ text) is = absurd (omega (arith, is))

-- The fault at which reading stops is that of the body.
pub loop_fault : (whole : Result Expression BodyFault) (len n : ℕ) (r : Reading) (text : List ℕ) (stop : Stop)
    → 0 < n → 0 < length text
    → whole ≡ read_on len n r text → IfFault stop (λ fault. advanced r text ≡ Err fault)
    → IfFault stop (λ fault. whole ≡ Err fault)
loop_fault whole len n r text Memory some more is err = tt
loop_fault whole len n r text (Fault fault) some more is err = is ∙ at_fault len n r text fault some more err
