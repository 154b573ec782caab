-- A text without what it ends with.
use Rattle.std.proofs.Common.{◌≡◌, ◌-◌, ℕ, Bool, true, false, List, Option, None, Some, MatchOption, Bor, length, take, refl, sym, ◌∙◌, ap}
use Rattle.std.specs.Prelude.{nat_eq, unwrap_or, if◌then◌else◌}
use Rattle.std.specs.List.{ends_with}
use Rattle.std.specs.Str.Pattern.{FindsTextSuffix, StripsSuffix}
use Rattle.std.proofs.lemmas.Bool.Decides.{Decides-eqb}
use Rattle.std.proofs.lemmas.Slice.Eq.{ends_is}
use Rattle.std.proofs.lemmas.Str.Pattern.{ends_text}

-- one of two texts, by a test
picked : (b : Bool) (one other : List ℕ) → b ≡ true → one ≡ (if b then one else other)
picked true one other e = refl
picked false one other e = absurd (cc)

left : (b : Bool) (one other : List ℕ) → b ≡ false → other ≡ (if b then one else other)
left true one other e = absurd (cc)
left false one other e = refl

-- the text without the end, or the text
pub without_is : (end text : List ℕ) (found : Option (Bor (List ℕ))) (d : Bor (List ℕ)) → d.now ≡ text
    → MatchOption found (FindsTextSuffix end text None) (λ x. StripsSuffix (FindsTextSuffix end) text x.now)
    → (unwrap_or found d).now
    ≡ (if ends_with nat_eq text end then take (length text - length end) text else text)
without_is end text None d whole none =
    whole ∙ left (ends_with nat_eq text end) (take (length text - length end) text) text
    (sym (ends_text false end text none))
without_is end text (Some x) d whole (n, fits, is, long) =
    let test : ends_with nat_eq text end ≡ true =
    (ends_is Decides-eqb text end (ends_with nat_eq text end) refl).1 _ fits.1 in
    is ∙ ap (λ k. take (length text - k) text) fits.0
    ∙ picked (ends_with nat_eq text end) (take (length text - length end) text) text test
