-- A text is cut at its first `"`.
use Rattle.std.proofs.Common.{◌≡◌, ◌≢◌, ◌==◌, ◌<◌, ℕ, suc, false, List, [], ◌∷◌, ◌++◌, Option, None, Some, option_map, length, Bor, refl, sym, ◌∙◌, ap, arith, lit<, inl, inr, get_or}
use Rattle.std.proofs.lemmas.Bool.Decides.{eqb_tells}
use Rattle.std.proofs.lemmas.Str.Pattern.{IsSplitOnceResult, split_parts}
use Rattle.platform_language.specs.Marks.{cut}

abbrev pub IsOpen : List ℕ → Type 0
IsOpen text = (i : ℕ) → i < length text → get_or text i 0 ≢ 34

other_byte : (c : ℕ) → c ≢ 34 → (c == 34) ≡ false
other_byte c other = elim (eqb_tells c 34) [ inl same ↦ absurd (other same.1) | inr it ↦ it.0 ]

further : (c : ℕ) (text : List ℕ) → IsOpen (c ∷ text) → IsOpen text
further c text free i below = free (suc i) (omega (arith, below))

pub cut_at : (before behind : List ℕ) → IsOpen before → cut (before ++ (34 ∷ behind)) ≡ Some (before, behind)
cut_at [] behind free = refl
cut_at (c ∷ before) behind free =
    rw (other_byte c (free 0 (omega arith)), cut_at before behind (further c before free)) refl

pub cut_none : (text : List ℕ) → IsOpen text → cut text ≡ None
cut_none [] free = refl
cut_none (c ∷ text) free = rw (other_byte c (free 0 (omega arith)), cut_none text (further c text free)) refl

pub cut_is : (text : List ℕ) (found : Option (Bor (List ℕ) × Bor (List ℕ))) → IsSplitOnceResult 34 text found
    → option_map (λ parts. (parts.0.now, parts.1.now)) found ≡ cut text
cut_is text None is = sym (cut_none text (split_parts 34 text None is (lit< tt)))
cut_is text (Some parts) is =
    let known = split_parts 34 text (Some parts) is (lit< tt) in
    sym (ap cut known.0 ∙ cut_at parts.0.now parts.1.now known.1)
