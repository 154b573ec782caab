-- Texts that are shown as they are.
use Rattle.std.proofs.Common.{◌≡◌, ◌<◌, ◌≤◌, ◌++◌, ◌∷◌, [], ◌∙◌, ℕ, zero, suc, List, true, false, codes, flat_map, get_or, replicate, take, ap, ap₂, refl, sym, arith}
use Rattle.std.proofs.lemmas.Bool.{and_parts}
use Rattle.std.proofs.lemmas.Bool.Decides.{nat_tests}
use Rattle.std.proofs.lemmas.List.{take-replicate}
use Rattle.std.proofs.lemmas.Str.{chars-IsAscii, encode_ascii}
use Rattle.std.specs.Char.{is_control}
use Rattle.std.specs.List.{list_all}
use Rattle.std.specs.Str.{chars, IsAscii}
use Rattle.rinqebo_report.specs.Pieces.{is_printable_byte, shown_char, shown_text}

small : (b : ℕ) → is_printable_byte b ≡ true → b < 128
small b h = grind (arith, nat_tests)

-- a printable character is shown as it is
one_as_is : (b : ℕ) → is_printable_byte b ≡ true → b ∷ [] ≡ shown_char b
one_as_is b h =
    let plain : is_control b ≡ false = grind (arith, nat_tests) in
    rw plain (sym (encode_ascii b (small b h)))

each_as_is : (bs : List ℕ) → list_all is_printable_byte bs ≡ true → bs ≡ flat_map shown_char bs
each_as_is [] h = refl
each_as_is (b ∷ bs) h =
    let parts = and_parts (is_printable_byte b) (list_all is_printable_byte bs) h in
    ap₂ (λ xs ys. xs ++ ys) (one_as_is b parts.0) (each_as_is bs parts.1)

are_ascii : (bs : List ℕ) → list_all is_printable_byte bs ≡ true → (i : ℕ) → get_or bs i 0 < 128
are_ascii [] h zero = omega arith
are_ascii [] h (suc i) = omega arith
are_ascii (b ∷ bs) h zero = small b (and_parts (is_printable_byte b) (list_all is_printable_byte bs) h).0
are_ascii (b ∷ bs) h (suc i) =
    are_ascii bs (and_parts (is_printable_byte b) (list_all is_printable_byte bs) h).1 i

-- a text of printable characters is shown as it is
pub shown_as_is : (text : List ℕ) → list_all is_printable_byte text ≡ true → text ≡ shown_text text
shown_as_is text h =
    each_as_is text h ∙ ap (flat_map shown_char) (sym (chars-IsAscii text (are_ascii text h)))

blanks_shown : (n : ℕ) → replicate n 32 ≡ flat_map shown_char (replicate n 32)
blanks_shown zero = refl
blanks_shown (suc n) = ap₂ (λ xs ys. xs ++ ys) (one_as_is 32 refl) (blanks_shown n)

-- the first blanks of a text of blanks are shown as so many blanks
pub blanks_are : (n : ℕ) → n ≤ 64
    → take n (codes "                                                                ")
    ≡ flat_map shown_char (replicate n 32)
blanks_are n below = take-replicate n 64 32 below ∙ blanks_shown n
