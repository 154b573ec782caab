-- The first character of a text.
use Rattle.std.proofs.Common.{◌≡◌, ◌-◌, ℕ, List, ◌++◌, Option, None, Some, Bor, take, sym, ◌∙◌, ap, subst, arith, zero-add}
use Rattle.std.specs.Prelude.{chars, unwrap_or, slice_range}
use Rattle.std.specs.Char.{encode_utf8, len_utf8}
use Rattle.std.specs.Str.{IsUtf8, IsCharBoundary}
use Rattle.std.specs.Str.Iter.{chars_rest, chars_steps}
use Rattle.std.specs.Str.Pattern.{GetsRange}
use Rattle.std.specs.declared.str.Chars.{Chars}
use Rattle.std.proofs.Math.Seq.{take-append_seam}
use Rattle.std.proofs.lemmas.Str.{chars_past_char, length-encode, IsCharBoundary-past_char, IsCharBoundary-start}
use Rattle.rinqebo_faults.specs.Worded.{first_text}

cut : (c : ℕ) (rest : List ℕ) → slice_range (encode_utf8 c ++ rest) 0 (len_utf8 c) ≡ encode_utf8 c
cut c rest =
    let all : len_utf8 c - 0 ≡ len_utf8 c = omega arith in
    ap (λ n. take n (encode_utf8 c ++ rest)) (all ∙ sym (length-encode c)) ∙ take-append_seam (encode_utf8 c) rest

boundary : (text rest : List ℕ) (c : ℕ) → IsUtf8 text → text ≡ encode_utf8 c ++ rest → IsCharBoundary text (len_utf8 c)
boundary text rest c utf8 is =
    subst (IsCharBoundary text) (zero-add (len_utf8 c)) (IsCharBoundary-past_char text rest 0 c (omega arith) utf8 is)

-- what is read up to its end is the character that the text begins with
pub first_is : (text : List ℕ) (s t : Chars) (c n : ℕ) (found : Option (Bor (List ℕ))) (d : Bor (List ℕ))
    → IsUtf8 text → chars_rest s ≡ text → chars_steps s (Some c) t → n ≡ len_utf8 c
    → GetsRange text 0 n found → (unwrap_or found d).now ≡ first_text (chars text)
first_is text s t c n None d utf8 is steps same none =
    let begins : text ≡ encode_utf8 c ++ chars_rest t = sym is ∙ steps.0 in
    absurd (none (omega arith) (IsCharBoundary-start text utf8)
    (subst (IsCharBoundary text) (sym same) (boundary text (chars_rest t) c utf8 begins)))
first_is text s t c n (Some x) d utf8 is steps same h =
    let begins : text ≡ encode_utf8 c ++ chars_rest t = sym is ∙ steps.0 in
    h.0 ∙ ap (λ k. slice_range text 0 k) same
    ∙ ap (λ bs. slice_range bs 0 (len_utf8 c)) begins ∙ cut c (chars_rest t)
    ∙ sym (ap first_text (chars_past_char text (chars_rest t) c utf8 begins))
