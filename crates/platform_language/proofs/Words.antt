-- Words, and what follows them.
use Rattle.std.proofs.Common.{◌≡◌, ℕ, suc, ◌+◌, ◌<◌, ◌≤◌, ltb, Bool, true, false, not, cond, ◌&&◌, List, [], ◌∷◌, ◌++◌, None, Some, length, take, drop, position, unwrap_or, refl, sym, ◌∙◌, ap, subst, arith}
use Rattle.std.specs.List.{list_all, position_or_len}
use Rattle.std.specs.Str.{IsUtf8, IsCharBoundary}
use Rattle.std.proofs.lemmas.Bool.{ltb-false}
use Rattle.std.proofs.lemmas.Bool.Decides.{nat_tests}
use Rattle.std.proofs.lemmas.List.Sums.{prefix_len-le-length}
use Rattle.std.proofs.lemmas.Str.{IsUtf8-drop, IsCharBoundary-after_ascii, IsCharBoundary-from_drop}
use Rattle.platform_language.specs.Marks.{is_word_byte, word_len, EndsWord}

-- In any alphabet.

abbrev len : (ℕ → Bool) → List ℕ → ℕ
len p text = position_or_len (λ c. not (p c)) text

abbrev Stops : (ℕ → Bool) → List ℕ → Type 0
Stops p [] = Unit {0}
Stops p (c ∷ rest) = p c ≡ false

one_more : (n : ℕ) → 1 + n ≡ suc n
one_more n = omega arith

len_true : (p : ℕ → Bool) (c : ℕ) (text : List ℕ) → p c ≡ true → len p (c ∷ text) ≡ suc (len p text)
len_true p c text is = rw is (one_more (len p text))

len_false : (p : ℕ → Bool) (c : ℕ) (text : List ℕ) → p c ≡ false → len p (c ∷ text) ≡ 0
len_false p c text is = rw is refl

both : (a b : Bool) → a ≡ true → b ≡ true → (a && b) ≡ true
both a b x y = rw (x, y) refl

first : (a b : Bool) → (a && b) ≡ true → a ≡ true
first true b e = refl
first false b e = e

second : (a b : Bool) → (a && b) ≡ true → b ≡ true
second true b e = e
second false b e = absurd (cc)

-- What a text begins with, and what it goes on with.
abbrev Parted : (ℕ → Bool) → ℕ → List ℕ → Type 0
Parted p n text = (list_all p (take n text) ≡ true) × Stops p (drop n text)

by_first : (p : ℕ → Bool) (c : ℕ) (text : List ℕ) (b : Bool) → p c ≡ b → Parted p (len p text) text
    → Parted p (len p (c ∷ text)) (c ∷ text)
by_first p c text true is known =
    subst (λ n. Parted p n (c ∷ text)) (sym (len_true p c text is)) (both _ _ is known.0, known.1)
by_first p c text false is known = subst (λ n. Parted p n (c ∷ text)) (sym (len_false p c text is)) (refl, is)

parted : (p : ℕ → Bool) (text : List ℕ) → Parted p (len p text) text
parted p [] = (refl, tt)
parted p (c ∷ text) = by_first p c text (p c) refl (parted p text)

own_len : (p : ℕ → Bool) (word rest : List ℕ) → list_all p word ≡ true → Stops p rest
    → len p (word ++ rest) ≡ length word
own_len p [] [] all stops = refl
own_len p [] (c ∷ rest) all stops = len_false p c rest stops
own_len p (c ∷ word) rest all stops =
    len_true p c (word ++ rest) (first (p c) (list_all p word) all)
    ∙ ap suc (own_len p word rest (second (p c) (list_all p word) all) stops)

pub take_own : (word rest : List ℕ) → take (length word) (word ++ rest) ≡ word
take_own [] rest = refl
take_own (c ∷ word) rest = ap (λ l. c ∷ l) (take_own word rest)

pub drop_own : (word rest : List ℕ) → drop (length word) (word ++ rest) ≡ rest
drop_own [] rest = refl
drop_own (c ∷ word) rest = drop_own word rest

-- In the alphabet of words.

pub word_is : (text : List ℕ) → list_all is_word_byte (take (word_len text) text) ≡ true
word_is text = (parted is_word_byte text).0

ends : (rest : List ℕ) → Stops is_word_byte rest → EndsWord rest
ends [] stops = stops
ends (c ∷ rest) stops = stops

stops : (rest : List ℕ) → EndsWord rest → Stops is_word_byte rest
stops [] it = it
stops (c ∷ rest) it = it

pub word_stops : (text : List ℕ) → EndsWord (drop (word_len text) text)
word_stops text = ends (drop (word_len text) text) (parted is_word_byte text).1

pub own_word_len : (word rest : List ℕ) → list_all is_word_byte word ≡ true → EndsWord rest
    → word_len (word ++ rest) ≡ length word
own_word_len word rest all it = own_len is_word_byte word rest all (stops rest it)

pub longer : (c : ℕ) (text : List ℕ) → is_word_byte c ≡ true → word_len (c ∷ text) ≡ suc (word_len text)
longer c text is = len_true is_word_byte c text is

-- Words in texts.

pub word_ascii : (c : ℕ) → is_word_byte c ≡ true → c < 128
word_ascii c is = grind (arith, nat_tests)

-- Behind a byte of ASCII a text goes on.
pub byte_off : (c : ℕ) (text : List ℕ) → c < 128 → IsUtf8 (c ∷ text) → IsUtf8 text
byte_off c text small utf8 =
    IsUtf8-drop (c ∷ text) 1 utf8 (IsCharBoundary-after_ascii (c ∷ text) 0 utf8 (omega arith) small)

rest_by : (p : ℕ → Bool) → ((c : ℕ) → p c ≡ true → c < 128) → (c : ℕ) (text : List ℕ) (b : Bool) → p c ≡ b
    → (IsUtf8 text → IsUtf8 (drop (len p text) text)) → IsUtf8 (c ∷ text) → IsUtf8 (drop (len p (c ∷ text)) (c ∷ text))
rest_by p ascii c text true is known utf8 =
    subst (λ n. IsUtf8 (drop n (c ∷ text))) (sym (len_true p c text is)) (known (byte_off c text (ascii c is) utf8))
rest_by p ascii c text false is known utf8 = subst (λ n. IsUtf8 (drop n (c ∷ text))) (sym (len_false p c text is)) utf8

rest_of : (p : ℕ → Bool) → ((c : ℕ) → p c ≡ true → c < 128) → (text : List ℕ) → IsUtf8 text
    → IsUtf8 (drop (len p text) text)
rest_of p ascii [] utf8 = utf8
rest_of p ascii (c ∷ text) utf8 = rest_by p ascii c text (p c) refl (rest_of p ascii text) utf8

-- A text may be cut behind its word.
pub cut_at_word : (text : List ℕ) → IsUtf8 text → IsCharBoundary text (word_len text)
cut_at_word text utf8 =
    IsCharBoundary-from_drop text (word_len text)
    (prefix_len-le-length (λ x. not (not (is_word_byte x))) text) (rest_of is_word_byte word_ascii text utf8)

at_most : (n l : ℕ) (b : Bool) → ltb n l ≡ b → n ≤ l → unwrap_or (cond b (Some n) None) l ≡ n
at_most n l true is below = refl
at_most n l false is below = let other : l ≤ n = ltb-false n l is in omega (arith, other, below)

pub word_ends : (text : List ℕ) → unwrap_or (position (λ c. not (is_word_byte c)) text) (length text) ≡ word_len text
word_ends text = at_most (word_len text) (length text) (ltb (word_len text) (length text)) refl
    (prefix_len-le-length (λ x. not (not (is_word_byte x))) text)
