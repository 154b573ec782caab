-- The bytes of characters and of digits.
use Rattle.std.proofs.Common.{◌≡◌, ◌<◌, ◌≤◌, ◌+◌, ◌/◌, ◌%◌, ℕ, zero, suc, Bool, true, false, cond, eqb, ltb, List, [], ◌∷◌, ◌++◌, flat_map, refl, sym, subst, ap₂, ◌∙◌, arith}
use Rattle.std.proofs.lemmas.Bool.{and_parts}
use Rattle.std.proofs.lemmas.Bool.Decides.{nat_tests}
use Rattle.std.proofs.lemmas.Grind.{flat_map-append}
use Rattle.std.proofs.lemmas.List.{append-nil}
use Rattle.std.proofs.lemmas.Str.{encode_ascii}
use Rattle.std.specs.Char.{encode_utf8}
use Rattle.std.specs.Fmt.{digit_glyph, digits, digits_onto}
use Rattle.std.specs.List.{AllByRecursion, list_all}
use Rattle.rinqebo_laws.specs.Lines.{IsWrittenIn}
use Rattle.nextest_documents.proofs.Lists.{all_append, all_map}

-- a fact of each element of each list
pub all_each : {X A : Type 0} (P : A → Type 0) (f : X → List A) → ((x : X) → AllByRecursion P (f x)) → (xs : List X)
    → AllByRecursion P (flat_map f xs)
all_each P f h [] = tt
all_each P f h (x ∷ xs) = all_append P (f x) (flat_map f xs) (h x) (all_each P f h xs)

-- bytes that pass a test
pub passing : (test : ℕ → Bool) (bs : List ℕ) → list_all test bs ≡ true → AllByRecursion (λ b. test b ≡ true) bs
passing test [] h = tt
passing test (b ∷ bs) h =
    let both = and_parts (test b) (list_all test bs) h in
    (both.0, passing test bs both.1)

-- digits
digits_onto_all : (P : ℕ → Type 0) (base : ℕ) → ((n : ℕ) → P (digit_glyph false (n % base))) → (k n : ℕ)
    (behind : List ℕ) → AllByRecursion P behind → AllByRecursion P (digits_onto k base false n behind)
digits_onto_all P base glyph zero n behind h = h
digits_onto_all P base glyph (suc k) n behind h =
    let more : AllByRecursion P (digit_glyph false (n % base) ∷ behind) = (glyph n, h) in
    let Q : Bool → Type 0 = λ b. AllByRecursion P
    (cond b (digit_glyph false (n % base) ∷ behind)
    (digits_onto k base false (n / base) (digit_glyph false (n % base) ∷ behind))) in
    elim (eqb (n / base) 0) as Q [ true ↦ more | false ↦ digits_onto_all P base glyph k (n / base) _ more ]

pub digits_all : (P : ℕ → Type 0) (base : ℕ) → ((n : ℕ) → P (digit_glyph false (n % base))) → (n : ℕ)
    → AllByRecursion P (digits base false n)
unfolding digits
digits_all P base glyph n = digits_onto_all P base glyph 64 n [] tt

-- the bytes of a character: itself, or bytes from 128 on
pub encoded_all : (P : ℕ → Type 0) → ((b : ℕ) → 128 ≤ b → P b) → (c : ℕ) → (c < 128 → P c)
    → AllByRecursion P (encode_utf8 c)
unfolding encode_utf8
encoded_all P high c low =
    let next : (n : ℕ) → P (128 + n % 64) = λ n. high (128 + n % 64) (omega arith) in
    let Q : Bool → Bool → Bool → Type 0 =
    λ a b d. ltb c 128 ≡ a → AllByRecursion P (cond a (c ∷ [])
    (cond b ((192 + c / 64) ∷ (128 + c % 64) ∷ [])
    (cond d ((224 + c / 4096) ∷ (128 + (c / 64) % 64) ∷ (128 + c % 64) ∷ [])
    ((240 + c / 262144) ∷ (128 + (c / 4096) % 64) ∷ (128 + (c / 64) % 64) ∷ (128 + c % 64) ∷ [])))) in
    let all : (a b d : Bool) → Q a b d = λ a b d. elim a as (λ a. Q a b d) [
      | true ↦ (λ e. (low (grind (arith, nat_tests)), tt))
      | false ↦ (elim b as (λ b. Q false b d) [
        | true ↦ (λ e. (high _ (omega arith), (next c, tt)))
        | false ↦ (elim d as (λ d. Q false false d) [
          | true ↦ (λ e. (high _ (omega arith), (next (c / 64), (next c, tt))))
          | false ↦ (λ e. (high _ (omega arith), (next (c / 4096), (next (c / 64), (next c, tt)))))
        ])
      ])
    ] in
    all (ltb c 128) (ltb c 2048) (ltb c 65536) refl

-- texts that are written in characters of a kind
module _ (kind : ℕ → Type 0) where
  pub written_nil : IsWrittenIn kind []
  written_nil = record { characters = []; are = tt; spell = refl }

  pub written_append : (a b : List ℕ) → IsWrittenIn kind a → IsWrittenIn kind b → IsWrittenIn kind (a ++ b)
  written_append a b h k = record {
    characters = h.characters ++ k.characters;
    are = all_append kind h.characters k.characters h.are k.are;
    spell = ap₂ (λ x y. x ++ y) h.spell k.spell ∙ sym (flat_map-append encode_utf8 h.characters k.characters);
  }

  pub written_each : {X : Type 0} (f : X → List ℕ) → ((x : X) → IsWrittenIn kind (f x)) → (xs : List X)
      → IsWrittenIn kind (flat_map f xs)
  written_each f h [] = written_nil
  written_each f h (x ∷ xs) = written_append (f x) (flat_map f xs) (h x) (written_each f h xs)

  pub written_one : (c : ℕ) → kind c → IsWrittenIn kind (encode_utf8 c)
  written_one c h = record { characters = c ∷ []; are = (h, tt); spell = sym (append-nil (encode_utf8 c)) }

  spelled : (bs : List ℕ) → AllByRecursion (λ b. b < 128) bs → bs ≡ flat_map encode_utf8 bs
  spelled [] h = refl
  spelled (b ∷ bs) h = ap₂ (λ xs ys. xs ++ ys) (sym (encode_ascii b h.0)) (spelled bs h.1)

  -- bytes of ASCII are characters themselves
  pub written_ascii : (bs : List ℕ) → AllByRecursion (λ b. b < 128) bs → AllByRecursion kind bs → IsWrittenIn kind bs
  written_ascii bs low h = record { characters = bs; are = h; spell = spelled bs low }

  pub written_weaker : (other : ℕ → Type 0) → ((c : ℕ) → other c → kind c) → (text : List ℕ)
      → IsWrittenIn other text → IsWrittenIn kind text
  written_weaker other turn text h = record {
    characters = h.characters;
    are = all_map other kind h.characters turn h.are;
    spell = h.spell;
  }

  each_encoded : (P : ℕ → Type 0) → ((b : ℕ) → 128 ≤ b → P b) → ((c : ℕ) → kind c → P c) → (cs : List ℕ)
      → AllByRecursion kind cs → AllByRecursion P (flat_map encode_utf8 cs)
  each_encoded P high low [] h = tt
  each_encoded P high low (c ∷ cs) h =
      all_append P (encode_utf8 c) (flat_map encode_utf8 cs) (encoded_all P high c (λ small. low c h.0))
      (each_encoded P high low cs h.1)

  -- the bytes of such a text
  pub written_bytes : (P : ℕ → Type 0) → ((b : ℕ) → 128 ≤ b → P b) → ((c : ℕ) → kind c → P c) → (text : List ℕ)
      → IsWrittenIn kind text → AllByRecursion P text
  written_bytes P high low text h =
      subst (AllByRecursion P) (sym h.spell) (each_encoded P high low h.characters h.are)
