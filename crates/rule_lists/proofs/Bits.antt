use Rattle.std.proofs.Common.{◌≡◌, ℕ, ◌+◌, ◌*◌, ◌/◌, ◌%◌, ◌^◌, ◌<◌, Bool, true, false, List, [], ◌∷◌, length, map, refl, ◌∙◌, ◌&&◌, ◌||◌, ◌==◌, if◌then◌else◌, arith}
use Rattle.std.specs.Prelude.{bit_and, bit_or}
use Rattle.std.specs.List.{list_any}
use Rattle.std.proofs.lemmas.Nat.{and_block, or_block}
use Rattle.rule_lists.specs.Rows.{bits_of}

-- one flag, as a number
abbrev pub bit : Bool → ℕ
bit b = if b then 1 else 0

pub bit-lt : (b : Bool) → bit b < 2 ^ 1
bit-lt true = omega arith
bit-lt false = omega arith

-- the lowest flag, and the others
pub halved : (n : ℕ) (b : Bool) → ((n * 2 + bit b) / 2 ≡ n) × ((n * 2 + bit b) % 2 == 1 ≡ b)
halved n true = (omega arith, grind arith)
halved n false = (omega arith, grind arith)

pub bits-lt : (bs : List Bool) → bits_of bs < 2 ^ length bs
bits-lt [] = omega arith
bits-lt (b ∷ bs) = let h = bits-lt bs in let k = bit-lt b in grind arith

and-bit : (a b : Bool) → bit_and (bit a) (bit b) ≡ bit (a && b)
and-bit true true = refl
and-bit true false = refl
and-bit false true = refl
and-bit false false = refl

or-bit : (a b : Bool) → bit_or (bit a) (bit b) ≡ bit (a || b)
or-bit true true = refl
or-bit true false = refl
or-bit false true = refl
or-bit false false = refl

-- flags of several lists
module _ {T : Type 0} where
  pub bits-and : (f g : T → Bool) (ts : List T)
      → bit_and (bits_of (map f ts)) (bits_of (map g ts)) ≡ bits_of (map (λ t. f t && g t) ts)
  bits-and f g [] = refl
  bits-and f g (t ∷ ts) =
      and_block 1 (bits_of (map f ts)) (bits_of (map g ts)) (bit (f t)) (bit (g t)) (bit-lt (f t))
      (bit-lt (g t)) ∙ rw (bits-and f g ts, and-bit (f t) (g t)) refl

  pub bits-or : (f g : T → Bool) (ts : List T)
      → bit_or (bits_of (map f ts)) (bits_of (map g ts)) ≡ bits_of (map (λ t. f t || g t) ts)
  bits-or f g [] = refl
  bits-or f g (t ∷ ts) =
      or_block 1 (bits_of (map f ts)) (bits_of (map g ts)) (bit (f t)) (bit (g t)) (bit-lt (f t))
      (bit-lt (g t)) ∙ rw (bits-or f g ts, or-bit (f t) (g t)) refl

  -- no flag is set
  pub zero-none : (f : T → Bool) (ts : List T) → bits_of (map f ts) ≡ 0 → list_any f ts ≡ false
  zero-none f [] e = refl
  zero-none f (t ∷ ts) e = go (f t) refl (zero-none f ts) where
    go : (b : Bool) → f t ≡ b → (bits_of (map f ts) ≡ 0 → list_any f ts ≡ false) → f t || list_any f ts ≡ false
    go true is more = let one : bits_of (map f ts) * 2 + 1 ≡ 0 = rw is at e in absurd (omega (arith, one))
    go false is more =
        let none : bits_of (map f ts) * 2 + 0 ≡ 0 = rw is at e in
        rw (is, more (omega (arith, none))) refl

  pub none-zero : (f : T → Bool) (ts : List T) → list_any f ts ≡ false → bits_of (map f ts) ≡ 0
  none-zero f [] e = refl
  none-zero f (t ∷ ts) e = go (f t) refl e (none-zero f ts) where
    go : (b : Bool) → f t ≡ b → b || list_any f ts ≡ false → (list_any f ts ≡ false → bits_of (map f ts) ≡ 0)
        → bits_of (map f ts) * 2 + bit (f t) ≡ 0
    go true is h more = absurd cc
    go false is h more = rw (is, more h) refl
