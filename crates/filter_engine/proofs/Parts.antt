-- Texts that are in names.
use Rattle.std.proofs.Common.{◌≡◌, ℕ, ◌+◌, ◌-◌, ◌<◌, ◌≤◌, ◌↔◌, ⊎_elim, List, [], ◌∷◌, ◌++◌, Some, None, length, take, drop, get_or, refl, sym, ap, ◌∙◌, arith, length-append, length-drop, get_or-take, get_or-drop, eq-eqb}
use Rattle.std.proofs.lemmas.Bool.{cases_lt}
use Rattle.std.proofs.lemmas.List.{get_or_append_left, get_or-append-add, ext_get_or, take-append-drop, length-take-le}
use Rattle.std.specs.Str.Iter.{HasSubslice}
use Rattle.memchr.specs.Find.{OccursAt, IsFirstByte, is_byte, Passes}

module _ (name text : List ℕ) where
  -- A part stands somewhere.
  pub part_stands : HasSubslice name text → (k : ℕ) × OccursAt name text k
  part_stands (front, rest, is) = (
    length front,
    record {
      fits = omega (arith, ap length is, length-append front (text ++ rest), length-append text rest);
      reads = λ j below.
          ap (λ l. get_or l (length front + j) 0) is ∙ get_or-append-add front (text ++ rest) j 0
          ∙ get_or_append_left text rest 0 j below;
    },
  )

  -- What is at a place is what the name has there.
  stands_there : (k : ℕ) → OccursAt name text k → take (length text) (drop k name) ≡ text
  stands_there k occurs =
      let fits = occurs.fits in
      let len : length (take (length text) (drop k name)) ≡ length text =
      length-take-le (length text) (drop k name) (omega (arith, length-drop k name)) in
      ext_get_or 0 (take (length text) (drop k name)) text len
      (λ j below.
      let inside : j < length text = omega arith in
      get_or-take (length text) (drop k name) j 0 inside ∙ get_or-drop k name j 0 ∙ occurs.reads j inside)

  -- What stands somewhere is a part.
  pub standing_part : (k : ℕ) → OccursAt name text k → HasSubslice name text
  standing_part k occurs = (
    take k name,
    drop (length text) (drop k name),
    sym (take-append-drop k name)
        ∙ ap (λ l. take k name ++ l)
        (sym (take-append-drop (length text) (drop k name))
        ∙ ap (λ l. l ++ drop (length text) (drop k name)) (stands_there k occurs)),
  )

  -- The text is at no place below this one.
  abbrev pub NoneBelow : ℕ → Type 0
  NoneBelow start = (k : ℕ) → k < start → OccursAt name text k → ⊥

  -- Where the byte at an index of the text stands no more, the text stands no more.
  byte_there : (index k : ℕ) → index < length text → OccursAt name text k → (start : ℕ) → start ≤ k
      → Passes (is_byte (get_or text index 0)) (drop (start + index) name) (k - start)
  byte_there index k below occurs start from =
      eq-eqb (get_or (drop (start + index) name) (k - start) 0) (get_or text index 0)
      (get_or-drop (start + index) name (k - start) 0 ∙ ap (λ n. get_or name n 0) (omega arith)
      ∙ occurs.reads index below)

  -- The byte stands nowhere further on.
  pub none_left : (index start : ℕ) → index < length text → NoneBelow start
      → IsFirstByte (is_byte (get_or text index 0)) (drop (start + index) name) None → HasSubslice name text → ⊥
  none_left index start below before none part =
      let (k, occurs) = part_stands part in
      ⊎_elim
      (λ (early : k < start). before k early occurs)
      (λ (from : start ≤ k).
      let fits = occurs.fits in
      none (k - start) (omega arith) (omega (arith, length-drop (start + index) name))
      (byte_there index k below occurs start from))
      (cases_lt k start)

  -- The byte is next so far ahead.
  pub none_until : (index start ahead : ℕ) → index < length text → NoneBelow start
      → IsFirstByte (is_byte (get_or text index 0)) (drop (start + index) name) (Some ahead)
      → NoneBelow (start + ahead)
  none_until index start ahead below before found k h occurs =
      ⊎_elim
      (λ (early : k < start). before k early occurs)
      (λ (from : start ≤ k).
      found.0.before (k - start) (omega arith) (omega arith) (byte_there index k below occurs start from))
      (cases_lt k start)

  -- The text stands nowhere where it does not fit.
  pub none_fits : (start : ℕ) → NoneBelow start → length name < start + length text → HasSubslice name text → ⊥
  none_fits start before past part =
      let (k, occurs) = part_stands part in
      let fits = occurs.fits in
      before k (omega arith) occurs

  -- The text is at a place where the name has it.
  pub standing_at : (start : ℕ) → start + length text ≤ length name
      → (take (start + length text - start) (drop start name) ≡ text) ↔ OccursAt name text start
  standing_at start fits =
      let size : start + length text - start ≡ length text = omega arith in (
        λ is. record {
          fits = fits;
          reads = λ j below.
              sym (get_or-drop start name j 0) ∙ sym (get_or-take (length text) (drop start name) j 0 below)
              ∙ ap (λ n. get_or (take n (drop start name)) j 0) (sym size) ∙ ap (λ l. get_or l j 0) is;
        },
        λ occurs. ap (λ n. take n (drop start name)) size ∙ stands_there start occurs,
      )

-- The empty text is a part of each name.
pub empty_part : (name text : List ℕ) → length text ≡ 0 → HasSubslice name text
empty_part name [] none = ([], name, refl)
empty_part name (byte ∷ text) none = absurd (omega arith)
