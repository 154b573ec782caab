-- Pieces of a text.
use Rattle.std.proofs.Common.{◌≡◌, ◌∙◌, ◌⊎◌, ◌≤◌, ◌++◌, ◌+◌, ◌-◌, inl, inr, ℕ, List, [], ◌∷◌, ap, arith, drop, length, refl, suc, sym, take, zero}
use Rattle.std.proofs.Math.Seq.{take-append_seam}
use Rattle.std.proofs.lemmas.List.{drop-drop, length-drop}
use Rattle.rinqebo_resolve.specs.Pieces.{IsPieceOf}

-- a list is what is taken of it, and what is behind that
halves : (n : ℕ) (xs : List ℕ) → xs ≡ take n xs ++ drop (length (take n xs)) xs
halves zero xs = refl
halves (suc n) [] = refl
halves (suc n) (x ∷ xs) = ap (λ ys. x ∷ ys) (halves n xs)

-- nothing is taken where nothing may be, or nothing is there
nothing_taken : (n : ℕ) (xs : List ℕ) → length (take n xs) ≡ 0 → (n ≡ 0) ⊎ (length xs ≡ 0)
nothing_taken zero xs is = inl refl
nothing_taken (suc n) [] is = inr refl
nothing_taken (suc n) (x ∷ xs) is = absurd (omega arith)

-- nothing is left of a text behind an offset
none_left : (text : List ℕ) (offset : ℕ) → length (drop offset text) ≡ 0 → length text ≤ offset
none_left text offset is =
    let left : length text - offset ≡ 0 = sym (length-drop offset text) ∙ is in omega arith

ends_there : (text old : List ℕ) (offset : ℕ) → (length old ≡ 0) ⊎ (length (drop offset text) ≡ 0)
    → (length old ≡ 0) ⊎ (length text ≤ offset)
ends_there text old offset (inl full) = inl full
ends_there text old offset (inr none) = inr (none_left text offset none)

-- what is copied from an offset on is a piece of the text
pub piece : (text : List ℕ) (offset : ℕ) (old new : List ℕ) (count : ℕ)
    → count ≡ length (take (length old) (drop offset text))
    → new ≡ take (length old) (drop offset text) ++ drop count old → IsPieceOf text offset old new count
piece text offset old new count told written =
    let part = take (length old) (drop offset text) in
    let taken : take count new ≡ part =
    ap (λ k. take k new) told ∙ ap (take (length part)) written ∙ take-append_seam part (drop count old) in
    let behind : drop (offset + count) text ≡ drop (length part) (drop offset text) =
    sym (drop-drop count offset text) ∙ ap (λ k. drop k (drop offset text)) told in
    record {
      length_told = told;
      written = written;
      goes_on = halves (length old) (drop offset text)
          ∙ ap (λ xs. xs ++ drop (length part) (drop offset text)) (sym taken)
          ∙ ap (λ xs. take count new ++ xs) (sym behind);
      ends = λ none. ends_there text old offset
          (nothing_taken (length old) (drop offset text) (sym told ∙ none));
    }
