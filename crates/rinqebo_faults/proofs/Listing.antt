-- Lists in words.
use Rattle.std.proofs.Common.{◌≡◌, ℕ, ◌+◌, ◌<◌, Bool, true, false, eqb, List, [], ◌∷◌, ◌++◌, length, map, drop, get_or, refl, sym, ap, ◌∙◌, append_assoc, append-nil, arith, length-drop}
use Rattle.std.proofs.lemmas.Bool.Decides.{nat_tests}
use Rattle.std.proofs.lemmas.List.{at_drop_more, length-map}
use Rattle.rinqebo_faults.specs.Words.{listed_behind, mark_before}

-- the word at a place behind the first one, and what is before it
behind_here : (last word : List ℕ) (words : List (List ℕ)) (b : Bool)
    → (b ≡ true → length words ≡ 0) → (b ≡ false → 0 < length words)
    → listed_behind last (word ∷ words) ≡ mark_before b last ++ (word ++ listed_behind last words)
behind_here last word [] true none some = ap (λ t. last ++ t) (sym (append-nil word))
behind_here last word [] false none some = absurd (let h = some refl in omega arith)
behind_here last word (next ∷ words) true none some =
    absurd (let h = none refl in omega arith)
behind_here last word (next ∷ words) false none some = refl

-- a text of the words before a place goes on with the word there
behind_goes_on : (text last whole word : List ℕ) (words : List (List ℕ)) (b : Bool)
    → (b ≡ true → length words ≡ 0) → (b ≡ false → 0 < length words)
    → text ++ listed_behind last (word ∷ words) ≡ whole
    → ((text ++ mark_before b last) ++ word) ++ listed_behind last words ≡ whole
behind_goes_on text last whole word words b none some h =
    let mark = mark_before b last in
    let rest = listed_behind last words in
    append_assoc (text ++ mark) word rest ∙ append_assoc text mark (word ++ rest)
    ∙ ap (λ t. text ++ t) (sym (behind_here last word words b none some)) ∙ h

-- the same with the words of some items
pub listed_on : {A : Type 0} (words : A → List ℕ) (text last whole : List ℕ) (xs : List A) (i : ℕ) (x : A)
    → i < length xs → x ≡ get_or xs i x → text ++ listed_behind last (map words (drop i xs)) ≡ whole
    → ((text ++ mark_before (eqb (i + 1) (length xs)) last) ++ words x)
    ++ listed_behind last (map words (drop (i + 1) xs)) ≡ whole
listed_on words text last whole xs i x inside is h =
    let rest = map words (drop (i + 1) xs) in
    let count : length rest + (i + 1) ≡ length xs = simp (length-map, length-drop) (omega arith) in
    behind_goes_on text last whole (words x) rest (eqb (i + 1) (length xs))
    (λ b. grind (arith, nat_tests)) (λ b. grind (arith, nat_tests))
    (ap (λ y. text ++ listed_behind last (words y ∷ rest)) is
    ∙ sym (at_drop_more (λ ys. text ++ listed_behind last (map words ys)) xs i x inside) ∙ h)
