-- A text begins with a mark exactly if it spells one in front.
use Rattle.std.proofs.Common.{◌≡◌, ◌⊎◌, inl, inr, ℕ, suc, ◌+◌, ◌<◌, ◌==◌, ◌&&◌, Bool, true, false, not, List, [], ◌∷◌, ◌++◌, Option, None, Some, option_map, length, take, drop, codes, bytes_eq, if◌then◌else◌, refl, sym, ◌∙◌, ap, subst, arith, append_assoc, lit<, get_or, length-append}
use Rattle.std.proofs.lemmas.Bool.{eqb-true}
use Rattle.std.proofs.lemmas.Bool.Decides.{nat_tests}
use Rattle.std.proofs.lemmas.List.{take-append-drop}
use Rattle.std.proofs.lemmas.Str.{IsUtf8-drop, IsCharBoundary-after_ascii}
use Rattle.std.specs.Char.{is_whitespace}
use Rattle.std.specs.List.{list_all}
use Rattle.std.specs.Str.{IsUtf8}
use Rattle.platform_language.specs.declared.expression.Function.{Function}
use Rattle.platform_language.specs.declared.expression.Function.TheVariants.{All, Any, Not}
use Rattle.platform_language.specs.Marks.{Mark, OpenMark, CloseMark, CommaMark, EqualsMark, FunctionMark, NameMark, ValueMark, is_word_start, is_word_byte, word_mark, IsWord, EndsWord, is_inside_quotes, SpellsMark, Front, FrontMark, word_len, word_front, cut, value_behind, front}
use Rattle.platform_language.proofs.Words.{take_own, drop_own, word_is, word_stops, own_word_len, longer, word_ascii, byte_off}

first : (a b : Bool) → (a && b) ≡ true → a ≡ true
first true b e = refl
first false b e = e

second : (a b : Bool) → (a && b) ≡ true → b ≡ true
second true b e = e
second false b e = absurd (cc)

both : (a b : Bool) → a ≡ true → b ≡ true → (a && b) ≡ true
both a b x y = rw (x, y) refl

-- What a text begins with is one of two.
by_test : (b : Bool) (x y f : Front) (P : Type 0) → (if b then x else y) ≡ f → (b ≡ true → x ≡ f → P)
    → (b ≡ false → y ≡ f → P) → P
by_test true x y f P e hit other = hit refl e
by_test false x y f P e hit other = other refl e

-- Words.

start_goes_on : (c : ℕ) → is_word_start c ≡ true → is_word_byte c ≡ true
start_goes_on c is = grind (arith, nat_tests)

mark_test : (b : Bool) (x y m : Mark) (P : Type 0) → (if b then x else y) ≡ m → (x ≡ m → P) → (y ≡ m → P) → P
mark_test true x y m P e hit other = hit e
mark_test false x y m P e hit other = other e

-- A word is a function or a name.
abbrev IsWordMark : Mark → Type 0
IsWordMark m = ((f : Function) × (m ≡ FunctionMark f)) ⊎ ((name : List ℕ) × (m ≡ NameMark name))

word_is_mark : (word : List ℕ) (m : Mark) → word_mark word ≡ m → IsWordMark m
word_is_mark word m e =
    mark_test (bytes_eq word (codes "all")) _ _ m (IsWordMark m) e (λ is. inl (All, sym is))
    (λ e. mark_test (bytes_eq word (codes "any")) _ _ m (IsWordMark m) e (λ is. inl (Any, sym is))
    (λ e. mark_test (bytes_eq word (codes "not")) _ _ m (IsWordMark m) e (λ is. inl (Not, sym is))
    (λ is. inr (word, sym is))))

word_spells : (word rest : List ℕ) (m : Mark) → IsWord word → EndsWord rest → word_mark word ≡ m
    → SpellsMark m word rest
word_spells word rest m is ends e =
    elim (word_is_mark word m e) [
      | inl f ↦ (let P : Mark → Type 0 = λ n. SpellsMark n word rest in subst P (sym f.1) (is, ends, e ∙ f.1))
      | inr n ↦ (let P : Mark → Type 0 = λ n. SpellsMark n word rest in subst P (sym n.1) (is, ends, e ∙ n.1))
    ]

first_word : (c : ℕ) (text : List ℕ) → is_word_start c ≡ true → IsWord (take (word_len (c ∷ text)) (c ∷ text))
first_word c text is =
    let P : ℕ → Type 0 = λ n. IsWord (take n (c ∷ text)) in
    subst P (sym (longer c text (start_goes_on c is))) (is, word_is text)

-- Values.

-- What is before a `"` and behind it is cut there.
cut_value : (value rest : List ℕ) → list_all is_inside_quotes value ≡ true
    → cut (value ++ (34 ∷ rest)) ≡ Some (value, rest)
cut_value [] rest all = refl
cut_value (c ∷ value) rest all =
    let other : (c == 34) ≡ false =
    not_true (c == 34) (first (is_inside_quotes c) (list_all is_inside_quotes value) all) in
    let known = cut_value value rest (second (is_inside_quotes c) (list_all is_inside_quotes value) all) in
    ap (λ b. if b then Some ([], value ++ (34 ∷ rest)) else option_map {U = List ℕ × List ℕ}
    (λ p. (c ∷ p.0, p.1)) (cut (value ++ (34 ∷ rest)))) other
    ∙ ap (option_map {U = List ℕ × List ℕ} (λ p. (c ∷ p.0, p.1))) known
  where
    not_true : (b : Bool) → not b ≡ true → b ≡ false
    not_true false e = refl
    not_true true e = absurd (cc)

abbrev IsCut : List ℕ → List ℕ → List ℕ → Type 0
IsCut text value rest = (text ≡ value ++ (34 ∷ rest)) × (list_all is_inside_quotes value ≡ true)

cut_later : (c : ℕ) (text : List ℕ) (found : Option (List ℕ × List ℕ)) (value rest : List ℕ)
    → cut text ≡ found → is_inside_quotes c ≡ true
    → ((v r : List ℕ) → cut text ≡ Some (v, r) → IsCut text v r)
    → option_map {U = List ℕ × List ℕ} (λ p. (c ∷ p.0, p.1)) found ≡ Some (value, rest) → IsCut (c ∷ text) value rest
cut_later c text None value rest is inside known e = absurd (cc)
cut_later c text (Some p) value rest is inside known e =
    let pair : (c ∷ p.0, p.1) ≡ (value, rest) = cc in
    let front : c ∷ p.0 ≡ value = ap (λ (x : List ℕ × List ℕ). x.0) pair in
    let back : p.1 ≡ rest = ap (λ (x : List ℕ × List ℕ). x.1) pair in
    let it = known p.0 p.1 is in
    rw (sym front, sym back) (ap (λ l. c ∷ l) it.0, both _ _ inside it.1)

cut_first : (c : ℕ) (text : List ℕ) (b : Bool) (value rest : List ℕ) → (c == 34) ≡ b
    → ((v r : List ℕ) → cut text ≡ Some (v, r) → IsCut text v r)
    → (if b then Some ([], text) else option_map {U = List ℕ × List ℕ} (λ p. (c ∷ p.0, p.1)) (cut text))
    ≡ Some (value, rest) → IsCut (c ∷ text) value rest
cut_first c text true value rest is known e =
    let byte : c ≡ 34 = eqb-true c 34 is in
    let pair : ([], text) ≡ (value, rest) = cc in
    let front : [] ≡ value = ap (λ (x : List ℕ × List ℕ). x.0) pair in
    let back : text ≡ rest = ap (λ (x : List ℕ × List ℕ). x.1) pair in
    rw (sym front, sym back, byte) (refl, refl)
cut_first c text false value rest is known e = cut_later c text (cut text) value rest refl (ap not is) known e

cut_is : (text value rest : List ℕ) → cut text ≡ Some (value, rest) → IsCut text value rest
cut_is [] value rest e = absurd (cc)
cut_is (c ∷ text) value rest e = cut_first c text (c == 34) value rest refl (cut_is text) e

-- What a text begins with is spelled in front of it.

abbrev Begun : List ℕ → Mark → List ℕ → Type 0
Begun text m rest = (spelling : List ℕ) × SpellsMark m spelling rest × (text ≡ spelling ++ rest)

sign_begun : (k : ℕ) (s : Mark) (c : ℕ) (text : List ℕ) (m : Mark) (rest : List ℕ)
    → SpellsMark s (k ∷ []) rest → (c == k) ≡ true
    → FrontMark s text ≡ FrontMark m rest → Begun (c ∷ text) m rest
sign_begun k s c text m rest spells is e =
    let byte : c ≡ k = eqb-true c k is in
    let mark : s ≡ m = cc in
    let same : text ≡ rest = cc in
    let P : Mark → Type 0 = λ n. SpellsMark n (k ∷ []) rest in
    (k ∷ [], subst P mark spells, rw (byte, same) refl)

value_begun : (c : ℕ) (text : List ℕ) (m : Mark) (rest : List ℕ) (found : Option (List ℕ × List ℕ))
    → (c == 34) ≡ true → cut text ≡ found
    → value_behind found ≡ FrontMark m rest → Begun (c ∷ text) m rest
value_begun c text m rest None is at e = absurd (cc)
value_begun c text m rest (Some p) is at e =
    let byte : c ≡ 34 = eqb-true c 34 is in
    let mark : ValueMark p.0 ≡ m = cc in
    let same : p.1 ≡ rest = cc in
    let it = cut_is text p.0 p.1 at in
    let P : Mark → Type 0 = λ n. SpellsMark n (34 ∷ (p.0 ++ (34 ∷ []))) rest in (
      34 ∷ (p.0 ++ (34 ∷ [])),
      subst P mark (it.1, refl),
      ap (λ b. b ∷ text) byte ∙ ap (λ l. 34 ∷ l)
          (it.0 ∙ ap (λ r. p.0 ++ (34 ∷ r)) same ∙ sym (append_assoc p.0 (34 ∷ []) rest)),
    )

word_begun : (c : ℕ) (text : List ℕ) (m : Mark) (rest : List ℕ) → is_word_start c ≡ true
    → word_front (c ∷ text) ≡ FrontMark m rest → Begun (c ∷ text) m rest
word_begun c text m rest is e =
    let whole = c ∷ text in
    let n = word_len whole in
    let mark : word_mark (take n whole) ≡ m = cc in
    let same : drop n whole ≡ rest = cc in
    let ends : EndsWord rest = subst EndsWord same (word_stops whole) in (
      take n whole,
      word_spells (take n whole) rest m (first_word c text is) ends mark,
      sym
          (take-append-drop n whole) ∙ ap (λ r. take n whole ++ r) same,
    )

pub front_begun : (text : List ℕ) (m : Mark) (rest : List ℕ) → front text ≡ FrontMark m rest → Begun text m rest
front_begun [] m rest e = absurd (cc)
front_begun (c ∷ text) m rest e =
    let f = FrontMark m rest in
    let P = Begun (c ∷ text) m rest in
    by_test (c == 40) _ _ f P e (λ is e. sign_begun 40 OpenMark c text m rest refl is e)
    (λ _ e. by_test (c == 41) _ _ f P e (λ is e. sign_begun 41 CloseMark c text m rest refl is e)
    (λ _ e. by_test (c == 44) _ _ f P e (λ is e. sign_begun 44 CommaMark c text m rest refl is e)
    (λ _ e. by_test (c == 61) _ _ f P e (λ is e. sign_begun 61 EqualsMark c text m rest refl is e)
    (λ _ e. by_test (c == 34) _ _ f P e (λ is e. value_begun c text m rest (cut text) is refl e)
    (λ _ e. by_test (is_word_start c) _ _ f P e (λ is e. word_begun c text m rest is e) (λ _ e. absurd (cc)))))))

-- What is spelled in front of a text is what it begins with.

-- It begins so, with a byte of ASCII that is not a blank, and what follows is a text.
abbrev pub Fronts : Mark → List ℕ → List ℕ → Type 0
Fronts m spelling rest = (c : ℕ) × (more : List ℕ) × (spelling ≡ c ∷ more) × (c < 128) × (is_whitespace c ≡ false)
    × (front (spelling ++ rest) ≡ FrontMark m rest) × (IsUtf8 (spelling ++ rest) → IsUtf8 rest)

sign_fronts : (k : ℕ) (m : Mark) (spelling rest : List ℕ) → spelling ≡ k ∷ [] → k < 128 → is_whitespace k ≡ false
    → front (k ∷ rest) ≡ FrontMark m rest → Fronts m spelling rest
sign_fronts k m spelling rest is small other at =
    let P : List ℕ → Type 0 = λ s. Fronts m s rest in
    subst P (sym is) (k, [], refl, small, other, at, λ utf8. byte_off k rest small utf8)

other_sign : (c k : ℕ) → is_word_start k ≡ false → is_word_start c ≡ true → (c == k) ≡ false
other_sign c k no_start start = by_same (c == k) refl
  where
    by_same : (b : Bool) → (c == k) ≡ b → b ≡ false
    by_same false is = refl
    by_same true is =
        absurd (let clash : false ≡ true = sym no_start ∙ ap is_word_start (sym (eqb-true c k is)) ∙ start in cc)

word_utf8 : (word rest : List ℕ) → list_all is_word_byte word ≡ true → IsUtf8 (word ++ rest) → IsUtf8 rest
word_utf8 [] rest all utf8 = utf8
word_utf8 (c ∷ word) rest all utf8 =
    word_utf8 word rest (second (is_word_byte c) (list_all is_word_byte word) all)
    (byte_off c (word ++ rest) (word_ascii c (first (is_word_byte c) (list_all is_word_byte word) all)) utf8)

start_visible : (c : ℕ) → is_word_start c ≡ true → is_whitespace c ≡ false
start_visible c is = grind (arith, nat_tests)

word_front_is : (word rest : List ℕ) (m : Mark) → list_all is_word_byte word ≡ true → EndsWord rest → word_mark word ≡ m
    → word_front (word ++ rest) ≡ FrontMark m rest
word_front_is word rest m all ends is =
    let n = own_word_len word rest all ends in
    ap (λ k. FrontMark (word_mark (take k (word ++ rest))) (drop k (word ++ rest))) n
    ∙ ap (λ w. FrontMark (word_mark w) (drop (length word) (word ++ rest))) (take_own word rest)
    ∙ ap (λ r. FrontMark (word_mark word) r) (drop_own word rest)
    ∙ ap (λ k. FrontMark k rest) is

word_fronts : (spelling rest : List ℕ) (m : Mark) → IsWord spelling → EndsWord rest → word_mark spelling ≡ m
    → Fronts m spelling rest
word_fronts [] rest m is ends e = absurd (is)
word_fronts (c ∷ more) rest m (start, all) ends e =
    let goes_on = start_goes_on c start in
    let whole : list_all is_word_byte (c ∷ more) ≡ true = both _ _ goes_on all in
    let small = word_ascii c goes_on in (
      c,
      more,
      refl,
      small,
      start_visible c start,
      rw (
        other_sign c 40 refl start,
        other_sign c 41 refl start,
        other_sign c 44 refl start,
        other_sign c 61
            refl start,
        other_sign c 34 refl start,
        start,
      ) (word_front_is (c ∷ more) rest m whole ends e),
      λ utf8. word_utf8 (c ∷ more) rest whole utf8,
    )

get_own : (xs ys : List ℕ) (c : ℕ) → get_or (xs ++ (c ∷ ys)) (length xs) 0 ≡ c
get_own [] ys c = refl
get_own (x ∷ xs) ys c = get_own xs ys c

drop_past : (xs ys : List ℕ) (c : ℕ) → drop (length xs + 1) (xs ++ (c ∷ ys)) ≡ ys
drop_past [] ys c = refl
drop_past (x ∷ xs) ys c =
    let more : suc (length xs) + 1 ≡ suc (length xs + 1) = omega arith in
    ap (λ n. drop n (x ∷ (xs ++ (c ∷ ys)))) more ∙ drop_past xs ys c

past_byte : (xs ys : List ℕ) (c : ℕ) → c < 128 → IsUtf8 (xs ++ (c ∷ ys)) → IsUtf8 ys
past_byte xs ys c small utf8 =
    let whole = xs ++ (c ∷ ys) in
    let size : length whole ≡ length xs + length (c ∷ ys) = length-append xs (c ∷ ys) in
    let below : length xs < length whole = omega (arith, size) in
    let ascii : get_or whole (length xs) 0 < 128 = subst (λ n. n < 128) (sym (get_own xs ys c)) small in
    subst IsUtf8 (drop_past xs ys c)
    (IsUtf8-drop whole (length xs + 1) utf8 (IsCharBoundary-after_ascii whole (length xs) utf8 below ascii))

value_fronts : (value rest : List ℕ) → list_all is_inside_quotes value ≡ true
    → Fronts (ValueMark value) (34 ∷ (value ++ (34 ∷ []))) rest
value_fronts value rest all =
    let joined : (34 ∷ (value ++ (34 ∷ []))) ++ rest ≡ 34 ∷ (value ++ (34 ∷ rest)) =
    ap (λ l. 34 ∷ l) (append_assoc value (34 ∷ []) rest) in (
      34,
      value ++ (34 ∷ []),
      refl,
      lit< tt,
      refl,
      ap front joined ∙ ap value_behind (cut_value value rest all),
      λ utf8. past_byte (34 ∷ value) rest 34 (lit< tt) (subst IsUtf8 joined utf8),
    )

pub spelled_fronts : (m : Mark) (spelling rest : List ℕ) → SpellsMark m spelling rest → Fronts m spelling rest
spelled_fronts OpenMark spelling rest is = sign_fronts 40 OpenMark spelling rest is (lit< tt) refl refl
spelled_fronts CloseMark spelling rest is = sign_fronts 41 CloseMark spelling rest is (lit< tt) refl refl
spelled_fronts CommaMark spelling rest is = sign_fronts 44 CommaMark spelling rest is (lit< tt) refl refl
spelled_fronts EqualsMark spelling rest is = sign_fronts 61 EqualsMark spelling rest is (lit< tt) refl refl
spelled_fronts (FunctionMark f) spelling rest (is, ends, mark) = word_fronts spelling rest (FunctionMark f) is ends mark
spelled_fronts (NameMark name) spelling rest (is, ends, mark) = word_fronts spelling rest (NameMark name) is ends mark
spelled_fronts (ValueMark value) spelling rest (all, is) =
    let P : List ℕ → Type 0 = λ s. Fronts (ValueMark value) s rest in subst P (sym is) (value_fronts value rest all)
