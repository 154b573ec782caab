-- A text writes one line at most: a key has no `=`.
use Rattle.std.proofs.Common.{◌≡◌, ◌≢◌, ℕ, ◌+◌, ◌<◌, zero, suc, Bool, true, false, cond, not, Option, Some, None, MatchOption, Bor, List, [], ◌∷◌, ◌++◌, length, get_or, take, drop, drop-cons, map, All, refl, sym, ◌∙◌, ap, subst, arith, lit<, length-append}
use Rattle.std.specs.Prelude.{filter, ◌==◌}
use Rattle.std.proofs.lemmas.Bool.{false≢true, and_parts}
use Rattle.std.proofs.lemmas.List.{append_cancel_right, append-nil, map-append, take_more, take-append-drop, length-take-le}
use Rattle.std.proofs.lemmas.List.Folds.{list_all_at}
use Rattle.std.proofs.lemmas.List.Elements.{All-append, filter-append}
use Rattle.std.proofs.lemmas.Str.Pattern.{IsSplitOnceResult, split_parts, split_after}
use Rattle.std.specs.List.{list_all}
use Rattle.platform_language.specs.Platforms.CfgList.{IsFirstBad}
use Rattle.platform_language.specs.Platforms.Platforms.{Line, line_of}
use Rattle.platform_language.specs.Platforms.CfgLines.{starts_word, continues_word, is_word, quoted, spelling_of, spelling, HasWord, WritesLine, IsNoLine, WritesLines}

-- ---- one line

-- no byte is `=`
abbrev HasNoEquals : List ℕ → Type 0
HasNoEquals bytes = (i : ℕ) → i < length bytes → get_or bytes i 0 ≢ 61

word_no_equals : (key : List ℕ) → is_word key ≡ true → HasNoEquals key
word_no_equals [] word i inside equals = false≢true word
word_no_equals (first ∷ rest) word zero inside equals =
    false≢true (ap starts_word (sym equals) ∙ (and_parts (starts_word first) _ word).0)
word_no_equals (first ∷ rest) word (suc i) inside equals =
    let no : list_all continues_word rest ≡ false =
    list_all_at continues_word rest i 0 (omega arith) (ap continues_word equals) in
    false≢true (sym no ∙ (and_parts (starts_word first) _ word).1)

equals_at : (key rest : List ℕ) → get_or (key ++ (61 ∷ rest)) (length key) 0 ≡ 61
equals_at [] rest = refl
equals_at (x ∷ key) rest = equals_at key rest

-- a text with `=` is not a word
no_word : (key rest text : List ℕ) → text ≡ key ++ (61 ∷ rest) → is_word text ≡ true → ⊥
no_word key rest text spelled word =
    word_no_equals (key ++ (61 ∷ rest)) (subst (λ t. is_word t ≡ true) spelled word) (length key)
    (omega (arith, length-append key (61 ∷ rest))) (equals_at key rest)

-- a text that writes a line, cut at its first `=`, has the key before it and the value behind it
abbrev CutOf : List ℕ → Option (List ℕ) → Option (Bor (List ℕ) × Bor (List ℕ)) → Type 0
CutOf key value cut = MatchOption cut (value ≡ None)
    (λ parts. (parts.0.now ≡ key) × ((v : List ℕ) × (value ≡ Some v) × (parts.1.now ≡ quoted v)))

cut_of : (key : List ℕ) (value : Option (List ℕ)) (text : List ℕ) (cut : Option (Bor (List ℕ) × Bor (List ℕ)))
    → IsSplitOnceResult 61 text cut → is_word key ≡ true → text ≡ spelling_of key value → CutOf key value cut
cut_of key None text None split word spelled = refl
cut_of key None text (Some parts) split word spelled =
    absurd (no_word parts.0.now parts.1.now text (split_parts 61 text (Some parts) split (lit< tt)).0
    (subst (λ t. is_word t ≡ true) (sym spelled) word))
cut_of key (Some value) text None split word spelled =
    absurd (split_after 61 text key (quoted value) None split (lit< tt) spelled (word_no_equals key word))
cut_of key (Some value) text (Some parts) split word spelled =
    let same = split_after 61 text key (quoted value) (Some parts) split (lit< tt) spelled (word_no_equals key word) in
    (same.0, (value, refl, same.1))

pub no_line_name : (text : List ℕ) → IsSplitOnceResult 61 text None → is_word text ≡ false → IsNoLine text
no_line_name text split bad line written =
    let none : line.value ≡ None = cut_of line.key line.value text None split written.0 written.1 in
    let same : text ≡ line.key = written.1 ∙ ap (spelling_of line.key) none in
    false≢true (sym bad ∙ ap is_word same ∙ written.0)

pub no_line_key : (text : List ℕ) (parts : Bor (List ℕ) × Bor (List ℕ))
    → IsSplitOnceResult 61 text (Some parts) → is_word parts.0.now ≡ false → IsNoLine text
no_line_key text parts split bad line written =
    let cut = cut_of line.key line.value text (Some parts) split written.0 written.1 in
    false≢true (sym bad ∙ ap is_word cut.0 ∙ written.0)

pub no_line_value : (text : List ℕ) (parts : Bor (List ℕ) × Bor (List ℕ))
    → IsSplitOnceResult 61 text (Some parts) → ((value : List ℕ) → parts.1.now ≢ quoted value) → IsNoLine text
no_line_value text parts split bad line written =
    let cut = cut_of line.key line.value text (Some parts) split written.0 written.1 in
    bad cut.1.0 cut.1.2

pub writes_value : (text : List ℕ) (parts : Bor (List ℕ) × Bor (List ℕ)) (value : Bor (List ℕ))
    → IsSplitOnceResult 61 text (Some parts) → is_word parts.0.now ≡ true → parts.1.now ≡ quoted value.now
    → WritesLine text (line_of parts.0.now (Some value))
writes_value text parts value split word behind =
    (word, (split_parts 61 text (Some parts) split (lit< tt)).0 ∙ ap (λ rest. parts.0.now ++ (61 ∷ rest)) behind)

-- ---- lines are distinguished by how they are printed

same_cut : (xs ys a b : List ℕ) → HasNoEquals xs → HasNoEquals ys → xs ++ (61 ∷ a) ≡ ys ++ (61 ∷ b)
    → (xs ≡ ys) × (a ≡ b)
same_cut [] [] a b p q e = (refl, cc)
same_cut [] (y ∷ ys) a b p q e =
    let first : y ≡ 61 = cc in
    absurd (q 0 (omega arith) first)
same_cut (x ∷ xs) [] a b p q e =
    let first : x ≡ 61 = cc in
    absurd (p 0 (omega arith) first)
same_cut (x ∷ xs) (y ∷ ys) a b p q e =
    let first : x ≡ y = cc in
    let rest : xs ++ (61 ∷ a) ≡ ys ++ (61 ∷ b) = cc in
    let same = same_cut xs ys a b (λ i h. p (suc i) (omega arith)) (λ i h. q (suc i) (omega arith)) rest in
    let fronts = same.0 in
    (cc, same.1)

same_parts : (key : List ℕ) (value : Option (List ℕ)) (key' : List ℕ) (value' : Option (List ℕ))
    → is_word key ≡ true → is_word key' ≡ true → spelling_of key value ≡ spelling_of key' value'
    → (key ≡ key') × (value ≡ value')
same_parts key None key' None word word' e = (e, refl)
same_parts key None key' (Some v') word word' e = absurd (no_word key' (quoted v') key e word)
same_parts key (Some v) key' None word word' e = absurd (no_word key (quoted v) key' (sym e) word')
same_parts key (Some v) key' (Some v') word word' e =
    let same = same_cut key key' (quoted v) (quoted v') (word_no_equals key word) (word_no_equals key' word') e in
    let behind : v ++ (34 ∷ []) ≡ v' ++ (34 ∷ []) = let h = same.1 in cc in
    (same.0, ap Some (append_cancel_right v v' (34 ∷ []) behind))

same_line : (a b : Line) → HasWord a → HasWord b → spelling a ≡ spelling b → a ≡ b
same_line a b word word' e =
    let same = same_parts a.key a.value b.key b.value word word' e in
    let LineOf : List ℕ → Option (List ℕ) → Line = λ key value. record { key = key; value = value } in
    ap (λ key. LineOf key a.value) same.0 ∙ ap (LineOf b.key) same.1

same_lines : (a b : List Line) → All HasWord a → All HasWord b → map spelling a ≡ map spelling b → a ≡ b
same_lines [] [] p q e = refl
same_lines [] (y ∷ ys) p q e = cc
same_lines (x ∷ xs) [] p q e = cc
same_lines (x ∷ xs) (y ∷ ys) p q e =
    let spelled : spelling x ≡ spelling y = cc in
    let rest : map spelling xs ≡ map spelling ys = cc in
    let first : x ≡ y = same_line x y (p 0 x (omega arith)) (q 0 y (omega arith)) spelled in
    let others : xs ≡ ys = same_lines xs ys (λ k d l. p (suc k) d (omega arith))
    (λ k d l. q (suc k) d (omega arith)) rest in
    cc

-- Texts write one list of lines at most.
pub only_lines : (texts : List (List ℕ)) (a b : List Line) → WritesLines texts a → WritesLines texts b → a ≡ b
only_lines texts a b p q = same_lines a b p.words q.words (sym p.spelled ∙ q.spelled)

-- ---- a text more

abbrev is_kept : List ℕ → Bool
is_kept text = not (length text == 0)

kept_one : (text : List ℕ) → (length text == 0) ≡ false → filter is_kept (text ∷ []) ≡ text ∷ []
kept_one text h = ap (λ b. cond (not b) (text ∷ []) []) h

dropped_one : (text : List ℕ) → (length text == 0) ≡ true → filter is_kept (text ∷ []) ≡ []
dropped_one text h = ap (λ b. cond (not b) (text ∷ []) []) h

one_word : (line : Line) → HasWord line → All HasWord (line ∷ [])
one_word line word zero d l = word
one_word line word (suc k) d l = absurd (omega arith)

pub WritesLines-line : (texts : List (List ℕ)) (lines : List Line) (text : List ℕ) (line : Line)
    → WritesLines texts lines → (length text == 0) ≡ false → WritesLine text line
    → WritesLines (texts ++ (text ∷ [])) (lines ++ (line ∷ []))
WritesLines-line texts lines text line so_far some written = record {
  words = All-append HasWord lines (line ∷ []) so_far.words (one_word line written.0);
  spelled =
      filter-append is_kept texts (text ∷ [])
      ∙ ap (λ front. front ++ filter is_kept (text ∷ [])) so_far.spelled
      ∙ ap (λ back. map spelling lines ++ back) (kept_one text some ∙ ap (λ t. t ∷ []) written.1)
      ∙ sym (map-append spelling lines (line ∷ []));
}

pub WritesLines-empty : (texts : List (List ℕ)) (lines : List Line) (text : List ℕ) → WritesLines texts lines
    → (length text == 0) ≡ true → WritesLines (texts ++ (text ∷ [])) lines
WritesLines-empty texts lines text so_far none = record {
  words = so_far.words;
  spelled =
      filter-append is_kept texts (text ∷ [])
      ∙ ap (λ back. filter is_kept texts ++ back) (dropped_one text none)
      ∙ append-nil (filter is_kept texts)
      ∙ so_far.spelled;
}

-- ---- a place more

-- the texts that are borrowed
abbrev pub texts_at : List (Bor (List ℕ)) → List (List ℕ)
texts_at = map (λ text. text.now)

text_at : (texts : List (Bor (List ℕ))) (i : ℕ) (d : Bor (List ℕ)) → i < length texts
    → get_or (texts_at texts) i [] ≡ (get_or texts i d).now
text_at [] i d inside = absurd (omega arith)
text_at (x ∷ xs) zero d inside = refl
text_at (x ∷ xs) (suc i) d inside = text_at xs i d (omega arith)

pub length-texts : (texts : List (Bor (List ℕ))) → length (texts_at texts) ≡ length texts
length-texts [] = refl
length-texts (x ∷ xs) = ap suc (length-texts xs)

next_texts : (texts : List (Bor (List ℕ))) (i : ℕ) (d : Bor (List ℕ)) → i < length texts
    → take (i + 1) (texts_at texts) ≡ take i (texts_at texts) ++ ((get_or texts i d).now ∷ [])
next_texts texts i d inside =
    let within : i < length (texts_at texts) = omega (arith, length-texts texts) in
    take_more (texts_at texts) i [] within
    ∙ ap (λ text. take i (texts_at texts) ++ (text ∷ [])) (text_at texts i d inside)

pub WritesLines-none : (texts : List (List ℕ)) (lines : List Line) → lines ≡ [] → WritesLines (take 0 texts) lines
WritesLines-none texts lines none =
    subst (WritesLines (take 0 texts)) (sym none) (record { words = λ k d l. absurd (omega arith); spelled = refl })

pub WritesLines-more : (texts : List (Bor (List ℕ))) (i : ℕ) (d : Bor (List ℕ)) (lines : List Line)
    (line : Line) → i < length texts → WritesLines (take i (texts_at texts)) lines
    → (length (get_or texts i d).now == 0) ≡ false → WritesLine (get_or texts i d).now line
    → WritesLines (take (i + 1) (texts_at texts)) (lines ++ (line ∷ []))
WritesLines-more texts i d lines line inside so_far some written =
    subst (λ front. WritesLines front (lines ++ (line ∷ []))) (sym (next_texts texts i d inside))
    (WritesLines-line (take i (texts_at texts)) lines (get_or texts i d).now line so_far some written)

pub WritesLines-same : (texts : List (Bor (List ℕ))) (i : ℕ) (d : Bor (List ℕ)) (lines : List Line)
    → i < length texts → WritesLines (take i (texts_at texts)) lines
    → (length (get_or texts i d).now == 0) ≡ true → WritesLines (take (i + 1) (texts_at texts)) lines
WritesLines-same texts i d lines inside so_far none =
    subst (λ front. WritesLines front lines) (sym (next_texts texts i d inside))
    (WritesLines-empty (take i (texts_at texts)) lines (get_or texts i d).now so_far none)

pub first_bad : (texts : List (Bor (List ℕ))) (i : ℕ) (d : Bor (List ℕ)) (lines : List Line)
    → i < length texts → WritesLines (take i (texts_at texts)) lines
    → (length (get_or texts i d).now == 0) ≡ false → IsNoLine (get_or texts i d).now
    → IsFirstBad (texts_at texts) (i + 1)
first_bad texts i d lines inside so_far some bad =
    let all = texts_at texts in
    let within : i < length all = omega (arith, length-texts texts) in
    record {
      before = take i all;
      bad = (get_or texts i d).now;
      after = drop (suc i) all;
      stands = sym (take-append-drop i all)
          ∙ ap (λ rest. take i all ++ rest)
          (drop-cons all i [] within ∙ ap (λ text. text ∷ drop (suc i) all) (text_at texts i d inside));
      counted = ap (λ n. n + 1) (sym (length-take-le i all (omega arith)));
      read = lines;
      good = so_far;
      is_no_line = bad;
      not_empty = λ e. false≢true (sym some ∙ ap (λ text. length text == 0) e);
    }
