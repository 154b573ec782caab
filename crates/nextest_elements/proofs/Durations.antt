-- Lemmas on the runs of a text, and the law that ties them to the grammar of durations.
use Rattle.std.proofs.Common.{◌≡◌, ◌==◌, ℕ, ◌+◌, ◌-◌, ◌*◌, ◌<◌, ◌≤◌, suc, Bool, true, false, cond, List, [], ◌∷◌, ◌++◌, length, get_or, drop, nat_lt, refl, sym, ap, subst, length-append, ◌∙◌, add-one, arith, All}
use Rattle.std.specs.Prelude.{Option, Some, None, option_map, option_and_then, IfSome}
use Rattle.std.specs.List.{list_all}
use Rattle.std.specs.Map.{lookup}
use Rattle.std.specs.Char.{digit_value}
use Rattle.std.specs.Str.{bytes_eq}
use Rattle.std.specs.Str.Parse.{digits_value, digits_value_after}
use Rattle.std.proofs.Math.Seq.{drop-cons}
use Rattle.std.proofs.lemmas.Bool.Decides.{nat_tests}
use Rattle.std.proofs.lemmas.Bool.{and_parts, ltb-true, eqb-true, eqb-false}
use Rattle.std.proofs.lemmas.Option.{none-some}
use Rattle.nextest_elements.specs.declared.duration.ByteKind.{ByteKind}
use Rattle.nextest_elements.specs.declared.duration.ByteKind.TheVariants.{Space, Digit, Other}
use Rattle.nextest_elements.specs.DurationFunction.{byte_kind, same_kind, ByteRun, run, with_byte, runs, without_spaces, words_of, sum_of, some_sum_of, unit_size}
use Rattle.nextest_elements.specs.DurationSteps.{within_limit, NotFirst, SplitsRun, TakesItem}
use Rattle.nextest_elements.specs.Duration.{longest_duration, duration_units}

-- ---- kinds

same_kind-same : (k : ByteKind) → same_kind k k ≡ true
same_kind-same Space = refl
same_kind-same Digit = refl
same_kind-same Other = refl

same_kind-other : (a b : ByteKind) → (a ≡ b → ⊥) → same_kind a b ≡ false
same_kind-other Space Space h = absurd (h refl)
same_kind-other Space Digit h = refl
same_kind-other Space Other h = refl
same_kind-other Digit Space h = refl
same_kind-other Digit Digit h = absurd (h refl)
same_kind-other Digit Other h = refl
same_kind-other Other Space h = refl
same_kind-other Other Digit h = refl
same_kind-other Other Other h = absurd (h refl)

-- each byte is of this kind
abbrev pub AreOf : ByteKind → List ℕ → Type 0
AreOf kind [] = Unit {0}
AreOf kind (b ∷ bs) = (byte_kind b ≡ kind) × AreOf kind bs

pub AreOf-from_All : (kind : ByteKind) (bs : List ℕ) → All (λ b. byte_kind b ≡ kind) bs → AreOf kind bs
AreOf-from_All kind [] h = tt
AreOf-from_All kind (b ∷ bs) h = (h 0 0 (omega arith), AreOf-from_All kind bs (λ k d l. h (suc k) d (omega arith)))

-- ---- runs

-- the first run of a text is of the kind of its first byte
with_byte-head : (k : ByteKind) (b : ℕ) (rs : List ByteRun)
    → (bytes : List ℕ) × (more : List ByteRun) × (with_byte k b rs ≡ run k bytes ∷ more)
with_byte-head k b [] = (b ∷ [], [], refl)
with_byte-head Space b (run Space bytes ∷ rs) = (b ∷ bytes, rs, refl)
with_byte-head Space b (run Digit bytes ∷ rs) = (b ∷ [], run Digit bytes ∷ rs, refl)
with_byte-head Space b (run Other bytes ∷ rs) = (b ∷ [], run Other bytes ∷ rs, refl)
with_byte-head Digit b (run Space bytes ∷ rs) = (b ∷ [], run Space bytes ∷ rs, refl)
with_byte-head Digit b (run Digit bytes ∷ rs) = (b ∷ bytes, rs, refl)
with_byte-head Digit b (run Other bytes ∷ rs) = (b ∷ [], run Other bytes ∷ rs, refl)
with_byte-head Other b (run Space bytes ∷ rs) = (b ∷ [], run Space bytes ∷ rs, refl)
with_byte-head Other b (run Digit bytes ∷ rs) = (b ∷ [], run Digit bytes ∷ rs, refl)
with_byte-head Other b (run Other bytes ∷ rs) = (b ∷ bytes, rs, refl)

-- a byte before a run of another kind
pub with_byte-other : (k j : ByteKind) (b : ℕ) (bytes : List ℕ) (rs : List ByteRun) → (j ≡ k → ⊥)
    → with_byte k b (run j bytes ∷ rs) ≡ run k (b ∷ []) ∷ run j bytes ∷ rs
with_byte-other k j b bytes rs h = rw (same_kind-other k j (λ e. h (sym e))) refl

pub with_byte-same : (k : ByteKind) (b : ℕ) (bytes : List ℕ) (rs : List ByteRun)
    → with_byte k b (run k bytes ∷ rs) ≡ run k (b ∷ bytes) ∷ rs
with_byte-same k b bytes rs = rw (same_kind-same k) refl

-- one byte before what begins with another kind is a run
runs-one : (k : ByteKind) (b : ℕ) (rest : List ℕ) → NotFirst k rest
    → with_byte k b (runs rest) ≡ run k (b ∷ []) ∷ runs rest
unfolding runs
runs-one k b [] h = refl
runs-one k b (c ∷ rest) h =
    let head = with_byte-head (byte_kind c) c (runs rest) in
    rw head.2 (with_byte-other k (byte_kind c) b head.0 head.1 h)

-- bytes of one kind before what begins with another are a run
runs-append : (k : ByteKind) (b : ℕ) (bs rest : List ℕ) → AreOf k (b ∷ bs) → NotFirst k rest
    → runs (b ∷ (bs ++ rest)) ≡ run k (b ∷ bs) ∷ runs rest
unfolding runs
runs-append k b [] rest h n = rw h.0 (runs-one k b rest n)
runs-append k b (c ∷ bs) rest h n =
    rw h.0 (ap (with_byte k b) (runs-append k c bs rest h.1 n) ∙ with_byte-same k b (c ∷ bs) (runs rest))

-- ---- runs without spaces

without_spaces-space : (b : ℕ) (rs : List ByteRun) → without_spaces (with_byte Space b rs) ≡ without_spaces rs
unfolding without_spaces
without_spaces-space b [] = refl
without_spaces-space b (run Space bytes ∷ rs) = refl
without_spaces-space b (run Digit bytes ∷ rs) = refl
without_spaces-space b (run Other bytes ∷ rs) = refl

without_spaces-run : (k : ByteKind) (bytes : List ℕ) (rs : List ByteRun) → (k ≡ Space → ⊥)
    → without_spaces (run k bytes ∷ rs) ≡ run k bytes ∷ without_spaces rs
unfolding without_spaces
without_spaces-run Space bytes rs h = absurd (h refl)
without_spaces-run Digit bytes rs h = refl
without_spaces-run Other bytes rs h = refl

-- spaces before a text change nothing
pub words_of-spaces : (front rest : List ℕ) → AreOf Space front → words_of (front ++ rest) ≡ words_of rest
unfolding words_of runs
words_of-spaces [] rest h = refl
words_of-spaces (b ∷ bs) rest h = rw h.0 (without_spaces-space b (runs (bs ++ rest)) ∙ words_of-spaces bs rest h.1)

-- digits or other bytes before what begins with another kind are a run
pub words_of-run : (k : ByteKind) (b : ℕ) (bs rest : List ℕ) → (k ≡ Space → ⊥) → AreOf k (b ∷ bs)
    → NotFirst k rest → words_of (b ∷ (bs ++ rest)) ≡ run k (b ∷ bs) ∷ words_of rest
unfolding words_of
words_of-run k b bs rest s h n =
    ap without_spaces (runs-append k b bs rest h n) ∙ without_spaces-run k (b ∷ bs) (runs rest) s

pub words_of-head : (b : ℕ) (rest : List ℕ) → (byte_kind b ≡ Space → ⊥)
    → (bytes : List ℕ) × (more : List ByteRun) × (words_of (b ∷ rest) ≡ run (byte_kind b) bytes ∷ more)
unfolding words_of runs
words_of-head b rest s =
    let head = with_byte-head (byte_kind b) b (runs rest) in
    (head.0, without_spaces head.1, ap without_spaces head.2 ∙ without_spaces-run (byte_kind b) head.0 head.1 s)

pub words_of-nil : words_of [] ≡ []
unfolding words_of runs without_spaces
words_of-nil = refl

-- ---- numbers

-- a digit's value
pub byte_kind-digit : (b : ℕ) → byte_kind b ≡ Digit → (48 ≤ b) × (b < 58)
byte_kind-digit b h = (grind (arith, nat_tests), grind (arith, nat_tests))

pub byte_kind-space : (b : ℕ) → byte_kind b ≡ Space → b ≡ 32
byte_kind-space b h = grind (arith, nat_tests)

pub digit_value-digit : (b : ℕ) → 48 ≤ b → b < 58 → digit_value b ≡ b - 48
digit_value-digit b l h = grind (arith, nat_tests)

pub byte_kind-from_digit_value : (b : ℕ) → digit_value b < 10 → byte_kind b ≡ Digit
byte_kind-from_digit_value b h = grind (arith, nat_tests)

pub digits_value_after-le : (n : ℕ) (ds : List ℕ) → n ≤ digits_value_after 10 n ds
digits_value_after-le n [] = omega arith
digits_value_after-le n (c ∷ ds) =
    let h = digits_value_after-le (n * 10 + digit_value c) ds in omega (arith, h)

digits_value_after-drop : (n : ℕ) (ds : List ℕ) (i : ℕ) → i < length ds
    → digits_value_after 10 n (drop i ds)
    ≡ digits_value_after 10 (n * 10 + digit_value (get_or ds i 0)) (drop (i + 1) ds)
digits_value_after-drop n ds i h = rw (add-one, drop-cons ds i 0) refl

pub within_limit-above : (n : ℕ) → longest_duration < n → within_limit n ≡ None
within_limit-above n h = grind (arith, nat_tests)

pub within_limit-none : (n : ℕ) → within_limit n ≡ None → longest_duration < n
within_limit-none n h = grind (arith, nat_tests)

pub within_limit-some : (n m : ℕ) → within_limit n ≡ Some m → (n ≡ m) × (n ≤ longest_duration)
within_limit-some n m h = (grind (arith, nat_tests), grind (arith, nat_tests))

-- where a number has gone above the limit, the whole is above it
pub number_above : (n : ℕ) (ds : List ℕ) (i : ℕ) → i < length ds → All (λ b. byte_kind b ≡ Digit) ds
    → digits_value_after 10 n (drop i ds) ≡ digits_value 10 ds
    → within_limit (n * 10 + (get_or ds i 0 - 48)) ≡ None → within_limit (digits_value 10 ds) ≡ None
number_above n ds i h digits goes above =
    let d = byte_kind-digit (get_or ds i 0) (digits i 0 h) in
    let v = digit_value-digit (get_or ds i 0) d.0 d.1 in
    let grown = digits_value_after-le (n * 10 + digit_value (get_or ds i 0)) (drop (i + 1) ds) in
    let past = within_limit-none _ above in
    within_limit-above _ (omega (arith, v, grown, past, digits_value_after-drop n ds i h, goes))

-- ---- an item

words_of-after_spaces : {text front rest : List ℕ} → SplitsRun text Space front rest → words_of text ≡ words_of rest
words_of-after_spaces {text} {front} {rest} s =
    ap words_of s.joined ∙ words_of-spaces front rest (AreOf-from_All Space front s.alike)

words_of-after_run : (k : ByteKind) → (k ≡ Space → ⊥) → (text front rest : List ℕ) → 0 < length front
    → SplitsRun text k front rest → words_of text ≡ run k front ∷ words_of rest
words_of-after_run k o text [] rest h s = absurd (omega arith)
words_of-after_run k o text (b ∷ bs) rest h s =
    ap words_of s.joined ∙ words_of-run k b bs rest o (AreOf-from_All k (b ∷ bs) s.alike) s.longest

-- what begins neither with a space nor with a digit
sum_of-other : (k : ByteKind) (bytes : List ℕ) (more : List ByteRun) → (k ≡ Space → ⊥) → (k ≡ Digit → ⊥)
    → some_sum_of (run k bytes ∷ more) ≡ None
unfolding some_sum_of sum_of
sum_of-other Space bytes more s d = absurd (s refl)
sum_of-other Digit bytes more s d = absurd (d refl)
sum_of-other Other bytes more s d = refl

pub sum_of-no_digit : (text : List ℕ) → NotFirst Space text → NotFirst Digit text → some_sum_of (words_of text) ≡ None
unfolding some_sum_of
sum_of-no_digit [] s d = rw words_of-nil refl
sum_of-no_digit (b ∷ rest) s d =
    let head = words_of-head b rest s in
    ap some_sum_of head.2 ∙ sum_of-other (byte_kind b) head.0 head.1 s d

-- digits before what begins neither with a space nor with a unit
sum_of-digits : (digits : List ℕ) (k : ByteKind) (bytes : List ℕ) (more : List ByteRun) → (k ≡ Space → ⊥)
    → (k ≡ Other → ⊥) → some_sum_of (run Digit digits ∷ run k bytes ∷ more) ≡ None
unfolding some_sum_of sum_of
sum_of-digits digits Space bytes more s o = absurd (s refl)
sum_of-digits digits Digit bytes more s o = refl
sum_of-digits digits Other bytes more s o = absurd (o refl)

pub sum_of-no_unit : (digits text : List ℕ) → NotFirst Space text → NotFirst Other text
    → some_sum_of (run Digit digits ∷ words_of text) ≡ None
unfolding some_sum_of sum_of
sum_of-no_unit digits [] s o = rw words_of-nil refl
sum_of-no_unit digits (b ∷ rest) s o =
    let head = words_of-head b rest s in
    ap (λ rs. some_sum_of (run Digit digits ∷ rs)) head.2 ∙ sum_of-digits digits (byte_kind b) head.0 head.1 s o

-- a number and a name before a rest
pub sum_of-pair : (digits name : List ℕ) (rs : List ByteRun)
    → some_sum_of (run Digit digits ∷ run Other name ∷ rs)
    ≡ option_and_then (λ size. option_map (λ n. digits_value 10 digits * size + n) (sum_of rs)) (unit_size name)
unfolding some_sum_of sum_of
sum_of-pair digits name rs = refl

pub sum_of-nil : sum_of [] ≡ Some 0
unfolding sum_of
sum_of-nil = refl

pub some_sum_of-cons : (r : ByteRun) (rs : List ByteRun) → some_sum_of (r ∷ rs) ≡ sum_of (r ∷ rs)
unfolding some_sum_of
some_sum_of-cons r rs = refl

-- a text that begins with no space and has no words is empty
pub words_of-tight : (text : List ℕ) → NotFirst Space text → words_of text ≡ [] → text ≡ []
words_of-tight [] s e = refl
words_of-tight (b ∷ rest) s e = let head = words_of-head b rest s in absurd (nil≢cons (sym e ∙ head.2))
  where
    nil≢cons : {r : ByteRun} {rs : List ByteRun} → ◌≡◌ {A = List ByteRun} [] (r ∷ rs) → ⊥
    nil≢cons h = cc

-- no digits: no duration
pub no_digits : {text s1 t1 digits t2 : List ℕ} → SplitsRun text Space s1 t1 → SplitsRun t1 Digit digits t2
    → digits ≡ [] → some_sum_of (words_of text) ≡ None
no_digits {text} {s1} {t1} {digits} {t2} leading number e =
    let same : t1 ≡ t2 = number.joined ∙ ap (λ d. d ++ t2) e in
    ap some_sum_of (words_of-after_spaces leading)
    ∙ sum_of-no_digit t1 leading.longest (subst (NotFirst Digit) (sym same) number.longest)

-- no name: no duration
no_name : {t3 name t4 : List ℕ} (digits : List ℕ) → NotFirst Space t3 → SplitsRun t3 Other name t4 → name ≡ []
    → some_sum_of (run Digit digits ∷ words_of t3) ≡ None
no_name {t3} {name} {t4} digits s word e =
    let same : t3 ≡ t4 = word.joined ∙ ap (λ d. d ++ t4) e in
    sum_of-no_unit digits t3 s (subst (NotFirst Other) (sym same) word.longest)

words_of-digits : {text s1 t1 digits t2 s3 t3 : List ℕ} → SplitsRun text Space s1 t1
    → SplitsRun t1 Digit digits t2 → SplitsRun t2 Space s3 t3 → 0 < length digits
    → words_of text ≡ run Digit digits ∷ words_of t3
words_of-digits {text} {s1} {t1} {digits} {t2} leading number between h =
    words_of-after_spaces leading
    ∙ words_of-after_run Digit (λ e. cc) t1 digits t2 h number
    ∙ ap (λ rs. run Digit digits ∷ rs) (words_of-after_spaces between)

-- no unit of this name: no duration
pub no_unit : {text s1 t1 digits t2 s3 t3 name t4 : List ℕ} → SplitsRun text Space s1 t1
    → SplitsRun t1 Digit digits t2 → SplitsRun t2 Space s3 t3 → SplitsRun t3 Other name t4 → 0 < length digits
    → unit_size name ≡ None → some_sum_of (words_of text) ≡ None
no_unit {digits = digits} {t3 = t3} {name = name} {t4 = t4} leading number between word h none =
    ap some_sum_of (words_of-digits leading number between h) ∙ by_name name word none
  where
    by_name : (name : List ℕ) → SplitsRun t3 Other name t4 → unit_size name ≡ None
        → some_sum_of (run Digit digits ∷ words_of t3) ≡ None
    by_name [] word none = no_name digits between.longest word refl
    by_name (b ∷ bs) word none =
        ap (λ rs. some_sum_of (run Digit digits ∷ rs))
        (words_of-after_run Other (λ e. cc) t3 (b ∷ bs) t4 (omega arith) word)
        ∙ sum_of-pair digits (b ∷ bs) (words_of t4)
        ∙ ap (option_and_then (λ size. option_map (λ n. digits_value 10 digits * size + n) (sum_of (words_of t4)))) none

unit_size-nil : unit_size [] ≡ None
unfolding unit_size duration_units
unit_size-nil = refl

-- an item
pub takes_item : {text s1 t1 digits t2 s3 t3 name t4 s5 rest : List ℕ} → SplitsRun text Space s1 t1
    → SplitsRun t1 Digit digits t2 → SplitsRun t2 Space s3 t3 → SplitsRun t3 Other name t4
    → SplitsRun t4 Space s5 rest → 0 < length digits → (size : ℕ) → unit_size name ≡ Some size
    → TakesItem text (within_limit (digits_value 10 digits * size)) rest
takes_item {text} {s1} {t1} {digits} {t2} {s3} {t3} {name} {t4} {s5} {rest} leading number between word
    trailing h size found = record {
      n = digits_value 10 digits * size;
      amount_is = refl;
      sum_is =
          ap some_sum_of (words_of-digits leading number between h)
          ∙ by_name name word found
          ∙ ap (λ rs. option_map (λ n. digits_value 10 digits * size + n) (sum_of rs)) (words_of-after_spaces trailing);
      tight = words_of-tight rest trailing.longest;
      shorter = omega (arith, lengths leading, lengths number, lengths between, lengths word, lengths trailing);
    }
  where
    lengths : {a f r : List ℕ} {k : ByteKind} → SplitsRun a k f r → length a ≡ length f + length r
    lengths {a} {f} {r} s = ap length s.joined ∙ length-append f r

    by_name : (name : List ℕ) → SplitsRun t3 Other name t4 → unit_size name ≡ Some size
        → some_sum_of (run Digit digits ∷ words_of t3)
        ≡ option_map (λ n. digits_value 10 digits * size + n) (sum_of (words_of t4))
    by_name [] word found = let bad : None ≡ Some size = sym unit_size-nil ∙ found in absurd (none-some size bad)
    by_name (b ∷ bs) word found =
        ap (λ rs. some_sum_of (run Digit digits ∷ rs))
        (words_of-after_run Other (λ e. cc) t3 (b ∷ bs) t4 (omega arith) word)
        ∙ sum_of-pair digits (b ∷ bs) (words_of t4)
        ∙ ap (option_and_then (λ size. option_map (λ n. digits_value 10 digits * size + n)
        (sum_of (words_of t4)))) found

-- ---- units

pub false_from : (b : Bool) → (b ≡ true → ⊥) → b ≡ false
false_from true h = absurd (h refl)
false_from false h = refl

lookup-positive : (name : List ℕ) (units : List (List ℕ × ℕ))
    → list_all (λ unit. nat_lt 0 unit.1) units ≡ true
    → IfSome (lookup (λ unit. bytes_eq unit name) units) (λ size. 0 < size)
lookup-positive name [] h = tt
lookup-positive name (unit ∷ units) h =
    let parts = and_parts (nat_lt 0 unit.1) _ h in
    let later = lookup-positive name units parts.1 in
    elim (bytes_eq unit.0 name) as
    (λ b. IfSome (cond b (Some unit.1) (lookup (λ u. bytes_eq u name) units)) (λ size. 0 < size))
    [ true ↦ ltb-true _ _ parts.0 | false ↦ later ]

-- no unit is of no length
pub unit_size-positive : (name : List ℕ) → IfSome (unit_size name) (λ size. 0 < size)
unfolding unit_size duration_units
unit_size-positive name = lookup-positive name duration_units refl

-- what `is_empty` says of a list
pub empty_length : (xs : List ℕ) → (length xs == 0) ≡ true → xs ≡ []
empty_length [] h = refl
empty_length (x ∷ xs) h = let e = eqb-true (length (x ∷ xs)) 0 h in absurd (omega arith)

pub positive_length : (xs : List ℕ) → (length xs == 0) ≡ false → 0 < length xs
positive_length xs h = let e = eqb-false (length xs) 0 h in omega arith

-- ---- the sum of the items

-- the total so far, and the items that are left
pub more_items : (m n : ℕ) (left rest : Option ℕ) → left ≡ option_map (λ k. n + k) rest
    → option_map (λ k. m + k) left ≡ option_map (λ k. m + n + k) rest
more_items m n left None e = ap (option_map (λ k. m + k)) e
more_items m n left (Some k) e = ap (option_map (λ k. m + k)) e ∙ ap Some (omega arith)

pub some_sum_of-sum_of : (text : List ℕ) → (words_of text ≡ [] → text ≡ []) → 0 < length text
    → some_sum_of (words_of text) ≡ sum_of (words_of text)
some_sum_of-sum_of text tight h = by_words (words_of text) (λ e. omega (arith, ap length (tight e)))
  where
    by_words : (rs : List ByteRun) → (rs ≡ [] → ⊥) → some_sum_of rs ≡ sum_of rs
    by_words [] n = absurd (n refl)
    by_words (r ∷ rs) n = some_sum_of-cons r rs

-- after the last item nothing is left
pub last_item : (m n : ℕ) (after : List ℕ) → after ≡ []
    → option_map (λ k. m + n + k) (sum_of (words_of after)) ≡ Some (m + n)
last_item m n after e =
    ap (λ text. option_map (λ k. m + n + k) (sum_of (words_of text))) e
    ∙ ap (λ rs. option_map (λ k. m + n + k) (sum_of rs)) words_of-nil
    ∙ ap (option_map (λ k. m + n + k)) sum_of-nil
    ∙ ap Some (omega arith)
