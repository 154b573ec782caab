-- The function of durations gives a number of nanoseconds exactly if the grammar does.
use Rattle.std.proofs.Common.{◌≡◌, ◌↔◌, ℕ, ◌+◌, ◌*◌, ◌<◌, ◌≤◌, zero, suc, Bool, true, false, cond, ◌&&◌, List, [], ◌∷◌, ◌++◌, length, get_or, refl, sym, ap, subst, ◌∙◌, inl, inr, append_assoc, arith, All, nat_lt}
use Rattle.std.specs.Prelude.{Option, Some, None, option_map, option_and_then, flat_map, sum_by, codes, nat_eq, nat_le, Result, Ok, Err, IfOk}
use Rattle.std.specs.Option.{ok_or}
use Rattle.std.specs.List.{list_all}
use Rattle.std.specs.Str.{bytes_eq}
use Rattle.std.specs.Str.Parse.{IsNumeral, AllDigits, digits_value}
use Rattle.std.proofs.lemmas.Bool.{false≢true, ltb-true, eqb-true}
use Rattle.std.proofs.lemmas.Bool.Decides.{nat_tests}
use Rattle.std.proofs.lemmas.List.{append-nil}
use Rattle.std.proofs.lemmas.List.Elements.{All-head, All-tail, All-cons}
use Rattle.std.proofs.lemmas.List.Sums.{sum_by-cons}
use Rattle.std.proofs.lemmas.Map.Views.{Contains-from_lookup}
use Rattle.std.proofs.lemmas.Option.{option_and_then_some, none-some, same_Some}
use Rattle.std.proofs.lemmas.Slice.Eq.{bytes_eq-Decides}
use Rattle.nextest_elements.specs.declared.duration.ByteKind.{ByteKind}
use Rattle.nextest_elements.specs.declared.duration.ByteKind.TheVariants.{Space, Digit, Other}
use Rattle.nextest_elements.specs.declared.duration.DurationError.{DurationError}
use Rattle.nextest_elements.specs.declared.duration.DurationError.TheVariants.{Malformed, OutOfRange}
use Rattle.nextest_elements.specs.DurationSteps.{within_limit, NotFirst}
use Rattle.nextest_elements.specs.Duration.{longest_duration, duration_units, IsUnit, Item, IsItem, spaces, spelling, nanoseconds, IsRow, IsDuration}
use Rattle.nextest_elements.specs.DurationFunction.{duration_result, byte_kind, same_kind, ByteRun, run, with_byte, runs, without_spaces, words_of, sum_of, some_sum_of, unit_size, duration_of}
use Rattle.nextest_elements.proofs.Durations.{AreOf, byte_kind-digit, byte_kind-space, byte_kind-from_digit_value, digit_value-digit, words_of-spaces, words_of-run, words_of-nil, sum_of-nil, some_sum_of-cons, sum_of-pair, false_from}

-- ---- units

and_parts : (a b : Bool) → (a && b) ≡ true → (a ≡ true) × (b ≡ true)
and_parts true b h = (refl, h)
and_parts false b h = absurd (false≢true h)

-- a row of a table whose rows all pass
each_row : (test : List ℕ × ℕ → Bool) (es : List (List ℕ × ℕ)) (e : List ℕ × ℕ) (k : ℕ)
    → list_all test es ≡ true → k < length es → get_or es k e ≡ e → test e ≡ true
each_row test [] e k h l c = absurd (omega arith)
each_row test (x ∷ es) e zero h l c = subst (λ y. test y ≡ true) c (and_parts (test x) _ h).0
each_row test (x ∷ es) e (suc k) h l c = each_row test es e k (and_parts (test x) _ h).1 (omega arith) c

other_kind : (k : ByteKind) → same_kind Other k ≡ true → k ≡ Other
other_kind Space h = absurd (false≢true h)
other_kind Digit h = absurd (false≢true h)
other_kind Other h = refl

AreOf-from_test : (bs : List ℕ) → list_all (λ b. same_kind Other (byte_kind b)) bs ≡ true → AreOf Other bs
AreOf-from_test [] h = tt
AreOf-from_test (b ∷ bs) h =
    let parts = and_parts (same_kind Other (byte_kind b)) _ h in
    (other_kind (byte_kind b) parts.0, AreOf-from_test bs parts.1)

abbrev is_size : Option ℕ → ℕ → Bool
is_size None size = false
is_size (Some n) size = nat_eq n size

is_size-true : (found : Option ℕ) (size : ℕ) → is_size found size ≡ true → found ≡ Some size
is_size-true None size h = absurd (false≢true h)
is_size-true (Some n) size h = ap Some (eqb-true n size h)

-- a name with no space and no digit, which the look-up finds
abbrev is_word : List ℕ × ℕ → Bool
is_word e = list_all (λ b. same_kind Other (byte_kind b)) e.0 && (nat_lt 0 (length e.0) && is_size (unit_size e.0) e.1)

words : list_all is_word duration_units ≡ true
unfolding duration_units unit_size
words = refl

record IsWord (name : List ℕ) (size : ℕ) : Type 0 where
  bytes : AreOf Other name
  some : 0 < length name
  found : unit_size name ≡ Some size

IsWord-from_IsUnit : (name : List ℕ) (size : ℕ) → IsUnit name size → IsWord name size
IsWord-from_IsUnit name size u =
    let passes = each_row is_word duration_units (name, size) u.0 words u.1 u.2 in
    let parts = and_parts (list_all (λ b. same_kind Other (byte_kind b)) name) _ passes in
    let more = and_parts (nat_lt 0 (length name)) _ parts.1 in
    record {
      bytes = AreOf-from_test name parts.0;
      some = ltb-true _ _ more.0;
      found =
          is_size-true (unit_size name) size more.1;
    }

IsUnit-from_unit_size : (name : List ℕ) (size : ℕ) → unit_size name ≡ Some size → IsUnit name size
unfolding unit_size
IsUnit-from_unit_size name size h =
    Contains-from_lookup {eq = λ a b. bytes_eq b a} (λ x y e. sym ((bytes_eq-Decides y x).0 e)) name size
    duration_units h

-- ---- numbers

AllDigits-from_AreOf : (ds : List ℕ) → AreOf Digit ds → AllDigits 10 ds
AllDigits-from_AreOf [] h = tt
AllDigits-from_AreOf (d ∷ ds) h =
    let range = byte_kind-digit d h.0 in
    let value = digit_value-digit d range.0 range.1 in
    (omega (arith, value), AllDigits-from_AreOf ds h.1)

AreOf-from_AllDigits : (ds : List ℕ) → AllDigits 10 ds → AreOf Digit ds
AreOf-from_AllDigits [] h = tt
AreOf-from_AllDigits (d ∷ ds) h = (byte_kind-from_digit_value d h.0, AreOf-from_AllDigits ds h.1)

-- ---- from the grammar to the function

AreOf-spaces : (n : ℕ) → AreOf Space (spaces n)
AreOf-spaces zero = tt
AreOf-spaces (suc n) = (refl, AreOf-spaces n)

-- what follows an item begins with a space or a digit, or is empty
not_other : (items : List Item) (after : ℕ) → All IsItem items
    → NotFirst Other (flat_map spelling items ++ spaces after)
not_other [] zero h = tt
not_other [] (suc n) h = λ e. cc
not_other (item ∷ items) after h = starts item.before item.digits (All-head IsItem item items h).number
  where
    starts : (before : ℕ) (digits : List ℕ) → IsNumeral 10 digits
        → NotFirst Other (((spaces before ++ (digits ++ (spaces item.between ++ item.unit)))
        ++ flat_map spelling items) ++ spaces after)
    starts zero [] number = absurd (omega (arith, number.0))
    starts zero (d ∷ ds) number = λ e. let digit = byte_kind-from_digit_value d number.1.0 in cc
    starts (suc n) digits number = λ e. cc

-- what follows the digits of an item does not begin with a digit
not_digit : (between : ℕ) (unit rest : List ℕ) → AreOf Other unit → 0 < length unit
    → NotFirst Digit (spaces between ++ (unit ++ rest))
not_digit zero [] rest h l = absurd (omega arith)
not_digit zero (b ∷ bs) rest h l = λ e. let other = h.0 in cc
not_digit (suc n) unit rest h l = λ e. cc

words_of-item : (before : ℕ) (digits : List ℕ) (between : ℕ) (unit rest : List ℕ) → IsNumeral 10 digits
    → AreOf Other unit → 0 < length unit → NotFirst Other rest
    → words_of (spaces before ++ (digits ++ (spaces between ++ (unit ++ rest)))) ≡ run Digit digits
    ∷ run Other unit ∷ words_of rest
words_of-item before [] between unit rest number o l n = absurd (omega (arith, number.0))
words_of-item before (d ∷ ds) between [] rest number o l n = absurd (omega arith)
words_of-item before (d ∷ ds) between (b ∷ bs) rest number o l n =
    words_of-spaces (spaces before) _ (AreOf-spaces before)
    ∙ words_of-run Digit d ds _ (λ e. cc) (AreOf-from_AllDigits (d ∷ ds) number.1) (not_digit between (b ∷ bs) rest o l)
    ∙ ap (λ rs. run Digit (d ∷ ds) ∷ rs)
    (words_of-spaces (spaces between) _ (AreOf-spaces between) ∙ words_of-run Other b bs rest (λ e. cc) o n)

regroup : (a b c d e f : List ℕ) → ((a ++ (b ++ (c ++ d))) ++ e) ++ f ≡ a ++ (b ++ (c ++ (d ++ (e ++ f))))
regroup a b c d e f = simp append_assoc

words_of-items : (item : Item) (items : List Item) (after : ℕ) → All IsItem (item ∷ items)
    → words_of (flat_map spelling (item ∷ items) ++ spaces after) ≡ run Digit item.digits
    ∷ run Other item.unit ∷ words_of (flat_map spelling items ++ spaces after)
words_of-items item items after h =
    let this = All-head IsItem item items h in
    let word = IsWord-from_IsUnit item.unit item.size this.sized in
    ap words_of (regroup (spaces item.before) item.digits (spaces item.between) item.unit
    (flat_map spelling items) (spaces after))
    ∙ words_of-item item.before item.digits item.between item.unit _ this.number word.bytes word.some
    (not_other items after (All-tail IsItem item items h))

sum_of-items : (items : List Item) (after : ℕ) → All IsItem items
    → sum_of (words_of (flat_map spelling items ++ spaces after)) ≡ Some (sum_by nanoseconds items)
sum_of-items [] after h =
    ap (λ text. sum_of (words_of text)) (sym (append-nil (spaces after)))
    ∙ ap sum_of (words_of-spaces (spaces after) [] (AreOf-spaces after) ∙ words_of-nil)
    ∙ sum_of-nil
sum_of-items (item ∷ items) after h =
    let rest = flat_map spelling items ++ spaces after in
    let word = IsWord-from_IsUnit item.unit item.size (All-head IsItem item items h).sized in
    ap sum_of (words_of-items item items after h)
    ∙ sym (some_sum_of-cons _ _) ∙ sum_of-pair item.digits item.unit (words_of rest)
    ∙ ap (option_and_then (λ size. option_map (λ n. digits_value 10 item.digits * size + n)
    (sum_of (words_of rest)))) word.found
    ∙ ap (option_map (λ n. nanoseconds item + n)) (sum_of-items items after (All-tail IsItem item items h))
    ∙ ap Some (sym (sum_by-cons nanoseconds item items))

some_sum_of-items : (items : List Item) (after : ℕ) → 0 < length items → All IsItem items
    → some_sum_of (words_of (flat_map spelling items ++ spaces after)) ≡ Some (sum_by nanoseconds items)
some_sum_of-items [] after l h = absurd (omega arith)
some_sum_of-items (item ∷ items) after l h =
    let words = words_of-items item items after h in
    ap some_sum_of words ∙ some_sum_of-cons _ _ ∙ ap sum_of (sym words) ∙ sum_of-items (item ∷ items) after h

-- ---- from the function to the grammar

-- the bytes of runs
abbrev flat : List ByteRun → List ℕ
flat [] = []
flat (run k bytes ∷ rs) = bytes ++ flat rs

-- each run has a byte, and its bytes are of its kind
abbrev AreMade : List ByteRun → Type 0
AreMade [] = Unit {0}
AreMade (run k bytes ∷ rs) = AreOf k bytes × (0 < length bytes) × AreMade rs

flat-with_byte : (k : ByteKind) (b : ℕ) (rs : List ByteRun) → flat (with_byte k b rs) ≡ b ∷ flat rs
flat-with_byte k b [] = refl
flat-with_byte Space b (run Space bytes ∷ rs) = refl
flat-with_byte Space b (run Digit bytes ∷ rs) = refl
flat-with_byte Space b (run Other bytes ∷ rs) = refl
flat-with_byte Digit b (run Space bytes ∷ rs) = refl
flat-with_byte Digit b (run Digit bytes ∷ rs) = refl
flat-with_byte Digit b (run Other bytes ∷ rs) = refl
flat-with_byte Other b (run Space bytes ∷ rs) = refl
flat-with_byte Other b (run Digit bytes ∷ rs) = refl
flat-with_byte Other b (run Other bytes ∷ rs) = refl

AreMade-with_byte : (k : ByteKind) (b : ℕ) (rs : List ByteRun) → byte_kind b ≡ k → AreMade rs
    → AreMade (with_byte k b rs)
AreMade-with_byte k b [] e h = ((e, tt), (omega arith), tt)
AreMade-with_byte Space b (run Space bytes ∷ rs) e h = ((e, h.0), (omega arith), h.2)
AreMade-with_byte Space b (run Digit bytes ∷ rs) e h = ((e, tt), (omega arith), h)
AreMade-with_byte Space b (run Other bytes ∷ rs) e h = ((e, tt), (omega arith), h)
AreMade-with_byte Digit b (run Space bytes ∷ rs) e h = ((e, tt), (omega arith), h)
AreMade-with_byte Digit b (run Digit bytes ∷ rs) e h = ((e, h.0), (omega arith), h.2)
AreMade-with_byte Digit b (run Other bytes ∷ rs) e h = ((e, tt), (omega arith), h)
AreMade-with_byte Other b (run Space bytes ∷ rs) e h = ((e, tt), (omega arith), h)
AreMade-with_byte Other b (run Digit bytes ∷ rs) e h = ((e, tt), (omega arith), h)
AreMade-with_byte Other b (run Other bytes ∷ rs) e h = ((e, h.0), (omega arith), h.2)

flat-runs : (text : List ℕ) → flat (runs text) ≡ text
unfolding runs
flat-runs [] = refl
flat-runs (b ∷ rest) = flat-with_byte (byte_kind b) b (runs rest) ∙ ap (λ bs. b ∷ bs) (flat-runs rest)

AreMade-runs : (text : List ℕ) → AreMade (runs text)
unfolding runs
AreMade-runs [] = tt
AreMade-runs (b ∷ rest) = AreMade-with_byte (byte_kind b) b (runs rest) refl (AreMade-runs rest)

-- the text is a row of items, which may be none
record Row (text : List ℕ) (n : ℕ) : Type 0 where
  items : List Item
  after : ℕ
  is : IsRow items after text n

Row-nil : Row [] 0
Row-nil = record {
  items = [];
  after = 0;
  is =
      record { each = λ k d l. absurd (omega arith); spelled = refl; total = refl };
}

Row-space : (text : List ℕ) (n : ℕ) → Row text n → Row (32 ∷ text) n
Row-space text n row = more row.items row.after row.is
  where
    more : (items : List Item) (after : ℕ) → IsRow items after text n → Row (32 ∷ text) n
    more [] after is = record {
      items = [];
      after = suc after;
      is = record {
        each = is.each;
        spelled = ap (λ bs. 32 ∷ bs) is.spelled;
        total = is.total;
      };
    }
    more (item ∷ items) after is =
        let wider : Item = record item { before = suc item.before } in
        let this = All-head IsItem item items is.each in
        record {
          items = wider ∷ items;
          after = after;
          is = record {
            each = All-cons IsItem wider items (record { number = this.number; sized = this.sized })
                (All-tail IsItem item items is.each);
            spelled = ap (λ bs. 32 ∷ bs) is.spelled;
            total = is.total;
          };
        }

Row-spaces : (front text : List ℕ) (n : ℕ) → AreOf Space front → Row text n → Row (front ++ text) n
Row-spaces [] text n h row = row
Row-spaces (b ∷ bs) text n h row =
    subst (λ c. Row (c ∷ (bs ++ text)) n) (sym (byte_kind-space b h.0))
    (Row-space (bs ++ text) n (Row-spaces bs text n h.1 row))

-- a number, spaces and a unit before a row
Row-item : (digits : List ℕ) (between : ℕ) (unit : List ℕ) (size : ℕ) (text : List ℕ) (n : ℕ)
    → IsNumeral 10 digits → IsUnit unit size → Row text n
    → Row (digits ++ (spaces between ++ (unit ++ text))) (digits_value 10 digits * size + n)
Row-item digits between unit size text n number sized row =
    let item : Item = record { before = 0; digits = digits; between = between; unit = unit; size = size } in
    record {
      items = item ∷ row.items;
      after = row.after;
      is = record {
        each = All-cons IsItem item row.items (record { number = number; sized = sized }) row.is.each;
        spelled =
            ap (λ t. digits ++ (spaces between ++ (unit ++ t))) row.is.spelled
            ∙ sym (regroup [] digits (spaces between) unit (flat_map spelling row.items) (spaces row.after));
        total = ap (λ m. digits_value 10 digits * size + m) row.is.total ∙ sym (sum_by-cons nanoseconds item row.items);
      };
    }

-- spaces and more spaces
spaces-more : (between : ℕ) (front text : List ℕ) → AreOf Space front
    → (m : ℕ) × (spaces between ++ (front ++ text) ≡ spaces m ++ text)
spaces-more between [] text h = (between, refl)
spaces-more between (b ∷ bs) text h =
    let more = spaces-more (suc between) bs text h.1 in (
      more.0,
      ap (λ c. spaces between ++ (c ∷ (bs ++ text))) (byte_kind-space b h.0)
          ∙ shift between (bs ++ text) ∙ more.1,
    )
  where
    shift : (n : ℕ) (t : List ℕ) → spaces n ++ (32 ∷ t) ≡ 32 ∷ (spaces n ++ t)
    shift zero t = refl
    shift (suc n) t = ap (λ bs. 32 ∷ bs) (shift n t)

-- an item whose unit is found, before what has a sum
Row-found : (digits : List ℕ) (between : ℕ) (unit : List ℕ) (size : ℕ) (text : List ℕ) (rest : Option ℕ)
    (n : ℕ) → IsNumeral 10 digits → unit_size unit ≡ Some size → ((m : ℕ) → rest ≡ Some m → Row text m)
    → option_map (λ m. digits_value 10 digits * size + m) rest ≡ Some n
    → Row (digits ++ (spaces between ++ (unit ++ text))) n
Row-found digits between unit size text None n number found rows e = absurd (none-some n e)
Row-found digits between unit size text (Some m) n number found rows e =
    subst (Row (digits ++ (spaces between ++ (unit ++ text)))) (same_Some (digits_value 10 digits * size + m) n e)
    (Row-item digits between unit size text m number (IsUnit-from_unit_size unit size found) (rows m refl))

-- what runs say whose sum is known: as they are, and behind the digits of an item and spaces
record Reads (rs : List ByteRun) : Type 0 where
  row : (n : ℕ) → sum_of (without_spaces rs) ≡ Some n → Row (flat rs) n
  behind : (digits : List ℕ) (between n : ℕ) → IsNumeral 10 digits
      → sum_of (run Digit digits ∷ without_spaces rs) ≡ Some n → Row (digits ++ (spaces between ++ flat rs)) n

reads : (rs : List ByteRun) → AreMade rs → Reads rs
unfolding sum_of without_spaces
reads [] made = record {
  row = λ n e. subst (Row []) (same_Some 0 n e) Row-nil;
  behind = λ digits between n number e. absurd (none-some n e);
}
reads (run Space bytes ∷ rs) made =
    let rest = reads rs made.2 in
    record {
      row = λ n e. Row-spaces bytes (flat rs) n made.0 (rest.row n e);
      behind = λ digits between n number e.
          let more = spaces-more between bytes (flat rs) made.0 in
          subst (λ t. Row (digits ++ t) n) (sym more.1) (rest.behind digits more.0 n number e);
    }
reads (run Digit bytes ∷ rs) made =
    let rest = reads rs made.2 in
    record {
      row = λ n e. rest.behind bytes 0 n (made.1, AllDigits-from_AreOf bytes made.0) e;
      behind = λ digits between n number e. absurd (none-some n e);
    }
reads (run Other bytes ∷ rs) made =
    let rest = reads rs made.2 in
    record {
      row = λ n e. absurd (none-some n e);
      behind = λ digits between n number e.
          option_and_then_some (λ size. option_map (λ m. digits_value 10 digits * size + m)
          (sum_of (without_spaces rs))) (unit_size bytes) n e
          (λ size found e'. Row-found digits between bytes size (flat rs) (sum_of (without_spaces rs)) n
          number found rest.row e');
    }

-- ---- the law

some_sum_of-nil : some_sum_of [] ≡ None
unfolding some_sum_of
some_sum_of-nil = refl

some_sum_of-some : (rs : List ByteRun) (n : ℕ) → some_sum_of rs ≡ Some n → sum_of rs ≡ Some n
unfolding some_sum_of
some_sum_of-some [] n e = absurd (none-some n e)
some_sum_of-some (r ∷ rs) n e = e

-- the digit 0 alone is not a row of items
zero_alone : some_sum_of (words_of (codes "0")) ≡ None
unfolding some_sum_of sum_of words_of runs without_spaces
zero_alone = refl

pub duration_of-words : (text : List ℕ) → bytes_eq text (codes "0") ≡ false
    → duration_of text ≡ some_sum_of (words_of text)
unfolding duration_of
duration_of-words text h = rw h refl

pub duration_of-zero : (text : List ℕ) → text ≡ codes "0" → duration_of text ≡ Some 0
unfolding duration_of
duration_of-zero text h = rw h refl

-- a sum of items is that of a row
IsDuration-from_sum : (text : List ℕ) (n : ℕ) → some_sum_of (words_of text) ≡ Some n → IsDuration text n
unfolding words_of
IsDuration-from_sum text n e =
    let row = (reads (runs text) (AreMade-runs text)).row n (some_sum_of-some (words_of text) n e) in
    let is = subst (λ t. IsRow row.items row.after t n) (flat-runs text) row.is in
    inr (row.items, row.after, some row.items is, is)
  where
    some : (items : List Item) {after : ℕ} → IsRow items after text n → 0 < length items
    some [] {after} is =
        let nothing : words_of text ≡ [] =
        ap words_of (is.spelled ∙ sym (append-nil (spaces after)))
        ∙ words_of-spaces (spaces after) [] (AreOf-spaces after) ∙ words_of-nil in
        absurd (none-some n (sym some_sum_of-nil ∙ ap some_sum_of (sym nothing) ∙ e))
    some (item ∷ items) is = omega arith

sum-from_IsRow : (items : List Item) (after : ℕ) (text : List ℕ) (n : ℕ) → 0 < length items
    → IsRow items after text n → some_sum_of (words_of text) ≡ Some n
sum-from_IsRow items after text n l is =
    ap (λ t. some_sum_of (words_of t)) is.spelled ∙ some_sum_of-items items after l is.each ∙ ap Some (sym is.total)

-- The function gives n nanoseconds exactly if the text means n nanoseconds.
pub grammar : (text : List ℕ) (n : ℕ) → (duration_of text ≡ Some n) ↔ IsDuration text n
grammar text n = (read (bytes_eq text (codes "0")) refl, written)
  where
    read : (b : Bool) → bytes_eq text (codes "0") ≡ b → duration_of text ≡ Some n → IsDuration text n
    read true b e =
        let zero = (bytes_eq-Decides text (codes "0")).0 b in
        inl (zero, same_Some n 0 (sym e ∙ duration_of-zero text zero))
    read false b e = IsDuration-from_sum text n (sym (duration_of-words text b) ∙ e)

    row : (items : List Item) (after : ℕ) → 0 < length items → IsRow items after text n → duration_of text ≡ Some n
    row items after l is =
        let sum = sum-from_IsRow items after text n l is in
        let other = false_from (bytes_eq text (codes "0")) (λ b.
        let zero = (bytes_eq-Decides text (codes "0")).0 b in
        none-some n (sym zero_alone ∙ ap (λ t. some_sum_of (words_of t)) (sym zero) ∙ sum)) in
        duration_of-words text other ∙ sum

    written : IsDuration text n → duration_of text ≡ Some n
    written (inl h) = duration_of-zero text h.0 ∙ ap Some (sym h.1)
    written (inr h) = row h.0 h.1 h.2 h.3

-- ---- what reading a text answers

pub ok_or-within_limit : (n : ℕ) (o : Option ℕ) → o ≡ within_limit n → ok_or o OutOfRange ≡ duration_result (Some n)
ok_or-within_limit n o e = ap (λ total. ok_or total OutOfRange) e ∙ by_test (nat_le n longest_duration)
  where
    by_test : (b : Bool) → ok_or (cond b (Some n) None) OutOfRange ≡ cond b (Ok n) (Err OutOfRange)
    by_test true = refl
    by_test false = refl

-- what an answer says in the words of the grammar
pub record Answers (text : List ℕ) (answer : Result ℕ DurationError) : Type 0 where
  pub read : IfOk answer (λ n. IsDuration text n × (n ≤ longest_duration))
  pub out_of_range : answer ≡ Err OutOfRange → (n : ℕ) × IsDuration text n × (longest_duration < n)
  pub malformed : answer ≡ Err Malformed → (n : ℕ) → IsDuration text n → ⊥

pub answers : (text : List ℕ) (answer : Result ℕ DurationError) (found : Option ℕ) → duration_of text ≡ found
    → answer ≡ duration_result found → Answers text answer
answers text answer None d e = record {
  read = subst (λ r. IfOk r (λ n. IsDuration text n × (n ≤ longest_duration))) (sym e) tt;
  out_of_range = λ o. absurd (differ (sym e ∙ o));
  malformed = λ m n is. none-some n (sym d ∙ (grammar text n).1 is);
}
  where
    differ : ◌≡◌ {A = Result ℕ DurationError} (Err Malformed) (Err OutOfRange) → ⊥
    differ h = cc
answers text answer (Some n) d e = by_test (nat_le n longest_duration) refl e
  where
    is : IsDuration text n
    is = (grammar text n).0 d

    ok_err : (x : DurationError) → ◌≡◌ {A = Result ℕ DurationError} (Ok n) (Err x) → ⊥
    ok_err x h = cc

    differ : ◌≡◌ {A = Result ℕ DurationError} (Err OutOfRange) (Err Malformed) → ⊥
    differ h = cc

    by_test : (b : Bool) → nat_le n longest_duration ≡ b → answer ≡ cond b (Ok n) (Err OutOfRange) → Answers text answer
    by_test true t f = record {
      read = subst (λ r. IfOk r (λ m. IsDuration text m × (m ≤ longest_duration))) (sym f)
          (is, grind (arith, nat_tests));
      out_of_range = λ o. absurd (ok_err OutOfRange (sym f ∙ o));
      malformed = λ m k h. ok_err Malformed (sym f ∙ m);
    }
    by_test false t f = record {
      read = subst (λ r. IfOk r (λ m. IsDuration text m × (m ≤ longest_duration))) (sym f) tt;
      out_of_range = λ o. (n, is, grind (arith, nat_tests));
      malformed = λ m k h. differ (sym f ∙ m);
    }
