-- The first line that defines a name, of the lines before another one.
use Rattle.std.proofs.Common.{◌≡◌, ◌<◌, ◌≤◌, ◌+◌, ◌&&◌, ℕ, Bool, true, false, not, List, Option, None, Some, refl, sym, ◌∙◌, ap, subst, arith, true≢false, inl, inr}
use Rattle.std.specs.Prelude.{slice_get, if◌then◌else◌}
use Rattle.std.specs.Str.{bytes_eq, trim}
use Rattle.std.proofs.lemmas.Bool.{cases_lt}
use Rattle.rinqebo_faults.specs.Meant.{IsDefinition, IsFirstDefinition, defines, first_behind, has_key, is_header, or_here}

-- among no lines there is none
pub none_first : (text : List (List ℕ)) (name : List ℕ) → IsFirstDefinition text 0 name None
none_first text name = λ place is. let h = is.before in absurd (omega arith)

clash : (b : Bool) → b ≡ true → b ≡ false → ⊥
clash b p q = true≢false (sym p ∙ q)

same_line : (one other : List ℕ) (o : Option (List ℕ)) → o ≡ Some one → o ≡ Some other → one ≡ other
same_line one other o p q = cc

-- a line that begins a table defines no key
header_apart : (line name : List ℕ) → is_header line ≡ true → is_header name ≡ false
    → defines line name ≡ false
unfolding defines
header_apart line name table key =
    ap (λ b. if b then bytes_eq line name else not (is_header line) && has_key line name) key
    ∙ ap (λ b. not b && has_key line name) table

-- a definition before a line is one before the next, unless that line begins another table
kept : (text : List (List ℕ)) (n : ℕ) (name line : List ℕ) → slice_get text n ≡ Some line
    → (is_header name ≡ false → is_header (trim line) ≡ false) → (place : ℕ)
    → IsDefinition text n name place → IsDefinition text (n + 1) name place
kept text n name line here plain place is =
    record {
      before = let h = is.before in omega arith;
      line = is.line;
      is = is.is;
      here = is.here;
      same_table = λ key other behind after before there.
          elim (cases_lt other n) [
            | inl low ↦ is.same_table key other behind after low there
            | inr high ↦
                let last : other ≡ n = omega arith in
                let same : line ≡ behind = same_line line behind (slice_get text n) here
                (ap (slice_get text) (sym last) ∙ there) in
                subst (λ (l : List ℕ). is_header (trim l) ≡ false) same (plain key)
          ];
    }

-- a definition before the next line is one before a line, if it is that of an earlier line
earlier : (text : List (List ℕ)) (n m : ℕ) (name : List ℕ) (place : ℕ) → n ≤ m → place < n
    → IsDefinition text m name place → IsDefinition text n name place
earlier text n m name place less low is =
    record {
      before = low;
      line = is.line;
      is = is.is;
      here = is.here;
      same_table = λ key other behind after before there.
          is.same_table key other behind after (omega arith) there;
    }

-- at the next line, where that begins another table
at_table : (text : List (List ℕ)) (n : ℕ) (name line : List ℕ) → slice_get text n ≡ Some line
    → is_header (trim line) ≡ true → is_header name ≡ false
    → IsFirstDefinition text (n + 1) name None
at_table text n name line here table key = λ place is.
    elim (cases_lt place n) [
      | inl low ↦ clash (is_header (trim line)) table
          (is.same_table key n line low (omega arith) here)
      | inr high ↦
          let b = is.before in
          let last : place ≡ n = omega arith in
          let same : is.line ≡ line = same_line is.line line (slice_get text n)
          (ap (slice_get text) (sym last) ∙ is.is) here in
          clash (defines (trim is.line) name) is.here
          (ap (λ l. defines (trim l) name) same ∙ header_apart (trim line) name table key)
    ]

-- at any other line
at_line : (text : List (List ℕ)) (n : ℕ) (name line : List ℕ) (first : Option ℕ) (d : Bool)
    → slice_get text n ≡ Some line → (is_header name ≡ false → is_header (trim line) ≡ false)
    → defines (trim line) name ≡ d → IsFirstDefinition text n name first
    → IsFirstDefinition text (n + 1) name (or_here first (if d then Some n else None))
at_line text n name line (Some f) d here plain is (there, none) = (
  kept text n name line here plain f there,
  λ place low own. none place low
      (let b = there.before in earlier text n (n + 1) name place (omega arith) (omega arith) own),
)
at_line text n name line None true here plain is none = (
  record {
    before = omega arith;
    line = line;
    is = here;
    here = is;
    same_table = λ key other behind after before there. absurd (omega arith);
  },
  λ place low own. none place (earlier text n (n + 1) name place (omega arith) low own),
)
at_line text n name line None false here plain is none = λ place own.
    elim (cases_lt place n) [
      | inl low ↦ none place (earlier text n (n + 1) name place (omega arith) low own)
      | inr high ↦
          let b = own.before in
          let last : place ≡ n = omega arith in
          let same : own.line ≡ line = same_line own.line line (slice_get text n)
          (ap (slice_get text) (sym last) ∙ own.is) here in
          clash (defines (trim own.line) name) own.here (ap (λ l. defines (trim l) name) same ∙ is)
    ]

step_by : (text : List (List ℕ)) (n : ℕ) (name line : List ℕ) (first : Option ℕ) (h k : Bool)
    → is_header (trim line) ≡ h → is_header name ≡ k
    → slice_get text n ≡ Some line → IsFirstDefinition text n name first
    → IsFirstDefinition text (n + 1) name
    (if h && not k then None else or_here first (if defines (trim line) name then Some n else None))
step_by text n name line first true false eh ek here is = at_table text n name line here eh ek
step_by text n name line first true true eh ek here is =
    at_line text n name line first _ here (λ key. absurd (clash (is_header name) ek key)) refl is
step_by text n name line first false k eh ek here is =
    at_line text n name line first _ here (λ key. eh) refl is

-- what is first before the next line
pub step_first : (text : List (List ℕ)) (n : ℕ) (name line : List ℕ) (first : Option ℕ)
    → slice_get text n ≡ Some line → IsFirstDefinition text n name first
    → IsFirstDefinition text (n + 1) name (first_behind first n (trim line) name)
step_first text n name line first here is = step_by text n name line first _ _ refl refl here is

within : (text : List (List ℕ)) (n end : ℕ) (name : List ℕ) (place : ℕ)
    → ((other : ℕ) (line : List ℕ) → n ≤ other → other < end → slice_get text other ≡ Some line → ⊥)
    → IsDefinition text end name place → place < n
within text n end name place none is =
    elim (cases_lt place n) [
      | inl low ↦ low
      | inr high ↦ absurd (none place is.line high is.before is.is)
    ]

later : (text : List (List ℕ)) (n end : ℕ) (name : List ℕ) (place : ℕ) → n ≤ end
    → ((other : ℕ) (line : List ℕ) → n ≤ other → other < end → slice_get text other ≡ Some line → ⊥)
    → IsDefinition text n name place → IsDefinition text end name place
later text n end name place less none is =
    record {
      before = let b = is.before in omega arith;
      line = is.line;
      is = is.is;
      here = is.here;
      same_table = λ key other behind after before there.
          elim (cases_lt other n) [
            | inl low ↦ is.same_table key other behind after low there
            | inr high ↦ absurd (none other behind high before there)
          ];
    }

-- what is first before a line is so before a later one, if no line is from there to that one
pub whole_first : (text : List (List ℕ)) (n end : ℕ) (name : List ℕ) (first : Option ℕ) → n ≤ end
    → ((other : ℕ) (line : List ℕ) → n ≤ other → other < end → slice_get text other ≡ Some line → ⊥)
    → IsFirstDefinition text n name first → IsFirstDefinition text end name first
whole_first text n end name None less none is = λ place own.
    is place (earlier text n end name place less (within text n end name place none own) own)
whole_first text n end name (Some f) less none (there, before) = (
  later text n end name f less none there,
  λ place low own. before place low
      (earlier text n end name place less (within text n end name place none own) own),
)
