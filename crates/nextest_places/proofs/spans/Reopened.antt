-- A string that is opened anew.
use Rattle.std.proofs.Common.{◌≡◌, ℕ, zero, suc, ◌+◌, ◌<◌, ◌≤◌, inl, inr, Bool, true, false, ◌==◌, ◌&&◌, nat_lt, cond, List, [], ◌∷◌, ◌++◌, length, get_or, drop, Option, Some, None, option_map, refl, sym, ap, ◌∙◌, arith, length-drop}
use Rattle.std.specs.Prelude.{encode_utf8_all}
use Rattle.std.specs.List.{prefix_len}
use Rattle.std.proofs.lemmas.Bool.{cases_Bool}
use Rattle.std.proofs.lemmas.Bool.Decides.{nat_tests}
use Rattle.std.proofs.lemmas.List.{get_or-drop}
use Rattle.toml_parser.specs.Lexical.{Read, first, starts_newline}
use Rattle.toml_parser.specs.Strings.{body, escape, is_plain, one_line, prepend, quoted, special, starts_string}
use Rattle.toml_parser.proofs.StringsLemmas.{body_plain, body_special}
use Rattle.nextest_places.specs.Spans.Law.{OffsetsReopen}
use Rattle.nextest_places.specs.Spans.Offsets.{Denotes, ReadsOn, is_multi}
use Rattle.nextest_places.specs.Spans.Pieces.{IsDelim}
use Rattle.nextest_places.proofs.spans.PositionTurns.{after, not_plain_delim, some_pair, turn_end, turn_none, turn_piece, turn_plain}
use Rattle.nextest_places.proofs.spans.Escapes.{escape_within, no_content, some_first}
use Rattle.nextest_places.proofs.spans.PositionWalk.{string_delim}

drop_less : (c : ℕ) (cs : List ℕ) (k : ℕ) → length (drop (suc k) (c ∷ cs)) < length (c ∷ cs)
drop_less c cs k = omega (arith, length-drop k cs)

special_less : (delim : ℕ) (multi : Bool) (c : ℕ) (cs : List ℕ) (p : Option (List ℕ) × List ℕ) → special delim multi (c ∷ cs) ≡ Some p
    → length p.1 < length (c ∷ cs)
unfolding special
special_less delim multi c cs p e = elim (cases_Bool (c == delim)) [
  | inl here ↦ at_delim multi (rw here at e)
  | inr there ↦ elim (cases_Bool (c == 92)) [
    | inl slash ↦ by_escape (escape multi cs) refl (rw (there, slash) at e)
    | inr bare ↦ elim (cases_Bool (multi && starts_newline (c ∷ cs))) [
      | inl newline ↦
          let rest_is : cs ≡ p.1 = (some_pair {A = Option (List ℕ)} (Some (c ∷ []), cs) p (rw (there, bare, newline) at e)).1 in
          omega (arith, ap length rest_is)
      | inr none ↦ let no : None ≡ Some p = rw (there, bare, none) at e in absurd (cc)
    ]
  ]
]
  where
    count : ℕ
    count = prefix_len (λ x. x == delim) cs

    at_delim : (multi : Bool)
        → ◌≡◌ {A = Read (Option (List ℕ))}
        (cond multi (cond ((1 + count) == 3) (Some (None, drop 2 cs)) (cond (nat_lt (1 + count) 6) (Some (Some (delim ∷ []), cs)) None)) (Some (None, cs)))
        (Some p)
        → length p.1 < length (c ∷ cs)
    at_delim true e = elim (cases_Bool ((1 + count) == 3)) [
      | inl three ↦
          let rest_is : drop 2 cs ≡ p.1 = (some_pair {A = Option (List ℕ)} (None, drop 2 cs) p (rw three at e)).1 in
          omega (arith, ap length rest_is, length-drop 2 cs)
      | inr other ↦ elim (cases_Bool (nat_lt (1 + count) 6)) [
        | inl few ↦
            let rest_is : cs ≡ p.1 = (some_pair {A = Option (List ℕ)} (Some (delim ∷ []), cs) p (rw (other, few) at e)).1 in
            omega (arith, ap length rest_is)
        | inr many ↦ let no : None ≡ Some p = rw (other, many) at e in absurd (cc)
      ]
    ]
    at_delim false e = let rest_is : cs ≡ p.1 = (some_pair {A = Option (List ℕ)} (None, cs) p e).1 in omega (arith, ap length rest_is)

    by_escape : (r : Read (List ℕ)) → escape multi cs ≡ r → option_map some_first (escape multi cs) ≡ Some p → length p.1 < length (c ∷ cs)
    by_escape None is e = let no : None ≡ Some p = ap (option_map some_first) (sym is) ∙ e in absurd (cc)
    by_escape (Some q) is e =
        let rest_is : q.1 ≡ p.1 = (some_pair {A = Option (List ℕ)} (some_first q) p (ap (option_map some_first) (sym is) ∙ e)).1 in
        omega (arith, ap length rest_is, escape_within multi cs q is)

-- as many pieces as bytes are enough
special_reads : (delim : ℕ) (multi : Bool) (m c : ℕ) (cs bytes : List ℕ)
    → ((text more : List ℕ) → length text ≤ m → ReadsOn delim multi text more → body delim multi m text ≡ Some (more, []))
    → (found : Option (Option (List ℕ) × List ℕ)) → special delim multi (c ∷ cs) ≡ found → is_plain delim multi c ≡ false → length cs ≤ m
    → ReadsOn delim multi (c ∷ cs) bytes → after delim multi m found ≡ Some (bytes, [])
special_reads delim multi m c cs bytes enough None is other room on = absurd (turn_none delim multi (c ∷ cs) bytes other is on)
special_reads delim multi m c cs bytes enough (Some (None, rest)) is other room on =
    let (none, over) = turn_end delim multi (c ∷ cs) rest bytes other is on in
    rw (none, over) refl
special_reads delim multi m c cs bytes enough (Some (Some front, rest)) is other room on =
    let (more, bytes_are, next) = turn_piece delim multi (c ∷ cs) front rest bytes other is on in
    let less = special_less delim multi c cs (Some front, rest) is in
    ap (prepend front) (enough rest more (omega (arith, less, room)) next) ∙ ap (λ (xs : List ℕ). Some (xs, [])) (sym bytes_are)

pub reads_enough : (delim : ℕ) (multi : Bool) → IsDelim delim → (m : ℕ) (text bytes : List ℕ) → length text ≤ m → ReadsOn delim multi text bytes
    → body delim multi m text ≡ Some (bytes, [])
reads_enough delim multi is m [] bytes room on = absurd (no_content delim multi bytes is on)
reads_enough delim multi is zero (c ∷ cs) bytes room on = absurd (omega arith)
reads_enough delim multi is (suc m) (c ∷ cs) bytes room on =
    let enough = reads_enough delim multi is m in
    let less : length cs ≤ m = omega (arith, room) in
    elim (cases_Bool (is_plain delim multi c)) [
      | inl plain ↦
          let (more, bytes_are, next) = turn_plain delim multi c cs bytes plain on in
          body_plain delim multi m c cs plain ∙ ap (prepend (c ∷ [])) (enough cs more less next) ∙ ap (λ (xs : List ℕ). Some (xs, [])) (sym bytes_are)
      | inr other ↦
          body_special delim multi m (c ∷ cs) other
          ∙ special_reads delim multi m c cs bytes enough (special delim multi (c ∷ cs)) refl other less on
    ]

-- ---- the law

eqb_same : (n : ℕ) → (n == n) ≡ true
eqb_same n = grind (arith, nat_tests)

opens_again : (delim : ℕ) (rest : List ℕ) → IsDelim delim → starts_string (delim ∷ rest) ≡ true
opens_again delim rest (inl e) = rw e refl
opens_again delim rest (inr e) = rw e refl

multi_again : (delim : ℕ) (rest bytes : List ℕ) → IsDelim delim → ReadsOn delim true rest bytes
    → quoted (delim ∷ delim ∷ delim ∷ 10 ∷ rest) ≡ Some (bytes, [])
unfolding quoted
multi_again delim rest bytes is on =
    let same = eqb_same delim in
    rw same (reads_enough delim true is (length (delim ∷ delim ∷ delim ∷ 10 ∷ rest)) rest bytes (omega arith) on)

-- one delimiter is not the first of three
no_three : (delim : ℕ) (rest bytes : List ℕ) → IsDelim delim → ReadsOn delim false rest bytes → (first rest == delim && get_or rest 1 0 == delim) ≡ false
unfolding special
no_three delim rest bytes is on = elim (cases_Bool (first rest == delim)) [
  | inl hit ↦
      let (over, found) = closing_one delim rest hit in
      let nothing : over ≡ [] = (turn_end delim false rest over bytes (not_plain_delim delim false (first rest) hit) found.0 on).1 in
      let second : get_or rest 1 0 ≡ 0 = sym (get_or-drop 1 rest 0 0) ∙ ap (λ xs. get_or xs 0 0) (sym found.1 ∙ nothing) in
      let apart : (get_or rest 1 0 == delim) ≡ false = ap (λ n. n == delim) second ∙ zero_apart delim is in
      rw (hit, apart) refl
  | inr miss ↦ rw miss refl
]
  where
    closing_one : (delim : ℕ) (rest : List ℕ) → (first rest == delim) ≡ true
        → (over : List ℕ) × ((special delim false rest ≡ Some (None, over)) × (over ≡ drop 1 rest))
    closing_one delim rest hit = (drop 1 rest, (rw hit refl, refl))

    zero_apart : (delim : ℕ) → IsDelim delim → (0 == delim) ≡ false
    zero_apart delim (inl e) = rw e refl
    zero_apart delim (inr e) = rw e refl

one_again : (delim : ℕ) (rest bytes : List ℕ) → IsDelim delim → ReadsOn delim false rest bytes → quoted (delim ∷ rest) ≡ Some (bytes, [])
unfolding quoted one_line
one_again delim rest bytes is on =
    let one = no_three delim rest bytes is on in
    rw one (reads_enough delim false is (length (delim ∷ rest)) rest bytes (omega arith) on)

pub offsets_reopen : OffsetsReopen
offsets_reopen token offsets is k less =
    by (is_multi token) (drop (get_or offsets k 0) token) (is.written.reads k less)
  where
    kind : IsDelim (first token)
    kind = string_delim token (is.cs, is.denotes)

    by : (multi : Bool) (rest : List ℕ) → ReadsOn (first token) multi rest (encode_utf8_all (drop k is.cs))
        → Denotes (cond multi (first token ∷ first token ∷ first token ∷ 10 ∷ []) (first token ∷ []) ++ rest) (drop k is.cs)
    by true rest on = record {
      opens = opens_again (first token) (first token ∷ first token ∷ 10 ∷ rest) kind;
      whole = multi_again (first token) rest _ kind on;
    }
    by false rest on = record {
      opens = opens_again (first token) rest kind;
      whole = one_again (first token) rest _ kind on;
    }
