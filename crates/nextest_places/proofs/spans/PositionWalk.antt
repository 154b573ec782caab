-- The walk over the content of a string.
use Rattle.std.proofs.Common.{◌≡◌, ℕ, ◌+◌, ◌-◌, ◌<◌, ◌≤◌, inl, inr, Bool, true, false, ◌==◌, ◌||◌, cond, List, [], ◌∷◌, ◌++◌, length, get_or, drop, Some, None, refl, sym, ap, ◌∙◌, subst, arith, length-append, length-drop, eqb-true}
use Rattle.std.specs.Prelude.{encode_utf8, encode_utf8_all}
use Rattle.std.proofs.lemmas.Bool.{cases_Bool, cases_lt}
use Rattle.std.specs.Str.{IsUtf8}
use Rattle.std.proofs.lemmas.List.{drop-drop, drop_all, get_or_append_left, get_or_push, length_push, nil_from_length}
use Rattle.std.proofs.lemmas.Str.{encode_same, length-encode, len_utf8_bounds}
use Rattle.toml_parser.specs.Lexical.{Read, apostrophe, first, line_feed, quote, starts_newline}
use Rattle.toml_parser.specs.Strings.{body, one_line, quoted, starts_string, trim_newline}
use Rattle.nextest_places.specs.Spans.Offsets.{AreOffsets, AreWritten, Denotes, IsString, ReadsOn, content_of, is_gap, is_multi}
use Rattle.nextest_places.specs.Spans.Pieces.{IsClosing, IsContent, IsDelim, IsPiece}
use Rattle.nextest_places.proofs.spans.PositionTurns.{some_pair}

-- the byte of the token at which a rest begins
abbrev pub at : List ℕ → List ℕ → ℕ
at token rest = length token - length rest

-- the token ends with this
pub record IsRest (token rest : List ℕ) : Type 0 where
  pub within : length rest ≤ length token
  pub is : rest ≡ drop (at token rest) token

rest_within : (token : List ℕ) (k : ℕ) → k ≤ length token → IsRest token (drop k token)
rest_within token k room =
    let same : k ≡ at token (drop k token) = omega (arith, length-drop k token) in
    record {
      within = omega (arith, length-drop k token);
      is = ap (λ n. drop n token) same;
    }

pub rest_drop : (token : List ℕ) (k : ℕ) → IsRest token (drop k token)
rest_drop token k = elim (cases_lt k (length token)) [
  | inl less ↦ rest_within token k (omega arith)
  | inr more ↦
      let same : drop (length token) token ≡ drop k token = drop_all (length token) token (omega arith) ∙ sym (drop_all k token more) in
      subst (λ xs. IsRest token xs) same (rest_within token (length token) (omega arith))
]

pub rest_more : (token rest : List ℕ) (k : ℕ) → IsRest token rest → IsRest token (drop k rest)
rest_more token rest k is =
    let same : drop (at token rest + k) token ≡ drop k rest = sym (drop-drop k (at token rest) token) ∙ ap (drop k) (sym is.is) in
    subst (λ xs. IsRest token xs) same (rest_drop token (at token rest + k))

content_is_rest : (token : List ℕ) → IsRest token (content_of token)
content_is_rest token = by (is_multi token)
  where
    trimmed : (xs : List ℕ) → IsRest token xs → IsRest token (trim_newline xs)
    trimmed xs is = elim (cases_Bool (first xs == line_feed)) [
      | inl feed ↦ rw feed (rest_more token xs 1 is)
      | inr other ↦ elim (cases_Bool (starts_newline xs)) [
        | inl newline ↦ rw (newline, other) (rest_more token xs 2 is)
        | inr none ↦ rw (none, other) is
      ]
    ]

    by : (multi : Bool) → IsRest token (cond multi (trim_newline (drop 3 token)) (drop 1 token))
    by true = trimmed (drop 3 token) (rest_drop token 3)
    by false = rest_drop token 1

-- ---- what an offset adds

at_push : (P : ℕ → ℕ → Type 0) (xs : List ℕ) (x : ℕ) → ((k : ℕ) → k < length xs → P k (get_or xs k 0)) → P (length xs) x
    → (k : ℕ) → k < length (xs ++ x ∷ []) → P k (get_or (xs ++ x ∷ []) k 0)
at_push P xs x all one k less = elim (cases_lt k (length xs)) [
  | inl before ↦ subst (P k) (sym (get_or_append_left xs (x ∷ []) 0 k before)) (all k before)
  | inr beyond ↦
      let last : length xs ≡ k = omega (arith, beyond, less, length_push xs x) in
      let value : x ≡ get_or (xs ++ x ∷ []) k 0 = sym (get_or_push xs x 0 k last) in
      subst (λ n. P k n) value (subst (λ n. P n x) last one)
]

written_push : (token cs offsets : List ℕ) (o : ℕ) → AreWritten token cs offsets → ((k : ℕ) → k < length offsets → get_or offsets k 0 < o)
    → ReadsOn (first token) (is_multi token) (drop o token) (encode_utf8_all (drop (length offsets) cs))
    → is_gap (first token) (is_multi token) (drop o token) ≡ false → AreWritten token cs (offsets ++ o ∷ [])
written_push token cs offsets o old below on shown = record {
  rise = λ k less.
      elim (cases_lt (k + 1) (length offsets)) [
        | inl before ↦
            let low : get_or (offsets ++ o ∷ []) k 0 ≡ get_or offsets k 0 = get_or_append_left offsets (o ∷ []) 0 k (omega arith) in
            let high : get_or (offsets ++ o ∷ []) (k + 1) 0 ≡ get_or offsets (k + 1) 0 = get_or_append_left offsets (o ∷ []) 0 (k + 1) before in
            omega (arith, low, high, old.rise k before)
        | inr beyond ↦
            let last : length offsets ≡ k + 1 = omega (arith, beyond, less, length_push offsets o) in
            let low : get_or (offsets ++ o ∷ []) k 0 ≡ get_or offsets k 0 = get_or_append_left offsets (o ∷ []) 0 k (omega (arith, last)) in
            let high : get_or (offsets ++ o ∷ []) (k + 1) 0 ≡ o = get_or_push offsets o 0 (k + 1) last in
            omega (arith, low, high, below k (omega (arith, last)))
      ];
  reads = at_push (λ k n. ReadsOn (first token) (is_multi token) (drop n token) (encode_utf8_all (drop k cs))) offsets o old.reads on;
  shown = at_push (λ k n. is_gap (first token) (is_multi token) (drop n token) ≡ false) offsets o old.shown shown;
}

-- ---- the walk

-- the offsets of the characters before the rest are found
pub record Walked (token offsets rest : List ℕ) : Type 0 where
  pub cs : List ℕ
  pub denotes : Denotes token cs
  pub utf8 : IsUtf8 rest
  pub place : IsRest token rest
  pub room : length offsets ≤ length cs
  pub left : ReadsOn (first token) (is_multi token) rest (encode_utf8_all (drop (length offsets) cs))
  pub below : (k : ℕ) → k < length offsets → get_or offsets k 0 < at token rest
  pub written : AreWritten token cs offsets

reads_content : (token cs : List ℕ) → Denotes token cs → ReadsOn (first token) (is_multi token) (content_of token) (encode_utf8_all cs)
unfolding quoted one_line
reads_content token cs is = by (is_multi token) is.whole
  where
    by : (multi : Bool) → cond multi (body (first token) true (length token) (trim_newline (drop 3 token))) (body (first token) false (length token) (drop 1 token)) ≡ Some (encode_utf8_all cs, [])
        → ReadsOn (first token) multi (cond multi (trim_newline (drop 3 token)) (drop 1 token)) (encode_utf8_all cs)
    by true e = record { pieces = length token; reads = e }
    by false e = record { pieces = length token; reads = e }

pub walk_start : (token rest : List ℕ) → IsString token → rest ≡ content_of token → IsUtf8 rest → Walked token [] rest
walk_start token rest (cs, denotes) is utf8 = subst (λ xs. Walked token [] xs) (sym is) (record {
  cs = cs;
  denotes = denotes;
  utf8 = subst IsUtf8 is utf8;
  place = content_is_rest token;
  room = omega arith;
  left = reads_content token cs denotes;
  below = λ k less. absurd (omega (arith, less));
  written = record {
    rise = λ k less. absurd (omega (arith, less));
    reads = λ k less. absurd (omega (arith, less));
    shown = λ k less. absurd (omega (arith, less));
  };
})

-- what the code's piece says, at the delimiters of the token
abbrev Says : (ℕ → Bool → List ℕ → Type 0) → ℕ → Bool → List ℕ → Type 0
Says P delim multi rest = (bytes : List ℕ) → ReadsOn delim multi rest bytes → P delim multi bytes

says_at : (P : ℕ → Bool → List ℕ → Type 0) (delim d : ℕ) (multi m : Bool) (rest : List ℕ) → delim ≡ d → multi ≡ m → Says P delim multi rest → Says P d m rest
says_at P delim d multi m rest e f says = subst (λ b. Says P d b rest) f (subst (λ n. Says P n multi rest) e says)

piece_rest : (token rest next : List ℕ) (len : ℕ) → IsRest token rest → 0 < len → len ≤ length rest → next ≡ drop len rest
    → IsRest token next × (at token rest < at token next)
piece_rest token rest next len place some room is =
    let there = rest_more token rest len place in
    (rw is there, rw is (omega (arith, length-drop len rest, place.within)))

pub walk_gap : (token offsets rest next : List ℕ) (delim : ℕ) (multi : Bool) → delim ≡ first token → multi ≡ is_multi token → Walked token offsets rest
    → ((bytes : List ℕ) → ReadsOn delim multi rest bytes → IsPiece delim multi rest bytes true next) → Walked token offsets next
walk_gap token offsets rest next delim multi delim_is multi_is w says =
    let piece = says_at (λ d m bytes. IsPiece d m rest bytes true next) delim (first token) multi (is_multi token) rest delim_is multi_is says (encode_utf8_all (drop (length offsets) w.cs)) w.left in
    let (place, further) = piece_rest token rest next piece.len w.place piece.some piece.within piece.behind in
    record {
      cs = w.cs;
      denotes = w.denotes;
      utf8 = piece.utf8;
      place = place;
      room = w.room;
      left = piece.writes;
      below = λ k less. omega (arith, w.below k less, further);
      written = w.written;
    }

-- the first of some characters that are spelled
spelled_first : (cs : List ℕ) (c : ℕ) (more : List ℕ) → encode_utf8_all cs ≡ encode_utf8 c ++ more → (0 < length cs) × (more ≡ encode_utf8_all (drop 1 cs))
spelled_first [] c more e =
    let one = len_utf8_bounds c in
    absurd (omega (arith, ap length e, length-append (encode_utf8 c) more, length-encode c, one.0))
spelled_first (d ∷ ds) c more e = (omega arith, sym (encode_same d c (encode_utf8_all ds) more e).1)

spelled_none : (cs : List ℕ) → encode_utf8_all cs ≡ [] → length cs ≡ 0
spelled_none [] e = refl
spelled_none (d ∷ ds) e =
    let one = len_utf8_bounds d in
    absurd (omega (arith, ap length e, length-append (encode_utf8 d) (encode_utf8_all ds), length-encode d, one.0))

push_at : (token offsets rest : List ℕ) → (w : Walked token offsets rest) → is_gap (first token) (is_multi token) rest ≡ false
    → AreWritten token w.cs (offsets ++ at token rest ∷ [])
push_at token offsets rest w shown =
    written_push token w.cs offsets (at token rest) w.written w.below
    (subst (λ xs. ReadsOn (first token) (is_multi token) xs (encode_utf8_all (drop (length offsets) w.cs))) w.place.is w.left)
    (subst (λ xs. is_gap (first token) (is_multi token) xs ≡ false) w.place.is shown)

pub walk_char : (token offsets rest next : List ℕ) (delim : ℕ) (multi : Bool) → delim ≡ first token → multi ≡ is_multi token → Walked token offsets rest
    → ((bytes : List ℕ) → ReadsOn delim multi rest bytes → IsPiece delim multi rest bytes false next)
    → Walked token (offsets ++ at token rest ∷ []) next
walk_char token offsets rest next delim multi delim_is multi_is w says =
    let piece = says_at (λ d m bytes. IsPiece d m rest bytes false next) delim (first token) multi (is_multi token) rest delim_is multi_is says (encode_utf8_all (drop (length offsets) w.cs)) w.left in
    let (place, further) = piece_rest token rest next piece.len w.place piece.some piece.within piece.behind in
    let (c, more, spelled, reads) = piece.writes in
    let (some, more_is) = spelled_first (drop (length offsets) w.cs) c more spelled in
    let size : length (offsets ++ at token rest ∷ []) ≡ length offsets + 1 = length_push offsets (at token rest) in
    let behind : encode_utf8_all (drop 1 (drop (length offsets) w.cs)) ≡ encode_utf8_all (drop (length (offsets ++ at token rest ∷ [])) w.cs) =
    ap encode_utf8_all (drop-drop 1 (length offsets) w.cs ∙ ap (λ n. drop n w.cs) (sym size)) in
    record {
      cs = w.cs;
      denotes = w.denotes;
      utf8 = piece.utf8;
      place = place;
      room = omega (arith, size, some, length-drop (length offsets) w.cs);
      left = subst (λ xs. ReadsOn (first token) (is_multi token) next xs) (more_is ∙ behind) reads;
      below = at_push (λ k n. n < at token next) offsets (at token rest) (λ k less. omega (arith, w.below k less, further)) further;
      written = push_at token offsets rest w piece.gap_is;
    }

pub walk_end : (token offsets rest : List ℕ) (delim : ℕ) (multi : Bool) → delim ≡ first token → multi ≡ is_multi token → Walked token offsets rest
    → ((bytes : List ℕ) → ReadsOn delim multi rest bytes → IsClosing delim multi rest bytes)
    → AreOffsets token (offsets ++ at token rest ∷ [])
walk_end token offsets rest delim multi delim_is multi_is w says =
    let closing = says_at (λ d m bytes. IsClosing d m rest bytes) delim (first token) multi (is_multi token) rest delim_is multi_is says (encode_utf8_all (drop (length offsets) w.cs)) w.left in
    let none = spelled_none (drop (length offsets) w.cs) closing.nothing in
    record {
      cs = w.cs;
      denotes = w.denotes;
      count = omega (arith, none, length-drop (length offsets) w.cs, w.room, length_push offsets (at token rest));
      written = push_at token offsets rest w closing.shown;
    }

-- ---- what the walk asks

pub walk_content : (token offsets rest : List ℕ) (delim : ℕ) (multi : Bool) → delim ≡ first token → multi ≡ is_multi token → Walked token offsets rest
    → IsContent delim multi rest
walk_content token offsets rest delim multi delim_is multi_is w =
    rw (delim_is, multi_is) (encode_utf8_all (drop (length offsets) w.cs), w.left)

pub string_delim : (token : List ℕ) → IsString token → IsDelim (first token)
string_delim token (cs, denotes) = by (first token) denotes.opens
  where
    by : (c : ℕ) → (c == quote || c == apostrophe) ≡ true → IsDelim c
    by c e = elim (cases_Bool (c == quote)) [
      | inl hit ↦ inl (eqb-true c quote hit)
      | inr miss ↦ inr (eqb-true c apostrophe (rw miss at e))
    ]

pub string_opens : (token : List ℕ) → IsString token → starts_string token ≡ true
string_opens token (cs, denotes) = denotes.opens

-- the piece leaves less
pub walk_less : (token offsets rest next : List ℕ) (delim : ℕ) (multi gap : Bool) → delim ≡ first token → multi ≡ is_multi token → Walked token offsets rest
    → ((bytes : List ℕ) → ReadsOn delim multi rest bytes → IsPiece delim multi rest bytes gap next) → length next < length rest
walk_less token offsets rest next delim multi gap delim_is multi_is w says =
    let piece = says_at (λ d m bytes. IsPiece d m rest bytes gap next) delim (first token) multi (is_multi token) rest delim_is multi_is says (encode_utf8_all (drop (length offsets) w.cs)) w.left in
    rw piece.behind (omega (arith, length-drop piece.len rest, piece.some, piece.within))

-- ---- whether a token is a string

pub string_read : (token bytes rest : List ℕ) → IsUtf8 bytes → starts_string token ≡ true → quoted token ≡ Some (bytes, rest) → length rest ≡ 0 → IsString token
string_read token bytes rest utf8 opens read none =
    let cs = utf8.0 in
    let spell = utf8.1.1 in (
      cs,
      record {
        opens = opens;
        whole = read ∙ ap (λ (xs : List ℕ). Some (xs, rest)) (sym spell) ∙ ap (λ (xs : List ℕ). Some (encode_utf8_all cs, xs)) (nil_from_length rest none);
      },
    )

pub string_more : (token bytes rest : List ℕ) → quoted token ≡ Some (bytes, rest) → IsString token → length rest ≡ 0
string_more token bytes rest read (cs, denotes) =
    ap length (some_pair {A = List ℕ} (bytes, rest) (encode_utf8_all cs, []) (sym read ∙ denotes.whole)).1

pub string_none : (token : List ℕ) → quoted token ≡ None → IsString token → ⊥
string_none token none (cs, denotes) =
    let no : ◌≡◌ {A = Read (List ℕ)} None (Some (encode_utf8_all cs, [])) = sym none ∙ denotes.whole in
    absurd (cc)
