-- The walk over a text, token by token.
use Rattle.std.proofs.Common.{◌≡◌, ℕ, ◌+◌, ◌-◌, ◌<◌, ◌≤◌, List, [], ◌∷◌, ◌++◌, Some, None, true, length, take, drop, refl, sym, ap, ◌∙◌, subst, arith, length-append}
use Rattle.std.specs.List.{between, concat}
use Rattle.std.specs.Str.{IsUtf8}
use Rattle.std.proofs.Math.Seq.{take-add}
use Rattle.std.proofs.lemmas.List.{append-nil, drop-drop, drop_at, take_at}
use Rattle.std.proofs.lemmas.List.Edits.{between_none}
use Rattle.std.proofs.lemmas.List.Elements.{All-append, All-cons, All-nil}
use Rattle.std.proofs.lemmas.List.Folds.{concat-append}
use Rattle.nextest_places.specs.declared.spans.token.Token.{Token}
use Rattle.nextest_places.specs.Spans.Tokens.{AreGaps, AreTokens, IsCut, IsRest, IsRightKind, IsTaken, IsToken, at, is_gap, text_at}

pub all_rest : (text : List ℕ) → IsRest text text
all_rest text =
    let zero_is : 0 ≡ at text text = omega arith in
    record { within = omega arith; is = ap (λ n. drop n text) zero_is }

pub record Cut (text rest front behind : List ℕ) : Type 0 where
  pub place : IsRest text behind
  pub further : at text rest + length front ≡ at text behind
  pub within : at text behind ≤ length text
  pub some : 0 < length front
  pub front_is : between (at text rest) (at text behind) text ≡ front
  pub utf8 : IsUtf8 front
  pub less : length behind < length rest

pub cut_of : (text rest front behind : List ℕ) → IsRest text rest → IsCut rest front behind → Cut text rest front behind
cut_of text rest front behind place cut =
    let size : length rest ≡ length front + length behind = ap length cut.whole ∙ length-append front behind in
    let further : at text rest + length front ≡ at text behind = omega (arith, size, place.within) in
    let back : drop (length front) rest ≡ behind = ap (drop (length front)) cut.whole ∙ drop_at front behind (length front) refl in
    let is : behind ≡ drop (at text behind) text =
    sym back ∙ ap (drop (length front)) place.is ∙ drop-drop (length front) (at text rest) text ∙ ap (λ n. drop n text) further in
    let span : at text behind - at text rest ≡ length front = omega (arith, further) in
    record {
      place = record { within = omega (arith, size, place.within); is = is };
      further = further;
      within = omega arith;
      some = cut.some;
      front_is =
          ap (λ n. take n (drop (at text rest) text)) span ∙ ap (take (length front)) (sym place.is ∙ cut.whole) ∙ take_at front behind (length front) refl;
      utf8 = cut.utf8;
      less = omega (arith, size, cut.some);
    }

pub own_of : (text rest front behind : List ℕ) → IsRest text rest → IsCut rest front behind → front ≡ between (at text rest) (at text behind) text
own_of text rest front behind place cut =
    let c = cut_of text rest front behind place cut in
    sym c.front_is

-- ---- gaps

between_joined : (low high more : ℕ) (text : List ℕ) → low ≤ high → high ≤ more → between low high text ++ between high more text ≡ between low more text
between_joined low high more text first second =
    let there : (high - low) + low ≡ high = omega (arith, first) in
    let sum : (high - low) + (more - high) ≡ more - low = omega (arith, first, second) in
    let tail : drop (high - low) (drop low text) ≡ drop high text = drop-drop (high - low) low text ∙ ap (λ n. drop n text) (omega (arith, first)) in
    ap (λ xs. take (high - low) (drop low text) ++ take (more - high) xs) (sym tail)
    ∙ sym (take-add (high - low) (more - high) (drop low text)) ∙ ap (λ n. take n (drop low text)) sum

pub no_gaps : (text : List ℕ) (n : ℕ) → AreGaps text n n
no_gaps text n = record { gaps = []; order = omega arith; whole = between_none text n; each = All-nil (λ bytes. is_gap bytes ≡ true) }

more_gaps : (text : List ℕ) (low high more : ℕ) → AreGaps text low high → high ≤ more → is_gap (between high more text) ≡ true → AreGaps text low more
more_gaps text low high more are less is = record {
  gaps = are.gaps ++ between high more text ∷ [];
  order = omega (arith, are.order, less);
  whole =
      sym (between_joined low high more text are.order less) ∙ ap (λ xs. xs ++ between high more text) are.whole
      ∙ ap (λ xs. concat are.gaps ++ xs) (sym (append-nil (between high more text))) ∙ sym (concat-append are.gaps (between high more text ∷ []));
  each = All-append (λ bytes. is_gap bytes ≡ true) are.gaps (between high more text ∷ []) are.each
      (All-cons (λ bytes. is_gap bytes ≡ true) (between high more text) [] is (All-nil (λ bytes. is_gap bytes ≡ true)));
}

later : (text : List ℕ) (low : ℕ) (tokens : List Token) (high more : ℕ) → AreTokens text low tokens high → high ≤ more
    → is_gap (between high more text) ≡ true → AreTokens text low tokens more
later text low [] high more are less is = more_gaps text low high more are less is
later text low (token ∷ tokens) high more are less is = (are.0, are.1, later text token.span.end tokens high more are.2 less is)

pushed : (text : List ℕ) (low : ℕ) (tokens : List Token) (high : ℕ) (token : Token) → AreTokens text low tokens high → IsToken text token
    → token.span.start ≡ high → AreTokens text low (tokens ++ token ∷ []) token.span.end
pushed text low [] high token are is start_is = (subst (AreGaps text low) (sym start_is) are, is, no_gaps text token.span.end)
pushed text low (first ∷ tokens) high token are is start_is =
    (are.0, are.1, pushed text first.span.end tokens high token are.2 is start_is)

-- ---- what a turn finds

pub taken_none : (text rest front behind : List ℕ) → IsRest text rest → IsCut rest front behind → is_gap front ≡ true → IsTaken text rest None behind
taken_none text rest front behind place cut gap =
    let c = cut_of text rest front behind place cut in
    record { place = c.place; utf8 = cut.rest_utf8; less = c.less; found = ap is_gap c.front_is ∙ gap }

pub taken_token : (text rest front behind : List ℕ) (token : Token) → IsRest text rest → IsCut rest front behind → IsRightKind front token.kind
    → token.span.start ≡ at text rest → token.span.end ≡ at text behind → IsTaken text rest (Some token) behind
taken_token text rest front behind token place cut right start_is end_is =
    let c = cut_of text rest front behind place cut in
    let own : text_at text token.span ≡ front =
    ap (λ n. between n token.span.end text) start_is ∙ ap (λ n. between (at text rest) n text) end_is ∙ c.front_is in
    let is : IsToken text token =
    record {
      some = omega (arith, start_is, end_is, c.further, c.some);
      within = omega (arith, end_is, c.within);
      utf8 = subst IsUtf8 (sym own) c.utf8;
      right = subst (λ xs. IsRightKind xs token.kind) (sym own) right;
    } in
    record { place = c.place; utf8 = cut.rest_utf8; less = c.less; found = (is, start_is, end_is) }

-- ---- the walk

pub record Walked (text : List ℕ) (tokens : List Token) (rest : List ℕ) : Type 0 where
  pub utf8 : IsUtf8 rest
  pub place : IsRest text rest
  pub are : AreTokens text 0 tokens (at text rest)

pub walk_start : (text : List ℕ) → IsUtf8 text → Walked text [] text
walk_start text utf8 =
    let none : 0 ≡ at text text = omega arith in
    record { utf8 = utf8; place = all_rest text; are = subst (AreGaps text 0) none (no_gaps text 0) }

pub walk_skipped : (text rest behind : List ℕ) (tokens : List Token) → Walked text tokens rest → IsTaken text rest None behind
    → Walked text tokens behind
walk_skipped text rest behind tokens w taken = record {
  utf8 = taken.utf8;
  place = taken.place;
  are = later text 0 tokens (at text rest) (at text behind) w.are (omega (arith, taken.less)) taken.found;
}

pub walk_token : (text rest behind : List ℕ) (tokens : List Token) (token : Token) → Walked text tokens rest → IsTaken text rest (Some token) behind
    → Walked text (tokens ++ token ∷ []) behind
walk_token text rest behind tokens token w taken = record {
  utf8 = taken.utf8;
  place = taken.place;
  are =
      subst (λ n. AreTokens text 0 (tokens ++ token ∷ []) n) taken.found.2
      (pushed text 0 tokens (at text rest) token w.are taken.found.0 taken.found.1);
}

pub walk_end : (text rest : List ℕ) (tokens : List Token) → Walked text tokens rest → length rest ≡ 0 → AreTokens text 0 tokens (length text)
walk_end text rest tokens w none =
    let all : at text rest ≡ length text = omega (arith, none) in
    subst (λ n. AreTokens text 0 tokens n) all w.are
