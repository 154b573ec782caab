-- A text splits into words exactly as it is read.
use Rattle.std.proofs.Common.{◌≡◌, ◌≢◌, ◌==◌, ◌++◌, ◌∷◌, ◌⊎◌, [], ℕ, List, Bool, true, false, Some, None, Option, refl, sym, ◌∙◌, ap, subst, inl, inr, arith, option_map, append_assoc, append-nil}
use Rattle.std.proofs.lemmas.Bool.{ne_eqb, eqb-false}
use Rattle.std.proofs.lemmas.Bool.Decides.{eqb_tells}
use Rattle.nextest_scripts.specs.ShellReading.{words_from, words_from_comment, words_from_double, words_from_double_escape, words_from_escape, words_from_single}
use Rattle.nextest_scripts.specs.ShellWords.{Comment, DoubleQuoted, EndsWord, MayBeginWord, Piece, Pieces, SingleQuoted, SplitsInto, is_delimiter, is_escapable, is_special}
use Rattle.nextest_scripts.proofs.ShellSteps.{fails_tests, plain_step}

-- What splits is read so.

escapable_test : (c : ℕ) → is_escapable c ≡ true → (c == 10) ≡ false
escapable_test c h = ne_eqb c 10 (λ e. let k : is_escapable 10 ≡ true = subst (λ x. is_escapable x ≡ true) e h in cc)

single_read : {t g r : List ℕ} → SingleQuoted t g r → (w : List ℕ)
    → words_from_single w t ≡ words_from (Some (w ++ g)) r
unfolding words_from
single_read SingleQuoted.at_quote w = rw append-nil refl
single_read (SingleQuoted.literal {c} n s) w = rw (ne_eqb c 39 n) (rw append_assoc at (single_read s (w ++ c ∷ [])))

double_read : {t g r : List ℕ} → DoubleQuoted t g r → (w : List ℕ)
    → words_from_double w t ≡ words_from (Some (w ++ g)) r
unfolding words_from
double_read DoubleQuoted.at_quote w = rw append-nil refl
double_read (DoubleQuoted.literal {c} n m s) w =
    rw (ne_eqb c 34 n, ne_eqb c 92 m) (rw append_assoc at (double_read s (w ++ c ∷ [])))
double_read (DoubleQuoted.escaped {c} h s) w =
    rw (escapable_test c h, h) (rw append_assoc at (double_read s (w ++ c ∷ [])))
double_read (DoubleQuoted.continued s) w = double_read s w
double_read (DoubleQuoted.kept {c} n h s) w =
    rw (ne_eqb c 10 n, h) (rw append_assoc at (double_read s (w ++ 92 ∷ c ∷ [])))

piece_read : {t g r : List ℕ} → Piece t g r → (w : List ℕ) → words_from (Some w) t ≡ words_from (Some (w ++ g)) r
unfolding words_from
piece_read (Piece.plain {c} {rest} h) w = plain_step w c rest h
piece_read (Piece.escaped {c} n) w = rw (ne_eqb c 10 n) refl
piece_read Piece.continued w = rw append-nil refl
piece_read (Piece.single_quoted s) w = single_read s w
piece_read (Piece.double_quoted s) w = double_read s w
piece_read Piece.lone_backslash w = refl

pieces_read : {t g r : List ℕ} → Pieces t g r → (w : List ℕ) → words_from (Some w) t ≡ words_from (Some (w ++ g)) r
pieces_read (Pieces.last p) w = piece_read p w
pieces_read (Pieces.more {gives = g} p ps) w = piece_read p w ∙ (rw append_assoc at (pieces_read ps (w ++ g)))

-- where a word may begin, it makes no difference whether it is begun
first_read : {t g r : List ℕ} → Piece t g r → MayBeginWord t → words_from None t ≡ words_from (Some []) t
unfolding words_from
first_read (Piece.plain {c} h) m = let f = fails_tests c h in
    rw (f.delimiter, f.backslash, f.single, f.double, ne_eqb c 35 m.0) refl
first_read (Piece.escaped {c} n) m = rw (ne_eqb c 10 n) refl
first_read Piece.continued m = absurd (m.1 (refl, refl))
first_read (Piece.single_quoted s) m = refl
first_read (Piece.double_quoted s) m = refl
first_read Piece.lone_backslash m = refl

begin_read : {t g r : List ℕ} → Pieces t g r → MayBeginWord t → words_from None t ≡ words_from (Some []) t
begin_read (Pieces.last p) m = first_read p m
begin_read (Pieces.more p ps) m = first_read p m

pub end_read : (w r : List ℕ) → EndsWord r
    → words_from (Some w) r ≡ option_map (λ others. w ∷ others) (words_from None r)
unfolding words_from
end_read w [] h = refl
end_read w (c ∷ r) h = rw h refl

comment_read : {t r : List ℕ} → Comment t r → words_from_comment t ≡ words_from None r
unfolding words_from
comment_read Comment.at_end = refl
comment_read Comment.at_line_feed = refl
comment_read (Comment.more {c} n k) = rw (ne_eqb c 10 n) (comment_read k)

pub splits_read : {t : List ℕ} {ws : List (List ℕ)} → SplitsInto t ws → words_from None t ≡ Some ws
unfolding words_from
splits_read SplitsInto.no_word = refl
splits_read (SplitsInto.delimiter h s) = rw h (splits_read s)
splits_read (SplitsInto.continued s) = splits_read s
splits_read (SplitsInto.comment k s) = comment_read k ∙ splits_read s
splits_read (SplitsInto.word {gives = g} {rest = r} m p e s) =
    begin_read p m ∙ (pieces_read p [] ∙ (end_read g r e ∙ ap (option_map (λ others. g ∷ others)) (splits_read s)))

-- What is read splits so.

-- a character of one sort or another
data Kind : ℕ → Type 0 where
  is_delimiter_at : {c : ℕ} → is_delimiter c ≡ true → Kind c
  is_backslash : Kind 92
  is_single : Kind 39
  is_double : Kind 34
  is_sign : Kind 35
  is_plain : {c : ℕ} → is_special c ≡ false → c ≢ 35 → Kind c

data Is (k : ℕ) : ℕ → Type 0 where
  it : Is k k
  other : {c : ℕ} → c ≢ k → Is k c

is_or_not : (k c : ℕ) → Is k c
is_or_not k c = elim (eqb_tells c k) [ inl h ↦ subst (Is k) (sym h.1) it | inr h ↦ other h.1 ]

special_test : (c : ℕ) → is_delimiter c ≡ false → c ≢ 92 → c ≢ 39 → c ≢ 34 → is_special c ≡ false
special_test c d b s q = rw (d, ne_eqb c 92 b, ne_eqb c 39 s, ne_eqb c 34 q) refl

kind_by : (c : ℕ) (b : Bool) → is_delimiter c ≡ b → Is 92 c → Is 39 c → Is 34 c → Is 35 c → Kind c
kind_by c true h _ _ _ _ = is_delimiter_at h
kind_by c false h it _ _ _ = is_backslash
kind_by c false h (other b) it _ _ = is_single
kind_by c false h (other b) (other s) it _ = is_double
kind_by c false h (other b) (other s) (other q) it = is_sign
kind_by c false h (other b) (other s) (other q) (other n) = is_plain (special_test c h b s q) n

kind : (c : ℕ) → Kind c
kind c = kind_by c (is_delimiter c) refl (is_or_not 92 c) (is_or_not 39 c) (is_or_not 34 c) (is_or_not 35 c)

-- more pieces of the word w stand here, and then these words
record InPieces (w t : List ℕ) (ws : List (List ℕ)) : Type 0 where
  pub gives : List ℕ
  pub rest : List ℕ
  pub others : List (List ℕ)
  pub pieces : Pieces t gives rest
  pub ended : EndsWord rest
  pub splits : SplitsInto rest others
  pub words : (w ++ gives) ∷ others ≡ ws

-- the word w ends here, and then these words stand
record Ends (w t : List ℕ) (ws : List (List ℕ)) : Type 0 where
  pub others : List (List ℕ)
  pub ended : EndsWord t
  pub splits : SplitsInto t others
  pub words : w ∷ others ≡ ws

GoesOn : List ℕ → List ℕ → List (List ℕ) → Type 0
GoesOn w t ws = Ends w t ws ⊎ InPieces w t ws

step_in : {w t g r : List ℕ} {ws : List (List ℕ)} → Piece t g r → GoesOn (w ++ g) r ws → InPieces w t ws
unfolding GoesOn
step_in {g = g} {r = r} p (inl e) =
    record {
      gives = g;
      rest = r;
      others = e.others;
      pieces = Pieces.last p;
      ended = e.ended;
      splits =
          e.splits;
      words = e.words;
    }
step_in {w} {g = g} p (inr i) =
    record {
      gives = g ++ i.gives;
      rest = i.rest;
      others = i.others;
      pieces = Pieces.more p i.pieces;
      ended =
          i.ended;
      splits = i.splits;
      words = rw append_assoc at i.words;
    }

word_in : {t : List ℕ} {ws : List (List ℕ)} → MayBeginWord t → InPieces [] t ws → SplitsInto t ws
word_in {t} m i = subst (SplitsInto t) i.words (SplitsInto.word m i.pieces i.ended i.splits)

-- a text in quotes stands here, and then the word goes on
record InQuotes (Q : List ℕ → List ℕ → List ℕ → Type 0) (w t : List ℕ) (ws : List (List ℕ)) : Type 0 where
  pub gives : List ℕ
  pub rest : List ℕ
  pub quoted : Q t gives rest
  pub after : GoesOn (w ++ gives) rest ws

-- a comment stands here, and then these words
record InComment (t : List ℕ) (ws : List (List ℕ)) : Type 0 where
  pub rest : List ℕ
  pub comment : Comment t rest
  pub splits : SplitsInto rest ws

-- what is read from this text on is there
record IsRead (t : List ℕ) : Type 0 where
  pub none : (ws : List (List ℕ)) → words_from None t ≡ Some ws → SplitsInto t ws
  pub some : (w : List ℕ) (ws : List (List ℕ)) → words_from (Some w) t ≡ Some ws → GoesOn w t ws
  pub escape_none : (ws : List (List ℕ)) → words_from_escape None t ≡ Some ws → SplitsInto (92 ∷ t) ws
  pub escape : (w : List ℕ) (ws : List (List ℕ)) → words_from_escape (Some w) t ≡ Some ws → InPieces w (92 ∷ t) ws
  pub single : (w : List ℕ) (ws : List (List ℕ)) → words_from_single w t ≡ Some ws → InQuotes SingleQuoted w t ws
  pub double : (w : List ℕ) (ws : List (List ℕ)) → words_from_double w t ≡ Some ws → InQuotes DoubleQuoted w t ws
  pub double_escape : (w : List ℕ) (ws : List (List ℕ)) → words_from_double_escape w t ≡ Some ws
      → InQuotes DoubleQuoted w (92 ∷ t) ws
  pub comment : (ws : List (List ℕ)) → words_from_comment t ≡ Some ws → InComment t ws

some_from : {A B : Type 0} (f : A → B) (o : Option A) (y : B) → option_map f o ≡ Some y
    → (x : A) × (o ≡ Some x) × (f x ≡ y)
some_from f None y e = absurd (cc)
some_from f (Some x) y e = (x, refl, cc)

none_step : {c : ℕ} (rest : List ℕ) → IsRead rest → Kind c → (ws : List (List ℕ))
    → words_from None (c ∷ rest) ≡ Some ws → SplitsInto (c ∷ rest) ws
unfolding words_from
none_step rest read (is_delimiter_at h) ws e = SplitsInto.delimiter h (read.none ws (rw h at e))
none_step rest read is_backslash ws e = read.escape_none ws e
none_step rest read is_single ws e =
    let q = read.single [] ws e in
    word_in (λ h. omega arith, λ h. let k = h.0 in omega arith) (step_in (Piece.single_quoted q.quoted) q.after)
none_step rest read is_double ws e =
    let q = read.double [] ws e in
    word_in (λ h. omega arith, λ h. let k = h.0 in omega arith) (step_in (Piece.double_quoted q.quoted) q.after)
none_step rest read is_sign ws e = let k = read.comment ws e in SplitsInto.comment k.comment k.splits
none_step {c} rest read (is_plain h n) ws e =
    let f = fails_tests c h in
    word_in (n, λ k. eqb-false c 92 f.backslash k.0)
    (step_in (Piece.plain h) (read.some (c ∷ []) ws
    (rw (f.delimiter, f.backslash, f.single, f.double, ne_eqb c 35 n) at e)))

some_step : {c : ℕ} (rest : List ℕ) → IsRead rest → Kind c → (w : List ℕ) (ws : List (List ℕ))
    → words_from (Some w) (c ∷ rest) ≡ Some ws → GoesOn w (c ∷ rest) ws
unfolding words_from GoesOn
some_step rest read (is_delimiter_at h) w ws e =
    let k = some_from (λ others. w ∷ others) (words_from None rest) ws (rw h at e) in
    inl (record { others = k.0; ended = h; splits = SplitsInto.delimiter h (read.none k.0 k.1); words = k.2 })
some_step rest read is_backslash w ws e = inr (read.escape w ws e)
some_step rest read is_single w ws e = let q = read.single w ws e in
    inr (step_in (Piece.single_quoted q.quoted) q.after)
some_step rest read is_double w ws e = let q = read.double w ws e in
    inr (step_in (Piece.double_quoted q.quoted) q.after)
some_step rest read is_sign w ws e = inr (step_in (Piece.plain refl) (read.some (w ++ 35 ∷ []) ws e))
some_step {c} rest read (is_plain h n) w ws e =
    inr (step_in (Piece.plain h) (read.some (w ++ c ∷ []) ws (sym (plain_step w c rest h) ∙ e)))

escape_none_step : {c : ℕ} (rest : List ℕ) → IsRead rest → Is 10 c → (ws : List (List ℕ))
    → words_from_escape None (c ∷ rest) ≡ Some ws → SplitsInto (92 ∷ c ∷ rest) ws
unfolding words_from
escape_none_step rest read it ws e = SplitsInto.continued (read.none ws e)
escape_none_step {c} rest read (other n) ws e =
    word_in (λ h. omega arith, λ k. n k.1) (step_in (Piece.escaped n) (read.some (c ∷ []) ws (rw (ne_eqb c 10 n) at e)))

escape_step : {c : ℕ} (rest : List ℕ) → IsRead rest → Is 10 c → (w : List ℕ) (ws : List (List ℕ))
    → words_from_escape (Some w) (c ∷ rest) ≡ Some ws → InPieces w (92 ∷ c ∷ rest) ws
unfolding words_from
escape_step rest read it w ws e = step_in Piece.continued (rw append-nil (read.some w ws e))
escape_step {c} rest read (other n) w ws e =
    step_in (Piece.escaped n) (read.some (w ++ c ∷ []) ws (rw (ne_eqb c 10 n) at e))

single_step : {c : ℕ} (rest : List ℕ) → IsRead rest → Is 39 c → (w : List ℕ) (ws : List (List ℕ))
    → words_from_single w (c ∷ rest) ≡ Some ws → InQuotes SingleQuoted w (c ∷ rest) ws
unfolding words_from
single_step rest read it w ws e =
    record { gives = []; rest = rest; quoted = SingleQuoted.at_quote; after = rw append-nil (read.some w ws e) }
single_step {c} rest read (other n) w ws e =
    let q = read.single (w ++ c ∷ []) ws (rw (ne_eqb c 39 n) at e) in
    record {
      gives = c ∷ q.gives;
      rest = q.rest;
      quoted = SingleQuoted.literal n q.quoted;
      after =
          rw append_assoc at q.after;
    }

double_step : {c : ℕ} (rest : List ℕ) → IsRead rest → Is 34 c → Is 92 c → (w : List ℕ) (ws : List (List ℕ))
    → words_from_double w (c ∷ rest) ≡ Some ws → InQuotes DoubleQuoted w (c ∷ rest) ws
unfolding words_from
double_step rest read it b w ws e =
    record { gives = []; rest = rest; quoted = DoubleQuoted.at_quote; after = rw append-nil (read.some w ws e) }
double_step rest read (other n) it w ws e = read.double_escape w ws e
double_step {c} rest read (other n) (other m) w ws e =
    let q = read.double (w ++ c ∷ []) ws (rw (ne_eqb c 34 n, ne_eqb c 92 m) at e) in
    record {
      gives = c ∷ q.gives;
      rest = q.rest;
      quoted = DoubleQuoted.literal n m q.quoted;
      after =
          rw append_assoc at q.after;
    }

double_escape_step : {c : ℕ} (rest : List ℕ) → IsRead rest → Is 10 c → (b : Bool) → is_escapable c ≡ b
    → (w : List ℕ) (ws : List (List ℕ)) → words_from_double_escape w (c ∷ rest) ≡ Some ws
    → InQuotes DoubleQuoted w (92 ∷ c ∷ rest) ws
unfolding words_from
double_escape_step rest read it b h w ws e =
    let q = read.double w ws e in
    record { gives = q.gives; rest = q.rest; quoted = DoubleQuoted.continued q.quoted; after = q.after }
double_escape_step {c} rest read (other n) true h w ws e =
    let q = read.double (w ++ c ∷ []) ws (rw (ne_eqb c 10 n, h) at e) in
    record {
      gives = c ∷ q.gives;
      rest = q.rest;
      quoted = DoubleQuoted.escaped h q.quoted;
      after =
          rw append_assoc at q.after;
    }
double_escape_step {c} rest read (other n) false h w ws e =
    let q = read.double (w ++ 92 ∷ c ∷ []) ws (rw (ne_eqb c 10 n, h) at e) in
    record {
      gives = 92 ∷ c ∷ q.gives;
      rest = q.rest;
      quoted = DoubleQuoted.kept n h q.quoted;
      after =
          rw append_assoc at q.after;
    }

comment_step : {c : ℕ} (rest : List ℕ) → IsRead rest → Is 10 c → (ws : List (List ℕ))
    → words_from_comment (c ∷ rest) ≡ Some ws → InComment (c ∷ rest) ws
unfolding words_from
comment_step rest read it ws e =
    record { rest = 10 ∷ rest; comment = Comment.at_line_feed; splits = SplitsInto.delimiter refl (read.none ws e) }
comment_step {c} rest read (other n) ws e =
    let k = read.comment ws (rw (ne_eqb c 10 n) at e) in
    record { rest = k.rest; comment = Comment.more n k.comment; splits = k.splits }

-- at the end of the text
ends_here : (w : List ℕ) (ws : List (List ℕ)) → w ∷ [] ≡ ws → GoesOn w [] ws
unfolding GoesOn
ends_here w ws e = inl (record { others = []; ended = tt; splits = SplitsInto.no_word; words = e })

same_words : (vs ws : List (List ℕ)) → Some vs ≡ Some ws → vs ≡ ws
same_words vs ws e = cc

at_end : IsRead []
unfolding words_from
at_end = record {
  none = λ ws e. subst (SplitsInto []) (same_words _ _ e) SplitsInto.no_word;
  some = λ w ws e. ends_here w ws (same_words _ _ e);
  escape_none = λ ws e. word_in ((λ h. omega arith), (λ k. k.1))
      (step_in Piece.lone_backslash (ends_here (92 ∷ []) ws (same_words _ _ e)));
  escape = λ w ws e. step_in Piece.lone_backslash (ends_here (w ++ 92 ∷ []) ws (same_words _ _ e));
  single = λ w ws e. absurd (cc);
  double = λ w ws e. absurd (cc);
  double_escape = λ w ws e. absurd (cc);
  comment = λ ws e. record {
    rest = [];
    comment = Comment.at_end;
    splits =
        subst (SplitsInto []) (same_words _ _ e) SplitsInto.no_word;
  };
}

is_read : (t : List ℕ) → IsRead t
is_read [] = at_end
is_read (c ∷ rest) = record {
  none = none_step rest (is_read rest) (kind c);
  some = some_step rest (is_read rest) (kind c);
  escape_none = escape_none_step rest (is_read rest) (is_or_not 10 c);
  escape = escape_step rest (is_read rest) (is_or_not 10 c);
  single = single_step rest (is_read rest) (is_or_not 39 c);
  double = double_step rest (is_read rest) (is_or_not 34 c) (is_or_not 92 c);
  double_escape = double_escape_step rest (is_read rest) (is_or_not 10 c) (is_escapable c) refl;
  comment = comment_step rest (is_read rest) (is_or_not 10 c);
}

-- The two together: what a text splits into is what is read, and nothing else.

pub splits_as_read : (t : List ℕ) (ws : List (List ℕ)) → words_from None t ≡ Some ws → SplitsInto t ws
splits_as_read t = (is_read t).none

pub splits_alone : (t : List ℕ) (ws others : List (List ℕ)) → words_from None t ≡ Some ws
    → SplitsInto t others → others ≡ ws
splits_alone t ws others e s = same_words others ws (sym (splits_read s) ∙ e)

pub splits_into_none : (t : List ℕ) (ws : List (List ℕ)) → words_from None t ≡ None → SplitsInto t ws → ⊥
splits_into_none t ws e s = let k = splits_read s in cc

-- some words have been read, and the words of a rest are left
pub read_to_end : (t r : List ℕ) (ws : List (List ℕ))
    → words_from None t ≡ option_map (λ others. ws ++ others) (words_from None r)
    → words_from None r ≡ Some [] → words_from None t ≡ Some ws
read_to_end t r ws e f = rw (e, f, append-nil) refl

pub read_to_fault : (t r : List ℕ) (ws : List (List ℕ))
    → words_from None t ≡ option_map (λ others. ws ++ others) (words_from None r) → words_from None r ≡ None
    → words_from None t ≡ None
read_to_fault t r ws e f = rw (e, f) refl
