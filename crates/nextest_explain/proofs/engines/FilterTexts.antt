-- Steps of reading filters.
use Rattle.std.proofs.Common.{◌≡◌, ◌≢◌, ◌==◌, ◌+◌, ℕ, Bool, true, false, List, [], ◌∷◌, ◌++◌, Option, None, Some, Err, option_map, codes, length, Bor, refl, sym, ◌∙◌, ap, arith, zero-add, lit<, cond, MatchOption, inl, inr}
use Rattle.std.specs.List.{slice_split, onto_first}
use Rattle.std.specs.Str.{bytes_eq}
use Rattle.std.specs.Cmp.Lexicographic.{same_text}
use Rattle.std.proofs.lemmas.Bool.Decides.{eqb_tells}
use Rattle.std.proofs.lemmas.List.{get_or_default}
use Rattle.std.proofs.lemmas.List.Splits.{slice_split_none, slice_split_at}
use Rattle.std.proofs.lemmas.Str.Pattern.{IsSplitOnceResult, split_parts}
use Rattle.nextest_explain.specs.Engines.Texts.{after_prefix}
use Rattle.nextest_explain.specs.Engines.FilterValues.{Term, Filter}
use Rattle.nextest_explain.specs.Engines.FilterTexts.{atom_in, term_in, plain, once_more, more_nots, SoFar, joined_piece, unless_broken, filter_after, pieces, one_term_so_far, filter_in_pieces, filter_in}
use Rattle.nextest_explain.proofs.engines.PartsOfTexts.{after_is, after_own}

-- No more `not`s change nothing.
pub no_more_nots : (read : Option Term) → read ≡ option_map (more_nots 0) read
no_more_nots None = refl
no_more_nots (Some t) = ap (λ n. Some (record { negations = n; atom = t.atom })) (sym (zero-add t.negations))

-- One `not` and n more are n + 1 more.
pub one_more_not : (n : ℕ) (read : Option Term)
    → option_map (more_nots n) (option_map once_more read) ≡ option_map (more_nots (n + 1)) read
one_more_not n None = refl
one_more_not n (Some t) = ap (λ m. Some (record { negations = m; atom = t.atom })) (omega arith)

-- What follows a `not ` is shorter.
pub shorter : (piece behind : List ℕ) → after_prefix (codes "not ") piece ≡ Some behind
    → length piece ≡ 4 + length behind
shorter piece behind e = omega (arith, ap length (after_is (codes "not ") piece behind e))

-- A piece that begins with `not ` writes what follows behind one more `not`.
pub term_behind_not : (piece behind : List ℕ) → after_prefix (codes "not ") piece ≡ Some behind
    → term_in piece ≡ option_map once_more (term_in behind)
term_behind_not piece behind e = ap term_in (after_is (codes "not ") piece behind e)

-- A piece that does not begin with `not ` writes an atom alone.
plain_at : (a b c d : ℕ) (piece : List ℕ) (same : Bool) → bytes_eq (a ∷ b ∷ c ∷ d ∷ []) (codes "not ") ≡ same
    → after_prefix (codes "not ") (a ∷ b ∷ c ∷ d ∷ piece) ≡ None
    → term_in (a ∷ b ∷ c ∷ d ∷ piece) ≡ option_map plain (atom_in (a ∷ b ∷ c ∷ d ∷ piece))
plain_at a b c d piece true e none =
    let front : a ∷ b ∷ c ∷ d ∷ [] ≡ codes "not " = same_text _ _ (sym e) in
    absurd (let clash : Some piece ≡ None =
    sym (after_own (codes "not ") piece) ∙ ap (λ l. after_prefix (codes "not ") (l ++ piece)) (sym front)
    ∙ none in cc)
plain_at a b c d piece false e none = rw e refl

pub term_plain : (piece : List ℕ) → after_prefix (codes "not ") piece ≡ None
    → term_in piece ≡ option_map plain (atom_in piece)
term_plain [] none = refl
term_plain (a ∷ []) none = refl
term_plain (a ∷ b ∷ []) none = refl
term_plain (a ∷ b ∷ c ∷ []) none = refl
term_plain (a ∷ b ∷ c ∷ d ∷ piece) none = plain_at a b c d piece _ refl none

-- A byte that is no `)` is tested so.
other_byte : (c : ℕ) → c ≢ 41 → (c == 41) ≡ false
other_byte c other = elim (eqb_tells c 41) [ inl same ↦ absurd (other same.1) | inr it ↦ it.0 ]

-- A text is cut at its first `)`.
pub cut : (text : List ℕ) (found : Option (Bor (List ℕ) × Bor (List ℕ))) → IsSplitOnceResult 41 text found
    → MatchOption found (pieces text ≡ text ∷ []) (λ parts. pieces text ≡ parts.0.now ∷ pieces parts.1.now)
cut text None is = slice_split_none (λ c. c == 41) text
    (λ k d below. other_byte _
    (λ e. split_parts 41 text None is (lit< tt) k below (get_or_default text k 0 d below ∙ e)))
cut text (Some parts) is =
    let known = split_parts 41 text (Some parts) is (lit< tt) in
    ap (slice_split (λ c. c == 41)) known.0
    ∙ slice_split_at (λ c. c == 41) parts.0.now 41 parts.1.now
    (λ k d below. other_byte _ (λ e. known.1 k below (get_or_default parts.0.now k 0 d below ∙ e))) refl

-- A text has a first piece.
first_piece : (text : List ℕ) → (piece : List ℕ) × (more : List (List ℕ)) × (pieces text ≡ piece ∷ more)
first_piece [] = ([], [], refl)
first_piece (c ∷ text) = at (c == 41) (first_piece text)
  where
    at : (close : Bool) → (piece : List ℕ) × (more : List (List ℕ)) × (pieces text ≡ piece ∷ more)
        → (piece : List ℕ) × (more : List (List ℕ))
        × (cond close ([] ∷ pieces text) (onto_first c (pieces text)) ≡ piece ∷ more)
    at true first = ([], pieces text, refl)
    at false first = (c ∷ first.0, first.1, ap (onto_first c) first.2)

-- What was read with the first term, by its parts.
pub begun_by : (complete : Filter) (last : List Term) (t : Term) → complete ≡ [] → last ≡ t ∷ []
    → one_term_so_far t ≡ record { complete = complete; last = last }
begun_by complete last t none one = cc

-- The first term, and what the further pieces add to it.
pub first_none : (text piece rest : List ℕ) → pieces text ≡ piece ∷ pieces rest → term_in piece ≡ None
    → filter_in text ≡ Err piece
first_none text piece rest e none =
    let next = first_piece rest in
    ap filter_in_pieces (e ∙ ap (λ more. piece ∷ more) next.2)
    ∙ ap (unless_broken piece (λ t. filter_after (one_term_so_far t) (next.0 ∷ next.1))) none

pub first_some : (text piece rest : List ℕ) (t : Term) → pieces text ≡ piece ∷ pieces rest
    → term_in piece ≡ Some t → filter_in text ≡ filter_after (one_term_so_far t) (pieces rest)
first_some text piece rest t e some =
    let next = first_piece rest in
    ap filter_in_pieces (e ∙ ap (λ more. piece ∷ more) next.2)
    ∙ ap (unless_broken piece (λ t. filter_after (one_term_so_far t) (next.0 ∷ next.1))) some
    ∙ ap (filter_after (one_term_so_far t)) (sym next.2)

pub more_none : (s : SoFar) (text piece rest : List ℕ) → pieces text ≡ piece ∷ pieces rest
    → joined_piece s piece ≡ None → filter_after s (pieces text) ≡ Err piece
more_none s text piece rest e none =
    let next = first_piece rest in
    ap (filter_after s) (e ∙ ap (λ more. piece ∷ more) next.2)
    ∙ ap (unless_broken piece (λ more. filter_after more (next.0 ∷ next.1))) none

pub more_some : (s more : SoFar) (text piece rest : List ℕ) → pieces text ≡ piece ∷ pieces rest
    → joined_piece s piece ≡ Some more → filter_after s (pieces text) ≡ filter_after more (pieces rest)
more_some s more text piece rest e some =
    let next = first_piece rest in
    ap (filter_after s) (e ∙ ap (λ more. piece ∷ more) next.2)
    ∙ ap (unless_broken piece (λ more. filter_after more (next.0 ∷ next.1))) some
    ∙ ap (filter_after more) (sym next.2)
