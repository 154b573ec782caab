-- A filter that is read from a text is spelled by it.
use Rattle.std.proofs.Common.{◌≡◌, ℕ, Bool, true, false, ◌&&◌, List, [], ◌∷◌, ◌++◌, Option, None, Some, Ok, option_map, codes, if◌then◌else◌, refl, sym, ◌∙◌, ap, append_assoc, append-nil}
use Rattle.std.specs.List.{list_all, join_by, join_with_byte, flat_map}
use Rattle.std.specs.Option.{option_and_then, option_or}
use Rattle.std.specs.Str.{bytes_eq}
use Rattle.std.specs.Cmp.Lexicographic.{same_text}
use Rattle.std.proofs.lemmas.List.Splits.{join_with_byte-slice_split}
use Rattle.std.proofs.lemmas.List.Folds.{list_all-append}
use Rattle.nextest_explain.specs.Engines.Texts.{after_prefix}
use Rattle.nextest_explain.specs.Engines.FilterValues.{Atom, Always, Never, AsTheDefault, NameHas, BinaryIs, Term, Filter}
use Rattle.nextest_explain.specs.Engines.FilterTexts.{is_name, atom_text, term_text, terms_text, filter_text, is_atom, is_filled, are_written, is_written, name_after, atom_in, plain, once_more, term_in, SoFar, filter_so_far, also, or_else, joined_by, joined_piece, unless_broken, filter_at_end, filter_after, pieces, one_term_so_far, filter_in_pieces, filter_in}
use Rattle.nextest_explain.proofs.engines.PartsOfTexts.{after_is}

abbrev close : List ℕ
close = codes ")"

-- The name behind a prefix.
name_kept : (prefix piece name found : List ℕ) (kept : Bool) → is_name found ≡ kept
    → after_prefix prefix piece ≡ Some found
    → (if kept then Some found else None) ≡ Some name → (piece ≡ prefix ++ name) × (is_name name ≡ true)
name_kept prefix piece name found true is e got = let same : found ≡ name = cc in
    (after_is prefix piece name (e ∙ ap Some same), ap is_name (sym same) ∙ is)
name_kept prefix piece name found false is e got = absurd (cc)

name_found : (prefix piece name : List ℕ) (found : Option (List ℕ)) → after_prefix prefix piece ≡ found
    → option_and_then (λ n. if is_name n then Some n else None) found ≡ Some name
    → (piece ≡ prefix ++ name) × (is_name name ≡ true)
name_found prefix piece name None e got = absurd (cc)
name_found prefix piece name (Some found) e got = name_kept prefix piece name found (is_name found) refl e got

-- An atom is spelled by its piece and the `)` behind it.
abbrev AtomIs : List ℕ → Atom → Type 0
AtomIs piece atom = (atom_text atom ≡ piece ++ close) × (is_atom atom ≡ true)

atom_named : (piece : List ℕ) (atom : Atom) (part id : Option (List ℕ))
    → name_after (codes "test(") piece ≡ part → name_after (codes "binary_id(") piece ≡ id
    → option_or (option_map NameHas part) (option_map BinaryIs id) ≡ Some atom → AtomIs piece atom
atom_named piece atom (Some part) id x y got =
    let same : NameHas part ≡ atom = cc in
    let known = name_found (codes "test(") piece part _ refl x in
    rw (sym same) (ap (λ p. p ++ close) (sym known.0), known.1)
atom_named piece atom None (Some id) x y got =
    let same : BinaryIs id ≡ atom = cc in
    let known = name_found (codes "binary_id(") piece id _ refl y in
    rw (sym same) (ap (λ p. p ++ close) (sym known.0), known.1)
atom_named piece atom None None x y got = absurd (cc)

atom_if : (piece : List ℕ) (atom : Atom) (a b c : Bool) → bytes_eq piece (codes "all(") ≡ a
    → bytes_eq piece (codes "none(") ≡ b → bytes_eq piece (codes "default(") ≡ c
    → (if a then Some Always else (if b then Some Never else (if c then Some AsTheDefault else
    option_or (option_map NameHas (name_after (codes "test(") piece))
    (option_map BinaryIs (name_after (codes "binary_id(") piece))))) ≡ Some atom
    → AtomIs piece atom
atom_if piece atom true b c x y z got =
    let text : piece ≡ codes "all(" = same_text _ _ (sym x) in let same : Always ≡ atom = cc in
    rw (text, sym same) (refl, refl)
atom_if piece atom false true c x y z got =
    let text : piece ≡ codes "none(" = same_text _ _ (sym y) in let same : Never ≡ atom = cc in
    rw (text, sym same) (refl, refl)
atom_if piece atom false false true x y z got =
    let text : piece ≡ codes "default(" = same_text _ _ (sym z) in let same : AsTheDefault ≡ atom = cc in
    rw (text, sym same) (refl, refl)
atom_if piece atom false false false x y z got = atom_named piece atom _ _ refl refl got

-- A term is spelled by its piece and the `)` behind it.
abbrev TermIs : List ℕ → Term → Type 0
TermIs piece t = (term_text t ≡ piece ++ close) × (is_atom t.atom ≡ true)

plain_known : (piece : List ℕ) (t : Term) (found : Option Atom) → atom_in piece ≡ found
    → option_map plain found ≡ Some t → TermIs piece t
plain_known piece t None e got = absurd (cc)
plain_known piece t (Some atom) e got =
    let same : plain atom ≡ t = cc in rw (sym same) (atom_if piece atom _ _ _ refl refl refl e)

nots_known : (piece : List ℕ) (t : Term) (found : Option Term)
    → ((u : Term) → found ≡ Some u → TermIs piece u) → option_map once_more found ≡ Some t
    → (term_text t ≡ codes "not " ++ (piece ++ close)) × (is_atom t.atom ≡ true)
nots_known piece t None known got = absurd (cc)
nots_known piece t (Some u) known got =
    let same : once_more u ≡ t = cc in let it = known u refl in rw (sym same) (ap (λ l. codes "not " ++ l) it.0, it.1)

term_if : (a b c d : ℕ) (piece : List ℕ) (t : Term) (same : Bool) → bytes_eq (a ∷ b ∷ c ∷ d ∷ []) (codes "not ") ≡ same
    → ((u : Term) → term_in piece ≡ Some u → TermIs piece u)
    → (if same then option_map once_more (term_in piece) else option_map plain
    (atom_in (a ∷ b ∷ c ∷ d ∷ piece))) ≡ Some t
    → TermIs (a ∷ b ∷ c ∷ d ∷ piece) t
term_if a b c d piece t true is known got =
    let front : a ∷ b ∷ c ∷ d ∷ [] ≡ codes "not " = same_text _ _ (sym is) in
    let it = nots_known piece t (term_in piece) known got in
    (it.0 ∙ ap (λ l. l ++ (piece ++ close)) (sym front), it.1)
term_if a b c d piece t false is known got = plain_known (a ∷ b ∷ c ∷ d ∷ piece) t _ refl got

term_known : (piece : List ℕ) (t : Term) → term_in piece ≡ Some t → TermIs piece t
term_known [] t got = plain_known [] t _ refl got
term_known (a ∷ []) t got = plain_known (a ∷ []) t _ refl got
term_known (a ∷ b ∷ []) t got = plain_known (a ∷ b ∷ []) t _ refl got
term_known (a ∷ b ∷ c ∷ []) t got = plain_known (a ∷ b ∷ c ∷ []) t _ refl got
term_known (a ∷ b ∷ c ∷ d ∷ piece) t got = term_if a b c d piece t _ refl (term_known piece) got

-- More elements behind some are written behind them.
flat_more : {X : Type 0} (h : X → List ℕ) (xs more : List X)
    → flat_map h (xs ++ more) ≡ flat_map h xs ++ flat_map h more
flat_more h [] more = refl
flat_more h (x ∷ xs) more =
    ap (λ l. h x ++ l) (flat_more h xs more) ∙ sym (append_assoc (h x) (flat_map h xs) (flat_map h more))

join_one : {X : Type 0} (h : X → List ℕ) (between : List ℕ) (xs : List X) (x : X) → is_filled xs ≡ true
    → join_by h between (xs ++ x ∷ []) ≡ join_by h between xs ++ (between ++ h x)
join_one h between [] x filled = absurd (cc)
join_one h between (y ∷ xs) x filled =
    ap (λ l. h y ++ l) (flat_more (λ z. between ++ h z) xs (x ∷ [])
    ∙ ap (λ l. flat_map (λ z. between ++ h z) xs ++ l) (append-nil (between ++ h x)))
    ∙ sym (append_assoc (h y) (flat_map (λ z. between ++ h z) xs) (between ++ h x))

-- What is behind the last list changes the last list alone.
last_more : (complete : Filter) (last more : List Term) (behind : List ℕ) → terms_text more ≡ terms_text last ++ behind
    → filter_text (complete ++ more ∷ []) ≡ filter_text (complete ++ last ∷ []) ++ behind
last_more [] last more behind e =
    append-nil (terms_text more) ∙ e ∙ ap (λ l. l ++ behind) (sym (append-nil (terms_text last)))
last_more (terms ∷ complete) last more behind e =
    join_one terms_text (codes " or ") (terms ∷ complete) more refl
    ∙ ap (λ l. filter_text (terms ∷ complete) ++ (codes " or " ++ l)) e
    ∙ ap (λ l. filter_text (terms ∷ complete) ++ l) (sym (append_assoc (codes " or ") (terms_text last) behind))
    ∙ sym (append_assoc (filter_text (terms ∷ complete)) (codes " or " ++ terms_text last) behind)
    ∙ ap (λ l. l ++ behind) (sym (join_one terms_text (codes " or ") (terms ∷ complete) last refl))

-- What was read so far can be written.
record IsRead (s : SoFar) : Type 0 where
  complete : list_all are_written s.complete ≡ true
  filled : is_filled s.last ≡ true
  last : list_all (λ t. is_atom t.atom) s.last ≡ true

both : (a b : Bool) → a ≡ true → b ≡ true → (a && b) ≡ true
both a b x y = rw (x, y) refl

filled_more : {X : Type 0} (xs more : List X) → is_filled xs ≡ true → is_filled (xs ++ more) ≡ true
filled_more [] more e = absurd (cc)
filled_more (x ∷ xs) more e = refl

-- Whether a list of lists ends with one that can be written.
so_far_written : (s : SoFar) → IsRead s → list_all are_written (filter_so_far s) ≡ true
so_far_written s is = list_all-append are_written s.complete (s.last ∷ [])
    ∙ both _ _ is.complete (both _ true (both _ _ is.filled is.last) refl)

abbrev JoinIs : SoFar → List ℕ → SoFar → Type 0
JoinIs s piece more = (filter_text (filter_so_far more) ≡ filter_text (filter_so_far s) ++ (piece ++ close))
    × IsRead more

also_known : (s : SoFar) (piece text : List ℕ) (more : SoFar) (found : Option Term) → term_in text ≡ found
    → IsRead s → piece ≡ codes " and " ++ text
    → option_map (also s) found ≡ Some more → JoinIs s piece more
also_known s piece text more None x is e got = absurd (cc)
also_known s piece text more (Some t) x is e got =
    let same : also s t ≡ more = cc in
    let it = term_known text t x in
    rw (sym same) (
      last_more s.complete s.last (s.last ++ t ∷ []) (piece ++ close) (
          join_one term_text (codes " and ") s.last t is.filled
          ∙ ap (λ l. terms_text s.last ++ (codes " and " ++ l)) it.0
          ∙ ap (λ l. terms_text s.last ++ (l ++ close)) (sym e)),
      record {
        complete = is.complete;
        filled = filled_more s.last (t ∷ []) is.filled;
        last = list_all-append (λ t. is_atom t.atom) s.last (t ∷ []) ∙ both _ _ is.last (both _ true it.1 refl);
      },
    )

or_known : (s : SoFar) (piece text : List ℕ) (more : SoFar) (found : Option Term) → term_in text ≡ found
    → IsRead s → piece ≡ codes " or " ++ text
    → option_map (or_else s) found ≡ Some more → JoinIs s piece more
or_known s piece text more None x is e got = absurd (cc)
or_known s piece text more (Some t) x is e got =
    let same : or_else s t ≡ more = cc in
    let it = term_known text t x in
    rw (sym same) (
      join_one terms_text (codes " or ") (filter_so_far s) (t ∷ []) (filled_end s.complete s.last)
          ∙ ap (λ l. filter_text (filter_so_far s) ++ (codes " or " ++ l)) (append-nil (term_text t) ∙ it.0)
          ∙ ap (λ l. filter_text (filter_so_far s) ++ (l ++ close)) (sym e),
      record { complete = so_far_written s is; filled = refl; last = both _ true it.1 refl },
    )
  where
    filled_end : (complete : Filter) (last : List Term) → is_filled (complete ++ last ∷ []) ≡ true
    filled_end [] last = refl
    filled_end (terms ∷ complete) last = refl

joined_known : (s : SoFar) (piece : List ℕ) (more : SoFar) (and_text or_text : Option (List ℕ))
    → after_prefix (codes " and ") piece ≡ and_text → after_prefix (codes " or ") piece ≡ or_text
    → IsRead s → joined_by s and_text or_text ≡ Some more → JoinIs s piece more
joined_known s piece more (Some text) or_text x y is got =
    also_known s piece text more _ refl is (after_is (codes " and ") piece text x) got
joined_known s piece more None (Some text) x y is got =
    or_known s piece text more _ refl is (after_is (codes " or ") piece text y) got
joined_known s piece more None None x y is got = absurd (cc)

-- What further pieces make is spelled by them.
abbrev ReadIs : SoFar → List ℕ → Filter → Type 0
ReadIs s text filter = (filter_text filter ≡ filter_text (filter_so_far s) ++ text) × (is_written filter ≡ true)

filled_end : (complete : Filter) (last : List Term) → is_filled (complete ++ last ∷ []) ≡ true
filled_end [] last = refl
filled_end (terms ∷ complete) last = refl

ended_known : (s : SoFar) (piece : List ℕ) (filter : Filter) → IsRead s → filter_at_end s piece ≡ Ok filter
    → ReadIs s piece filter
ended_known s [] filter is got =
    let same : filter_so_far s ≡ filter = cc in
    rw (sym same) (
      sym (append-nil (filter_text (filter_so_far s))),
      both _ _ (filled_end s.complete s.last)
          (so_far_written s is),
    )
ended_known s (c ∷ piece) filter is got = absurd (cc)

more_known : (next : List ℕ) (pieces : List (List ℕ)) (s : SoFar) (piece : List ℕ) (filter : Filter)
    (found : Option SoFar) → joined_piece s piece ≡ found → IsRead s
    → ((more : SoFar) → IsRead more → filter_after more (next ∷ pieces) ≡ Ok filter
    → ReadIs more (join_with_byte 41 (next ∷ pieces)) filter)
    → unless_broken piece (λ more. filter_after more (next ∷ pieces)) found ≡ Ok filter
    → ReadIs s (piece ++ (41 ∷ join_with_byte 41 (next ∷ pieces))) filter
more_known next pieces s piece filter None x is known got = absurd (cc)
more_known next pieces s piece filter (Some more) x is known got =
    let join = joined_known s piece more _ _ refl refl is x in
    let it = known more join.1 got in (
      it.0 ∙ ap (λ l. l ++ join_with_byte 41 (next ∷ pieces)) join.0
          ∙ append_assoc (filter_text (filter_so_far s)) (piece ++ close) (join_with_byte 41 (next ∷ pieces))
          ∙ ap (λ l. filter_text (filter_so_far s) ++ l) (append_assoc piece close (join_with_byte 41 (next ∷ pieces))),
      it.1,
    )

continued_known : (pieces : List (List ℕ)) (s : SoFar) (filter : Filter) → IsRead s
    → filter_after s pieces ≡ Ok filter → ReadIs s (join_with_byte 41 pieces) filter
continued_known [] s filter is got = absurd (cc)
continued_known (piece ∷ []) s filter is got = ended_known s piece filter is got
continued_known (piece ∷ next ∷ pieces) s filter is got =
    more_known next pieces s piece filter _ refl is (λ more read. continued_known (next ∷ pieces) more filter read) got

first_known : (piece next : List ℕ) (pieces : List (List ℕ)) (filter : Filter) (found : Option Term)
    → term_in piece ≡ found
    → unless_broken piece (λ t. filter_after (one_term_so_far t) (next ∷ pieces)) found ≡ Ok filter
    → (filter_text filter ≡ piece ++ (41 ∷ join_with_byte 41 (next ∷ pieces))) × (is_written filter ≡ true)
first_known piece next pieces filter None x got = absurd (cc)
first_known piece next pieces filter (Some t) x got =
    let term = term_known piece t x in
    let it = continued_known (next ∷ pieces) (one_term_so_far t) filter
    (record { complete = refl; filled = refl; last = both _ true term.1 refl }) got in (
      it.0 ∙ ap (λ l. l ++ join_with_byte 41 (next ∷ pieces))
          (append-nil (term_text t ++ []) ∙ append-nil (term_text t) ∙ term.0)
          ∙ append_assoc piece close (join_with_byte 41 (next ∷ pieces)),
      it.1,
    )

pieces_known : (pieces : List (List ℕ)) (filter : Filter) → filter_in_pieces pieces ≡ Ok filter
    → (filter_text filter ≡ join_with_byte 41 pieces) × (is_written filter ≡ true)
pieces_known [] filter got = absurd (cc)
pieces_known (piece ∷ []) filter got = absurd (cc)
pieces_known (piece ∷ next ∷ pieces) filter got = first_known piece next pieces filter _ refl got

-- A filter that a text writes is spelled by it.
pub spells_what_is_read : (text : List ℕ) (filter : Filter) → filter_in text ≡ Ok filter
    → (filter_text filter ≡ text) × (is_written filter ≡ true)
spells_what_is_read text filter got =
    let it = pieces_known (pieces text) filter got in (it.0 ∙ join_with_byte-slice_split 41 text, it.1)
