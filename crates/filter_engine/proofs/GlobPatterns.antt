-- Patterns match what the parts of a glob take.
use Rattle.std.proofs.Common.{◌≡◌, ℕ, zero, suc, ◌+◌, ◌-◌, ◌<◌, ◌≤◌, ◌⊎◌, ◌↔◌, true, not, List, [], ◌∷◌, ◌++◌, Some, None, length, take, drop, get_or, min, refl, sym, ap, ◌∙◌, subst, ⊎_elim, inl, inr, arith, append_assoc, true≢false, append-nil, false, Bool, nat_le, ◌&&◌}
use Rattle.std.specs.Prelude.{All, IfOk, Ok, Err, Result, slice_get, is_some}
use Rattle.std.specs.declared.alloc.AllocError.{AllocError}
use Rattle.std.proofs.Math.Seq.{drop-append_seam}
use Rattle.std.proofs.lemmas.Bool.{cases_lt, le-leb}
use Rattle.std.proofs.lemmas.List.{drop_more, drop-drop, length-drop, length-take, length-append, take-append-drop, nil_from_length}
use Rattle.std.proofs.lemmas.Option.{slice_get-get_or, slice_get_past, slice_get_within}
use Rattle.regex_class.specs.Ranges.{in_range, in_ranges, HasExactly}
use Rattle.regex_hir.specs.Text.{has_bytes_at, byte_before}
use Rattle.regex_hir.specs.Looks.{holds, holds_between}
use Rattle.regex_hir.specs.declared.look.Look.TheVariants.{Start, End}
use Rattle.regex_hir.specs.Re.{Re, empty, literal, byte_in, look, cat, alt, plus}
use Rattle.regex_hir.specs.declared.hir.Hir.{Hir}
use Rattle.regex_hir.specs.Meaning.{meaning, cat_all, alt_all, repeat}
use Rattle.regex_hir.specs.Matches.{Matches, Rounds, one_round, next_round}
use Rattle.regex_hir.specs.Find.{find}
use Rattle.regex_hir.proofs.TextLemmas.{has_bytes_at_parts, has_bytes_at_from, byte_before-zero, byte_before-add-one}
use Rattle.regex_hir.proofs.MatchesLemmas.{Matches-IsSpan}
use Rattle.regex_hir.proofs.OptionLemmas.{value_of_IsSome}
use Rattle.regex_hir.proofs.FindLemmas.{IsFirst-of_first_between, find_sound, find_complete}
use Rattle.filter_engine.specs.Globs.{PartTakes, Joins}
use Rattle.filter_engine.specs.Patterns.{StandsBetween, MatchesKind, Means, MeansRanges}
use Rattle.filter_engine.specs.declared.glob.part.GlobPart.TheVariants.{Byte, AnyByte, AnyBytes, Folders, Nothing}

-- What is behind the front of what is from a place on.
rest_at : (name : List ℕ) (i : ℕ) (front rest : List ℕ) → drop i name ≡ front ++ rest
    → rest ≡ drop (i + length front) name
rest_at name i front rest e =
    sym (drop-append_seam front rest) ∙ ap (drop (length front)) (sym e) ∙ drop-drop (length front) i name

-- A front is within the name.
front_within : (name : List ℕ) (i : ℕ) (front rest : List ℕ) → i ≤ length name → drop i name ≡ front ++ rest
    → i + length front ≤ length name
front_within name i front rest h e =
    let whole : length name - i ≡ length front + length rest =
    sym (length-drop i name) ∙ ap length e ∙ length-append front rest in
    omega arith

-- Each byte is in the class of all bytes.
in_all : (b : ℕ) → b < 256 → in_ranges ((0, 255) ∷ []) b ≡ true
unfolding in_ranges in_range
in_all b h = rw (le-leb 0 b (omega arith), le-leb b 255 (omega arith)) refl

-- A class of all bytes matches any byte.
pub any_byte_means : (ranges : List (ℕ × ℕ)) → HasExactly ranges (in_ranges ((0, 255) ∷ []))
    → Means AnyByte (byte_in ranges)
any_byte_means ranges exactly name bytes i j h = (
  λ (found : (b : ℕ) × (slice_get name i ≡ Some b) × (in_ranges ranges b ≡ true) × (j ≡ i + 1)).
      let inside = slice_get_within name i found.0 found.1 in
      (get_or name i 0 ∷ [], drop (i + 1) name, drop_more name i 0 inside, found.3, refl),
  λ (stands : StandsBetween (PartTakes AnyByte) name i j).
      let within = front_within name i stands.0 stands.1 h stands.2 in
      let one : length stands.0 ≡ 1 = stands.4 in
      let inside : i < length name = omega arith in
      let small : get_or name i 0 < 256 = bytes i 0 inside in (
        get_or name i 0,
        slice_get-get_or name i 0 inside,
        exactly (get_or name i 0) (omega arith) ∙ in_all (get_or name i 0) small,
        stands.3 ∙ ap (λ n. i + n) one,
      ),
)

module _ (re : Re) (means : Means AnyByte re) (name : List ℕ) (bytes : All (λ byte. byte < 256) name) where
  -- One round of any byte.
  round : (i j : ℕ) → j ≡ i + 1 → j ≤ length name → Matches name re i j
  round i j next h =
      (means name bytes i j (omega arith)).1
      (get_or name i 0 ∷ [], drop (i + 1) name, drop_more name i 0 (omega arith), next, refl)

  -- As many rounds as there are bytes.
  rounds_to : (n i j : ℕ) → j ≡ i + (n + 1) → j ≤ length name → Rounds (Matches name re) i j
  rounds_to zero i j e h = one_round j (round i j (omega arith) h)
  rounds_to (suc n) i j e h =
      next_round (i + (n + 1)) j (rounds_to n i (i + (n + 1)) refl (omega arith))
      (round (i + (n + 1)) j (omega arith) h)

  any_to : (front : List ℕ) (i j : ℕ) → j ≡ i + length front → j ≤ length name → Rounds (Matches name re) i j ⊎ (j ≡ i)
  any_to [] i j e h = inr (omega arith)
  any_to (b ∷ front) i j e h = inl (rounds_to (length front) i j (omega arith) h)

-- Any rounds of any byte match any bytes.
pub any_bytes_means : (re : Re) → Means AnyByte re → Means AnyBytes (repeat 0 None true re)
unfolding repeat
any_bytes_means re means name bytes i j h = (
  λ found.
      let span = Matches-IsSpan name (alt (plus true re) empty) i j found in
      let len : length (take (j - i) (drop i name)) ≡ j - i =
      length-take (j - i) (drop i name) ∙ ap (min (j - i)) (length-drop i name) ∙ omega arith in (
        take (j - i) (drop i name),
        drop (j - i) (drop i name),
        sym (take-append-drop (j - i) (drop i name)),
        omega arith,
        tt,
      ),
  λ (stands : StandsBetween (PartTakes AnyBytes) name i j).
      let within = front_within name i stands.0 stands.1 h stands.2 in
      any_to re means name bytes stands.0 i j stands.3 (let e = stands.3 in omega arith),
)

-- A byte as a literal.
pub byte_means : (b : ℕ) → Means (Byte b) (literal (b ∷ []))
byte_means b name bytes i j h = (
  λ (found : (has_bytes_at name i (b ∷ []) ≡ true) × (j ≡ i + 1)).
      (b ∷ [], drop (i + 1) name, has_bytes_at_parts name i (b ∷ []) found.0, found.1, refl),
  λ (stands : StandsBetween (PartTakes (Byte b)) name i j). (
    has_bytes_at_from name i (b ∷ []) stands.1 (rw stands.4 at stands.2),
    stands.3
        ∙ ap (λ f. i + length f) stands.4,
  ),
)

no_class : (b : ℕ) → in_ranges [] b ≡ true → ⊥
unfolding in_ranges
no_class b e = true≢false (sym e)

-- Nothing, or any bytes and a slash.
pub folders_means : (re : Re) → Means AnyBytes re
    → Means Folders (alt_all (empty ∷ cat_all (re ∷ literal (47 ∷ []) ∷ []) ∷ []))
folders_means re means name bytes i j h = (
  λ found.
      ⊎_elim
      (λ (none : j ≡ i). ([], drop i name, refl, omega arith, inl refl))
      (λ more.
      ⊎_elim
      (λ (path : (l : ℕ) × Matches name re i l
      × ((k : ℕ) × ((has_bytes_at name l (47 ∷ []) ≡ true) × (k ≡ l + 1)) × (j ≡ k))).
      let front = (means name bytes i path.0 h).0 path.1 in
      let slash = has_bytes_at_parts name path.0 (47 ∷ []) path.2.1.0 in
      let rest : front.1 ≡ 47 ∷ drop (path.0 + 1) name =
      rest_at name i front.0 front.1 front.2 ∙ ap (λ k. drop k name) (sym front.3) ∙ slash in
      let len = length-append front.0 (47 ∷ []) in
      let place : path.0 ≡ i + length front.0 = front.3 in
      let ends : path.2.0 ≡ path.0 + 1 = path.2.1.1 in
      let last : j ≡ path.2.0 = path.2.2 in (
        front.0 ++ 47 ∷ [],
        drop (path.0 + 1) name,
        front.2 ∙ ap (λ r. front.0 ++ r) rest ∙ sym (append_assoc front.0 (47 ∷ []) (drop (path.0 + 1) name)),
        omega arith,
        inr (front.0, refl),
      ))
      (λ (none : (b : ℕ) × (slice_get name i ≡ Some b) × (in_ranges [] b ≡ true) × (j ≡ i + 1)). absurd
      (no_class none.0 none.2))
      more)
      found,
  λ (stands : StandsBetween (PartTakes Folders) name i j).
      ⊎_elim
      (λ (none : stands.0 ≡ []). inl (let len = ap length none in let e = stands.3 in omega arith))
      (λ (some : (front : List ℕ) × (stands.0 ≡ front ++ 47 ∷ [])).
      let split : drop i name ≡ some.0 ++ (47 ∷ stands.1) =
      stands.2 ∙ ap (λ f. f ++ stands.1) some.1 ∙ append_assoc some.0 (47 ∷ []) stands.1 in
      let l = i + length some.0 in
      let slash : drop l name ≡ 47 ∷ stands.1 = sym (rest_at name i some.0 (47 ∷ stands.1) split) in
      let len = ap length some.1 ∙ length-append some.0 (47 ∷ []) in
      let e = stands.3 in
      inr (inl (
        l,
        (means name bytes i l h).1 (some.0, 47 ∷ stands.1, split, refl, tt),
        (j, (has_bytes_at_from name l (47 ∷ []) stands.1 slash, omega arith), refl),
      )))
      stands.4,
)

-- Nothing matches nothing.
pub empty_means : MatchesKind (λ bytes. bytes ≡ []) empty
empty_means name bytes i j h = (
  λ (same : j ≡ i). ([], drop i name, refl, omega arith, refl),
  λ (stands : StandsBetween (λ bytes. bytes ≡ []) name i j). let len = ap length stands.4 in let e =
      stands.3 in omega arith,
)

pub nothing_means : Means Nothing empty
nothing_means = empty_means

-- A class of no bytes matches no kind that takes nothing.
pub never_means : (Kind : List ℕ → Type 0) → ((bytes : List ℕ) → Kind bytes → ⊥) → MatchesKind Kind (byte_in [])
never_means Kind never name bytes i j h = (
  λ (found : (b : ℕ) × (slice_get name i ≡ Some b) × (in_ranges [] b ≡ true) × (j ≡ i + 1)). absurd
      (no_class found.0 found.2),
  λ (stands : StandsBetween Kind name i j). absurd (never stands.0 stands.4),
)

-- The pattern of a kind matches the same kind otherwise said.
pub kind_same : (A B : List ℕ → Type 0) (re : Re) → ((bytes : List ℕ) → A bytes ↔ B bytes) → MatchesKind A re
    → MatchesKind B re
kind_same A B re same means name bytes i j h = (
  λ found. let s = (means name bytes i j h).0 found in (s.0, s.1, s.2, s.3, (same s.0).0 s.4),
  λ (s : StandsBetween B name i j). (means name bytes i j h).1 (s.0, s.1, s.2, s.3, (same s.0).1 s.4),
)

-- One pattern behind another.
pub cat_means : (A B : List ℕ → Type 0) (a b : Re) → MatchesKind A a → MatchesKind B b
    → MatchesKind (Joins A B) (cat a b)
cat_means A B a b one two name bytes i j h = (
  λ (found : (l : ℕ) × Matches name a i l × Matches name b l j).
      let l = found.0 in
      let s = (one name bytes i l h).0 found.1 in
      let within = front_within name i s.0 s.1 h s.2 in
      let place : l ≡ i + length s.0 = s.3 in
      let t = (two name bytes l j (omega arith)).0 found.2 in
      let rest : s.1 ≡ drop l name = rest_at name i s.0 s.1 s.2 ∙ ap (λ k. drop k name) (sym place) in
      let last : j ≡ l + length t.0 = t.3 in
      let len = length-append s.0 t.0 in (
        s.0 ++ t.0,
        t.1,
        s.2 ∙ ap (λ r. s.0 ++ r) (rest ∙ t.2) ∙ sym (append_assoc s.0 t.0 t.1),
        omega arith,
        (s.0, t.0, refl, s.4, t.4),
      ),
  λ (s : StandsBetween (Joins A B) name i j).
      let front = s.4.0 in
      let back = s.4.1 in
      let split : drop i name ≡ front ++ (back ++ s.1) = s.2 ∙ ap (λ f. f ++ s.1) s.4.2 ∙ append_assoc front back s.1 in
      let l = i + length front in
      let within : l ≤ length name = front_within name i front (back ++ s.1) h split in
      let rest : back ++ s.1 ≡ drop l name = rest_at name i front (back ++ s.1) split in
      let len = ap length s.4.2 ∙ length-append front back in
      let place = s.3 in (
        l,
        (one name bytes i l h).1 (front, back ++ s.1, split, refl, s.4.3),
        (two name bytes l j within).1 (back, s.1, sym rest, omega arith, s.4.4),
      ),
)

-- One pattern or another.
pub alt_means : (A B : List ℕ → Type 0) (a b : Re) → MatchesKind A a → MatchesKind B b
    → MatchesKind (λ bytes. A bytes ⊎ B bytes) (alt a b)
alt_means A B a b one two name bytes i j h = (
  λ found.
      ⊎_elim
      (λ (left : Matches name a i j). let s = (one name bytes i j h).0 left in (s.0, s.1, s.2, s.3, inl s.4))
      (λ (right : Matches name b i j). let s = (two name bytes i j h).0 right in (s.0, s.1, s.2, s.3, inr s.4))
      found,
  λ (s : StandsBetween (λ bytes. A bytes ⊎ B bytes) name i j).
      ⊎_elim
      (λ (left : A s.0). inl ((one name bytes i j h).1 (s.0, s.1, s.2, s.3, left)))
      (λ (right : B s.0). inr ((two name bytes i j h).1 (s.0, s.1, s.2, s.3, right)))
      s.4,
)

-- A class of bytes matches one byte that passes its test.
pub byte_in_means : (ranges : List (ℕ × ℕ)) (passes : ℕ → Bool) → ((b : ℕ) → b < 256 → in_ranges ranges b ≡ passes b)
    → MatchesKind (λ bytes. (b : ℕ) × (bytes ≡ b ∷ []) × (passes b ≡ true)) (byte_in ranges)
byte_in_means ranges passes exactly name bytes i j h = (
  λ (found : (b : ℕ) × (slice_get name i ≡ Some b) × (in_ranges ranges b ≡ true) × (j ≡ i + 1)).
      let inside = slice_get_within name i found.0 found.1 in
      let here = slice_get-get_or name i 0 inside in
      let is : slice_get name i ≡ Some found.0 = found.1 in
      let same : found.0 ≡ get_or name i 0 = cc in
      let small : get_or name i 0 < 256 = bytes i 0 inside in (
        get_or name i 0 ∷ [],
        drop (i + 1) name,
        drop_more name i 0 inside,
        found.3,
        (
          get_or name i 0,
          refl,
          sym (exactly (get_or name i 0) small) ∙ ap (in_ranges ranges) (sym same) ∙ found.2,
        ),
      ),
  λ (stands : StandsBetween (λ bytes. (b : ℕ) × (bytes ≡ b ∷ []) × (passes b ≡ true)) name i j).
      let b = stands.4.0 in
      let within = front_within name i stands.0 stands.1 h stands.2 in
      let one : length stands.0 ≡ 1 = ap length stands.4.1 in
      let inside : i < length name = omega arith in
      let text : drop i name ≡ b ∷ stands.1 = stands.2 ∙ ap (λ f. f ++ stands.1) stands.4.1 in
      let more = drop_more name i 0 inside in
      let same : get_or name i 0 ≡ b = cc in
      let small : get_or name i 0 < 256 = bytes i 0 inside in (
        get_or name i 0,
        slice_get-get_or name i 0 inside,
        exactly (get_or name i 0) small ∙ ap passes same ∙ stands.4.2,
        stands.3 ∙ ap (λ n. i + n) one,
      ),
)

-- The class of ranges.
pub ranges_mean : (made ranges : List (ℕ × ℕ)) → HasExactly made (in_ranges ranges)
    → MeansRanges false ranges (byte_in made)
ranges_mean made ranges exactly = byte_in_means made (in_ranges ranges) (λ b h. exactly b (omega arith))

-- The class of the bytes in no range.
pub others_mean : (other made ranges : List (ℕ × ℕ)) → HasExactly made (in_ranges ranges)
    → HasExactly other (λ c. nat_le c 255 && not (in_ranges made c)) → MeansRanges true ranges (byte_in other)
others_mean other made ranges exactly negated =
    byte_in_means other (λ b. not (in_ranges ranges b))
    (λ b h.
    let below : nat_le b 255 ≡ true = le-leb b 255 (omega arith) in
    negated b (omega arith) ∙ ap (λ t. t && not (in_ranges made b)) below ∙ ap not (exactly b (omega arith)))

-- ---- whole names

end_is : (name : List ℕ) (i : ℕ) → holds End name i ≡ not (is_some (slice_get name i))
unfolding holds holds_between
end_is name i = refl

-- The end holds just where nothing is left.
end_left : (name : List ℕ) (i : ℕ) → holds End name i ≡ true → drop i name ≡ []
end_left name i e =
    ⊎_elim
    (λ (inside : i < length name).
    absurd (true≢false (sym (sym (end_is name i) ∙ e) ∙ ap (λ o. not (is_some o)) (slice_get-get_or name i 0 inside))))
    (λ past. nil_from_length (drop i name) (length-drop i name ∙ omega arith))
    (cases_lt i (length name))

left_end : (name : List ℕ) (i : ℕ) → drop i name ≡ [] → holds End name i ≡ true
left_end name i e =
    let past : length name ≤ i = omega (arith, length-drop i name, ap length e) in
    end_is name i ∙ ap (λ o. not (is_some o)) (slice_get_past name i past)

start_is : (name : List ℕ) (i : ℕ) → holds Start name i ≡ not (is_some (byte_before name i))
unfolding holds holds_between
start_is name i = refl

start_holds : (name : List ℕ) → holds Start name 0 ≡ true
start_holds name = start_is name 0 ∙ ap (λ o. not (is_some o)) (byte_before-zero name)

-- The start holds at the first place alone.
start_place : (name : List ℕ) (i : ℕ) → i ≤ length name → holds Start name i ≡ true → i ≡ 0
start_place name zero h e = refl
start_place name (suc k) h e =
    let before : byte_before name (suc k) ≡ Some (get_or name k 0) =
    ap (byte_before name) (omega arith) ∙ byte_before-add-one name k ∙ slice_get-get_or name k 0 (omega arith) in
    absurd (true≢false (sym (sym (start_is name (suc k)) ∙ e) ∙ ap (λ o. not (is_some o)) before))

-- What the pattern matches up to the end is the whole name.
kind_whole : (Kind : List ℕ → Type 0) (re : Re) → MatchesKind Kind re → (name : List ℕ)
    → All (λ byte. byte < 256) name → (i j : ℕ) → i ≡ 0
    → Matches name (cat_all (re ∷ look End ∷ [])) i j → Kind name
kind_whole Kind re means name bytes i j zero_start (l, here, last) =
    let s = (means name bytes i l (omega arith)).0 here in
    let place : l ≡ i + length s.0 = s.3 in
    let rest : s.1 ≡ drop l name = rest_at name i s.0 s.1 s.2 ∙ ap (λ k. drop k name) (sym place) in
    let none : drop l name ≡ [] = end_left name l last.1.0 in
    let whole : drop i name ≡ name = ap (λ k. drop k name) zero_start in
    let same : name ≡ s.0 = sym whole ∙ s.2 ∙ ap (λ r. s.0 ++ r) (rest ∙ none) ∙ append-nil s.0 in
    subst Kind (sym same) s.4

-- The pattern between the start and the end is found just in the names of its kind.
pub whole_found : (Kind : List ℕ → Type 0) (re : Re) → MatchesKind Kind re → (name : List ℕ)
    → All (λ byte. byte < 256) name
    → (is_some (find (cat_all (look Start ∷ re ∷ look End ∷ [])) name 0) ≡ true) ↔ Kind name
unfolding find
whole_found Kind re means name bytes = (
  λ some.
      let whole : Re = cat_all (look Start ∷ re ∷ look End ∷ []) in
      let value = value_of_IsSome (find whole name 0) some in
      let first = IsFirst-of_first_between _ 0 (length name) value.0 value.1 in
      let sound = (find_sound whole name 0 value.0 value.1).1 in
      let zero_place : value.0.start ≡ 0 = start_place name value.0.start first.to sound.1.0 in
      let place : sound.0 ≡ 0 = sound.1.1 ∙ zero_place in
      kind_whole Kind re means name bytes 0 value.0.trace.end refl
      (subst (λ k. Matches name (cat_all (re ∷ look End ∷ [])) k value.0.trace.end) place sound.2),
  λ takes.
      find_complete (cat_all (look Start ∷ re ∷ look End ∷ [])) name 0 0 (length name) (omega arith) (omega arith) (
        0,
        (start_holds name, refl),
        (
          length name,
          (means name bytes 0 (length name) (omega arith)).1 (name, [], sym (append-nil name), omega arith, takes),
          (
            length name,
            (
              left_end name (length name)
                  (nil_from_length (drop (length name) name) (length-drop (length name) name ∙ omega arith)),
              refl,
            ),
            refl,
          ),
        ),
      ),
)

-- The pattern of a byte, if memory lasted.
pub byte_pattern : (result : Result Hir AllocError) (b : ℕ) → IfOk result (λ hir. meaning hir ≡ literal (b ∷ []))
    → IfOk result (λ hir. Means (Byte b) (meaning hir))
byte_pattern (Ok hir) b is = rw is (byte_means b)
byte_pattern (Err e) b is = tt
