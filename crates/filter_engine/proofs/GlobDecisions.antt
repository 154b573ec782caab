-- The functions decide which texts write globs, and which names these take.
use Rattle.std.proofs.Common.{◌≡◌, ℕ, ◌⊎◌, ◌↔◌, Bool, true, false, not, ◌&&◌, ◌||◌, ◌==◌, List, [], ◌∷◌, ◌++◌, Option, Some, None, is_some, length, Decides, refl, sym, ap, ◌∙◌, ⊎_elim, inl, inr, true≢false, subst}
use Rattle.std.proofs.lemmas.Bool.Decides.{Decides-eqb, Decides-like, Decides-and, Decides-or}
use Rattle.filter_engine.specs.GlobClasses.{in_class, ClassTakes}
use Rattle.filter_engine.specs.Globs.{Row, end, part, class, group, Branches, only, also, PartTakes, Joins, RowTakes, SomeTakes, is_empty, are_empty, WritesGlob, IsGlob, GlobMatches}
use Rattle.filter_engine.specs.GlobTexts.{glob_in}
use Rattle.filter_engine.specs.GlobDecisions.{no_bytes, one_byte, ends_in_slash, part_takes, splits_into, row_takes, some_takes, is_taken, writes_glob, glob_takes}
use Rattle.filter_engine.specs.declared.glob.part.GlobPart.{GlobPart}
use Rattle.filter_engine.specs.declared.glob.part.GlobPart.TheVariants.{Byte, AnyByte, AnyBytes, Folders, Nothing}
use Rattle.filter_engine.proofs.GlobTexts.{glob_in_is}

decides_true : (b : Bool) → Decides b (b ≡ true)
decides_true b = (λ e. e, λ e. e)

decides_false : (b : Bool) → Decides (not b) (b ≡ false)
decides_false true = (λ e. sym e, λ e. sym e)
decides_false false = (λ e. refl, λ e. refl)

no_bytes_decides : (bytes : List ℕ) → Decides (no_bytes bytes) (bytes ≡ [])
no_bytes_decides [] = (λ e. refl, λ e. refl)
no_bytes_decides (b ∷ bytes) = (λ e. absurd (true≢false (sym e)), λ e. absurd (cc))

one_byte_decides : (passes : ℕ → Bool) (bytes : List ℕ)
    → Decides (one_byte passes bytes) ((b : ℕ) × (bytes ≡ b ∷ []) × (passes b ≡ true))
one_byte_decides passes [] = (
  λ e. absurd (true≢false (sym e)),
  λ (w : (b : ℕ) × ([] ≡ b ∷ []) × (passes b ≡ true)). absurd (let e = w.1 in cc),
)
one_byte_decides passes (b ∷ bytes) =
    Decides-like (passes b && no_bytes bytes)
    (λ (w : (passes b ≡ true) × (bytes ≡ [])). (b, ap (λ l. b ∷ l) w.1, w.0))
    (λ (w : (c : ℕ) × (b ∷ bytes ≡ c ∷ []) × (passes c ≡ true)).
    let e = w.1 in
    let same : w.0 ≡ b = cc in
    let none : bytes ≡ [] = cc in
    (subst (λ c. passes c ≡ true) same w.2, none))
    (Decides-and (passes b) (no_bytes bytes) (decides_true (passes b)) (no_bytes_decides bytes))

-- The bytes end in a slash.
abbrev EndsInSlash : List ℕ → Type 0
EndsInSlash bytes = (front : List ℕ) × (bytes ≡ front ++ 47 ∷ [])

no_slash : (front : List ℕ) → [] ≡ front ++ 47 ∷ [] → ⊥
no_slash [] e = cc
no_slash (c ∷ front) e = cc

slash_behind : (b : ℕ) (bytes front : List ℕ) → b ∷ bytes ≡ front ++ 47 ∷ []
    → ((b ≡ 47) × (bytes ≡ [])) ⊎ EndsInSlash bytes
slash_behind b bytes [] e = inl (cc, cc)
slash_behind b bytes (c ∷ front) e = inr (front, cc)

ends_in_slash_decides : (bytes : List ℕ) → Decides (ends_in_slash bytes) (EndsInSlash bytes)
ends_in_slash_decides [] = (
  λ e. absurd (true≢false (sym e)),
  λ (w : (front : List ℕ) × ([] ≡ front ++ 47 ∷ [])). absurd (no_slash w.0 w.1),
)
ends_in_slash_decides (b ∷ bytes) =
    Decides-like ((b == 47 && no_bytes bytes) || ends_in_slash bytes)
    (λ (w : ((b ≡ 47) × (bytes ≡ [])) ⊎ EndsInSlash bytes).
    ⊎_elim
    (λ (here : (b ≡ 47) × (bytes ≡ [])). ([], ap (λ c. c ∷ bytes) here.0 ∙ ap (λ l. 47 ∷ l) here.1))
    (λ (later : EndsInSlash bytes). (b ∷ later.0, ap (λ l. b ∷ l) later.1))
    w)
    (λ (w : (front : List ℕ) × (b ∷ bytes ≡ front ++ 47 ∷ [])). slash_behind b bytes w.0 w.1)
    (Decides-or (b == 47 && no_bytes bytes) (ends_in_slash bytes)
    (Decides-and (b == 47) (no_bytes bytes) (Decides-eqb b 47) (no_bytes_decides bytes))
    (ends_in_slash_decides bytes))

-- The parts' test decides what they take.
part_takes_decides : (this : GlobPart) (bytes : List ℕ) → Decides (part_takes this bytes) (PartTakes this bytes)
part_takes_decides (Byte byte) bytes =
    Decides-like (one_byte (λ other. other == byte) bytes)
    (λ (w : (b : ℕ) × (bytes ≡ b ∷ []) × ((b == byte) ≡ true)). w.1 ∙ ap (λ b. b ∷ []) ((Decides-eqb w.0 byte).0 w.2))
    (λ e. (byte, e, (Decides-eqb byte byte).1 refl))
    (one_byte_decides (λ other. other == byte) bytes)
part_takes_decides AnyByte bytes = Decides-eqb (length bytes) 1
part_takes_decides AnyBytes bytes = (λ e. tt, λ t. refl)
part_takes_decides Folders bytes =
    Decides-or (no_bytes bytes) (ends_in_slash bytes) (no_bytes_decides bytes) (ends_in_slash_decides bytes)
part_takes_decides Nothing bytes = no_bytes_decides bytes

-- ---- rows

both_empty : (front rest : List ℕ) → [] ≡ front ++ rest → (front ≡ []) × (rest ≡ [])
both_empty [] rest e = (refl, sym e)
both_empty (b ∷ front) rest e = absurd (cc)

-- How bytes that begin with one split.
split_behind : (F G : List ℕ → Type 0) (b : ℕ) (bytes front rest : List ℕ) → b ∷ bytes ≡ front ++ rest
    → F front → G rest
    → (F [] × G (b ∷ bytes)) ⊎ Joins (λ more. F (b ∷ more)) G bytes
split_behind F G b bytes [] rest e f g = inl (f, subst G (sym e) g)
split_behind F G b bytes (c ∷ front) rest e f g =
    let same : c ≡ b = cc in
    inr (front, rest, cc, subst (λ x. F (x ∷ front)) same f, g)

splits_into_decides : (bytes : List ℕ) (f g : List ℕ → Bool) (F G : List ℕ → Type 0)
    → ((x : List ℕ) → Decides (f x) (F x))
    → ((x : List ℕ) → Decides (g x) (G x)) → Decides (splits_into f g bytes) (Joins F G bytes)
splits_into_decides [] f g F G fs gs =
    Decides-like (f [] && g [])
    (λ (w : F [] × G []). ([], [], refl, w.0, w.1))
    (λ (w : Joins F G []).
    let none = both_empty w.0 w.1 w.2 in
    (subst F none.0 w.3, subst G none.1 w.4))
    (Decides-and (f []) (g []) (fs []) (gs []))
splits_into_decides (b ∷ bytes) f g F G fs gs =
    Decides-like ((f [] && g (b ∷ bytes)) || splits_into (λ more. f (b ∷ more)) g bytes)
    (λ (w : (F [] × G (b ∷ bytes)) ⊎ Joins (λ more. F (b ∷ more)) G bytes).
    ⊎_elim
    (λ (here : F [] × G (b ∷ bytes)). ([], b ∷ bytes, refl, here.0, here.1))
    (λ (later : Joins (λ more. F (b ∷ more)) G bytes).
    (b ∷ later.0, later.1, ap (λ l. b ∷ l) later.2, later.3, later.4))
    w)
    (λ (w : Joins F G (b ∷ bytes)). split_behind F G b bytes w.0 w.1 w.2 w.3 w.4)
    (Decides-or (f [] && g (b ∷ bytes)) (splits_into (λ more. f (b ∷ more)) g bytes)
    (Decides-and (f []) (g (b ∷ bytes)) (fs []) (gs (b ∷ bytes)))
    (splits_into_decides bytes (λ more. f (b ∷ more)) g (λ more. F (b ∷ more)) G (λ more. fs (b ∷ more)) gs))

mutual
  -- The rows' test decides what they take.
  row_takes_decides : (row : Row) (bytes : List ℕ) → Decides (row_takes row bytes) (RowTakes row bytes)
  row_takes_decides end bytes = no_bytes_decides bytes
  row_takes_decides (part this row) bytes =
      splits_into_decides bytes (part_takes this) (row_takes row) (PartTakes this) (RowTakes row)
      (part_takes_decides this) (row_takes_decides row)
  row_takes_decides (class this row) bytes =
      splits_into_decides bytes (one_byte (in_class this)) (row_takes row) (ClassTakes this) (RowTakes row)
      (one_byte_decides (in_class this)) (row_takes_decides row)
  row_takes_decides (group branches row) bytes =
      splits_into_decides bytes (λ front. some_takes branches front || (are_empty branches && no_bytes front))
      (row_takes row)
      (λ front. SomeTakes branches front ⊎ ((are_empty branches ≡ true) × (front ≡ []))) (RowTakes row)
      (λ front.
      Decides-or (some_takes branches front) (are_empty branches && no_bytes front) (some_takes_decides branches front)
      (Decides-and (are_empty branches) (no_bytes front) (decides_true (are_empty branches)) (no_bytes_decides front)))
      (row_takes_decides row)

  -- The branches' test decides what they take.
  some_takes_decides : (branches : Branches) (bytes : List ℕ)
      → Decides (some_takes branches bytes) (SomeTakes branches bytes)
  some_takes_decides (only row) bytes =
      Decides-and (not (is_empty row)) (row_takes row bytes) (decides_false (is_empty row))
      (row_takes_decides row bytes)
  some_takes_decides (also row branches) bytes =
      Decides-or (not (is_empty row) && row_takes row bytes) (some_takes branches bytes)
      (Decides-and (not (is_empty row)) (row_takes row bytes) (decides_false (is_empty row))
      (row_takes_decides row bytes))
      (some_takes_decides branches bytes)

-- ---- globs

found_decides : (text : List ℕ) (found : Option Row) → ((row : Row) → WritesGlob text row ↔ (found ≡ Some row))
    → Decides (is_some found) ((row : Row) × WritesGlob text row)
found_decides text None same = (
  λ e. absurd (true≢false (sym e)),
  λ (w : (row : Row) × WritesGlob text row). let e = (same w.0).0 w.1 in absurd (cc),
)
found_decides text (Some row) same = (λ e. (row, (same row).1 refl), λ w. refl)

taken_decides : (text name : List ℕ) (found : Option Row) → ((row : Row) → WritesGlob text row ↔ (found ≡ Some row))
    → Decides (is_taken found name) ((row : Row) × WritesGlob text row × RowTakes row name)
taken_decides text name None same = (
  λ e. absurd (true≢false (sym e)),
  λ (w : (row : Row) × WritesGlob text row × RowTakes row name). let e = (same w.0).0 w.1 in absurd (cc),
)
taken_decides text name (Some row) same =
    Decides-like (row_takes row name)
    (λ (takes : RowTakes row name). (row, (same row).1 refl, takes))
    (λ (w : (other : Row) × WritesGlob text other × RowTakes other name).
    let e = (same w.0).0 w.1 in
    let is : w.0 ≡ row = cc in
    subst (λ r. RowTakes r name) is w.2)
    (row_takes_decides row name)

-- It is decided whether a text writes a glob.
pub writes_glob_decides : (text : List ℕ) → Decides (writes_glob text) (IsGlob text)
unfolding writes_glob IsGlob
writes_glob_decides text = found_decides text (glob_in text) (glob_in_is text)

-- It is decided whether a text writes a glob that takes a name.
pub glob_takes_decides : (text name : List ℕ) → Decides (glob_takes text name) (GlobMatches text name)
unfolding glob_takes GlobMatches
glob_takes_decides text name = taken_decides text name (glob_in text) (glob_in_is text)
