-- The parts that a text writes are determined by the text.
use Rattle.std.proofs.Common.{◌≡◌, ℕ, ◌+◌, ◌-◌, ◌<◌, ◌↔◌, Bool, true, false, List, [], ◌∷◌, ◌++◌, length, drop, take, get_or, refl, sym, ap, ◌∙◌, subst, ⊎_elim, inl, inr, arith, true≢false}
use Rattle.std.proofs.lemmas.List.{drop_more, drop-drop, length-drop, take_all}
use Rattle.std.proofs.lemmas.List.Elements.{All-head, All-tail}
use Rattle.filter_engine.specs.Globs.{is_special, opens, is_whole, is_last, folders_part, behind, Row, end, part, class, group, WritesFolders, WritesLast, WritesPart, WritesRow, RowTakes, IsGlob, GlobMatches, IsPlain}
use Rattle.filter_engine.specs.GlobReading.{BeginsFolders, BeginsLast}
use Rattle.std.specs.Prelude.{if◌then◌else◌}
use Rattle.filter_engine.specs.declared.glob.place.Place.{Place}
use Rattle.filter_engine.specs.declared.glob.place.Place.TheVariants.{Start, BehindFolders, BehindSlash, Elsewhere}
use Rattle.filter_engine.specs.declared.glob.part.GlobPart.{GlobPart}
use Rattle.filter_engine.specs.declared.glob.part.GlobPart.TheVariants.{Byte, AnyByte, AnyBytes, Folders, Nothing}

-- A slice from a place on.
pub whole_from : (text : List ℕ) (at : ℕ) → take (length text - at) (drop at text) ≡ drop at text
whole_from text at = take_all (length text - at) (drop at text) (omega (arith, length-drop at text))

-- A slice behind the first byte.
pub drop_behind : (text : List ℕ) (len : ℕ) → drop len (drop 1 text) ≡ drop (len + 1) text
drop_behind text len = drop-drop len 1 text ∙ ap (λ k. drop k text) (omega arith)

-- A text from its first byte on.
pub first_is : (text : List ℕ) (byte : ℕ) → 0 < length text → get_or text 0 0 ≡ byte → text ≡ byte ∷ drop 1 text
first_is text byte some is = drop_more text 0 0 some ∙ ap (λ b. b ∷ drop 1 text) is

-- A text has one first byte and one rest.
pub heads : (text : List ℕ) (a b : ℕ) (r s : List ℕ) → text ≡ a ∷ r → text ≡ b ∷ s → (a ≡ b) × (r ≡ s)
heads text a b r s e f = (cc, cc)

-- A text has no two first bytes.
pub apart : (a b : ℕ) (r s text : List ℕ) → text ≡ a ∷ r → text ≡ b ∷ s → a < b → ⊥
apart a b r s text e f below = omega (arith, (heads text a b r s e f).0)

-- A byte that is special is none that is not.
pub special_apart : (b c : ℕ) → is_special b ≡ false → is_special c ≡ true → b ≡ c → ⊥
special_apart b c plain special same = true≢false (sym special ∙ ap is_special (sym same) ∙ plain)

question_star : (a b : ℕ) → a ≡ 63 → b ≡ 42 → a ≡ b → ⊥
question_star a b e f same = omega arith

question_escape : (a : ℕ) → a ≡ 63 → a ≡ 92 → ⊥
question_escape a e f = omega arith

star_escape : (a : ℕ) → a ≡ 42 → a ≡ 92 → ⊥
star_escape a e f = omega arith

-- No stars of a branch end before a slash.
last_not_slash : (inside : Bool) (place : Place) (r : List ℕ) → is_last inside place (47 ∷ r) ≡ true → ⊥
last_not_slash true BehindFolders r e = true≢false (sym e)
last_not_slash false BehindFolders r e = true≢false (sym e)
last_not_slash inside Start r e = true≢false (sym e)
last_not_slash inside BehindSlash r e = true≢false (sym e)
last_not_slash inside Elsewhere r e = true≢false (sym e)

module _ (inside : Bool) (place : Place) where
  -- A byte is not written where another special one than a backslash stands.
  byte_not : (text : List ℕ) (byte : ℕ) (rest : List ℕ) (c : ℕ) (s : List ℕ)
      → WritesPart inside place text (Byte byte) rest
      → text ≡ c ∷ s → is_special c ≡ true → (c ≡ 92 → ⊥) → ⊥
  byte_not text byte rest c s writes e special other =
      ⊎_elim
      (λ (plain : (text ≡ byte ∷ rest) × (is_special byte ≡ false)). special_apart byte c plain.1 special
      (heads text byte c rest s plain.0 e).0)
      (λ (escaped : text ≡ 92 ∷ byte ∷ rest). other (heads text c 92 s (byte ∷ rest) e escaped).0)
      writes

  same_bytes : (text : List ℕ) (a b : ℕ) (r s : List ℕ) → WritesPart inside place text (Byte a) r
      → WritesPart inside place text (Byte b) s
      → (Byte a ≡ Byte b) × (r ≡ s)
  same_bytes text a b r s one two =
      ⊎_elim
      (λ (plain : (text ≡ a ∷ r) × (is_special a ≡ false)).
      ⊎_elim
      (λ (other : (text ≡ b ∷ s) × (is_special b ≡ false)). let h = heads text a b r s plain.0 other.0 in
      (ap Byte h.0, h.1))
      (λ (escaped : text ≡ 92 ∷ b ∷ s). absurd
      (special_apart a 92 plain.1 refl (heads text a 92 r (b ∷ s) plain.0 escaped).0))
      two)
      (λ (escaped : text ≡ 92 ∷ a ∷ r).
      ⊎_elim
      (λ (plain : (text ≡ b ∷ s) × (is_special b ≡ false)). absurd
      (special_apart b 92 plain.1 refl (heads text b 92 s (a ∷ r) plain.0 escaped).0))
      (λ (other : text ≡ 92 ∷ b ∷ s).
      let h = heads text 92 92 (a ∷ r) (b ∷ s) escaped other in
      let inner = heads (a ∷ r) a b r s refl h.1 in
      (ap Byte inner.0, inner.1))
      two)
      one

  -- A star is in front of any bytes.
  pub any_front : (text rest : List ℕ) → WritesPart inside place text AnyBytes rest → (s : List ℕ) × (text ≡ 42 ∷ s)
  any_front text rest w =
      ⊎_elim
      (λ (whole : WritesFolders inside place text rest × (is_whole inside place rest ≡ true)).
      (42 ∷ 47 ∷ rest, whole.0.0))
      (λ (star : (text ≡ 42 ∷ rest) × ((other : List ℕ) → WritesFolders inside place text other → ⊥)
      × ((other : List ℕ) → WritesLast inside place text other → ⊥)). (rest, star.0))
      w

  -- Folders leave one rest.
  same_folders : (text r s : List ℕ) → text ≡ 42 ∷ 42 ∷ 47 ∷ r → text ≡ 42 ∷ 42 ∷ 47 ∷ s → r ≡ s
  same_folders text r s e f = cc

  whole_twice : (r s : List ℕ) → r ≡ s → is_whole inside place r ≡ true → is_whole inside place s ≡ false → ⊥
  whole_twice r s same is not_so = true≢false (sym is ∙ ap (is_whole inside place) same ∙ not_so)

  folders_last : (text r s : List ℕ) → text ≡ 42 ∷ 42 ∷ 47 ∷ r → WritesLast inside place text s → ⊥
  folders_last text r s e w =
      let slash : s ≡ 47 ∷ r = let f = w.0 in cc in
      last_not_slash inside place r (ap (is_last inside place) (sym slash) ∙ w.1)

  any_any : (text r s : List ℕ) → WritesPart inside place text AnyBytes r
      → WritesPart inside place text AnyBytes s → r ≡ s
  any_any text r s w v =
      ⊎_elim
      (λ (one : WritesFolders inside place text r × (is_whole inside place r ≡ true)).
      ⊎_elim
      (λ (two : WritesFolders inside place text s × (is_whole inside place s ≡ true)). same_folders text r s
      one.0.0 two.0.0)
      (λ (two : (text ≡ 42 ∷ s) × ((other : List ℕ) → WritesFolders inside place text other → ⊥)
      × ((other : List ℕ) → WritesLast inside place text other → ⊥)). absurd (two.1 r one.0))
      v)
      (λ (one : (text ≡ 42 ∷ r) × ((other : List ℕ) → WritesFolders inside place text other → ⊥)
      × ((other : List ℕ) → WritesLast inside place text other → ⊥)).
      ⊎_elim
      (λ (two : WritesFolders inside place text s × (is_whole inside place s ≡ true)). absurd (one.1 s two.0))
      (λ (two : (text ≡ 42 ∷ s) × ((other : List ℕ) → WritesFolders inside place text other → ⊥)
      × ((other : List ℕ) → WritesLast inside place text other → ⊥)). (heads text 42 42 r s one.0 two.0).1)
      v)
      w

  any_folders : (text r s : List ℕ) → WritesPart inside place text AnyBytes r
      → WritesPart inside place text Folders s → ⊥
  any_folders text r s w v =
      ⊎_elim
      (λ (one : WritesFolders inside place text r × (is_whole inside place r ≡ true)).
      whole_twice r s (same_folders text r s one.0.0 v.0.0) one.1 v.1)
      (λ (one : (text ≡ 42 ∷ r) × ((other : List ℕ) → WritesFolders inside place text other → ⊥)
      × ((other : List ℕ) → WritesLast inside place text other → ⊥)). one.1 s v.0)
      w

  any_nothing : (text r s : List ℕ) → WritesPart inside place text AnyBytes r
      → WritesPart inside place text Nothing s → ⊥
  any_nothing text r s w v =
      ⊎_elim
      (λ (one : WritesFolders inside place text r × (is_whole inside place r ≡ true)). folders_last text r s one.0.0 v)
      (λ (one : (text ≡ 42 ∷ r) × ((other : List ℕ) → WritesFolders inside place text other → ⊥)
      × ((other : List ℕ) → WritesLast inside place text other → ⊥)). one.2 s v)
      w

  folders_by : (whole : Bool) (text rest : List ℕ) → is_whole inside place rest ≡ whole
      → text ≡ 42 ∷ 42 ∷ 47 ∷ rest → opens place ≡ true
      → WritesPart inside place text (if whole then AnyBytes else Folders) rest
  folders_by true text rest is e opened = inl ((e, opened), is)
  folders_by false text rest is e opened = ((e, opened), is)

  -- A star that begins neither folders nor the last stars of a branch is any bytes.
  pub star_written : (text rest : List ℕ) → text ≡ 42 ∷ rest → (BeginsFolders place text → ⊥)
      → (BeginsLast inside place text → ⊥)
      → WritesPart inside place text AnyBytes rest
  star_written text rest e no_folders no_last =
      inr (e, λ other w. no_folders (other, w.0, w.1), λ other w. no_last (other, w.0, w.1))

  byte_star : (text : List ℕ) (b : ℕ) (r s : List ℕ) → WritesPart inside place text (Byte b) r → text ≡ 42 ∷ s → ⊥
  byte_star text b r s w e = byte_not text b r 42 s w e refl (star_escape 42 refl)

  question_no_star : (text r s : List ℕ) → text ≡ 63 ∷ r → text ≡ 42 ∷ s → ⊥
  question_no_star text r s e f = question_star 63 42 refl refl (heads text 63 42 r s e f).0

  -- A text writes one part and one rest.
  pub same_part : (text : List ℕ) (p q : GlobPart) (r s : List ℕ) → WritesPart inside place text p r
      → WritesPart inside place text q s → (p ≡ q) × (r ≡ s)
  same_part text (Byte a) (Byte b) r s w v = same_bytes text a b r s w v
  same_part text (Byte a) AnyByte r s w v = absurd (byte_not text a r 63 s w v refl (question_escape 63 refl))
  same_part text (Byte a) AnyBytes r s w v = let f = any_front text s v in absurd (byte_star text a r f.0 w f.1)
  same_part text (Byte a) Folders r s w v = absurd (byte_star text a r (42 ∷ 47 ∷ s) w v.0.0)
  same_part text (Byte a) Nothing r s w v = absurd (byte_star text a r (42 ∷ s) w v.0)
  same_part text AnyByte (Byte b) r s w v = absurd (byte_not text b s 63 r v w refl (question_escape 63 refl))
  same_part text AnyByte AnyByte r s w v = (refl, (heads text 63 63 r s w v).1)
  same_part text AnyByte AnyBytes r s w v = let f = any_front text s v in absurd (question_no_star text r f.0 w f.1)
  same_part text AnyByte Folders r s w v = absurd (question_no_star text r (42 ∷ 47 ∷ s) w v.0.0)
  same_part text AnyByte Nothing r s w v = absurd (question_no_star text r (42 ∷ s) w v.0)
  same_part text AnyBytes (Byte b) r s w v = let f = any_front text r w in absurd (byte_star text b s f.0 v f.1)
  same_part text AnyBytes AnyByte r s w v = let f = any_front text r w in absurd (question_no_star text s f.0 v f.1)
  same_part text AnyBytes AnyBytes r s w v = (refl, any_any text r s w v)
  same_part text AnyBytes Folders r s w v = absurd (any_folders text r s w v)
  same_part text AnyBytes Nothing r s w v = absurd (any_nothing text r s w v)
  same_part text Folders (Byte b) r s w v = absurd (byte_star text b s (42 ∷ 47 ∷ r) v w.0.0)
  same_part text Folders AnyByte r s w v = absurd (question_no_star text s (42 ∷ 47 ∷ r) v w.0.0)
  same_part text Folders AnyBytes r s w v = absurd (any_folders text s r v w)
  same_part text Folders Folders r s w v = (refl, same_folders text r s w.0.0 v.0.0)
  same_part text Folders Nothing r s w v = absurd (folders_last text r s w.0.0 v)
  same_part text Nothing (Byte b) r s w v = absurd (byte_star text b s (42 ∷ r) v w.0)
  same_part text Nothing AnyByte r s w v = absurd (question_no_star text s (42 ∷ r) v w.0)
  same_part text Nothing AnyBytes r s w v = absurd (any_nothing text s r v w)
  same_part text Nothing Folders r s w v = absurd (folders_last text s r v.0.0 w)
  same_part text Nothing Nothing r s w v = (refl, let e = w.0 in let f = v.0 in cc)

  -- No part is written where a special byte stands that is no `?`, no `*` and no backslash.
  pub no_part : (text : List ℕ) (c : ℕ) (s : List ℕ) → text ≡ c ∷ s → is_special c ≡ true
      → (c ≡ 63 → ⊥) → (c ≡ 42 → ⊥) → (c ≡ 92 → ⊥) → (p : GlobPart) (r : List ℕ) → WritesPart inside place text p r → ⊥
  no_part text c s e special no_question no_star no_escape (Byte b) r w = byte_not text b r c s w e special no_escape
  no_part text c s e special no_question no_star no_escape AnyByte r w = no_question (heads text c 63 s r e w).0
  no_part text c s e special no_question no_star no_escape AnyBytes r w = let f = any_front text r w in
      no_star (heads text c 42 s f.0 e f.1).0
  no_part text c s e special no_question no_star no_escape Folders r w =
      no_star (heads text c 42 s (42 ∷ 47 ∷ r) e w.0.0).0
  no_part text c s e special no_question no_star no_escape Nothing r w = no_star (heads text c 42 s (42 ∷ r) e w.0).0

  -- Folders are written as the part that they are.
  pub folders_written : (text rest : List ℕ) → text ≡ 42 ∷ 42 ∷ 47 ∷ rest → opens place ≡ true
      → WritesPart inside place text (folders_part inside place rest) rest
  folders_written text rest e opened = folders_by (is_whole inside place rest) text rest refl e opened

  -- A part takes a byte at least.
  pub part_shorter : (text : List ℕ) (p : GlobPart) (rest : List ℕ) → WritesPart inside place text p rest
      → length rest < length text
  part_shorter text (Byte b) rest w =
      ⊎_elim
      (λ (plain : (text ≡ b ∷ rest) × (is_special b ≡ false)). omega (arith, ap length plain.0))
      (λ (escaped : text ≡ 92 ∷ b ∷ rest). omega (arith, ap length escaped))
      w
  part_shorter text AnyByte rest w = omega (arith, ap length w)
  part_shorter text AnyBytes rest w =
      ⊎_elim
      (λ (whole : WritesFolders inside place text rest × (is_whole inside place rest ≡ true)). omega
      (arith, ap length whole.0.0))
      (λ (star : (text ≡ 42 ∷ rest) × ((other : List ℕ) → WritesFolders inside place text other → ⊥)
      × ((other : List ℕ) → WritesLast inside place text other → ⊥)). omega (arith, ap length star.0))
      w
  part_shorter text Folders rest w = omega (arith, ap length w.0.0)
  part_shorter text Nothing rest w = omega (arith, ap length w.0)

bracket : (c : ℕ) → c ≡ 91 → (is_special c ≡ true) × (c ≡ 63 → ⊥) × (c ≡ 42 → ⊥) × (c ≡ 92 → ⊥)
bracket c e = (ap is_special e, λ f. omega arith, λ f. omega arith, λ f. omega arith)

brace : (c : ℕ) → c ≡ 123 → (is_special c ≡ true) × (c ≡ 63 → ⊥) × (c ≡ 42 → ⊥) × (c ≡ 92 → ⊥)
brace c e = (ap is_special e, λ f. omega arith, λ f. omega arith, λ f. omega arith)

-- No part is written where a class or a group opens.
pub no_part_at_class : (inside : Bool) (place : Place) (text s : List ℕ) → text ≡ 91 ∷ s
    → (p : GlobPart) (r : List ℕ) → WritesPart inside place text p r → ⊥
no_part_at_class inside place text s e = let b = bracket 91 refl in no_part inside place text 91 s e b.0 b.1 b.2 b.3

pub no_part_at_group : (inside : Bool) (place : Place) (text s : List ℕ) → text ≡ 123 ∷ s
    → (p : GlobPart) (r : List ℕ) → WritesPart inside place text p r → ⊥
no_part_at_group inside place text s e = let b = brace 123 refl in no_part inside place text 123 s e b.0 b.1 b.2 b.3

-- the row of these bytes
abbrev bytes_row : List ℕ → Row
bytes_row [] = end
bytes_row (b ∷ text) = part (Byte b) (bytes_row text)

-- A plain text writes its bytes.
writes_plain : (levels : ℕ) (place : Place) (text : List ℕ) → IsPlain text
    → WritesRow false levels place text (bytes_row text) []
writes_plain levels place [] plain = (refl, refl)
writes_plain levels place (b ∷ text) plain = (
  refl,
  (
    text,
    inl (refl, All-head (λ byte. is_special byte ≡ false) b text plain),
    writes_plain levels (behind place (Byte b)) text (All-tail (λ byte. is_special byte ≡ false) b text plain),
  ),
)

-- A plain text writes no other row.
only_plain : (row : Row) (levels : ℕ) (place : Place) (text : List ℕ) → IsPlain text
    → WritesRow false levels place text row [] → row ≡ bytes_row text
only_plain end levels place text plain w = rw w.0 refl
only_plain (part p row) levels place [] plain w = absurd (true≢false w.0)
only_plain (part p row) levels place (b ∷ text) plain (go, (mid, here, later)) =
    let special = All-head (λ byte. is_special byte ≡ false) b text plain in
    let same = same_part false place (b ∷ text) p (Byte b) mid text here (inl (refl, special)) in
    let next = subst (λ q. WritesRow false levels (behind place q) mid row []) same.0 later in
    let tail = only_plain row levels (behind place (Byte b)) text
    (All-tail (λ byte. is_special byte ≡ false) b text plain)
    (subst (λ m. WritesRow false levels (behind place (Byte b)) m row []) same.1 next) in
    cc
only_plain (class c row) levels place [] plain w = absurd (let f = w.2 in cc)
only_plain (class c row) levels place (b ∷ text) plain w =
    absurd (special_apart b 91 (All-head (λ byte. is_special byte ≡ false) b text plain) refl
    (heads (b ∷ text) b 91 text w.0 refl w.2).0)
only_plain (group bs row) levels place [] plain w = absurd (let f = w.3 in cc)
only_plain (group bs row) levels place (b ∷ text) plain w =
    absurd (special_apart b 123 (All-head (λ byte. is_special byte ≡ false) b text plain) refl
    (heads (b ∷ text) b 123 text w.0 refl w.3).0)

-- Bytes take themselves.
takes_itself : (text name : List ℕ) → RowTakes (bytes_row text) name ↔ (name ≡ text)
takes_itself [] name = (λ e. e, λ e. e)
takes_itself (b ∷ text) name = (
  λ (found : (front : List ℕ) × (rest : List ℕ) × (name ≡ front ++ rest) × (front ≡ b ∷ [])
      × RowTakes (bytes_row text) rest).
      let tail = (takes_itself text found.1).0 found.4 in
      found.2 ∙ ap (λ f. f ++ found.1) found.3 ∙ ap (λ l. b ∷ l) tail,
  λ same. (b ∷ [], text, same, refl, (takes_itself text text).1 refl),
)

-- A plain glob takes the name that it is.
pub plain_is_equality : (text name : List ℕ) → IsPlain text → GlobMatches text name ↔ (name ≡ text)
unfolding GlobMatches
plain_is_equality text name plain = (
  λ (found : (row : Row) × WritesRow false 250 Start text row [] × RowTakes row name).
      (takes_itself text name).0
      (subst (λ row. RowTakes row name) (only_plain found.0 250 Start text plain found.1) found.2),
  λ same. (bytes_row text, writes_plain 250 Start text plain, (takes_itself text name).1 same),
)

-- A plain text writes a glob.
pub plain_is_glob : (text : List ℕ) → IsPlain text → IsGlob text
unfolding IsGlob
plain_is_glob text plain = (bytes_row text, writes_plain 250 Start text plain)
