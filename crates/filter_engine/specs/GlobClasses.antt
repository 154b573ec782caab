-- Classes of globs: the bytes that a text in brackets writes.
use Rattle.std.specs.Prelude.{◌≡◌, ◌≢◌, ℕ, ◌<◌, ◌≤◌, ◌⊎◌, ◌↔◌, Bool, true, false, not, ◌||◌, if◌then◌else◌, List, [], ◌∷◌, ◌++◌, drop, MatchResult, Result}
use Rattle.regex_class.specs.Ranges.{Range, in_range, in_ranges}
use Rattle.filter_engine.specs.declared.glob.fault.RowFault.{RowFault}
use Rattle.filter_engine.specs.declared.glob.fault.RowFault.TheVariants.{Memory}
use Rattle.filter_engine.specs.declared.glob.class.ClassItem.{ClassItem}
use Rattle.filter_engine.specs.declared.glob.class.ClassItem.TheVariants.{Own, Reach}

-- A class: whether it takes the other bytes, its first byte, and the items behind that.
pub record GlobClass : Type 0 where
  pub negated : Bool
  pub first : ℕ
  pub items : List ClassItem

-- The text begins with the byte.
abbrev pub BeginsWith : ℕ → List ℕ → Type 0
BeginsWith byte text = (rest : List ℕ) × (text ≡ byte ∷ rest)

-- The text begins with the sign of a negated class.
abbrev pub BeginsNegated : List ℕ → Type 0
BeginsNegated text = BeginsWith 33 text ⊎ BeginsWith 94 text

-- The text begins with a closing bracket.
abbrev pub EndsClass : List ℕ → Type 0
EndsClass text = BeginsWith 93 text

-- The text writes the item and the rest, where a range that starts at this byte is in front. A
-- dash is a byte of its own only before the closing bracket.
abbrev pub WritesItem : ℕ → List ℕ → ClassItem → List ℕ → Type 0
WritesItem start text (Own byte) rest =
    (text ≡ byte ∷ rest) × (byte < 128) × (byte ≢ 93) × (byte ≡ 45 → EndsClass rest)
WritesItem start text (Reach byte) rest =
    (text ≡ 45 ∷ byte ∷ rest) × (byte < 128) × (byte ≢ 93) × (start ≤ byte)

-- where the last range starts behind the item
abbrev pub start_behind : ℕ → ClassItem → ℕ
start_behind start (Own byte) = byte
start_behind start (Reach byte) = start

-- The text writes the items, a closing bracket and the rest, behind a range with this start.
abbrev pub WritesItems : ℕ → List ℕ → List ClassItem → List ℕ → Type 0
WritesItems start text [] rest = text ≡ 93 ∷ rest
WritesItems start text (item ∷ items) rest =
    (mid : List ℕ) × WritesItem start text item mid
    × WritesItems (start_behind start item) mid items rest

-- The text writes the first byte, whatever it is within ASCII, the items, a closing bracket and the
-- rest.
abbrev pub WritesBody : List ℕ → ℕ → List ClassItem → List ℕ → Type 0
WritesBody text first items rest =
    (behind : List ℕ) × (text ≡ first ∷ behind) × (first < 128)
    × WritesItems first behind items rest

-- The text is the sign of a negated class and the body, or the body alone, which begins with no
-- sign.
abbrev pub WritesNegation : Bool → List ℕ → List ℕ → Type 0
WritesNegation true text body = (text ≡ 33 ∷ body) ⊎ (text ≡ 94 ∷ body)
WritesNegation false text body =
    (text ≡ body) × (BeginsNegated text → ⊥)

-- The text behind an opening bracket writes the class and the rest.
abbrev pub WritesClass : List ℕ → GlobClass → List ℕ → Type 0
WritesClass text class rest =
    (body : List ℕ) × WritesNegation class.negated text body
    × WritesBody body class.first class.items rest

-- whether a byte is in the range from start to end or in one that the items write: a byte of its
-- own starts a range, which is that byte alone unless the next items reach on
abbrev pub in_items : ℕ → ℕ → List ClassItem → ℕ → Bool
in_items start end [] byte = in_range (start, end) byte
in_items start end (Own next ∷ items) byte =
    in_range (start, end) byte || in_items next next items byte
in_items start end (Reach next ∷ items) byte = in_items start next items byte

-- whether the byte is in the class
abbrev pub in_class : GlobClass → ℕ → Bool
in_class class byte =
    if class.negated then not (in_items class.first class.first class.items byte)
    else in_items class.first class.first class.items byte

-- The class takes these bytes: one that is in it.
abbrev pub ClassTakes : GlobClass → List ℕ → Type 0
ClassTakes class bytes = (byte : ℕ) × (bytes ≡ byte ∷ []) × (in_class class byte ≡ true)

-- The item is at the front of the text and has so many bytes, or no item does.
abbrev pub ReadsItem : ℕ → List ℕ → Result (ClassItem × ℕ) RowFault → Type 0
ReadsItem start text result =
    MatchResult result (λ read. WritesItem start text read.0 (drop read.1 text))
    (λ fault. (item : ClassItem) (rest : List ℕ) → WritesItem start text item rest → ⊥)

-- The text writes one first byte, one list of items and one rest: those, and this rest.
abbrev pub WritesOneBody : List ℕ → ℕ → List ClassItem → List ℕ → Type 0
WritesOneBody text first items rest =
    (byte : ℕ) (other : List ClassItem) (left : List ℕ) → WritesBody text byte other left
    ↔ ((byte ≡ first) × (other ≡ items) × (left ≡ rest))

-- The ranges hold what the class without its sign does that the text writes before the rest.
abbrev pub ReadsRanges : List ℕ → List Range → List ℕ → Type 0
ReadsRanges text ranges rest =
    (first : ℕ) × (items : List ClassItem) × WritesOneBody text first items rest
    × ((byte : ℕ) → in_ranges ranges byte ≡ in_items first first items byte)

-- The text writes one class and one rest: these.
abbrev pub WritesOneClass : List ℕ → GlobClass → List ℕ → Type 0
WritesOneClass text class rest =
    (other : GlobClass) (left : List ℕ)
    → WritesClass text other left ↔ ((other ≡ class) × (left ≡ rest))

-- Memory ran out, or the text writes no class without its sign.
abbrev pub NoBody : List ℕ → RowFault → Type 0
NoBody text fault =
    (fault ≡ Memory) ⊎ ((first : ℕ) (items : List ClassItem) (rest : List ℕ)
    → WritesBody text first items rest → ⊥)

-- Memory ran out, or the text writes no class.
abbrev pub NoClass : List ℕ → RowFault → Type 0
NoClass text fault =
    (fault ≡ Memory) ⊎ ((class : GlobClass) (rest : List ℕ) → WritesClass text class rest → ⊥)

-- The item leaves this range open, and adds the one that was to the ranges if it starts one.
abbrev pub TakesItem : ClassItem → Range → List Range → List Range → Range → Type 0
TakesItem (Own byte) range old new next = (new ≡ old ++ range ∷ []) × (next ≡ (byte, byte))
TakesItem (Reach byte) range old new next = (new ≡ old) × (next ≡ (range.0, byte))
