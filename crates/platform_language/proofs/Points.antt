-- What marks still have to spell, behind a mark that was read.
use Rattle.std.proofs.Common.{◌≡◌, ◌⊎◌, ℕ, suc, ◌+◌, ◌<◌, List, [], ◌∷◌, ◌++◌, Result, Ok, length, sym, subst}
use Rattle.platform_language.specs.declared.fault.Place.{Place}
use Rattle.platform_language.specs.declared.fault.BodyFault.{BodyFault}
use Rattle.platform_language.specs.Expressions.{Leaf, Expression, Asks}
use Rattle.platform_language.specs.Grammar.{Begins, BeginsSomewhere}
use Rattle.platform_language.specs.Leaves.{Piece, leaf_alone, leaf_with}
use Rattle.platform_language.specs.Marks.{OpenMark, EqualsMark, ValueMark, Placed}
use Rattle.platform_language.specs.Reading.{Before, Nothing, AfterFunction, AfterOpen, AfterComma, AfterKey, AfterEquals, AfterValue, AfterClose, Level, Reading, value_piece}
use Rattle.platform_language.proofs.Endings.{Behind, Fresh, Comma, Part, heads, tails}

-- A leaf is judged to be one, and stands as one more part.
abbrev pub Judged : Result Leaf BodyFault → ℕ → List Expression → List Level → List Placed → Expression → Type 0
Judged found d ps ls ms e = (leaf : Leaf) × (found ≡ Ok leaf) × Behind d (ps ++ (Asks leaf ∷ [])) ls ms e

-- A value follows, with which a key is a leaf.
abbrev pub AwaitsValue : ℕ → Piece → List Expression → List Level → List Placed → Expression → Type 0
AwaitsValue d key ps ls ms e = (text : List ℕ) × (at : Place) × (rest : List Placed)
    × Begins (ValueMark text) at ms rest × Judged (leaf_with key (value_piece text at)) d ps ls rest e

-- A `(` follows, and what a function takes.
abbrev pub AwaitsOpen : ℕ → Level → List Level → List Placed → Expression → Type 0
AwaitsOpen d level ls ms e = (room : ℕ) × (inside : List Placed) × (at : Place) × (d ≡ suc room)
    × Begins OpenMark at ms inside × Fresh room [] (level ∷ ls) inside e

-- What follows behind a mark.
abbrev pub At : Before → ℕ → List Expression → List Level → List Placed → Expression → Type 0
At Nothing d ps ls ms e = Part d ps ls ms e
At AfterOpen d ps ls ms e = Fresh d ps ls ms e
At AfterComma d ps ls ms e = Comma d ps ls ms e
At AfterClose d ps ls ms e = Behind d ps ls ms e
At (AfterKey key) d ps ls ms e = Judged (leaf_alone key) d ps ls ms e
    ⊎ ((more : List Placed) × BeginsSomewhere EqualsMark ms more × AwaitsValue d key ps ls more e)
At (AfterEquals key) d ps ls ms e = AwaitsValue d key ps ls ms e
At (AfterValue key value) d ps ls ms e = Judged (leaf_with key value) d ps ls ms e
At (AfterFunction f name) d ps ls ms e =
    AwaitsOpen d (record { function = f; name = name; opened = name; outside = ps }) ls ms e

-- A function that waits for its `(` has room, and before the first mark there is no part.
abbrev pub HasRoom : ℕ → Before → List Expression → Type 0
HasRoom d (AfterFunction f name) ps = 0 < d
HasRoom d Nothing ps = ps ≡ []
HasRoom d _ ps = Unit {0}

-- So many functions may still be opened.
abbrev pub Room : ℕ → Reading → Type 0
Room d r = (d + length r.levels ≡ 128) × HasRoom d r.before r.parts

-- Marks and others that begin alike.
pub as_put : (P : Placed → List Placed → Type 0) (p q : Placed) (ms ns : List Placed) → p ∷ ms ≡ q ∷ ns
    → P q ns → P p ms
as_put P p q ms ns is it =
    subst (λ x. P x ms) (sym (heads is)) (subst (λ l. P q l) (sym (tails is)) it)
