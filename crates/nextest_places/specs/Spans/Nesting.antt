-- Which lists and tables are open behind some tokens.
use Rattle.std.specs.Prelude.{◌≡◌, ◌-◌, List, [], ◌∷◌, ◌++◌, length, slice_get, Option, Some, None}
use Rattle.nextest_places.specs.declared.spans.state.Raw.{Raw}
use Rattle.nextest_places.specs.declared.spans.state.Raw.TheVariants as raw
use Rattle.nextest_places.specs.declared.spans.token.Container.{Container}
use Rattle.nextest_places.specs.declared.spans.token.Token.{Token}
use Rattle.nextest_places.specs.declared.spans.token.TokenKind.{TokenKind}
use Rattle.nextest_places.specs.declared.spans.token.TokenKind.TheVariants as kinds

abbrev pub last_of : {A : Type 0} → List A → Option A
last_of xs = slice_get xs (length xs - 1)

-- a token opens one more list or table, or it closes the innermost, or the same are open behind it
abbrev pub NestsBy : TokenKind → List Container → List Container → Type 0
NestsBy (kinds.Open c) old new = new ≡ old ++ c ∷ []
NestsBy (kinds.Close c) old new = old ≡ new ++ c ∷ []
NestsBy _ old new = new ≡ old

abbrev pub Nests : Option Token → List Container → List Container → Type 0
Nests None old new = new ≡ old
Nests (Some token) old new = NestsBy token.kind old new

-- the same, given that a token closes the innermost
abbrev pub NestsAs : TokenKind → List Container → List Container → Type 0
NestsAs (kinds.Close c) old new = last_of old ≡ Some c → old ≡ new ++ c ∷ []
NestsAs (kinds.Open c) old new = new ≡ old ++ c ∷ []
NestsAs _ old new = new ≡ old

-- what is found closes the innermost, if it closes anything
abbrev pub IsCloseIn : List Container → Raw → Type 0
IsCloseIn nest (raw.Close c) = last_of nest ≡ Some c
IsCloseIn nest _ = Unit {0}

-- a piece closes what was found to be closed, if it closes anything
abbrev pub IsOfRaw : Raw → Option TokenKind → Type 0
IsOfRaw found (Some (kinds.Close c)) = found ≡ raw.Close c
IsOfRaw found _ = Unit {0}
