-- The bytes of texts.
use Rattle.std.specs.Prelude.{ℕ, List, map, String, string_bytes}
use Rattle.std.specs.declared.alloc.Global.{Global}
use denote.Ref.{Bor}

-- the bytes of some texts
abbrev pub names_view : List (String Global) → List (List ℕ)
names_view names = map string_bytes names

-- the bytes of some borrowed texts
abbrev pub ids_view : List (Bor (List ℕ)) → List (List ℕ)
ids_view ids = map (λ id. id.now) ids
