-- The names of profiles, and which of them are special.
use Rattle.std.specs.Prelude.{◌≡◌, ◌++◌, ◌&&◌, ◌||◌, ℕ, List, Bool, true, not, filter, codes, nat_eq}
use Rattle.std.specs.Cmp.Lexicographic.{slice_cmp}
use Rattle.std.specs.List.{starts_with}
use Rattle.std.specs.Ordering.{nat_cmp, is_lt}
use Rattle.std.specs.Set.{is_member}
use Rattle.std.specs.Str.{bytes_eq}

-- the name of a profile
abbrev pub Name : Type 0
Name = List ℕ

-- the name of the profile that every configuration has
abbrev pub default_name : Name
default_name = codes "default"

-- the name is that of the profile `default`
abbrev pub is_default : Name → Bool
is_default name = bytes_eq name default_name

-- a base profile is `default`, or one whose name begins `default-`
abbrev pub is_base : Name → Bool
is_base name = is_default name || starts_with nat_eq name (codes "default-")

-- a reserved name begins `default-`, but for `default-miri`
abbrev pub is_reserved : Name → Bool
is_reserved name =
    starts_with nat_eq name (codes "default-") && not (bytes_eq name (codes "default-miri"))

-- one name is before another by their bytes
abbrev pub precedes : Name → Name → Bool
precedes name other = is_lt (slice_cmp nat_cmp name other)

-- a name is one of these
abbrev pub IsIn : List Name → Name → Type 0
IsIn names name = is_member bytes_eq names name ≡ true

-- what is at `default` first, and then all others in their order
abbrev pub default_first : {X : Type 0} → List (Name × X) → List (Name × X)
default_first es = filter (λ e. is_default e.0) es ++ filter (λ e. not (is_default e.0)) es
