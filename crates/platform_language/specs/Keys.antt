-- What the keys of leaves test, by their names.
use Rattle.std.specs.Prelude.{ℕ, ◌||◌, eqb, Bool, List, codes, bytes_eq, if◌then◌else◌}
use Rattle.std.specs.List.{starts_with}
use Rattle.platform_language.specs.declared.keys.KeyKind.{KeyKind}
use Rattle.platform_language.specs.declared.keys.KeyKind.TheVariants.{Family, Never, CrateFeature, Free, Endian, Width, Atomic, TargetFeature, UnknownTarget, Other}

-- whether a name is a family of platforms
abbrev pub is_family : List ℕ → Bool
is_family name = bytes_eq name (codes "unix") || bytes_eq name (codes "windows")

-- whether a name holds on no platform
abbrev pub is_never : List ℕ → Bool
is_never name = bytes_eq name (codes "test")
    || bytes_eq name (codes "debug_assertions") || bytes_eq name (codes "proc_macro")

-- whether a name is the first half of the keys with any value
abbrev pub is_free_system : List ℕ → Bool
is_free_system name = bytes_eq name (codes "target_arch")
    || bytes_eq name (codes "target_os") || bytes_eq name (codes "target_family")

-- whether a name is a key with any value
abbrev pub is_free : List ℕ → Bool
is_free name = is_free_system name
    || bytes_eq name (codes "target_env") || bytes_eq name (codes "target_vendor")
    || bytes_eq name (codes "target_abi") || bytes_eq name (codes "panic")

-- what any other name tests
abbrev pub other_key : List ℕ → KeyKind
other_key name =
    if bytes_eq name (codes "feature") then CrateFeature else
    (if bytes_eq name (codes "target_endian") then Endian else
    (if bytes_eq name (codes "target_pointer_width") then Width else
    (if bytes_eq name (codes "target_has_atomic") then Atomic else
    (if bytes_eq name (codes "target_feature") then TargetFeature else
    (if starts_with eqb name (codes "target_") then UnknownTarget else Other)))))

-- what a name tests
abbrev pub key_kind : List ℕ → KeyKind
key_kind name =
    if is_family name then Family else
    (if is_never name then Never else (if is_free name then Free else other_key name))
