-- The tests across two sides decide whether owners, origins and what rows come from are equal, and
-- whether a setting changes.
use Rattle.std.proofs.Common.{◌≡◌, ◌⊎◌, inl, inr, ℕ, ◌&&◌, ◌||◌, Bool, true, false, cond, not, List, Option, None, Some, option_map, map, bytes_eq, string_bytes, refl, ap}
use Rattle.std.specs.Prelude.{slice_get}
use Rattle.std.specs.Bool.{beq, Decides}
use Rattle.std.specs.Cmp.Lexicographic.{bytes_decides}
use Rattle.std.specs.Option.{option_eq}
use Rattle.std.proofs.lemmas.Bool.Decides.{Decides-and, Decides-like}
use Rattle.rinqebo_report.specs.declared.origin.Origin.{Origin}
use Rattle.rinqebo_report.specs.declared.origin.Origin.TheVariants.{BuiltIn, DefaultTable, Written as InFile, File}
use Rattle.rinqebo_report.specs.declared.origin.Source.{Source}
use Rattle.rinqebo_report.specs.declared.origin.SourceKind.{SourceKind}
use Rattle.rinqebo_report.specs.declared.origin.SourceKind.TheVariants.{Default, Tool, Organisation, Explicit, Discovered}
use Rattle.rinqebo_report.specs.declared.origin.Written.{Written}
use Rattle.rinqebo_changes.specs.declared.change.SideRow.{SideRow}
use Rattle.rinqebo_changes.specs.Changes.{is_change, like_source_of}
use Rattle.rinqebo_changes.specs.Laws.{Changes}
use Rattle.rinqebo_changes.specs.OriginViews.{written_view}
use Rattle.rinqebo_changes.specs.Same.{same_value}
use Rattle.rinqebo_changes.specs.SameOrigin.{like_kind, like_optional, like_source, like_origin, like_origins, same_written}
use Rattle.rinqebo_changes.specs.SourceViews.{OwnedOrigin, beside, from_list, from_origins, of_tool, owned_view, owner_at, owner_of, source_view, written}
use Rattle.rinqebo_changes.specs.ValueViews.{value_view}
use Rattle.rinqebo_changes.proofs.Deciding.{never, always, seen_decide}
use Rattle.rinqebo_changes.proofs.SameOrigins.{written_decides}
use Rattle.rinqebo_changes.proofs.SameValues.{setting_decides}

-- owners
kinds_decide : (a b : SourceKind) → Decides (like_kind a b) (owner_of a ≡ owner_of b)
kinds_decide Default Default = always refl
kinds_decide Default (Tool b) = never (λ e. cc)
kinds_decide Default Organisation = never (λ e. cc)
kinds_decide Default Explicit = never (λ e. cc)
kinds_decide Default Discovered = never (λ e. cc)
kinds_decide (Tool a) Default = never (λ e. cc)
kinds_decide (Tool a) (Tool b) =
    Decides-like (bytes_eq (string_bytes a) (string_bytes b)) (λ e. ap of_tool e) (λ e. cc)
    (bytes_decides (string_bytes a) (string_bytes b))
kinds_decide (Tool a) Organisation = never (λ e. cc)
kinds_decide (Tool a) Explicit = never (λ e. cc)
kinds_decide (Tool a) Discovered = never (λ e. cc)
kinds_decide Organisation Default = never (λ e. cc)
kinds_decide Organisation (Tool b) = never (λ e. cc)
kinds_decide Organisation Organisation = always refl
kinds_decide Organisation Explicit = never (λ e. cc)
kinds_decide Organisation Discovered = never (λ e. cc)
kinds_decide Explicit Default = never (λ e. cc)
kinds_decide Explicit (Tool b) = never (λ e. cc)
kinds_decide Explicit Organisation = never (λ e. cc)
kinds_decide Explicit Explicit = always refl
kinds_decide Explicit Discovered = always refl
kinds_decide Discovered Default = never (λ e. cc)
kinds_decide Discovered (Tool b) = never (λ e. cc)
kinds_decide Discovered Organisation = never (λ e. cc)
kinds_decide Discovered Explicit = always refl
kinds_decide Discovered Discovered = always refl

optional_decide : (a b : Option Source)
    → Decides (like_optional a b) (option_map (λ s. owner_of s.kind) a ≡ option_map (λ s. owner_of s.kind) b)
optional_decide None None = always refl
optional_decide None (Some b) = never (λ e. cc)
optional_decide (Some a) None = never (λ e. cc)
optional_decide (Some a) (Some b) =
    Decides-like (like_kind a.kind b.kind) (λ e. ap Some e) (λ e. cc) (kinds_decide a.kind b.kind)

place_decides : (s t : List Source) (a b : ℕ) → Decides (like_source s t a b) (owner_at s a ≡ owner_at t b)
place_decides s t a b = optional_decide (slice_get s a) (slice_get t b)

-- origins
written_both : (s t : List Source) (a b : Written)
    → (owner_at s a.place.source ≡ owner_at t b.place.source) × (written_view a ≡ written_view b)
    → owned_view s (InFile a) ≡ owned_view t (InFile b)
written_both s t a b p = λ i. written (p.0 i) (p.1 i)

both_of_written : (s t : List Source) (a b : Written) → owned_view s (InFile a) ≡ owned_view t (InFile b)
    → (owner_at s a.place.source ≡ owner_at t b.place.source) × (written_view a ≡ written_view b)
both_of_written s t a b e = (cc, cc)

origin_decides : (s t : List Source) (a b : Origin) → Decides (like_origin s t a b) (owned_view s a ≡ owned_view t b)
origin_decides s t BuiltIn BuiltIn = always refl
origin_decides s t BuiltIn DefaultTable = never (λ e. cc)
origin_decides s t BuiltIn (InFile b) = never (λ e. cc)
origin_decides s t BuiltIn (File b) = never (λ e. cc)
origin_decides s t DefaultTable BuiltIn = never (λ e. cc)
origin_decides s t DefaultTable DefaultTable = always refl
origin_decides s t DefaultTable (InFile b) = never (λ e. cc)
origin_decides s t DefaultTable (File b) = never (λ e. cc)
origin_decides s t (InFile a) BuiltIn = never (λ e. cc)
origin_decides s t (InFile a) DefaultTable = never (λ e. cc)
origin_decides s t (InFile a) (InFile b) =
    Decides-like (like_source s t a.place.source b.place.source && same_written a b) (written_both s t a b)
    (both_of_written s t a b)
    (Decides-and (like_source s t a.place.source b.place.source) (same_written a b)
    (place_decides s t a.place.source b.place.source) (written_decides a b))
origin_decides s t (InFile a) (File b) = never (λ e. cc)
origin_decides s t (File a) BuiltIn = never (λ e. cc)
origin_decides s t (File a) DefaultTable = never (λ e. cc)
origin_decides s t (File a) (InFile b) = never (λ e. cc)
origin_decides s t (File a) (File b) =
    Decides-like (like_source s t a.source b.source) (λ e. ap beside e) (λ e. cc) (place_decides s t a.source b.source)

-- origins are alike exactly if they are equal as parts of profiles in files of owners
pub origins_like : (s t : List Source) (a b : List Origin)
    → Decides (like_origins s t a b) (map (owned_view s) a ≡ map (owned_view t) b)
origins_like s t a b = seen_decide (like_origin s t) (owned_view s) (owned_view t) (origin_decides s t) a b

-- what rows come from
known_decides : (p q x : Bool) (vs ws : List OwnedOrigin) → Decides x (vs ≡ ws)
    → Decides (beq p q && (p || x)) (cond p from_list (from_origins vs) ≡ cond q from_list (from_origins ws))
known_decides true true x vs ws d = always refl
known_decides true false x vs ws d = never (λ e. cc)
known_decides false true x vs ws d = never (λ e. cc)
known_decides false false x vs ws d = Decides-like x (λ e. ap from_origins e) (λ e. cc) d

pub source_decides : (s t : List Source) (a b : SideRow)
    → Decides (like_source_of s t a b) (source_view s a ≡ source_view t b)
source_decides s t a b =
    let xs = a.row.origins.items in
    let ys = b.row.origins.items in
    known_decides a.is_ignored b.is_ignored (like_origins s t xs ys) (map (owned_view s) xs) (map (owned_view t) ys)
    (origins_like s t xs ys)

-- one of two things differs, and the second one counts
either_decides : {A B : Type 0} (w p q : Bool) → Decides p A → Decides q B
    → Decides (not p || (w && not q)) ((A → ⊥) ⊎ ((w ≡ true) × (B → ⊥)))
either_decides w false q one two = always (inl (λ a. absurd (let no : false ≡ true = one.1 a in cc)))
either_decides false true q one two = never (λ h. elim h [
  | inl n ↦ n (one.0 refl)
  | inr n ↦ absurd (let no : false ≡ true = n.0 in cc)
])
either_decides true true true one two = never (λ h. elim h [
  | inl n ↦ n (one.0 refl)
  | inr n ↦ n.1 (two.0 refl)
])
either_decides true true false one two = always (inr (refl, λ b. absurd (let no : false ≡ true = two.1 b in cc)))

-- a setting is reported exactly if it changes
pub change_decides : (s t : List Source) (w : Bool) (a b : SideRow)
    → Decides (is_change s t w a b) (Changes s t w a b)
change_decides s t w a b =
    either_decides w (option_eq same_value a.row.value b.row.value) (like_source_of s t a b)
    (setting_decides a.row.value b.row.value) (source_decides s t a b)

unless_decided : {P : Type 0} (b : Bool) → Decides b P → (P → ⊥) → b ≡ false
unless_decided true d n = absurd (n (d.0 refl))
unless_decided false d n = refl

-- a setting does not change that has the same value and, where that counts, comes from the same
pub unchanged : (s t : List Source) (w : Bool) (a b : SideRow)
    → option_map value_view a.row.value ≡ option_map value_view b.row.value
    → ((w ≡ true) → source_view s a ≡ source_view t b) → is_change s t w a b ≡ false
unchanged s t w a b value source = unless_decided (is_change s t w a b) (change_decides s t w a b) stays
  where
    stays : Changes s t w a b → ⊥
    stays (inl n) = n value
    stays (inr n) = n.1 (source n.0)
