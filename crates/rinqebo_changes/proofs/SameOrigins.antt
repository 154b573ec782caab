-- The tests of origins of one side decide whether they are equal, without how they are kept.
use Rattle.std.proofs.Common.{◌≡◌, ◌&&◌, ◌==◌, ℕ, List, Option, None, Some, option_map, map, refl, ap, string_bytes}
use Rattle.std.specs.Bool.{Decides}
use Rattle.std.specs.Cmp.Lexicographic.{bytes_decides}
use Rattle.std.specs.Option.{option_eq}
use Rattle.std.proofs.lemmas.Bool.Decides.{Decides-and, Decides-like, Decides-eqb}
use Rattle.rinqebo_report.specs.declared.origin.FileLines.{FileLines}
use Rattle.rinqebo_report.specs.declared.origin.FilePlace.{FilePlace}
use Rattle.rinqebo_report.specs.declared.origin.Origin.{Origin}
use Rattle.rinqebo_report.specs.declared.origin.Origin.TheVariants.{BuiltIn, DefaultTable, Written as InFile, File}
use Rattle.rinqebo_report.specs.declared.origin.Part.{Part}
use Rattle.rinqebo_report.specs.declared.origin.Part.TheVariants.{Fields, Override, Script}
use Rattle.rinqebo_report.specs.declared.origin.Position.{Position}
use Rattle.rinqebo_report.specs.declared.origin.Range.{Range}
use Rattle.rinqebo_report.specs.declared.origin.Written.{Written}
use Rattle.rinqebo_changes.specs.SameOrigin.{same_lines, same_position, same_range, same_place, same_part, same_written, same_origin, same_origins}
use Rattle.rinqebo_changes.specs.OriginViews.{beside, lines_view, position_view, range_view, place_view, written_view, origin_view}
use Rattle.rinqebo_changes.proofs.Deciding.{never, always, mapped_decides, pair_both, both_of_pair}

lines_decides : (a b : FileLines) → Decides (same_lines a b) (lines_view a ≡ lines_view b)
lines_decides a b =
    Decides-like (same_lines a b) (pair_both a.first b.first a.last b.last)
    (both_of_pair (lines_view a) (lines_view b))
    (Decides-and (a.first == b.first) (a.last == b.last) (Decides-eqb a.first b.first) (Decides-eqb a.last b.last))

known_lines_decides : (a b : Option FileLines)
    → Decides (option_eq same_lines a b) (option_map lines_view a ≡ option_map lines_view b)
known_lines_decides None None = always refl
known_lines_decides None (Some b) = never (λ e. cc)
known_lines_decides (Some a) None = never (λ e. cc)
known_lines_decides (Some a) (Some b) =
    Decides-like (same_lines a b) (λ e. ap Some e) (λ e. cc) (lines_decides a b)

position_decides : (a b : Position) → Decides (same_position a b) (position_view a ≡ position_view b)
position_decides a b =
    Decides-like (same_position a b) (pair_both a.line b.line a.column b.column)
    (both_of_pair (position_view a) (position_view b))
    (Decides-and (a.line == b.line) (a.column == b.column) (Decides-eqb a.line b.line) (Decides-eqb a.column b.column))

range_decides : (a b : Range) → Decides (same_range a b) (range_view a ≡ range_view b)
range_decides a b =
    Decides-like (same_range a b)
    (pair_both (position_view a.start) (position_view b.start) (position_view a.end) (position_view b.end))
    (both_of_pair (range_view a) (range_view b))
    (Decides-and (same_position a.start b.start) (same_position a.end b.end) (position_decides a.start b.start)
    (position_decides a.end b.end))

known_ranges_decide : (a b : Option Range)
    → Decides (option_eq same_range a b) (option_map range_view a ≡ option_map range_view b)
known_ranges_decide None None = always refl
known_ranges_decide None (Some b) = never (λ e. cc)
known_ranges_decide (Some a) None = never (λ e. cc)
known_ranges_decide (Some a) (Some b) =
    Decides-like (same_range a b) (λ e. ap Some e) (λ e. cc) (range_decides a b)

-- the source and the lines of a place
abbrev source_view : FilePlace → ℕ × Option (ℕ × ℕ)
source_view place = (place.source, option_map lines_view place.lines)

place_decides : (a b : FilePlace) → Decides (same_place a b) (place_view a ≡ place_view b)
place_decides a b =
    Decides-like (same_place a b)
    (pair_both (source_view a) (source_view b) (option_map range_view a.range) (option_map range_view b.range))
    (both_of_pair (place_view a) (place_view b))
    (Decides-and (a.source == b.source && option_eq same_lines a.lines b.lines) (option_eq same_range a.range b.range)
    (Decides-like (a.source == b.source && option_eq same_lines a.lines b.lines)
    (pair_both a.source b.source (option_map lines_view a.lines) (option_map lines_view b.lines))
    (both_of_pair (source_view a) (source_view b))
    (Decides-and (a.source == b.source) (option_eq same_lines a.lines b.lines) (Decides-eqb a.source b.source)
    (known_lines_decides a.lines b.lines)))
    (known_ranges_decide a.range b.range))

part_decides : (a b : Part) → Decides (same_part a b) (a ≡ b)
part_decides Fields Fields = always refl
part_decides Fields (Override b) = never (λ e. cc)
part_decides Fields (Script b) = never (λ e. cc)
part_decides (Override a) Fields = never (λ e. cc)
part_decides (Override a) (Override b) =
    Decides-like (same_part (Override a) (Override b)) (λ e. ap Override e) (λ e. cc) (Decides-eqb a b)
part_decides (Override a) (Script b) = never (λ e. cc)
part_decides (Script a) Fields = never (λ e. cc)
part_decides (Script a) (Override b) = never (λ e. cc)
part_decides (Script a) (Script b) =
    Decides-like (same_part (Script a) (Script b)) (λ e. ap Script e) (λ e. cc) (Decides-eqb a b)

pub written_decides : (a b : Written) → Decides (same_written a b) (written_view a ≡ written_view b)
written_decides a b =
    Decides-like (same_written a b) (pair_both (string_bytes a.profile) (string_bytes b.profile) a.part b.part)
    (both_of_pair (written_view a) (written_view b))
    (Decides-and _ _ (bytes_decides (string_bytes a.profile) (string_bytes b.profile)) (part_decides a.part b.part))

-- equal places and equal parts of profiles make equal origins
written_both : (a b : Written) → (place_view a.place ≡ place_view b.place) × (written_view a ≡ written_view b)
    → origin_view (InFile a) ≡ origin_view (InFile b)
written_both a b p =
    let e : place_view a.place ≡ place_view b.place = p.0 in
    let f : written_view a ≡ written_view b = p.1 in cc

both_of_written : (a b : Written) → origin_view (InFile a) ≡ origin_view (InFile b)
    → (place_view a.place ≡ place_view b.place) × (written_view a ≡ written_view b)
both_of_written a b e = (cc, cc)

origin_decides : (a b : Origin) → Decides (same_origin a b) (origin_view a ≡ origin_view b)
origin_decides BuiltIn BuiltIn = always refl
origin_decides BuiltIn DefaultTable = never (λ e. cc)
origin_decides BuiltIn (InFile b) = never (λ e. cc)
origin_decides BuiltIn (File b) = never (λ e. cc)
origin_decides DefaultTable BuiltIn = never (λ e. cc)
origin_decides DefaultTable DefaultTable = always refl
origin_decides DefaultTable (InFile b) = never (λ e. cc)
origin_decides DefaultTable (File b) = never (λ e. cc)
origin_decides (InFile a) BuiltIn = never (λ e. cc)
origin_decides (InFile a) DefaultTable = never (λ e. cc)
origin_decides (InFile a) (InFile b) =
    Decides-like (same_origin (InFile a) (InFile b)) (written_both a b) (both_of_written a b)
    (Decides-and _ _ (place_decides a.place b.place) (written_decides a b))
origin_decides (InFile a) (File b) = never (λ e. cc)
origin_decides (File a) BuiltIn = never (λ e. cc)
origin_decides (File a) DefaultTable = never (λ e. cc)
origin_decides (File a) (InFile b) = never (λ e. cc)
origin_decides (File a) (File b) =
    Decides-like (same_place a b) (λ e. ap beside e) (λ e. cc) (place_decides a b)

pub origins_decide : (a b : List Origin) → Decides (same_origins a b) (map origin_view a ≡ map origin_view b)
origins_decide a b = mapped_decides same_origin origin_view origin_decides a b
