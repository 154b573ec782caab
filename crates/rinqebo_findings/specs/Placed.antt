-- Where findings are.
use Rattle.std.specs.Prelude.{◌≡◌, ◌⊎◌, ℕ, List, Option, None, Some, option_map}
use Rattle.nextest_places.specs.declared.step.Step.{Step}
use Rattle.rinqebo_request.specs.Files.Origins.{IsPartPlace}
use Rattle.rinqebo_request.specs.declared.files.layers.Layer.{Layer}
use Rattle.rinqebo_request.specs.declared.files.places.SpanPart.{SpanPart}
use Rattle.rinqebo_request.specs.declared.files.places.SpanPart.TheVariants as parts
use Rattle.rinqebo_report.specs.declared.origin.FileLines.{FileLines}
use Rattle.rinqebo_report.specs.declared.origin.FilePlace.{FilePlace}

-- a place is that of the value at a path in the file of a source, or of its key: there is none of a
-- source that is not known
abbrev pub IsPlaceIn : SpanPart → List Layer → Option ℕ → List Step → Option FilePlace → Type 0
IsPlaceIn part layers None path place = place ≡ None
IsPlaceIn part layers (Some source) path None = ⊥
IsPlaceIn part layers (Some source) path (Some place) = IsPartPlace part layers source path place

-- The file of a source does not write a path, and a place is that of the path in another file.
pub record IsPlaceElsewhere (part : SpanPart) (layers : List Layer) (source : Option ℕ)
    (path : List Step) (place : Option FilePlace) : Type 0 where
  pub own : FilePlace
  pub own_is : IsPlaceIn part layers source path (Some own)
  pub unwritten : own.lines ≡ None
  pub other : ℕ
  pub elsewhere : IsPlaceIn part layers (Some other) path place

-- a place is that of a path in the file of a source, or in another one where that does not write it
abbrev pub IsPlacedAt : SpanPart → List Layer → Option ℕ → List Step → Option FilePlace → Type 0
IsPlacedAt part layers source path place =
    IsPlaceIn part layers source path place ⊎ IsPlaceElsewhere part layers source path place

-- the file and the lines of a place
pub record FileAndLines : Type 0 where
  pub file : ℕ
  pub lines : Option FileLines

abbrev pub file_and_lines : Option FilePlace → Option FileAndLines
file_and_lines place = option_map (λ p. record { file = p.source; lines = p.lines }) place

-- a place has the file and the lines of the value at a path
pub record IsOnLines (layers : List Layer) (source : Option ℕ) (path : List Step)
    (place : Option FilePlace) : Type 0 where
  pub value : Option FilePlace
  pub value_is : IsPlacedAt parts.Value layers source path value
  pub same : file_and_lines place ≡ file_and_lines value
