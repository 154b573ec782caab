-- Places of a text, each as what is left of it from there on.
use Rattle.std.specs.Prelude.{ℕ, ◌≤◌, ◌<◌, List, length}
use Rattle.filter_language.specs.declared.fault.FaultKind.{FaultKind}
use Rattle.filter_language.specs.declared.fault.Misread as misread
use Rattle.filter_language.specs.declared.fault.FiltersetFault as fault
use Rattle.filter_language.specs.declared.fault.ParseFault as parse_fault
use Rattle.filter_language.specs.declared.fault.ParseFault.TheVariants.{Refused, Memory}
use Rattle.filter_language.specs.declared.fault.Stop as stop
use Rattle.filter_language.specs.declared.fault.Stop.TheVariants.{Misread, Memory}

-- What is wrong from one place until another.
pub record Misreading : Type 0 where
  pub kind : FaultKind
  pub from : List ℕ
  pub until : List ℕ

abbrev pub misreading_view : misread.Misread → Misreading
misreading_view m = record { kind = m.kind; from = m.from.now; until = m.until.now }

-- Where reading stopped at something wrong, something holds of it.
abbrev pub IfMisread : stop.Stop → (Misreading → Type 0) → Type 0
IfMisread (Misread m) P = P (misreading_view m)
IfMisread Memory P = Unit {0}

-- A place is no further from the end than another.
abbrev pub IsBehind : List ℕ → List ℕ → Type 0
IsBehind place start = length place ≤ length start

-- A place is nearer to the end than another.
abbrev pub IsPast : List ℕ → List ℕ → Type 0
IsPast place start = length place < length start

-- What is wrong is in what is left of a text.
abbrev pub StandsIn : List ℕ → Misreading → Type 0
StandsIn start m = IsBehind m.until m.from × IsBehind m.from start

-- Where a text is refused, something holds of the refusal.
abbrev pub IfRefused : parse_fault.ParseFault → (fault.FiltersetFault → Type 0) → Type 0
IfRefused (Refused refusal) P = P refusal
IfRefused Memory P = Unit {0}
