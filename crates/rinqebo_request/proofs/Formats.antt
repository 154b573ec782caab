-- The formats of lists.
use Rattle.std.proofs.Common.{◌≢◌, refl}
use Rattle.rinqebo_report.specs.declared.format.Format.{Format}
use Rattle.rinqebo_report.specs.declared.format.Format.TheVariants as formats
use Rattle.rinqebo_request.specs.Lines.{Line}
use Rattle.rinqebo_request.specs.Requests.{IsFormatOf, IsListFormat}
use Rattle.rinqebo_request.specs.declared.environment.Environment.{Environment}

-- a format that is not that of text
pub other_format : (environment : Environment) (line : Line) (format : Format) → format ≢ formats.Text → IsFormatOf environment line format
    → IsListFormat environment line format
other_format environment line formats.Text other is = absurd (other refl)
other_format environment line formats.Grouped other is = absurd is
other_format environment line formats.Json other is = is
other_format environment line formats.Concise other is = is
other_format environment line (formats.Github folder) other is = is
