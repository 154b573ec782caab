-- The rows that code has read of a command line.
use Rattle.rinqebo_request.specs.Rows.{Rows}
use Rattle.rinqebo_request.specs.declared.rows.NamedRows.{NamedRows}

-- the rows
abbrev pub named_view : NamedRows → Rows
named_view named = record { runs = named.runs; settings = named.settings.items }
