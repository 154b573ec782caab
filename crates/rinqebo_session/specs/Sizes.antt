-- The sizes of what callers pass by a pointer, as this version has them.
use Rattle.std.specs.Prelude.{ℕ, []}
use Rattle.std.specs.Mem.{type_size}
use mir.Syntax.{erased}
use Rattle.rinqebo_session.specs.contracts.settings.SettingNumbers as settings
use Rattle.rinqebo_session.specs.contracts.test.CallerTest as tests

-- the size of a test
abbrev pub test_size : ℕ
test_size = type_size (tests.the_row (record { mir = erased; lft = [] }))

-- the size of the settings of a test
abbrev pub settings_size : ℕ
settings_size = type_size settings.the_row
