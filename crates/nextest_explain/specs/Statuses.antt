-- The exit statuses of a run.
use Rattle.std.specs.Prelude.{ℕ, ◌≡◌, ◌⊎◌}

-- The exit status of a run that prints no lines of a test: 2 where the words are not a command, 3
-- where the configuration is refused, 4 where there is no such profile, 5 if memory ran out.
abbrev pub IsRefusalStatus : ℕ → Type 0
IsRefusalStatus n = (n ≡ 2) ⊎ (n ≡ 3) ⊎ (n ≡ 4) ⊎ (n ≡ 5)

-- The exit status of a run: 0 with the lines of a test, that of a refusal, or 6 where a write
-- failed.
abbrev pub IsStatus : ℕ → Type 0
IsStatus n = (n ≡ 0) ⊎ IsRefusalStatus n ⊎ (n ≡ 6)
