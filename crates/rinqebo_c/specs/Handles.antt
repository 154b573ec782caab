-- What a program in C has of a run, of a session and of its profiles.
use Rattle.std.specs.Prelude.{ℕ, List}
use base.Fml.{Fml, Lft, Share, ffalse, fsep, fex, flft}
use base.Fraction.{full_share}
use denote.Memory.{hidden_shr}
use denote.RattleType.{RattleType}
use denote.RawPtr.{Ptr, block_ptr, null_ptr, lies_at}
use mir.Syntax.{erased}
use Rattle.rinqebo_resolve.specs.Comparison.Comparisons.{IsComparedRun}
use Rattle.rinqebo_resolve.specs.Pieces.{IsRunOf}
use Rattle.rinqebo_resolve.specs.contracts.run.Run.{the_row as run_row}
use Rattle.rinqebo_resolve.specs.declared.run.Run.{Run}
use Rattle.rinqebo_session.specs.Opening.{IsProfileIn}
use Rattle.rinqebo_session.specs.Sessions.{IsSessionOf}
use Rattle.rinqebo_session.specs.contracts.profile.Profile as profile
use Rattle.rinqebo_session.specs.contracts.session.Session.{the_row}
use Rattle.rinqebo_session.specs.declared.profile.Profile.{Profile}
use Rattle.rinqebo_session.specs.declared.session.Session.{Session}

-- the run of a request lies at p, and it is the program's
abbrev pub finished : List ℕ → Ptr → Fml
finished request p =
    fex Run (λ r. fex (IsRunOf request r) (λ _. lies_at run_row full_share p r))

-- the run that has a comparison of two requests lies at p, beside the number of a side, and it is
-- the program's
abbrev pub compared : List ℕ → List ℕ → ℕ → ℕ → Ptr → Fml
compared from to origins side p = fex Run (λ r. fex (IsComparedRun from to origins side r)
    (λ _. lies_at run_row full_share p r))

-- what a reader has of the run at p for the time κ, with the share q of the right to use that time
abbrev pub lent_run : Lft → Share → Ptr → Run → Fml
lent_run κ q (block_ptr b o) run = fsep (flft κ q) (hidden_shr run_row κ run b o)
lent_run κ q null_ptr run = ffalse

-- a session of a request lies at p, and it is the program's
abbrev pub loaded : List ℕ → Ptr → Fml
loaded request p =
    fex Session (λ s. fex (IsSessionOf request s) (λ _. lies_at the_row full_share p s))

-- what a reader has of the session at p for the time κ, with the share q of the right to use that
-- time
abbrev pub lent : Lft → Share → Ptr → Session → Fml
lent κ q (block_ptr b o) session = fsep (flft κ q) (hidden_shr the_row κ session b o)
lent κ q null_ptr session = ffalse

-- profiles of a session that is borrowed for the time ι
abbrev pub profile_row : Lft → RattleType
profile_row ι = profile.the_row (record { mir = erased; lft = ι })

-- a profile of a name lies at p, of a session that is borrowed for the time ι, and it is the
-- program's
abbrev pub opened : Lft → Session → List ℕ → Ptr → Fml
opened ι session name p = fex Profile (λ x. fex (IsProfileIn session name x)
    (λ _. lies_at (profile_row ι) full_share p x))

-- what a reader has of the profile at p for the time κ, with shares of the rights to use that time
-- and the time ι of its session's loan
abbrev pub lent_profile : Lft → Lft → Share → Share → Ptr → Profile → Fml
lent_profile κ ι q r (block_ptr b o) x =
    fsep (flft κ q) (fsep (flft ι r) (hidden_shr (profile_row ι) κ x b o))
lent_profile κ ι q r null_ptr x = ffalse
