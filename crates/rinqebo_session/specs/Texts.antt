-- The texts of a profile.
use Rattle.std.specs.Prelude.{◌≡◌, ◌⊎◌, ◌==◌, ℕ, List, Option, None, Some, option_map, slice_get, string_bytes, Result, Ok, Err, MatchOption, if◌then◌else◌}
use Rattle.rinqebo_session.specs.Copies.{IsCopiedOut}
use Rattle.rinqebo_session.specs.Statuses.{open_status}
use Rattle.rinqebo_session.specs.declared.failure.OpenFailure.{OpenFailure}
use Rattle.rinqebo_session.specs.declared.failure.OpenFailure.TheVariants.{Memory}
use Rattle.rinqebo_session.specs.declared.profile.Opened.{Opened}
use Rattle.rinqebo_session.specs.declared.profile.Profile.{Profile}
use Rattle.rinqebo_session.specs.declared.status.TheConstants.{DONE, UNKNOWN_NUMBER}

-- a profile holds why it is not open, or a refusal of memory in its place
abbrev pub MayNotOpenFor : OpenFailure → Profile → Type 0
MayNotOpenFor failure profile = (profile.outcome ≡ Err failure) ⊎ (profile.outcome ≡ Err Memory)

-- the number of the result of opening a profile
abbrev pub opening_status : Result Opened OpenFailure → ℕ
opening_status (Ok opened) = DONE
opening_status (Err failure) = open_status failure

-- how the opening of a profile went
abbrev pub profile_status : Profile → ℕ
profile_status profile = opening_status profile.outcome

-- the name of an index: of kind 1 that of a group, of kind 2 that of a wrapper; of kind 3 the
-- objects of the profile, whatever the index
abbrev pub name_at : Opened → ℕ → ℕ → Option (List ℕ)
name_at opened kind index =
    if kind == 1 then option_map (λ group. group.name.now) (slice_get opened.groups.items index)
    else (if kind == 2 then option_map (λ id. id.now) (slice_get opened.wrappers.items index)
    else (if kind == 3 then Some (string_bytes opened.objects) else None))

-- the name of an index in what was opened
abbrev pub opened_name_at : Result Opened OpenFailure → ℕ → ℕ → Option (List ℕ)
opened_name_at (Ok opened) kind index = name_at opened kind index
opened_name_at (Err failure) kind index = None

-- the text of a kind and an index: of kind 0 why a profile is not open, else a name or the objects
abbrev pub text_at : Profile → ℕ → ℕ → Option (List ℕ)
text_at profile kind index =
    if kind == 0 then Some (string_bytes profile.reason)
    else opened_name_at profile.outcome kind index

-- A text of a profile is copied out, if there is one of that kind and index; else nothing is
-- written.
abbrev pub IsTextCopied : Profile → ℕ → ℕ → List ℕ → List ℕ → ℕ → ℕ → Type 0
IsTextCopied profile kind index old new needed status =
    MatchOption (text_at profile kind index)
    ((status ≡ UNKNOWN_NUMBER) × (needed ≡ 0) × (new ≡ old))
    (λ text. IsCopiedOut text old new needed status)
