-- What reports show of two requests is the same, if each part is.
use Rattle.std.proofs.Common.{◌≡◌, ℕ, List, Option, refl}
use Rattle.rinqebo_report.specs.Requests.{RequestShown, TestShown}
use Rattle.rinqebo_report.specs.declared.reported_request.ReportCommand.{ReportCommand}

-- the parts of what a report shows of a request
abbrev pub shown : ReportCommand → Option TestShown → List (List ℕ) → Option (List ℕ) → Option (List ℕ)
    → Option (List ℕ) → RequestShown
shown command test keys why by list = record {
  command = command;
  test = test;
  keys = keys;
  why = why;
  by = by;
  list = list;
}

pub alike : (command : ReportCommand) {t u : Option TestShown} {ks ls : List (List ℕ)} {w v b d l m : Option (List ℕ)}
    → t ≡ u → ks ≡ ls → w ≡ v → b ≡ d → l ≡ m → shown command t ks w b l ≡ shown command u ls v d m
alike command test keys why by list = rw (test, keys, why, by, list) refl

-- the parts of what a report shows of a test
abbrev pub test_with : Option (List ℕ) → List ℕ → TestShown
test_with binary name = record { binary = binary; name = name }

pub alike_test : {b d : Option (List ℕ)} {n m : List ℕ} → b ≡ d → n ≡ m → test_with b n ≡ test_with d m
alike_test binary name = rw (binary, name) refl
