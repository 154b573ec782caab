-- Notes on the variables that override all files.
use Rattle.std.specs.Prelude.{◌++◌, ◌∷◌, ◌&&◌, ◌||◌, ◌==◌, ℕ, Bool, false, true, List, [], Option, String, codes, if◌then◌else◌, is_some, length}
use Rattle.std.specs.declared.alloc.Global.{Global}
use Rattle.std.specs.Borrow.{Bor}
use Rattle.std.specs.List.{list_any}
use Rattle.std.specs.Str.{bytes_eq}
use Rattle.nextest_elements.specs.Settings.{setting_name}
use Rattle.nextest_elements.specs.declared.setting.Setting.{Setting}
use Rattle.nextest_elements.specs.declared.setting.Setting.TheVariants as at
use Rattle.rinqebo_request.specs.Variables.{text_set}
use Rattle.rinqebo_request.specs.declared.environment.RunVariables.{RunVariables}
use Rattle.rinqebo_request.specs.declared.request.Question.{Question}
use Rattle.rinqebo_request.specs.declared.request.Question.TheVariants as questions
use Rattle.rinqebo_request.specs.declared.request.RequestedSettings.{RequestedSettings}
use Rattle.rinqebo_request.specs.declared.request.RequestedSettings.TheVariants as asked

-- whether two settings are one: they have one name
abbrev pub is_same_setting : Setting → Setting → Bool
is_same_setting one other = bytes_eq (setting_name one) (setting_name other)

-- whether a report lists a setting, if rules decide it
abbrev pub may_report : Setting → RequestedSettings → Bool
may_report setting asked.Decided = true
may_report setting (asked.These runs settings) =
    list_any (λ one. is_same_setting one setting) settings.items

-- whether keys leave a setting in: without a key, all are in
abbrev pub is_below : List (Bor (List ℕ)) → Setting → Bool
is_below keys setting =
    length keys == 0 || list_any (λ key. bytes_eq key.now (setting_name setting)) keys

-- whether a user requests a setting
abbrev pub requests : Question → Setting → Bool
requests (questions.Explain profile test asked) setting = may_report setting asked
requests (questions.List profile mode list asked) setting = may_report setting asked
requests (questions.Why profile test asked) setting = is_same_setting asked setting
requests (questions.ShowConfig profile keys with_hidden) setting = is_below keys.items setting
requests (questions.WhyRuns profile test) setting = false
requests (questions.Check deny_warnings) setting = false

-- the note on a variable that overrides all files in a run of nextest, by its name and the setting
-- in place of which it is
abbrev pub note_text : List ℕ → Setting → List ℕ
note_text name setting =
    codes "note: " ++ name ++ codes " is set: a run of nextest takes `" ++ setting_name setting
    ++ (codes "` from it, whatever the files say" ++ 10 ∷ [])

-- the note on a variable, if it is set, and if the user requests its setting
abbrev pub note_on : Question → List ℕ → Option (String Global) → Setting → List ℕ
note_on question name variable setting =
    if is_some (text_set variable) && requests question setting then note_text name setting else []

-- The notes: a line for each variable that is set, if the user requests its setting.
abbrev pub notes_text : Question → RunVariables → List ℕ
notes_text question run =
    note_on question (codes "NEXTEST_RETRIES") run.retries at.Retries
    ++ note_on question (codes "NEXTEST_FLAKY_RESULT") run.flaky_result at.FlakyResult
    ++ note_on question (codes "NEXTEST_SUCCESS_OUTPUT") run.success_output at.SuccessOutput
    ++ note_on question (codes "NEXTEST_FAILURE_OUTPUT") run.failure_output at.FailureOutput
