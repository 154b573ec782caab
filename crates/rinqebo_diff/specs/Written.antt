-- What is written of a diff.
use Rattle.std.specs.Prelude.{ℕ, List, Option}
use Rattle.std.specs.Io.KnownBytes.{Appends}
use Rattle.rinqebo_changes.specs.Documents.{IsDiffJson}
use Rattle.rinqebo_changes.specs.GithubPage.{IsGithubText}
use Rattle.rinqebo_changes.specs.MarkdownPage.{IsMarkdownText}
use Rattle.rinqebo_changes.specs.Pages.{IsDiffText}
use Rattle.rinqebo_changes.specs.declared.diff.Diff.{Diff}
use Rattle.rinqebo_diff.specs.declared.request.DiffFormat.{DiffFormat}
use Rattle.rinqebo_diff.specs.declared.request.DiffFormat.TheVariants.{Text, Json, Github, Markdown}
use Rattle.rinqebo_diff.specs.declared.request.DiffRequest.{DiffRequest}

-- a text is a diff in a format
abbrev pub IsRenderedAs : DiffFormat → DiffRequest → Diff → List ℕ → Type 0
IsRenderedAs Text request diff text = IsDiffText diff request.lists_all request.paper text
IsRenderedAs Json request diff text = IsDiffJson diff text
IsRenderedAs (Github workspace) request diff text = IsGithubText workspace.now diff text
IsRenderedAs Markdown request diff text = IsMarkdownText diff request.lists_all text

-- a text is a diff in the format of a request
abbrev pub IsRendered : DiffRequest → Diff → List ℕ → Type 0
IsRendered request = IsRenderedAs request.format request

-- A writer received a diff in the format of a request.
pub record ReportsDiff (request : DiffRequest) (diff : Diff) (before after : Option (List ℕ))
    : Type 0 where
  pub text : List ℕ
  pub is_text : IsRendered request diff text
  pub appended : Appends before after text
