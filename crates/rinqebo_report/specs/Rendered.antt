-- Reports as texts.
use Rattle.std.specs.Prelude.{ℕ, List, [], ◌∷◌, ◌++◌}
use Rattle.serde_json.specs.Written.{compact_text}
use Rattle.rinqebo_report.specs.declared.format.Format.{Format}
use Rattle.rinqebo_report.specs.declared.format.Format.TheVariants.{Text, Grouped, Json, Concise, Github}
use Rattle.rinqebo_report.specs.declared.layout.Paper.{Paper}
use Rattle.rinqebo_report.specs.declared.report.Report.{Report}
use Rattle.rinqebo_report.specs.Document.{document_data}
use Rattle.rinqebo_report.specs.Github.{github_text}
use Rattle.rinqebo_report.specs.Groups.{grouped_content_runs}
use Rattle.rinqebo_report.specs.Pages.{content_runs, concise_runs}
use Rattle.rinqebo_report.specs.Pieces.{page_text}

-- a report as a document of JSON, in a line
abbrev pub json_text : Report → List ℕ
json_text report = compact_text (document_data report) ++ 10 ∷ []

-- a report in a format: only pages have colours, and only the pages of commands have columns
abbrev pub rendered : Report → Format → Paper → List ℕ
rendered report Text paper =
    page_text paper.colour (content_runs paper.columns report report.content)
rendered report Grouped paper =
    page_text paper.colour (grouped_content_runs paper.columns report report.content)
rendered report Json paper = json_text report
rendered report Concise paper = page_text paper.colour (concise_runs report)
rendered report (Github workspace) paper = github_text workspace.now report
