use Rattle.std.proofs.Common.{◌∙◌, ◌++◌, ap, option_map, string_bytes, subst, sym}
use Rattle.rinqebo_faults.specs.Elements.{as_list}
use Rattle.rinqebo_findings.specs.Placed.{IsPlacedAt}
use Rattle.rinqebo_findings.specs.Words.{lack_help, Words}
use Rattle.rinqebo_findings.specs.Written.{value_at}
use Rattle.rinqebo_findings.proofs.Values.{copied_there}
use Rattle.rinqebo_findings.proofs.elements.lack_finding.Goals as goal

pub returns-clause-error : goal.returns-clause-error
returns-clause-error c =
    let source = c.args.refused.now.source in
    record {
      about = c.in_ok-with_note.ensures.about ∙ c.in_ok-found.ensures.about;
      place = subst (IsPlacedAt c.args.part source.layers.now source.position c.args.at.now)
          (sym c.in_ok-with_note.ensures.place) c.in_ok-found.ensures.place;
    }

pub returns-clause-words : goal.returns-clause-words
returns-clause-words c =
    let source = c.args.refused.now.source in
    let noted = c.in_ok-with_note.ensures.words in
    let alone = c.in_ok-found.ensures.words in
    record {
      message = ap (λ (words : Words). words.message) noted ∙ ap (λ (words : Words). words.message) alone
          ∙ c.as_str.ensures.value ∙ c.in_ok-wrong.ensures;
      expected = ap (λ (words : Words). words.expected) noted ∙ ap (λ (words : Words). words.expected) alone;
      below = c.in_ok-notes.ensures.0;
      is_below = c.in_ok-notes.ensures.1;
      notes = ap (λ (words : Words). words.notes) noted
          ∙ ap (λ front. front ++ as_list (option_map string_bytes c.in_ok-note.note)) c.in_ok-notes.ensures.2
          ∙ ap (λ note. as_list c.in_ok-notes.ensures.0 ++ as_list note) c.in_ok-note.ensures;
      help = ap (λ (words : Words). (words.help, words.help_place)) noted ∙ c.in_ok-help.ensures
          ∙ ap (λ has. lack_help c.args.key.now c.args.table.now has (value_at source.layers.now source.position c.args.table.now))
          (c.is_some.ensures ∙ copied_there c.args.stray);
    }
