-- How the parts of a source's load follow one another.
use Rattle.std.proofs.Common.{◌≡◌, List, [], ◌∷◌, map, None, subst, refl}
use Rattle.nextest_documents.specs.Text.{tree_of}
use Rattle.nextest_engines.specs.Readings.{Readings}
use Rattle.nextest_rules.specs.Definitions.{Features}
use Rattle.nextest_rules.specs.Known.{known_to, sets_of}
use Rattle.nextest_rules.specs.Steps.{definition_steps, rule_steps}
use Rattle.nextest_sources.specs.Endings.{Ending, passed, error_view, Found, Ran}
use Rattle.nextest_sources.specs.InputFaults.{fault_at_source}
use Rattle.nextest_sources.specs.Inputs.{SourceText}
use Rattle.nextest_sources.specs.Sources.{Source}
use Rattle.nextest_sources.specs.Steps.{check}
use Rattle.nextest_sources.specs.Warnings.{Warning}
use Rattle.nextest_sources.specs.declared.error.ConfigParseError.{ConfigParseError}
use Rattle.nextest_sources.proofs.Runs.{ran_check, ran_first, ran_next}
use Rattle.nextest_tables.specs.FileTexts.{FileText, file_text}
use Rattle.nextest_tree.specs.Node.{Node}
use Rattle.nextest_load.specs.Steps.{document_cause, profiles_in, own_steps, file_steps, source_steps}
use Rattle.nextest_load.specs.Trees.{own_file, own_tree}

module _ {M K P : Type 0} (engines : Readings M K P) (features : Features) where
  module _ (below : List FileText) (source : Source) (n : Node) where
    -- a file over the defaults ended a load: by its elements, or by its unknown keys
    pub own_ended : {old new : List Warning} (e : ConfigParseError)
        → Ran (own_steps source n) old new (error_view e)
        → Ran (file_steps engines features below source n) old new (error_view e)
    own_ended {old} {new} e ran = ran_first (own_steps source n) _ old new e ran

    -- by what it defines
    pub definitions_ended : {old mid new : List Warning} (e : ConfigParseError) (file : FileText)
        → file ≡ file_text n → Ran (own_steps source n) old mid passed
        → Ran (definition_steps features source file) mid new (error_view e)
        → Ran (file_steps engines features below source n) old new (error_view e)
    definitions_ended {old} {mid} {new} e file is own ran =
        let defined = subst (λ (f : FileText). Ran (definition_steps features source f) mid new
        (error_view e)) is ran in
        ran_next (own_steps source n) _ old mid new (error_view e) own
        (ran_first (definition_steps features source (file_text n)) _ mid new e defined)

    -- or it ended as its rules did
    pub rules_ended : {old mid more new : List Warning} {o : Ending} (file : FileText) → file ≡ file_text n
        → Ran (own_steps source n) old mid passed → Ran (definition_steps features source file) mid more passed
        → Ran (rule_steps engines (profiles_in below) (sets_of (known_to below file)) source file) more new o
        → Ran (file_steps engines features below source n) old new o
    rules_ended {old} {mid} {more} {new} {o} file is own defined ran =
        let definitions = subst (λ (f : FileText). Ran (definition_steps features source f) mid more passed)
        is defined in
        let rules = subst (λ (f : FileText). Ran
        (rule_steps engines (profiles_in below) (sets_of (known_to below f)) source f) more new o) is ran in
        ran_next (own_steps source n) _ old mid new o own
        (ran_next (definition_steps features source (file_text n)) _ mid more new o definitions rules)

  module _ (below : List SourceText) (s : SourceText) where
    -- a source ended a load: by its text
    pub text_ended : (told : List Warning) (e : ConfigParseError)
        → Found (fault_at_source s.source (document_cause (tree_of s.text))) (error_view e)
        → Ran (source_steps engines features below s) told told (error_view e)
    text_ended told e found =
        ran_first (check s.source (document_cause (tree_of s.text)) ∷ []) _ told told e
        (ran_check s.source (document_cause (tree_of s.text)) told told (error_view e) refl found)

    -- or it ended as its file did
    pub file_ended : {old new : List Warning} {o : Ending} (n : Node) → n ≡ own_tree s
        → fault_at_source s.source (document_cause (tree_of s.text)) ≡ None
        → Ran (file_steps engines features (map own_file below) s.source n) old new o
        → Ran (source_steps engines features below s) old new o
    file_ended {old} {new} {o} n is found ran =
        let file = subst (λ (m : Node). Ran (file_steps engines features (map own_file below) s.source m) old
        new o) is ran in
        ran_next (check s.source (document_cause (tree_of s.text)) ∷ []) _ old old new o
        (ran_check s.source (document_cause (tree_of s.text)) old old passed refl found) file
