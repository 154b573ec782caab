use Rattle.std.proofs.Common.{◌≡◌, Some, codes, sym, subst, ◌∙◌}
use Rattle.std.proofs.lemmas.Slice.Eq.{bytes_eq-Decides}
use Rattle.serde_json.specs.Data.{object, put}
use Rattle.filter_inputs.specs.Lists.Parts.{AreListParts}
use Rattle.filter_inputs.proofs.lists.Entries.{differ_by}
use Rattle.filter_inputs.proofs.lists.Parts.{list_put, list_suites}
use Rattle.filter_inputs.proofs.lists.list_reader.ListParts.read.Goals as goal

pub returns-then-eq-clause-ok : goal.returns-then-eq-clause-ok
returns-then-eq-clause-ok c =
    let key = c.args.key.now in
    let same : key ≡ codes "rust-suites" =
    (bytes_eq-Decides key (codes "rust-suites")).0 (sym c.eq.ensures ∙ c.if-eq.true) in
    let found = c.in_ok-binaries.ensures.ok in
    let es = c.args.self.members.entries in (
      object found.0,
      found.1,
      λ list are.
          subst (λ name. AreListParts (put name (object found.0) list) es (Some c.in_ok-binaries.binaries)) (sym same)
          (list_suites list found.0 es c.args.self.binaries c.in_ok-binaries.binaries found.2 found.3 are),
    )

pub returns-clause-ok : goal.returns-clause-ok
returns-clause-ok c =
    let key = c.args.key.now in
    let apart = differ_by key (codes "rust-suites") (sym c.eq.ensures ∙ c.if-eq.false) in
    let found = c.in_ok-members.ensures.ok in (
      found.0,
      found.1,
      λ list are.
          list_put key found.0 list c.args.self.members.entries c.in_ok-members.members.entries
          c.args.self.binaries apart found.2 are,
    )
