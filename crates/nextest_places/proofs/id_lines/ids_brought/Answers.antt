use Rattle.std.proofs.Common.{◌∙◌, refl, sym}
use Rattle.nextest_places.proofs.IdAims.{brings_none, brings_one, brings_rest}
use Rattle.nextest_places.proofs.id_lines.ids_brought.Goals as goal

pub returns-in-Elsewhere : goal.returns-in-Elsewhere
returns-in-Elsewhere c = λ keys id.
    brings_none c.args.entry.now.kind c.args.entry.now.parts.items c.args.table.now keys id
    (rw c.deref.ensures.value at c.in-Elsewhere.ensures)

pub returns-in-Some : goal.returns-in-Some
returns-in-Some c = λ keys id.
    let items = c.deref-in-Brings.ensures.value in
    let found = rw items at c.in-Some.ensures.lookup in
    brings_one c.args.entry.now.kind c.args.entry.now.parts.items c.args.table.now keys id c.in-Some.id.now
    (rw c.deref.ensures.value at c.in-Brings.ensures) found.3.0 found.1
    ∙ rw c.as_str.ensures.value refl

pub returns-in-None : goal.returns-in-None
returns-in-None c = λ keys id.
    let found = rw c.deref-in-Brings.ensures.value at c.in-None.ensures.lookup in
    brings_rest c.args.entry.now.kind c.args.entry.now.parts.items c.args.table.now keys id
    (rw c.deref.ensures.value at c.in-Brings.ensures) found.3
    ∙ sym (c.behind_key.ensures id.now)
