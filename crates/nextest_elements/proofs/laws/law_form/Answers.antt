use Rattle.nextest_elements.proofs.Identifiers.{form_to, form_from}
use Rattle.nextest_elements.proofs.laws.law_form.Goals as goal

pub returns : goal.returns
returns c text form = (form_to text form, form_from text form)
