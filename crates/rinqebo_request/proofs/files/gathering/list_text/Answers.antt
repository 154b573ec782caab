use Rattle.std.proofs.Common.{refl}
use Rattle.rinqebo_request.proofs.files.gathering.list_text.Goals as goal

pub returns-in-Some-clause-text : goal.returns-in-Some-clause-text
returns-in-Some-clause-text g c = rw c.in-Some.is c.text_of_list.ensures.text

pub returns-in-Some-clause-left : goal.returns-in-Some-clause-left
returns-in-Some-clause-left g c = rw c.in-Some.is c.text_of_list.ensures.left

pub returns-in-None-clause-text : goal.returns-in-None-clause-text
returns-in-None-clause-text g c = rw c.in-None.is refl

pub returns-in-None-clause-left : goal.returns-in-None-clause-left
returns-in-None-clause-left g c = rw c.in-None.is refl

pub returns-in-Some-clause-err : goal.returns-in-Some-clause-err
returns-in-Some-clause-err g c = rw c.in-Some.is c.text_of_list.ensures.err
