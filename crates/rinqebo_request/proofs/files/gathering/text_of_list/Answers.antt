use Rattle.rinqebo_request.proofs.files.gathering.text_of_list.Goals as goal

pub returns-in-Named-clause-text : goal.returns-in-Named-clause-text
returns-in-Named-clause-text g c = rw c.in-Named.is c.named_list.ensures.text

pub returns-in-Named-clause-left : goal.returns-in-Named-clause-left
returns-in-Named-clause-left g c = rw c.in-Named.is c.named_list.ensures.left

pub returns-in-Input-clause-text : goal.returns-in-Input-clause-text
returns-in-Input-clause-text g c = rw c.in-Input.is c.input_list.ensures.text

pub returns-in-Input-clause-left : goal.returns-in-Input-clause-left
returns-in-Input-clause-left g c = rw c.in-Input.is c.input_list.ensures.left

pub returns-in-Named-clause-err : goal.returns-in-Named-clause-err
returns-in-Named-clause-err g c = rw c.in-Named.is c.named_list.ensures.err

pub returns-in-Input-clause-err : goal.returns-in-Input-clause-err
returns-in-Input-clause-err g c = rw c.in-Input.is c.input_list.ensures.err
