use Rattle.cas_cshmgen.proofs.Typed.{is_made, weighs_no_more, has_no_more_room}
use Rattle.cas_cshmgen.proofs.laws.typed_functions_are_made.Goals as goal

pub returns-clause-made : goal.returns-clause-made
returns-clause-made c = λ before decls f r code typed few fors same. is_made before decls f r typed few fors code same

pub returns-clause-weight : goal.returns-clause-weight
returns-clause-weight c = λ before decls f r code typed few fors same. weighs_no_more before decls f r typed few fors
    code same

pub returns-clause-room : goal.returns-clause-room
returns-clause-room c = λ before decls f r code typed few fors same. has_no_more_room before decls f r typed few fors
    code same
