use Rattle.fsb_top.proofs.top.look_file.Goals as goal

pub returns-in-Show-clause-ends : goal.returns-in-Show-clause-ends
returns-in-Show-clause-ends g c =
    let ends = rw c.deref_mut.ensures.value at c.show_file.ensures.ends in rw c.in-Show.is ends
