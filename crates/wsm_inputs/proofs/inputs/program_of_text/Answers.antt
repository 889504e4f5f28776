use Rattle.wsm_inputs.proofs.inputs.program_of_text.Goals as goal

pub returns-clause-compiled : goal.returns-clause-compiled
returns-clause-compiled c =
    let (q, judged, parts) = c.in_ok-checked.ensures.checked in
    (q, judged, c.in_ok-compile.ensures q parts)
