use Rattle.request_lines.proofs.lines.RequestLines.found.Goals as goal

pub returns : goal.returns
returns c = λ form m w s. s.found
