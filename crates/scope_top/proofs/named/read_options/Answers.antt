use Rattle.std.proofs.Common.{◌≡◌, true, false, is_some, map, eq-eqb, arith}
use Rattle.std.proofs.lemmas.Grind.{common_steps}
use Rattle.scope_wiring.specs.Settling.{said_by}
use Rattle.scope_top.specs.Named.{said_in_line}
use Rattle.scope_top.proofs.ReadLines.{so_far-begin, so_far-byte, so_far-line, fault-line, read-last, fault-last}
use Rattle.scope_top.proofs.named.read_options.Goals as goal
use Rattle.scope_top.proofs.named.read_options.Goals.{then-byte-eq10+in_ok-take_line+else-not-branch, else-byte-eq10+in_ok-push}

pub loop-byte-init : goal.loop-byte-init
loop-byte-init c = (rw c.new-line.ensures.items (so_far-begin _ _), omega arith)

pub returns-then-not-branch-clause-fault : goal.returns-then-not-branch-clause-fault
returns-then-not-branch-clause-fault c =
    let says : false ≡ is_some (said_in_line c.loop-byte.line.items) = cc c.in_ok-take_line.ensures.read in
    (fault-line _ _ (map said_by c.take_line.new.options.items) _ _ _ _ c.loop-byte.invariant.0 (omega arith) (eq-eqb _ _ c.if-byte-eq10.true) says (cc c.in_ok-take_line.ensures.options)).fault

pub returns-then-not-branch-clause-options : goal.returns-then-not-branch-clause-options
returns-then-not-branch-clause-options c =
    let says : false ≡ is_some (said_in_line c.loop-byte.line.items) = cc c.in_ok-take_line.ensures.read in
    (fault-line _ _ (map said_by c.take_line.new.options.items) _ _ _ _ c.loop-byte.invariant.0 (omega arith) (eq-eqb _ _ c.if-byte-eq10.true) says (cc c.in_ok-take_line.ensures.options)).options

pub loop-byte-preserved : goal.loop-byte-preserved
loop-byte-preserved c = elim c.if-byte-eq10.branch [
  | then-byte-eq10+in_ok-take_line+else-not-branch w ↦
      let says : true ≡ is_some (said_in_line c.loop-byte.line.items) = cc w.in_ok-take_line.ensures.read in (
        rw (w.options-is, w.number-is, w.line-is, w.clear.ensures.items)
            (so_far-line _ _ _ _ _ _ _ c.loop-byte.invariant.0 (omega arith) (eq-eqb _ _ w.if-byte-eq10.true) says (cc w.in_ok-take_line.ensures.options)),
        rw w.number-is (omega arith),
      )
  | else-byte-eq10+in_ok-push w ↦ (
    rw (w.options-is, w.number-is, w.line-is, w.in_ok-push.ensures.items)
        (so_far-byte _ _ _ _ _ _ c.loop-byte.invariant.0 (omega arith) (grind (arith, common_steps))),
    rw w.number-is (omega arith),
  )
]

pub returns-then-branch-clause-fault : goal.returns-then-branch-clause-fault
returns-then-branch-clause-fault c =
    let says : true ≡ is_some (said_in_line c.loop-byte.line.items) = cc c.in_ok-take_line-2.ensures.read in
    (read-last _ _ (map said_by c.take_line-2.new.options.items) _ c.loop-byte.byte-index _ c.args.text.now c.loop-byte.invariant.0 (omega arith) says (cc c.in_ok-take_line-2.ensures.options)).fault

pub returns-then-branch-clause-options : goal.returns-then-branch-clause-options
returns-then-branch-clause-options c =
    let says : true ≡ is_some (said_in_line c.loop-byte.line.items) = cc c.in_ok-take_line-2.ensures.read in
    (read-last _ _ (map said_by c.take_line-2.new.options.items) _ c.loop-byte.byte-index _ c.args.text.now c.loop-byte.invariant.0 (omega arith) says (cc c.in_ok-take_line-2.ensures.options)).options

pub returns-clause-fault : goal.returns-clause-fault
returns-clause-fault c =
    let says : false ≡ is_some (said_in_line c.loop-byte.line.items) = cc c.in_ok-take_line-2.ensures.read in
    (fault-last _ _ (map said_by c.take_line-2.new.options.items) _ c.loop-byte.byte-index _ c.args.text.now c.loop-byte.invariant.0 (omega arith) says (cc c.in_ok-take_line-2.ensures.options)).fault

pub returns-clause-options : goal.returns-clause-options
returns-clause-options c =
    let says : false ≡ is_some (said_in_line c.loop-byte.line.items) = cc c.in_ok-take_line-2.ensures.read in
    (fault-last _ _ (map said_by c.take_line-2.new.options.items) _ c.loop-byte.byte-index _ c.args.text.now c.loop-byte.invariant.0 (omega arith) says (cc c.in_ok-take_line-2.ensures.options)).options
