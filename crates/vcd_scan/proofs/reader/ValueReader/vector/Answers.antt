use Rattle.std.proofs.Common.{◌≡◌, [], ◌∷◌, ◌++◌, ◌+◌, ◌-◌, take, drop, length, sym, ap, subst, ◌∙◌, append_assoc, arith, length-append}
use Rattle.std.proofs.lemmas.List.{length-take, length-drop}
use Rattle.vcd_grammar.specs.Tokens.{Token}
use Rattle.vcd_cut.specs.Standing.{Stands}
use Rattle.vcd_scan.specs.Standing.{tokens_after, Keeps}
use Rattle.vcd_scan.specs.declared.reader.ValueReader.{ValueReader}
use Rattle.vcd_scan.proofs.Reading.{more_tokens, two_parts}
use Rattle.vcd_scan.specs.Lined.{stamps_in, AreLined}
use Rattle.vcd_scan.proofs.Marks.{lines-read}
use Rattle.vcd_scan.proofs.Readers.{took_more, told_more}
use Rattle.vcd_scan.proofs.AtOnce.{pair_tokens}
use Rattle.vcd_scan.proofs.reader.ValueReader.vector.Goals as goal

pub skip-code-requires-clause-room : goal.skip-code-requires-clause-room
skip-code-requires-clause-room c =
    let head = c.requires.room.0 in
    let fed = c.requires.room.1 in
    let works = c.requires.room.2 in
    let bytes = c.args.bytes.now in
    let n = c.args.len + 1 in
    let few = length-take n bytes in
    let left = length-drop n bytes in
    let rest = length-take (length bytes - n) (drop n bytes) in
    let both = length-append (head ++ fed) (take n bytes) in (
      (head ++ fed) ++ take n bytes,
      c.skip-vector.ensures.stands (head ++ fed) works.reads.cutter,
      omega (arith, few, left, rest, both, c.requires.word.within, c.requires.room.3),
    )

pub returns-then-is_taken-clause-reads : goal.returns-then-is_taken-clause-reads
returns-then-is_taken-clause-reads c = λ head fed w.
    let old = c.args.self.now in
    let bytes = c.args.bytes.now in
    let n = c.args.len + 1 in
    let m = c.in-Some.more + 1 in
    let behind = take (length bytes - n) (drop n bytes) in
    let xs = take n bytes in
    let ys = take m behind in
    let zs = take (n + m) bytes in
    let k = c.skip-code.new.self in
    let t : Token = record { place = c.skip-vector.result.place; word = take c.args.len bytes } in
    let u : Token = record { place = c.skip-code.result.place; word = take c.in-Some.more behind } in
    let new : ValueReader = record { cutter = k; machine = c.vector_at_once-is_taken.new.self; refused = old.refused } in
    let machine = c.vector_at_once-is_taken.ensures in
    let yes = c.if-is_taken.true in
    let keeps : Keeps old new = record { rules = machine.rules; wiring = machine.wires } in
    let split : zs ≡ xs ++ ys = two_parts bytes n m in
    let first = c.skip-vector.ensures.stands (head ++ fed) w.reads.cutter in
    let more : tokens_after head (fed ++ zs) ≡ tokens_after head fed ++ t ∷ u ∷ [] =
    more_tokens head fed zs (t ∷ u ∷ [])
    (pair_tokens (head ++ fed) xs ys zs t u split (c.skip-vector.ensures.tokens (head ++ fed) w.reads.cutter)
    (c.skip-code.ensures.tokens ((head ++ fed) ++ xs) first)) in
    record {
      cutter = subst (λ x. Stands k x)
          (append_assoc (head ++ fed) xs ys ∙ ap (λ x. (head ++ fed) ++ x) (sym split) ∙ append_assoc head fed zs)
          (c.skip-code.ensures.stands ((head ++ fed) ++ xs) first);
      took = took_more old new head fed zs (t ∷ u ∷ []) keeps w.reads.took more (machine.state yes t.place u.place)
          (machine.opened yes t.place u.place);
      lines = lines-read head fed zs (stamps_in new.machine)
          (subst (λ s. AreLined (head ++ fed) s) (sym machine.stamps) w.reads.lines);
    }

pub returns-then-is_taken-clause-told : goal.returns-then-is_taken-clause-told
returns-then-is_taken-clause-told c = λ head fed w.
    let old = c.args.self.now in
    let bytes = c.args.bytes.now in
    let n = c.args.len + 1 in
    let m = c.in-Some.more + 1 in
    let behind = take (length bytes - n) (drop n bytes) in
    let xs = take n bytes in
    let ys = take m behind in
    let zs = take (n + m) bytes in
    let t : Token = record { place = c.skip-vector.result.place; word = take c.args.len bytes } in
    let u : Token = record { place = c.skip-code.result.place; word = take c.in-Some.more behind } in
    let new : ValueReader = record {
      cutter = c.skip-code.new.self;
      machine = c.vector_at_once-is_taken.new.self;
      refused = old.refused;
    } in
    let first = c.skip-vector.ensures.stands (head ++ fed) w.reads.cutter in
    let more : tokens_after head (fed ++ zs) ≡ tokens_after head fed ++ t ∷ u ∷ [] =
    more_tokens head fed zs (t ∷ u ∷ [])
    (pair_tokens (head ++ fed) xs ys zs t u (two_parts bytes n m)
    (c.skip-vector.ensures.tokens (head ++ fed) w.reads.cutter)
    (c.skip-code.ensures.tokens ((head ++ fed) ++ xs) first)) in
    told_more old new head fed zs (t ∷ u ∷ []) w.reads.took more
    (c.vector_at_once-is_taken.ensures.told c.if-is_taken.true t.place u.place)
