use Rattle.std.proofs.Common.{rules, ◌≡◌, ◌∙◌, ◌<◌, ◌+◌, ◌++◌, ◌∷◌, [], drop, nat_eq, true, false, length, get_or, None, Some, sym, ap, ap₂}
use Rattle.std.proofs.lemmas.List.Elements.{All-push}
use Rattle.scope_pick.specs.Names.{line_named}
use Rattle.scope_words.proofs.Parts.{lines_behind, lines_begin, lines_byte, lines_comma, lines_last, lines_wrong, lines_wrong_last}
use Rattle.scope_words.proofs.names.read_line_names.Goals.{then-byte-eq44+in-Some+in_ok-push-in-Some, else-byte-eq44+in_ok-push}
use Rattle.scope_words.proofs.names.read_line_names.Goals as goal

pub loop-byte-init : goal.loop-byte-init
loop-byte-init c = (
  ap₂ (λ xs n. lines_behind xs n c.args.word.now) c.new-lines.ensures.items c.new-name.ensures.items
      ∙ lines_begin c.args.word.now,
  search rules,
)

pub returns-in-None-clause-named : goal.returns-in-None-clause-named
returns-in-None-clause-named c =
    let l = c.loop-byte in
    let comma : nat_eq (get_or c.args.word.now l.byte-index 0) 44 ≡ true = search rules in
    let wrong : line_named l.name.items ≡ None = search rules in
    sym (lines_wrong l.lines.items l.name.items c.args.word.now l.byte-index (search rules) comma wrong)
    ∙ l.invariant.0

pub loop-byte-preserved : goal.loop-byte-preserved
loop-byte-preserved c =
    let l = c.loop-byte in
    let word = c.args.word.now in
    elim c.if-byte-eq44.branch [
      | then-byte-eq44+in-Some+in_ok-push-in-Some w ↦
          (let comma : nat_eq (get_or word l.byte-index 0) 44 ≡ true = search rules in
          let named : line_named l.name.items ≡ Some w.in-Some.line = search rules in
          let lines : c.if-byte-eq44.lines.items ≡ l.lines.items ++ w.in-Some.line ∷ [] = search rules in
          let name : c.if-byte-eq44.name.items ≡ [] = search rules in
          let line : w.in-Some.line < 22 = search rules in (
            ap₂ (λ xs n. lines_behind xs n (drop (l.byte-index + 1) word)) lines name
                ∙ lines_comma l.lines.items l.name.items word l.byte-index w.in-Some.line (search rules) comma named
                ∙ l.invariant.0,
            rw lines (All-push (λ n. n < 22) l.lines.items w.in-Some.line l.invariant.1 line),
          ))
      | else-byte-eq44+in_ok-push w ↦
          (let other : nat_eq (get_or word l.byte-index 0) 44 ≡ false = search rules in
          let lines : c.if-byte-eq44.lines.items ≡ l.lines.items = search rules in
          let name : c.if-byte-eq44.name.items ≡ l.name.items ++ get_or word l.byte-index 0 ∷ [] = search rules in (
            ap₂ (λ xs n. lines_behind xs n (drop (l.byte-index + 1) word)) lines name
                ∙ lines_byte l.lines.items l.name.items word l.byte-index (search rules) other ∙ l.invariant.0,
            rw lines l.invariant.1,
          ))
    ]

pub returns-in-None-line_named-clause-named : goal.returns-in-None-line_named-clause-named
returns-in-None-line_named-clause-named c =
    let l = c.loop-byte in
    let wrong : line_named l.name.items ≡ None = search rules in
    sym (lines_wrong_last l.lines.items l.name.items c.args.word.now l.byte-index (search rules) wrong) ∙ l.invariant.0

pub returns-in_ok-push-in-Some-line_named-clause-named :
    goal.returns-in_ok-push-in-Some-line_named-clause-named
returns-in_ok-push-in-Some-line_named-clause-named c =
    let l = c.loop-byte in
    let named : line_named l.name.items ≡ Some c.in-Some-line_named.line = search rules in
    let last = lines_last l.lines.items l.name.items c.args.word.now l.byte-index c.in-Some-line_named.line
    (search rules) named in
    ap Some c.in_ok-push-in-Some-line_named.ensures.items ∙ sym last ∙ l.invariant.0
