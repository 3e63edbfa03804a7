use Rattle.std.proofs.Common.{◌≡◌, ◌++◌, Some, map, ap, ◌∙◌, arith}
use Rattle.std.specs.List.{range_with_len}
use Rattle.fsb_wave.specs.WaveText.{drawn_line, drawn_name, mark_at}
use Rattle.fsb_wave.specs.Wave.{kept_at, shown}
use Rattle.fsb_wave.proofs.Texts.{control_lines-at, drawn-more, drawing-is, drawings-at}
use Rattle.fsb_wave.proofs.wave.Wave.drawing.Goals as goal

pub loop-place-preserved : goal.loop-place-preserved
loop-place-preserved c =
    let entry = c.control_line.result in
    record {
      drawn = drawn-more c.drawn_name-line.result.items (mark_at (kept_at c.args.self.now) entry.1)
          c.args.self.now.range.from
          c.loop-place.place c.mark.result c.loop-place.line.items c.push.new.self.items c.loop-place.invariant.drawn
          c.push.ensures.items c.mark.ensures;
      room = omega (arith, c.push.ensures.len, c.loop-place.invariant.room);
    }

pub returns : goal.returns
returns c =
    let self = c.args.self.now in
    let entry = c.control_line.result in
    let all : c.loop-place.place ≡ shown self =
    omega (arith, c.shown-place-end.ensures.value, c.loop-place-test.false) in
    let marks = map (mark_at (kept_at self) entry.1) (range_with_len self.range.from c.loop-place.place) in
    let drawn : c.loop-place.line.items ≡ drawn_name entry.0.now ++ marks =
    c.loop-place.invariant.drawn ∙ ap (λ xs. xs ++ marks) c.drawn_name-line.ensures.items in
    let shown_line = drawn_line (entry.0.now, entry.1.0) in
    let at = control_lines-at c.args.number entry.0.now entry.1.0 c.control_line.ensures.entry in
    drawings-at (kept_at self) self.range.from (shown self) c.args.number shown_line at
    ∙ ap Some (drawing-is (kept_at self) self.range.from (shown self) c.loop-place.place shown_line
    c.loop-place.line.items
    c.push-2.new.self.items drawn all c.push-2.ensures.items)
